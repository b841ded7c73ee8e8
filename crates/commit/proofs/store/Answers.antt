-- `commit::store` meets its contract: the head's stores, then the words, then the wiped record. Assumes nothing.
use Rattle.commit.specs.StoreLaws.{plan_stored}
use Rattle.commit.proofs.store.Goals as goal

pub store_words-requires : goal.store_words-requires
store_words-requires c =
    record { all_fit = rw c.store_head.auto.base c.requires.plan_ok.words; words_ok = c.requires.plan_ok.records }

pub returns : goal.returns
returns c =
    let a = c.args in
    plan_stored a.base.now a.e a.area.now a.p.now _ _ _ c.store_head.ensures c.store_words.ensures c.store_wiped.ensures
