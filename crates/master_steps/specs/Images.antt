-- The bytes of a live master, and what stands in a record that holds them: its key, its ROOT pointers, and first and last of each path to it. Such
-- bytes are those of a new master, those of a master of before (ADD-M's stranger), and those with ROOT prior 0 (DEL-M's synonym).
use Rattle.std.specs.Prelude.{ℕ, ◌+◌, ◌≤◌, ◌≡◌, refl, List, length}
use Rattle.std.proofs.Common.{sym, ap, ◌∙◌, arith, eqb-true, eq-eqb}
use Rattle.octets.specs.Octets.{byte_at, run, word_at, word_bytes, set_word, zeros}
use Rattle.octets.specs.RunLaws.{all_zero_eq}
use Rattle.octets.specs.SpliceLaws.{length_run, run_splice_out}
use Rattle.octets.specs.WordLaws.{length-set_word, get_d_set_word_out, word_at-set_word, word_at-set_word-other}
use Rattle.schema.specs.declared.Entry.{Entry}
use Rattle.schema.specs.declared.Schema.{Schema}
use Rattle.schema.specs.Decode.{entry_of, path_of}
use Rattle.schema.specs.Place.{InSet, place_of, record_of}
use Rattle.schema.specs.Guarantee.{IsPathOf}
use Rattle.records.specs.declared.Link.{Link}
use Rattle.records.specs.Records.{root_next, root_prior, master_key, first_on, last_on}
use Rattle.records.specs.Address.{root-next, root-prior, own_key, first, last}
use Rattle.records.proofs.AddressLaws.{inside-base}
use Rattle.records.proofs.WholeLaws.{get_run-record_of, get_word-record_of, state_of-record_of}
use Rattle.records.proofs.FieldPlaces.{record_least}
use Rattle.records.proofs.FillerLaws.{filler_of-record_of}
use Rattle.records.proofs.KindLaws.{is_master_lem}
use Rattle.records.specs.Areas.{area_length, area_master_key, new_master}
use Rattle.records.proofs.NewLaws.{length-new_master, new-master-state, new-master-next, new-master-prior, new-master-key, new-master-link}
use Rattle.sound.specs.Sets.{Live}
use Rattle.kept_state.specs.HeldLaws.{live-is, run_is, word_is}
use Rattle.kept_state.specs.SettleLaws.{filler_zero}
use Rattle.kept_state.specs.Deeds.{whole, Valid}
use Rattle.kept_state.specs.Frames.{Carried}
use Rattle.master_steps.specs.TouchLaws.{Stands}
use Rattle.master_steps.specs.CallDeeds.{MastersKnown, counted, many}

-- ---- the bytes of a master

-- the words of a master's paths
abbrev IsLink : Entry → ℕ → Type 0
IsLink e o = (12 + e.key ≤ o) × (o + 4 ≤ e.body)

-- ys are the bytes of a live master with the key k, the ROOT pointers q and p, and these words of its paths
pub record Image (t : Schema) (n : ℕ) (ys k : List ℕ) (q p : ℕ) (link : ℕ → ℕ) : Type 0 where
  pub sized : length ys ≡ (entry_of t n).size
  pub filler : run ys 1 3 ≡ zeros 3
  pub state : byte_at ys 0 ≡ 1
  pub key : run ys 12 (entry_of t n).key ≡ k
  pub next : word_at ys 4 ≡ q
  pub prior : word_at ys 8 ≡ p
  pub links : (o : ℕ) → IsLink (entry_of t n) o → word_at ys o ≡ link o

module _ {t : Schema} {b : List ℕ} {n : ℕ} (known : MastersKnown t b n) {ys k : List ℕ} {q p : ℕ} {link : ℕ → ℕ} (im : Image t n ys k q p link) (x : ℕ) where
  pub image_valid : InSet (entry_of t n) x → Valid t (whole n x ys)
  image_valid i = (counted known, i, im.sized)

  module _ (c : List ℕ) (is : record_of c (entry_of t n) x ≡ ys) where
    pub image_stands : Stands c (entry_of t n) x k q p
    image_stands =
        let word = word_is known.ok c n x ys (counted known) is in
        record {
          live = live-is known.ok c n x ys (counted known) is ∙ eq-eqb _ 1 im.state;
          key = run_is known.ok c n x ys (counted known) is own_key known.set ∙ im.key;
          next = word root-next known.set refl ∙ im.next;
          prior = word root-prior known.set refl ∙ im.prior;
        }

    pub image_links : (i j : ℕ) → IsPathOf t i j → (path_of (entry_of t i) j).master.0 ≡ n
        → (first_on c (entry_of t n) x (path_of (entry_of t i) j) ≡ link (path_of (entry_of t i) j).link)
        × (last_on c (entry_of t n) x (path_of (entry_of t i) j) ≡ link ((path_of (entry_of t i) j).link + 4))
    image_links i j h m =
        let word = word_is known.ok c n x ys (counted known) is in
        let k = known.ok.path i j h in
        let s = rw m at k.same_key in
        let l = rw m at k.link-inside in
        let o : ℕ = (path_of (entry_of t i) j).link in
        (word (first i j) (h, m) refl ∙ im.links o (omega arith, omega arith), word (last i j) (h, m) refl ∙ im.links (o + 4) (omega arith, omega arith))

-- ---- a new master, between p and q

abbrev pub new_between : Entry → List ℕ → ℕ → ℕ → List ℕ
new_between e area p q = new_master e (record { prior = p; next = q }) area

new-filler : (e : Entry) (root : Link) (area : List ℕ) → run (new_master e root area) 1 3 ≡ zeros 3
unfolding new_master
new-filler e root area = refl

module _ {t : Schema} {b : List ℕ} {n : ℕ} (known : MastersKnown t b n) where
  pub new_image : (area : List ℕ) → length area ≡ area_length (entry_of t n) → (p q : ℕ) → p ≤ (entry_of t n).records → q ≤ (entry_of t n).records
      → Image t n (new_between (entry_of t n) area p q) (area_master_key (entry_of t n) area) q p (λ o. 0)
  new_image area al p q lp lq =
      let e : Entry = entry_of t n in
      let kind = is_master_lem t known.ok n known.set in
      let o = (known.ok.master n known.set).room in
      let most = many known in
      let root : Link = record { prior = p; next = q } in
      record {
        sized = length-new_master e root area kind o al ∙ sym (known.ok.set n (counted known)).sized;
        filler = new-filler e root area;
        state = new-master-state e root area kind o al;
        key = new-master-key e root area kind o al;
        next = new-master-next e root area kind o al (omega arith);
        prior = new-master-prior e root area kind o al (omega arith);
        links = λ a x. new-master-link e root area kind o al a x.0 x.1;
      }

  -- ---- the master in record r of before

  module _ (r : ℕ) (l : Live b (entry_of t n) r) where
    in_base : place_of (entry_of t n) r + (entry_of t n).size ≤ length b
    in_base = omega (arith, inside-base n r 0 (entry_of t n).size known.ok (counted known, l.0, omega arith), known.sized)

    pub copy : Image t n (record_of b (entry_of t n) r) (master_key b (entry_of t n) r) (root_next b (entry_of t n) r) (root_prior b (entry_of t n) r) (word_at (record_of b (entry_of t n) r))
    copy =
        let least = record_least t known.ok n (counted known) in
        let three : length (run b (place_of (entry_of t n) r + 1) 3) ≡ 3 = length_run b (place_of (entry_of t n) r + 1) 3 (omega (arith, in_base)) in
        record {
          sized = length_run b (place_of (entry_of t n) r) (entry_of t n).size in_base;
          filler = filler_of-record_of b n r known.ok (counted known) ∙ all_zero_eq _ (filler_zero known.ok b known.sized n r (counted known) l.0 known.clean) ∙ ap zeros three;
          state = state_of-record_of b n r known.ok (counted known) ∙ eqb-true _ 1 l.1;
          key = get_run-record_of b n r own_key known.ok (counted known) known.set;
          next = get_word-record_of b n r root-next known.ok (counted known) known.set refl;
          prior = get_word-record_of b n r root-prior known.ok (counted known) known.set refl;
          links = λ o i. refl;
        }

    -- with ROOT prior 0
    pub copy-first : Image t n (set_word (record_of b (entry_of t n) r) 8 0) (master_key b (entry_of t n) r) (root_next b (entry_of t n) r) 0 (word_at (record_of b (entry_of t n) r))
    unfolding set_word
    copy-first =
        let ys = record_of b (entry_of t n) r in
        let o = (known.ok.master n known.set).room in
        let s = (known.ok.set n (counted known)).sized in
        record {
          sized = length-set_word ys 8 0 ∙ copy.sized;
          filler = run_splice_out ys 8 (word_bytes 0) 1 3 (λ p q. omega arith) ∙ copy.filler;
          state = get_d_set_word_out ys 8 0 0 (λ p q. omega arith) ∙ copy.state;
          key = run_splice_out ys 8 (word_bytes 0) 12 (entry_of t n).key (λ p q. omega arith) ∙ copy.key;
          next = word_at-set_word-other ys 8 0 4 (λ p q. omega arith) ∙ copy.next;
          prior = word_at-set_word ys 8 0 (omega arith) (omega (arith, copy.sized));
          links = λ o i. word_at-set_word-other ys 8 0 o (λ p q. omega arith);
        }

    -- it is in the record x of c
    pub copy_carried : (ys : List ℕ) (q p : ℕ) → Image t n ys (master_key b (entry_of t n) r) q p (word_at (record_of b (entry_of t n) r))
        → (x : ℕ) (c : List ℕ) → record_of c (entry_of t n) x ≡ ys → Carried t b c n r x
    copy_carried ys q p im x c is =
        record {
          key = (image_stands known im x c is).key;
          first = λ i j h m. (image_links known im x c is i j h m).0 ∙ get_word-record_of b n r (first i j) known.ok (counted known) (h, m) refl;
          last = λ i j h m. (image_links known im x c is i j h m).1 ∙ get_word-record_of b n r (last i j) known.ok (counted known) (h, m) refl;
        }
