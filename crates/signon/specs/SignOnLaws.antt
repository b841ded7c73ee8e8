-- Sign-on as a whole: how a set is judged by its kind.
use Rattle.std.specs.Prelude.{ℕ, ◌≡◌, Bool, true, false, List}
use Rattle.std.proofs.Math.Path.{refl}
use Rattle.std.proofs.Common.{eq-eqb, ne_eqb}
use Rattle.schema.specs.declared.Entry.{Entry}
use Rattle.schema.specs.declared.Schema.{Schema}
use Rattle.sound.specs.Sound.{set_clean}
use Rattle.sound.specs.Linear.{masters_in_place, paths_in_place, set_in_place, path_in_place}
use Rattle.schema.specs.declared.Path.{Path}
use Rattle.schema.specs.Decode.{entry_of, path_of}
use Rattle.signon.specs.Judged.{path_placed, set_placed}

module _ (t : Schema) (b : List ℕ) (e : Entry) {c : Bool} (ec : c ≡ set_clean b e) where
  pub set_dirty : c ≡ false → false ≡ set_in_place t b e
  unfolding set_in_place
  set_dirty h = rw (← ec, h) refl

  module _ (h : c ≡ true) {o : Bool} where
    pub set_masters : e.kind ≡ 1 → o ≡ masters_in_place b e → o ≡ set_in_place t b e
    unfolding set_in_place
    set_masters k q = rw (← ec, h, eq-eqb e.kind 1 k) q

    pub set_paths : (e.kind ≡ 1 → ⊥) → o ≡ paths_in_place t b e → o ≡ set_in_place t b e
    unfolding set_in_place
    set_paths k q = rw (← ec, h, ne_eqb e.kind 1 k) q

-- what the code was told of a path that it read, and of a set
pub path_read : (t : Schema) (b : List ℕ) (e : Entry) (j : ℕ) {p : Path} {x : Entry} {o : Bool} → p ≡ path_of e j → x ≡ entry_of t p.master.0
    → o ≡ path_in_place b e p x → o ≡ path_placed t b e j
path_read t b e j ep ex eo = rw (← ep, ← ex) eo

pub set_read : (t : Schema) (b : List ℕ) (i : ℕ) {e : Entry} {o : Bool} → e ≡ entry_of t i → o ≡ set_in_place t b e → o ≡ set_placed t b i
set_read t b i ee eo = rw (← ee) eo
