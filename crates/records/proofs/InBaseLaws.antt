-- What is asked of sets and paths, from their being a schema's: the guarantee in the words of the functions.
use Rattle.std.specs.Prelude.{ℕ, ◌≤◌, ◌<◌, ◌≡◌, refl, List, Bool, true, false, ltb}
use Rattle.std.proofs.Common.{sym, ◌∙◌, arith, eq-eqb, ne_eqb, ltb-true, ltb-false}
use Rattle.schema.specs.declared.Path.{Path}
use Rattle.schema.specs.declared.Entry.{Entry}
use Rattle.schema.specs.declared.Schema.{Schema}
use Rattle.schema.specs.Decode.{entry_of, path_of, set_count, masters_on}
use Rattle.schema.specs.Guarantee.{MasterOk, SchemaOk}
use Rattle.schema.proofs.PlaceLaws.{lies_most}
use Rattle.schema.proofs.GuaranteeLaws.{lies}
use Rattle.records.proofs.KindLaws.{among-masters, behind-masters}
use Rattle.records.specs.InBase.{Laid, IsSetOf, IsMasterSet, IsPathUnder, IsPath, IsPathAmong, masters_kept, PathsIn, SetIn, MasterIn, PointsIn, MastersIn, Reached, VariableIn}

-- a record of either kind has a state and three zeros
head_size : {t : Schema} (i : ℕ) → SchemaOk t → i < set_count t → 4 ≤ (entry_of t i).size
head_size {t} i ok l = go (ltb i t.masters) refl
  where
    go : (b : Bool) → ltb i t.masters ≡ b → 4 ≤ (entry_of t i).size
    go true h = omega (arith, (ok.set i l).sized, (ok.master i (ltb-true i t.masters h)).room)
    go false h =
        let m = ltb-false i t.masters h in
        omega (arith, (ok.set i l).sized, (ok.path i 0 (m, l, (ok.variable i m l).some)).above, (ok.path i 0 (m, l, (ok.variable i m l).some)).inside)

-- ---- sets

pub set_in_lem : {t : Schema} {e : Entry} {n : ℕ} → IsSetOf t e n → SetIn e n
set_in_lem s =
    let l = s.laid in
    rw s.here (record { lies = lies s.number l.ok s.among l.size; fields = l.fields s.number s.among; head = head_size s.number l.ok s.among })

pub master_in_lem : {e : Entry} {n : ℕ} → IsMasterSet e n → MasterIn e n
master_in_lem s =
    let l = s.laid in
    let i = s.number in
    let a : i < set_count s.schema = omega (arith, s.among) in
    let m = l.ok.master i s.among in
    rw s.here
    (record {
      lies = lies i l.ok a l.size;
      fields = l.fields i a;
      ok = m;
      some = (l.ok.set i a).some;
      sized = omega (arith, m.room, (l.ok.set i a).sized);
    })

-- a set of points that lies in a base lies in the largest
pub points_most : {e : Entry} {n : ℕ} → PointsIn e n → PointsIn e 2097152
points_most h =
    record { lies = lies_most h.lies; fields = h.fields; some = h.some; kind = h.kind; few = h.few; head = h.head; path = h.path }

-- ---- paths

-- every variable set of the schema
pub variable_in : {t : Schema} {n : ℕ} (i : ℕ) → Laid t n → t.masters ≤ i → i < set_count t → VariableIn t (entry_of t i) n
variable_in {t} {n} i laid m l =
    let ok = laid.ok in
    let s = ok.set i l in
    let v = ok.variable i m l in
    record {
      points = record {
        lies = lies i ok l laid.size;
        fields = laid.fields i l;
        some = s.some;
        kind = v.kind;
        few = v.few;
        head = head_size i ok l;
        path = λ k h. record { key = (ok.path i k (m, l, h)).key_most; inside = omega (arith, s.sized, (ok.path i k (m, l, h)).inside) };
      };
      number = λ k h. omega (arith, (ok.path i k (m, l, h)).master, ok.few-masters);
      masters = λ k h. led k h;
    }
  where
    led : (k : ℕ) → k < (entry_of t i).count → MastersIn (masters_on t (entry_of t i) k) (path_of (entry_of t i) k) n
    led k h =
        let ok = laid.ok in
        let p = ok.path i k (m, l, h) in
        let q = (path_of (entry_of t i) k).master.0 in
        let ml : q < set_count t = omega (arith, p.master) in
        record {
          lies = lies q ok ml laid.size;
          ok = ok.master q p.master;
          some = (ok.set q ml).some;
          key = p.same_key;
          link = omega (arith, p.link-inside, (ok.set q ml).sized);
        }

pub reached-on : {t : Schema} {e : Entry} {n : ℕ} → VariableIn t e n → (k : ℕ) → k < e.count → Reached e (path_of e k) (masters_on t e k) n
reached-on v k h = record { points = v.points; path = v.points.path k h; masters = v.masters k h }

module _ {t : Schema} {e : Entry} {on : ℕ} {p : Path} {x : Entry} {n : ℕ} (u : IsPathUnder t e on p x n) where
  pub variable-under : VariableIn t e n
  variable-under = rw u.here (variable_in u.number u.laid u.is.0 u.is.1)

  pub on-among : on < e.count
  on-among = rw u.here u.is.2

  pub of_a-schema : IsPath e p x n
  of_a-schema = record { schema = t; on = on; under = u }

  pub reached-under : Reached e p x n
  reached-under = rw (u.path, u.masters) (reached-on variable-under on on-among)

pub reached : {e : Entry} {p : Path} {x : Entry} {n : ℕ} → IsPath e p x n → Reached e p x n
reached h = reached-under h.under

module _ {e : Entry} {on : ℕ} {p : Path} {x : Entry} {all : List Entry} {n : ℕ} (h : IsPathAmong e on p x all n) where
  -- the named path's masters are kept too
  pub named-among : x ≡ masters_kept all on
  named-among = h.under.masters ∙ sym (h.kept.same on (on-among h.under))

  pub paths_in : PathsIn e all n
  paths_in =
      let v = variable-under h.under in
      record { schema = h.schema; kept = h.kept; points = v.points; masters = λ k l. rw (h.kept.same k l) (v.masters k l) }

-- ---- a set of a schema, by its kind

module _ {t : Schema} {e : Entry} {n : ℕ} (s : IsSetOf t e n) where
  pub masters-by-kind : e.kind ≡ 1 → MasterOk e
  masters-by-kind k =
      let i = s.number in
      let w : (entry_of t i).kind ≡ 1 = rw s.here at k in
      rw s.here (s.laid.ok.master i (among-masters t s.laid.ok i s.among (eq-eqb (entry_of t i).kind 1 w)))

  pub points-by-kind : (e.kind ≡ 1 → ⊥) → VariableIn t e n
  points-by-kind k =
      let i = s.number in
      let w : (entry_of t i).kind ≡ 1 → ⊥ = λ z. k (rw s.here z) in
      rw s.here (variable_in i s.laid (behind-masters t s.laid.ok i (ne_eqb (entry_of t i).kind 1 w)) s.among)
