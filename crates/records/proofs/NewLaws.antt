-- A new record made of an area: its fields, stored one behind the other, are one splice, they are as long as the record, and each is found
-- where the set's layout says.
use Prim.Native.Nat.{ℕ, zero, suc, ◌+◌, ◌-◌, ◌≤◌, ◌<◌}
use Rattle.std.specs.Prelude.{◌≡◌, true, false, get_or, take}
use Rattle.std.proofs.Math.Path.{refl, sym, ap}
use Rattle.std.proofs.Common.{◌∙◌, get_or-append-add, get_or-drop}
use mathlib.Core.List.{List, ◌++◌, append_assoc}
use native.Mathlib.Omega.{arith}
use Rattle.std.proofs.Math.Numerals.{add-one}
use Rattle.std.proofs.Math.ListN.{length, drop, length-append, length-replicate, get_or-append}
use Rattle.std.proofs.Math.Seq.{drop-append-add, drop-append-le, take_at, take_all}
use Rattle.octets.specs.Octets.{byte_at, run, word_at, word_bytes, zeros, splice, set_word}
use Rattle.octets.specs.SpliceLaws.{length_run, get_d_zeros, splice_join}
use Rattle.octets.specs.WordLaws.{word_at-same, word4-bytes}
use Rattle.schema.specs.declared.Entry.{Entry}
use Rattle.schema.specs.Decode.{path_of}
use Rattle.records.specs.declared.Link.{Link}
use Rattle.records.specs.Areas.{is_master, area_key_place, area_keys, area_length, area_master_key, area_key_on, area_body, live_head, no_link, new_master, new_paths, new_variable}
use Rattle.records.proofs.AreaLaws.{master_keys, variable_keys, area-key-inside, path_place-first, path_place-turn, path_place_le}
use Rattle.records.specs.Fields.{Fields, path_place}

-- ---- the fields are one splice, as long as the record

master_body : (e : Entry) (area : List ℕ) → is_master e ≡ true → run area e.key e.room ≡ area_body e area
master_body e area m = rw m refl

module _ (e : Entry) (root : Link) (area : List ℕ) (m : is_master e ≡ true) (i : 12 + e.key ≤ e.body) (l : length area ≡ area_length e) where
  key-length : length (area_master_key e area) ≡ e.key
  key-length = length_run area 0 e.key (omega (arith, master_keys e m))

  pub length-new_master : length (new_master e root area) ≡ e.body + e.room
  unfolding new_master
  length-new_master =
      rw (length-append (area_master_key e area), length-append (zeros (e.body - (12 + e.key))), length-replicate, key-length, length_run area (area_keys e) e.room (omega arith))
      (omega arith)

  pub master-made : (xs : List ℕ)
      → splice (splice (splice (set_word (set_word (set_word xs 0 16777216) 4 root.next) 8 root.prior) 12 (run area 0 e.key)) (12 + e.key) (zeros (e.body - (12 + e.key)))) e.body (run area e.key e.room)
      ≡ splice xs 0 (new_master e root area)
  unfolding new_master set_word
  master-made xs =
      let d = area_body e area in
      let z = zeros (e.body - (12 + e.key)) in
      let k = area_master_key e area in
      let p = word_bytes root.prior in
      let n = word_bytes root.next in
      let x₁ = splice xs 0 live_head in
      let x₂ = splice x₁ 4 n in
      let x₃ = splice x₂ 8 p in
      let x₄ = splice x₃ 12 k in
      let f : 12 + e.key + length z ≡ e.body = rw length-replicate (omega arith) in
      let g : 12 + length k ≡ 12 + e.key = omega (arith, key-length) in
      ap (splice (splice x₄ (12 + e.key) z) e.body) (master_body e area m)
      ∙ splice_join x₄ (12 + e.key) z e.body d f
      ∙ splice_join x₃ 12 k (12 + e.key) (z ++ d) g
      ∙ splice_join x₂ 8 p 12 (k ++ (z ++ d)) refl
      ∙ splice_join x₁ 4 n 8 (p ++ (k ++ (z ++ d))) refl
      ∙ splice_join xs 0 live_head 4 (n ++ (p ++ (k ++ (z ++ d)))) refl

-- the key of a path, then its two words
pub path_made : (xs : List ℕ) (a : ℕ) (k : List ℕ) (n p q : ℕ) → length k ≡ n
    → set_word (set_word (splice xs a k) (a + n) p) (a + n + 4) q ≡ splice xs a (k ++ (word_bytes p ++ word_bytes q))
unfolding set_word
path_made xs a k n p q h =
    splice_join (splice xs a k) (a + n) (word_bytes p) (a + n + 4) (word_bytes q) refl
    ∙ splice_join xs a k (a + n) (word_bytes p ++ word_bytes q) (ap (λ (i : ℕ). a + i) h)

module _ (e : Entry) (links : List Link) (area : List ℕ) (f : Fields e) (v : is_master e ≡ false) (l : length area ≡ area_length e) where
  path_key-length : (j : ℕ) → j < e.count → length (area_key_on e area j) ≡ (path_of e j).len
  path_key-length j h = length_run area (area_key_place e j) (path_of e j).len (omega (arith, area-key-inside e j e.count h, variable_keys e v))

  -- a turn: path j's fields are stored, and what is left begins behind them
  pub paths-turn : (xs : List ℕ) (a n m j : ℕ) → n ≡ m + 1 → j < e.count
      → splice (splice xs a (area_key_on e area j ++ (word_bytes (get_or links j no_link).prior ++ word_bytes (get_or links j no_link).next))) (a + ((path_of e j).len + 8)) (new_paths e links area m (j + 1))
      ≡ splice xs a (new_paths e links area n j)
  unfolding new_paths
  paths-turn xs a n m j q h =
      let k = area_key_on e area j in
      let w = word_bytes (get_or links j no_link).prior ++ word_bytes (get_or links j no_link).next in
      let r = new_paths e links area m (j + 1) in
      let g : a + length (k ++ w) ≡ a + ((path_of e j).len + 8) = rw length-append (omega (arith, path_key-length j h)) in
      rw (q, add-one m) (splice_join xs a (k ++ w) (a + ((path_of e j).len + 8)) r g ∙ (rw append_assoc refl))

  pub paths_end : (xs : List ℕ) (a n j : ℕ) → n ≡ 0 → splice xs a (new_paths e links area n j) ≡ xs
  unfolding new_paths splice
  paths_end xs a n j q = rw q refl

  paths-long : (n j : ℕ) → j + n ≡ e.count → path_place e j + length (new_paths e links area n j) ≡ e.body
  unfolding new_paths
  paths-long zero j h = let q : j ≡ e.count = omega arith in rw q (omega (arith, f.behind v))
  paths-long (suc n) j h =
      rw (length-append (area_key_on e area j), path_key-length j (omega arith)) (omega (arith, paths-long n (j + 1) (omega arith), path_place-turn e j))

  pub length-new_variable : length (new_variable e links area) ≡ e.body + e.room
  unfolding new_variable
  length-new_variable =
      rw (length-append (new_paths e links area e.count 0), length_run area (area_keys e) e.room (omega arith))
      (omega (arith, paths-long e.count 0 (omega arith), path_place-first e))

  pub variable-made : (xs : List ℕ)
      → splice (splice (set_word xs 0 16777216) 4 (new_paths e links area e.count 0)) e.body (area_body e area) ≡ splice xs 0 (new_variable e links area)
  unfolding new_variable set_word
  variable-made xs =
      let ps = new_paths e links area e.count 0 in
      let g : 4 + length ps ≡ e.body = omega (arith, paths-long e.count 0 (omega arith), path_place-first e) in
      splice_join (splice xs 0 live_head) 4 ps e.body (area_body e area) g ∙ splice_join xs 0 live_head 4 (ps ++ area_body e area) refl

-- ---- what a new record holds

-- a run and a word that stand behind a list, or in front
pub run_behind : (xs ys : List ℕ) (a n m : ℕ) → length xs ≡ a → run (xs ++ ys) (a + n) m ≡ run ys n m
run_behind xs ys a n m h = rw (← h) (ap (take m) (drop-append-add xs ys n))

pub word_at-behind : (xs ys : List ℕ) (a n : ℕ) → length xs ≡ a → word_at (xs ++ ys) (a + n) ≡ word_at ys n
word_at-behind xs ys a n h =
    word_at-same (xs ++ ys) ys (a + n) n (λ k l.
    let q : a + n + k ≡ length xs + (n + k) = omega arith in
    rw q (get_or-append-add xs ys (n + k) 0))

word_at-front : (v : ℕ) (ys : List ℕ) → v < 4294967296 → word_at (word_bytes v ++ ys) 0 ≡ v
unfolding word_at
word_at-front v ys h = word4-bytes v h

word_at-zeros : (z n : ℕ) → word_at (zeros z) n ≡ 0
unfolding word_at
word_at-zeros z n = rw (get_d_zeros z n, get_d_zeros z (n + 1), get_d_zeros z (n + 2), get_d_zeros z (n + 3)) refl

zeros-front : (z n : ℕ) (ys : List ℕ) → n + 4 ≤ z → word_at (zeros z ++ ys) n ≡ 0
zeros-front z n ys h =
    word_at-same (zeros z ++ ys) (zeros z) n n (λ k l. get_or-append (zeros z) ys 0 (n + k) (rw length-replicate (omega arith))) ∙ word_at-zeros z n

module _ (e : Entry) (root : Link) (area : List ℕ) (m : is_master e ≡ true) (i : 12 + e.key ≤ e.body) (l : length area ≡ area_length e) where
  pub new-master-state : byte_at (new_master e root area) 0 ≡ 1
  unfolding new_master
  new-master-state = refl

  pub new-master-next : root.next < 4294967296 → word_at (new_master e root area) 4 ≡ root.next
  unfolding new_master
  new-master-next h = word_at-behind live_head _ 4 0 refl ∙ word_at-front root.next _ h

  pub new-master-prior : root.prior < 4294967296 → word_at (new_master e root area) 8 ≡ root.prior
  unfolding new_master
  new-master-prior h = word_at-behind live_head _ 4 4 refl ∙ word_at-behind (word_bytes root.next) _ 4 0 refl ∙ word_at-front root.prior _ h

  pub new-master-key : run (new_master e root area) 12 e.key ≡ area_master_key e area
  unfolding new_master
  new-master-key =
      let k = area_master_key e area in
      let d = zeros (e.body - (12 + e.key)) ++ area_body e area in
      let p = word_bytes root.prior in
      let n = word_bytes root.next in
      run_behind live_head (n ++ (p ++ (k ++ d))) 4 8 e.key refl
      ∙ run_behind n (p ++ (k ++ d)) 4 4 e.key refl
      ∙ run_behind p (k ++ d) 4 0 e.key refl
      ∙ take_at k d e.key (key-length e root area m i l)

  -- it has no points yet: every first and last is 0
  pub new-master-link : (o : ℕ) → 12 + e.key ≤ o → o + 4 ≤ e.body → word_at (new_master e root area) o ≡ 0
  unfolding new_master
  new-master-link o h k =
      let n = o - (12 + e.key) in
      let q : o ≡ 4 + (4 + (4 + (e.key + n))) = omega arith in
      rw q (
      word_at-behind live_head _ 4 (4 + (4 + (e.key + n))) refl
      ∙ word_at-behind (word_bytes root.next) _ 4 (4 + (e.key + n)) refl
      ∙ word_at-behind (word_bytes root.prior) _ 4 (e.key + n) refl
      ∙ word_at-behind (area_master_key e area) _ e.key n (key-length e root area m i l)
      ∙ zeros-front (e.body - (12 + e.key)) n (area_body e area) (omega arith))

word_at-drop : (xs : List ℕ) (a n : ℕ) → word_at xs (a + n) ≡ word_at (drop a xs) n
word_at-drop xs a n =
    word_at-same xs (drop a xs) (a + n) n (λ k l.
    let q : a + n + k ≡ a + (n + k) = omega arith in
    rw q (sym (get_or-drop a xs (n + k) 0)))

module _ (e : Entry) (links : List Link) (area : List ℕ) (f : Fields e) (v : is_master e ≡ false) (l : length area ≡ area_length e) where
  pub new-variable-state : byte_at (new_variable e links area) 0 ≡ 1
  unfolding new_variable
  new-variable-state = refl

  -- the paths from path j + k on stand behind those from path j on
  paths-from : (k m j : ℕ) → j + (k + m) ≡ e.count → drop (path_place e (j + k) - path_place e j) (new_paths e links area (k + m) j) ≡ new_paths e links area m (j + k)
  unfolding new_paths
  paths-from zero m j h =
      let p : j + 0 ≡ j = omega arith in
      let q : 0 + m ≡ m = omega arith in
      let z : path_place e j - path_place e j ≡ 0 = omega arith in
      rw (p, q, z) refl
  paths-from (suc k) m j h =
      let n : suc k + m ≡ suc (k + m) = omega arith in
      let t : j + suc k ≡ j + 1 + k = omega arith in
      let key = area_key_on e area j in
      let w = word_bytes (get_or links j no_link).prior ++ word_bytes (get_or links j no_link).next in
      let r = new_paths e links area (k + m) (j + 1) in
      let a : key ++ (w ++ r) ≡ (key ++ w) ++ r = sym (append_assoc key w r) in
      let c : length (key ++ w) ≡ (path_of e j).len + 8 = rw length-append (omega (arith, path_key-length e links area f v l j (omega arith))) in
      let q : path_place e (j + 1 + k) - path_place e j ≡ length (key ++ w) + (path_place e (j + 1 + k) - path_place e (j + 1)) = omega (arith, path_place-turn e j, path_place_up (j + 1) k) in
      rw (n, t, q) (ap (drop (length (key ++ w) + (path_place e (j + 1 + k) - path_place e (j + 1)))) a ∙ drop-append-add (key ++ w) r _ ∙ paths-from k m (j + 1) (omega arith))
    where
      path_place_up : (i n : ℕ) → path_place e i ≤ path_place e (i + n)
      path_place_up i n = path_place_le e i (i + n) (omega arith)

  -- what stands from path j's place on: its key, its two words, and what is behind them
  behind-path : ℕ → List ℕ
  behind-path j = new_paths e links area (e.count - (j + 1)) (j + 1) ++ area_body e area

  from-path : (j : ℕ) → j < e.count
      → drop (path_of e j).at (new_variable e links area) ≡ area_key_on e area j ++ (word_bytes (get_or links j no_link).prior ++ (word_bytes (get_or links j no_link).next ++ behind-path j))
  unfolding new_variable new_paths behind-path
  from-path j h =
      let m = e.count - (j + 1) in
      let d = area_body e area in
      let ps = new_paths e links area e.count 0 in
      let o = path_place e j - path_place e 0 in
      let n : e.count ≡ j + suc m = omega arith in
      let t : 0 + j ≡ j = omega arith in
      let at : (path_of e j).at ≡ 4 + o = omega (arith, f.packed j h, path_place-first e, path_place_le e 0 j (omega arith)) in
      let c : o ≤ length ps = omega (arith, paths-long e links area f v l e.count 0 (omega arith), path_place_le e j e.count (omega arith), f.behind v) in
      let p : drop o ps ≡ new_paths e links area (suc m) j = (rw (← n, t) at (paths-from j (suc m) 0 (omega arith))) in
      rw at (drop-append-add live_head (ps ++ d) o ∙ drop-append-le o ps d c ∙ (rw p (append_assoc (area_key_on e area j) _ d)))

  module _ (j : ℕ) (h : j < e.count) where
    pub new-variable-key : run (new_variable e links area) (path_of e j).at (path_of e j).len ≡ area_key_on e area j
    new-variable-key = rw (from-path j h) (take_at (area_key_on e area j) _ (path_of e j).len (path_key-length e links area f v l j h))

    pub new-variable-prior : (get_or links j no_link).prior < 4294967296 → word_at (new_variable e links area) ((path_of e j).at + (path_of e j).len) ≡ (get_or links j no_link).prior
    new-variable-prior b =
        let q : (path_of e j).len ≡ (path_of e j).len + 0 = omega arith in
        word_at-drop (new_variable e links area) (path_of e j).at (path_of e j).len
        ∙ (rw (from-path j h) (
        ap (word_at _) q
        ∙ word_at-behind (area_key_on e area j) _ (path_of e j).len 0 (path_key-length e links area f v l j h)
        ∙ word_at-front (get_or links j no_link).prior _ b))

    pub new-variable-next : (get_or links j no_link).next < 4294967296 → word_at (new_variable e links area) ((path_of e j).at + (path_of e j).len + 4) ≡ (get_or links j no_link).next
    new-variable-next b =
        let q : (path_of e j).at + (path_of e j).len + 4 ≡ (path_of e j).at + ((path_of e j).len + 4) = omega arith in
        ap (word_at (new_variable e links area)) q
        ∙ word_at-drop (new_variable e links area) (path_of e j).at ((path_of e j).len + 4)
        ∙ (rw (from-path j h) (
        word_at-behind (area_key_on e area j) _ (path_of e j).len 4 (path_key-length e links area f v l j h)
        ∙ word_at-behind (word_bytes (get_or links j no_link).prior) _ 4 0 refl
        ∙ word_at-front (get_or links j no_link).next _ b))

  pub new-variable_body : run (new_variable e links area) e.body e.room ≡ area_body e area
  unfolding new_variable
  new-variable_body =
      let ps = new_paths e links area e.count 0 in
      let d = area_body e area in
      let n = length ps in
      let q : e.body ≡ 4 + (n + 0) = omega (arith, paths-long e links area f v l e.count 0 (omega arith), path_place-first e) in
      ap (λ (o : ℕ). run (new_variable e links area) o e.room) q
      ∙ run_behind live_head (ps ++ d) 4 (n + 0) e.room refl
      ∙ run_behind ps d n 0 e.room refl
      ∙ take_all e.room d (omega (arith, length_run area (area_keys e) e.room (omega arith)))
