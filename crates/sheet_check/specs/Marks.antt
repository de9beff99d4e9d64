-- What the walk finds is what the conditions on the records met say: it ends at a wrong record exactly where one is above the count, of another kind, or met twice,
-- and else the marks show which were met. Assumes nothing.
use Rattle.std.specs.Prelude.{◌≡◌, refl, Bool, true, false, cond, List, [], ◌∷◌, map, ℕ, ◌+◌, ◌-◌, ◌≤◌, ◌<◌, leb, length, get_or, set, replicate}
use Rattle.std.proofs.Math.Path.{sym, ap}
use Rattle.std.proofs.Common.{◌∙◌, arith, length-set, get_or-set_same, get_or-set_other}
use Rattle.std.proofs.Math.Bool.{not}
use Rattle.std.proofs.Math.Dec.{eqb}
use Rattle.std.proofs.lemmas.List.{length-replicate, get_or-replicate}
use Rattle.std.proofs.Math.ListN.{get_or-eq_default}
use borrow.Author.Tests.{leb-true, leb-false, eqb-true, eqb-false, lt-ltb, le-ltb}
use Rattle.laws.specs.Cases.{by_bool, by_lt}
use Rattle.laws.specs.Loops.{any_up}
use Rattle.laws.specs.Any.{any_of, any_here, any_later, any_none, any_cases, any_wider, any_narrower, any_same}
use Rattle.laws.specs.Bools.{clash, or-first, or-second}
use Rattle.sheet.specs.Sheet.{count, kind_of, Met, met}
use Rattle.sheet.specs.Refusals.{is_among, repeats, is_above, is_other, is_missed, indices, wrong_chains}
use Rattle.sheet_check.specs.Walk.{Walked, walked, fresh, walk, unmarked}

-- ---- marks
-- a record with a mark, or beyond the marks
abbrev marked : List Bool → Met → Bool
marked m x = get_or m x.index true

abbrev index : Met → ℕ
index x = x.index

mark_stays : (m : List Bool) (j : ℕ) (x : Met) → marked m x ≡ true → marked (set m j true) x ≡ true
mark_stays m j x e = by_bool (eqb x.index j) (λ t. by_lt x.index (length m)
    (λ l. rw (sym (eqb-true x.index j t), get_or-set_same m x.index true true l))
    (λ l. let h : length (set m j true) ≤ x.index = rw (length-set m j true) l in rw (get_or-eq_default (set m j true) true h)))
    (λ t. rw (get_or-set_other m j x.index true true (eqb-false x.index j t)) e)

-- a record with a mark after one more was set: it is that one, or had a mark before
mark_new : {C : Type 0} (m : List Bool) (j : ℕ) (x : Met) → marked (set m j true) x ≡ true → (eqb j x.index ≡ true → C) → (marked m x ≡ true → C) → C
mark_new m j x e f g = by_bool (eqb j x.index) f
    (λ t. g (rw (get_or-set_other m j x.index true true (λ q. eqb-false j x.index t (sym q))) at e))

marks_new : {C : Type 0} (m : List Bool) (j : ℕ) (xs : List Met) → any_of (marked (set m j true)) xs ≡ true → (is_among j (map index xs) ≡ true → C) → (any_of (marked m) xs ≡ true → C) → C
unfolding any_of
marks_new m j [] e f g = clash {b = false} e refl
marks_new m j (x ∷ xs) e f g =
    any_cases (marked (set m j true)) x xs e
    (λ t. mark_new m j x t (λ q. f (any_here (eqb j) x.index (map index xs) q)) (λ q. g (any_here (marked m) x xs q)))
    (λ t. marks_new m j xs t (λ q. f (any_later (eqb j) x.index (map index xs) q)) (λ q. g (any_later (marked m) x xs q)))

-- the record that was marked last is among the marked
marks_own : (m : List Bool) (j : ℕ) (xs : List Met) → j < length m → is_among j (map index xs) ≡ true → any_of (marked (set m j true)) xs ≡ true
unfolding any_of
marks_own m j [] h e = e
marks_own m j (x ∷ xs) h e =
    any_cases (eqb j) x.index (map index xs) e
    (λ t. any_here (marked (set m j true)) x xs (rw (sym (eqb-true j x.index t), get_or-set_same m j true true h)))
    (λ t. any_later (marked (set m j true)) x xs (marks_own m j xs h t))

-- ---- a record that may be met
module _ (s : List ℕ) (x : Met) (m : List Bool) where
  fresh_in : fresh s x m ≡ true → x.index ≤ count s
  unfolding fresh
  fresh_in e = by_bool (leb x.index (count s)) (λ t. leb-true x.index (count s) t) (λ t. clash {b = false} (rw t at e) refl)

  fresh_kind : fresh s x m ≡ true → eqb (kind_of s x.index) x.kind ≡ true
  unfolding fresh
  fresh_kind e =
      by_bool (leb x.index (count s))
      (λ t. by_bool (eqb (kind_of s x.index) x.kind) (λ q. q) (λ q. clash {b = false} (rw (t, q) at e) refl))
      (λ t. clash {b = false} (rw t at e) refl)

  fresh_mark : fresh s x m ≡ true → marked m x ≡ false
  unfolding fresh
  fresh_mark e =
      by_bool (leb x.index (count s))
      (λ t. by_bool (eqb (kind_of s x.index) x.kind)
      (λ q. by_bool (get_or m x.index true) (λ r. clash {b = false} (rw (t, q, r) at e) refl) (λ r. r))
      (λ q. clash {b = false} (rw (t, q) at e) refl))
      (λ t. clash {b = false} (rw t at e) refl)

  not-fresh : {C : Type 0} → fresh s x m ≡ false → (is_above s x ≡ true → C) → (is_other s x ≡ true → C) → (marked m x ≡ true → C) → C
  unfolding fresh
  not-fresh e f g h =
      by_bool (leb x.index (count s))
      (λ t. by_bool (eqb (kind_of s x.index) x.kind)
      (λ q. h (by_bool (get_or m x.index true) (λ r. r) (λ r. clash {b = true} refl (rw (t, q, r) at e))))
      (λ q. g (ap not q)))
      (λ t. f (lt-ltb (count s) x.index (leb-false x.index (count s) t)))

-- ---- the walk that ends at a wrong record
walk_wrong : {C : Type 0} (s : List ℕ) (xs : List Met) (m m' : List Bool) → walked false m' ≡ walk s xs m
    → (any_of (is_above s) xs ≡ true → C) → (any_of (is_other s) xs ≡ true → C) → (repeats (map index xs) ≡ true → C) → (any_of (marked m) xs ≡ true → C) → C
unfolding walk repeats
walk_wrong s [] m m' e f g h k = clash {b = false} (ap (λ (a : Walked). a.ok) e) refl
walk_wrong {C} s (x ∷ xs) m m' e f g h k =
    by_bool (fresh s x m)
    (λ t. walk_wrong s xs (set m x.index true) m' (rw t at e)
    (λ q. f (any_later (is_above s) x xs q))
    (λ q. g (any_later (is_other s) x xs q))
    (λ q. h (by_bool (is_among x.index (map index xs)) (λ b. rw b) (λ b. rw (b, q))))
    (λ q. marks_new m x.index xs q (λ b. h (rw b)) (λ b. k (any_later (marked m) x xs b))))
    (λ t. not-fresh s x m t
    (λ q. f (any_here (is_above s) x xs q))
    (λ q. g (any_here (is_other s) x xs q))
    (λ q. k (any_here (marked m) x xs q)))

-- ---- the walk that meets all
record Right (s : List ℕ) (xs : List Met) (m m' : List Bool) : Type 0 where
  inside : any_of (is_above s) xs ≡ false
  kinds : any_of (is_other s) xs ≡ false
  once : repeats (map index xs) ≡ false
  unmet : any_of (marked m) xs ≡ false
  marks_are : (k : ℕ) → get_or m' k false ≡ cond (is_among k (map index xs)) true (get_or m k false)

walk_right : (s : List ℕ) (xs : List Met) (m m' : List Bool) → count s < length m → walked true m' ≡ walk s xs m → Right s xs m m'
unfolding walk any_of repeats
walk_right s [] m m' h e = record { inside = refl; kinds = refl; once = refl; unmet = refl; marks_are = λ k. ap (λ (a : Walked). get_or a.marks k false) e }
walk_right s (x ∷ xs) m m' h e =
    by_bool (fresh s x m)
    (λ t.
    let h' : count s < length (set m x.index true) = rw (length-set m x.index true) h in
    go t (walk_right s xs (set m x.index true) m' h' (rw t at e)))
    (λ t. clash {b = false} (sym (ap (λ (a : Walked). a.ok) (rw t at e))) refl)
  where
    go : fresh s x m ≡ true → Right s xs (set m x.index true) m' → Right s (x ∷ xs) m m'
    go t r =
        let i : x.index ≤ count s = fresh_in s x m t in
        let l : x.index < length m = omega arith in
        let own : is_among x.index (map index xs) ≡ false =
        by_bool (is_among x.index (map index xs)) (λ b. clash (marks_own m x.index xs l b) r.unmet) (λ b. b) in
        record {
          inside = any_none (is_above s) x xs (le-ltb (count s) x.index i) r.inside;
          kinds = any_none (is_other s) x xs (ap not (fresh_kind s x m t)) r.kinds;
          once = rw own r.once;
          unmet = any_none (marked m) x xs (fresh_mark s x m t) (any_narrower (marked m) (marked (set m x.index true)) xs (mark_stays m x.index) r.unmet);
          marks_are = λ k. by_bool (eqb k x.index)
              (λ b. rw (b, r.marks_are k, sym (eqb-true k x.index b)) (by_bool (is_among k (map index xs)) (λ c. rw c) (λ c. rw c (get_or-set_same m k true false (rw (eqb-true k x.index b) l)))))
              (λ b. rw b (r.marks_are k ∙ ap (λ (v : Bool). cond (is_among k (map index xs)) true v) (get_or-set_other m x.index k true false (eqb-false k x.index b))));
        }

-- ---- from no marks on
abbrev pub no_marks : List Bool
no_marks = replicate 4096 false

length-no_marks : length no_marks ≡ 4096
length-no_marks = length-replicate {A = Bool} 4096 false

none_marked : (s : List ℕ) (x : Met) → count s < 4096 → marked no_marks x ≡ true → is_above s x ≡ true
none_marked s x h e =
    by_lt x.index 4096
    (λ l. clash {b = false} (rw (get_or-replicate {A = Bool} 4096 x.index false true l) at e) refl)
    (λ l. lt-ltb (count s) x.index (omega arith))

no_mark : (k : ℕ) → get_or no_marks k false ≡ false
no_mark k =
    by_lt k 4096
    (λ l. get_or-replicate {A = Bool} 4096 k false false l)
    (λ l. let h : length no_marks ≤ k = rw length-no_marks l in get_or-eq_default no_marks false h)

module _ (s : List ℕ) (m : List Bool) (h : count s < 4096) where
  -- a walk that ended at a wrong record
  pub chains_wrong : walked false m ≡ walk s (met s) no_marks → true ≡ wrong_chains s
  unfolding wrong_chains indices
  chains_wrong e =
      walk_wrong s (met s) no_marks m e
      (λ q. sym (or-first (any_of (is_above s) (met s)) _ q))
      (λ q. sym (or-second (any_of (is_above s) (met s)) _ (or-first (any_of (is_other s) (met s)) _ q)))
      (λ q. sym (or-second (any_of (is_above s) (met s)) _ (or-second (any_of (is_other s) (met s)) _ (or-first (repeats (map index (met s))) _ q))))
      (λ q. sym (or-first (any_of (is_above s) (met s)) _ (any_wider (marked no_marks) (is_above s) (met s) (λ x. none_marked s x h) q)))

  -- a walk that met all: what has no mark was never met
  pub chains_marked : walked true m ≡ walk s (met s) no_marks → any_up (unmarked m) 1 (count s + 1) ≡ wrong_chains s
  unfolding wrong_chains indices any_up unmarked
  chains_marked e =
      let r = walk_right s (met s) no_marks m (rw length-no_marks h) e in
      rw (r.inside, r.kinds, r.once)
      (any_same (unmarked m) (is_missed (map index (met s))) (count s + 1 - 1) 1
      (λ k. ap not (r.marks_are k)
      ∙ by_bool (is_among k (map index (met s))) (λ t. rw t) (λ t. rw (t, no_mark k))))
