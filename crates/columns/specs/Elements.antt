-- What a list of states holds, and how often, after each step of the search. Assumes nothing.
use Rattle.std.specs.Prelude.{◌≡◌, refl, Bool, true, false, cond, ◌||◌, ℕ, zero, suc, ◌+◌, ◌-◌, ◌≤◌, ◌<◌, eqb, length, drop}
use Rattle.std.proofs.Common.{sym, ap, subst, ◌∙◌, ⊎_elim, arith, eq-eqb, eqb-true, take-append-drop}
use mathlib.Core.List.{List, [], ◌∷◌, ◌++◌, flat_map, append-nil, append_assoc}
use Rattle.std.proofs.lemmas.Bool.{eqb-false}
use Rattle.std.proofs.Math.Seq.{take-length}
use Rattle.laws.specs.Cases.{by_bool}
use Rattle.laws.specs.Counting.{how_many}
use Rattle.laws.specs.Loops.{over}
use Rattle.laws.specs.Bools.{clash, or-first, or-second, or_assoc, or_false, or_cases}
use Rattle.sheet.specs.declared.Ends.{Ends}
use Rattle.columns.specs.Columns.{successors, elem, discover, explore, columns_after, concat}
use Rattle.columns.specs.Found.{discover_old, discover_new, explore_front, after_none, after_more, after-end}

-- how often a list has v
abbrev pub times : ℕ → List ℕ → ℕ
times v l = how_many (λ (w : ℕ). eqb w v) l

-- ---- lists joined

pub elem_join : (v : ℕ) (l m : List ℕ) → elem v (l ++ m) ≡ elem v l || elem v m
unfolding elem
elem_join v [] m = refl
elem_join v (x ∷ l) m = ap (λ (b : Bool). eqb x v || b) (elem_join v l m) ∙ sym (or_assoc (eqb x v) (elem v l) (elem v m))

pub times_join : (v : ℕ) (l m : List ℕ) → times v (l ++ m) ≡ times v l + times v m
unfolding how_many
times_join v [] m = omega arith
times_join v (x ∷ l) m = omega (arith, times_join v l m)

pub times_none : (v : ℕ) (l : List ℕ) → elem v l ≡ false → times v l ≡ 0
unfolding how_many elem
times_none v [] e = refl
times_none v (x ∷ l) e = by_bool (eqb x v) (λ t. absurd (clash (or-first (eqb x v) (elem v l) t) e)) (λ t. rw t (omega (arith, times_none v l (ap (λ (b : Bool). b || elem v l) (sym t) ∙ e))))

pub times_some : (v : ℕ) (l : List ℕ) → elem v l ≡ true → 0 < times v l
unfolding how_many elem
times_some v [] e = absurd (clash e refl)
times_some v (x ∷ l) e =
    by_bool (eqb x v) (λ t. rw t (omega arith))
    (λ t. rw t (omega (arith, times_some v l (ap (λ (b : Bool). b || elem v l) (sym t) ∙ e))))

-- ---- the search

elem_one : (v w : ℕ) → elem v (w ∷ []) ≡ eqb w v
unfolding elem
elem_one v w = or_false (eqb w v)

times_one : (v w : ℕ) → times v (w ∷ []) ≡ cond (eqb w v) 1 0
unfolding how_many
times_one v w = by_bool (eqb w v) (λ t. rw t) (λ t. rw t)

known : (v : ℕ) (found : List ℕ) (w : ℕ) → elem w found ≡ true → (b : Bool) → eqb w v ≡ b → elem v found ≡ elem v found || b
known v found w t true e = ap (λ (u : ℕ). elem u found) (sym (eqb-true w v e)) ∙ t ∙ sym (or-second (elem v found) true refl)
known v found w t false e = sym (or_false (elem v found))

elem-discover : (v : ℕ) (found : List ℕ) (w : ℕ) → elem v (discover found w) ≡ elem v found || eqb w v
elem-discover v found w =
    by_bool (elem w found)
    (λ t. ap (elem v) (discover_old found w t) ∙ known v found w t (eqb w v) refl)
    (λ t. ap (elem v) (discover_new found w t) ∙ elem_join v found (w ∷ []) ∙ ap (λ (b : Bool). elem v found || b) (elem_one v w))

elem-over : (v : ℕ) (found ws : List ℕ) → elem v (over discover found ws) ≡ elem v found || elem v ws
unfolding over elem
elem-over v found [] = sym (or_false (elem v found))
elem-over v found (w ∷ ws) =
    elem-over v (discover found w) ws ∙ ap (λ (b : Bool). b || elem v ws) (elem-discover v found w) ∙ or_assoc (elem v found) (eqb w v) (elem v ws)

-- what is found from a column: what was found, and where its arrows lead
pub elem-explore : (v n : ℕ) (arrows : List Ends) (found column : List ℕ) → elem v (explore n arrows found column) ≡ elem v found || elem v (flat_map (successors n arrows) column)
unfolding explore
elem-explore v n arrows found column = elem-over v found (flat_map (successors n arrows) column)

pub elem_flat : (f : ℕ → List ℕ) (v : ℕ) (l : List ℕ) → elem v (flat_map f l) ≡ true → (u : ℕ) × (elem u l ≡ true) × (elem v (f u) ≡ true)
unfolding flat_map elem
elem_flat f v [] e = absurd (clash e refl)
elem_flat f v (x ∷ l) e =
    ⊎_elim
    (λ (h : elem v (f x) ≡ true). (x, or-first (eqb x x) (elem x l) (eq-eqb x x refl), h))
    (λ (h : elem v (flat_map f l) ≡ true). further (elem_flat f v l h))
    (or_cases (elem v (f x)) (elem v (flat_map f l)) (sym (elem_join v (f x) (flat_map f l)) ∙ e))
  where
    further : ((u : ℕ) × (elem u l ≡ true) × (elem v (f u) ≡ true)) → (u : ℕ) × (eqb x u || elem u l ≡ true) × (elem v (f u) ≡ true)
    further r = (r.0, or-second (eqb x r.0) (elem r.0 l) r.1, r.2)

pub flat_elem : (f : ℕ → List ℕ) (v u : ℕ) (l : List ℕ) → elem u l ≡ true → elem v (f u) ≡ true → elem v (flat_map f l) ≡ true
unfolding flat_map elem
flat_elem f v u [] e h = absurd (clash e refl)
flat_elem f v u (x ∷ l) e h =
    elem_join v (f x) (flat_map f l)
    ∙ ⊎_elim
    (λ (t : eqb x u ≡ true). or-first (elem v (f x)) (elem v (flat_map f l)) (ap (λ (y : ℕ). elem v (f y)) (eqb-true x u t) ∙ h))
    (λ (t : elem u l ≡ true). or-second (elem v (f x)) (elem v (flat_map f l)) (flat_elem f v u l t h))
    (or_cases (eqb x u) (elem u l) e)

-- ---- none twice

single_discover : (found : List ℕ) (w : ℕ) → ((v : ℕ) → times v found ≤ 1) → (v : ℕ) → times v (discover found w) ≤ 1
single_discover found w s v =
    by_bool (elem w found)
    (λ t. subst (λ (l : List ℕ). times v l ≤ 1) (sym (discover_old found w t)) (s v))
    (λ t. subst (λ (l : List ℕ). times v l ≤ 1) (sym (discover_new found w t))
    (by_bool (eqb w v)
    (λ e. omega (arith, times_join v found (w ∷ []), times_one v w ∙ ap (λ (b : Bool). cond b 1 0) e, times_none v found (ap (λ (u : ℕ). elem u found) (sym (eqb-true w v e)) ∙ t)))
    (λ e. omega (arith, s v, times_join v found (w ∷ []), times_one v w ∙ ap (λ (b : Bool). cond b 1 0) e))))

single_over : (found ws : List ℕ) → ((v : ℕ) → times v found ≤ 1) → (v : ℕ) → times v (over discover found ws) ≤ 1
unfolding over
single_over found [] s = s
single_over found (w ∷ ws) s = single_over (discover found w) ws (single_discover found w s)

pub single_explore : (n : ℕ) (arrows : List Ends) (found column : List ℕ) → ((v : ℕ) → times v found ≤ 1) → (v : ℕ) → times v (explore n arrows found column) ≤ 1
unfolding explore
single_explore n arrows found column s = single_over found (flat_map (successors n arrows) column) s

pub single_one : (start v : ℕ) → times v (start ∷ []) ≤ 1
single_one start v = by_bool (eqb start v) (λ e. omega (arith, times_one v start ∙ ap (λ (b : Bool). cond b 1 0) e)) (λ e. omega (arith, times_one v start ∙ ap (λ (b : Bool). cond b 1 0) e))

-- ---- all columns

pub found-new : (n : ℕ) (arrows : List Ends) (found column : List ℕ) → found ++ drop (length found) (explore n arrows found column) ≡ explore n arrows found column
found-new n arrows found column =
    ap (λ (l : List ℕ). l ++ drop (length found) (explore n arrows found column)) (sym (explore_front (length found) n arrows found column (omega arith) ∙ take-length found))
    ∙ take-append-drop (length found) (explore n arrows found column)

pub concat-cons : (c : List ℕ) (cs : List (List ℕ)) → concat (c ∷ cs) ≡ c ++ concat cs
unfolding concat flat_map
concat-cons c cs = refl

pub concat_none : concat [] ≡ []
unfolding concat flat_map
concat_none = refl

pub columns-more : (n : ℕ) (arrows : List Ends) (most : ℕ) (found column : List ℕ) → (length (drop (length found) (explore n arrows found column)) ≡ 0 → ⊥)
    → found ++ concat (columns_after n arrows (suc most) found column)
    ≡ explore n arrows found column ++ concat (columns_after n arrows most (explore n arrows found column) (drop (length found) (explore n arrows found column)))
columns-more n arrows most found column d =
    let all : List ℕ = explore n arrows found column in
    let new : List ℕ = drop (length found) all in
    let rest : List (List ℕ) = columns_after n arrows most all new in
    let k : suc most - 1 ≡ most = omega arith in
    ap (λ (cs : List (List ℕ)). found ++ concat cs) (after_more n arrows found column all refl (suc most) (omega arith) d ∙ ap (λ (m : ℕ). new ∷ columns_after n arrows m all new) k)
    ∙ ap (λ (l : List ℕ). found ++ l) (concat-cons new rest)
    ∙ sym (append_assoc found new (concat rest))
    ∙ ap (λ (l : List ℕ). l ++ concat rest) (found-new n arrows found column)

-- what each step of the search keeps, all columns have
pub search_keeps : (n : ℕ) (arrows : List Ends) (P : List ℕ → Type 0) → ((found column : List ℕ) → P found → P (explore n arrows found column)) → (most : ℕ) (found column : List ℕ) → P found
    → P (found ++ concat (columns_after n arrows most found column))
search_keeps n arrows P keeps zero found column p = subst P (sym (ap (λ (cs : List (List ℕ)). found ++ concat cs) (after-end n arrows 0 found column (omega arith)) ∙ ap (λ (l : List ℕ). found ++ l) concat_none ∙ append-nil found)) p
search_keeps n arrows P keeps (suc most) found column p =
    by_bool (eqb (length new) 0)
    (λ t. subst P (sym (ap (λ (cs : List (List ℕ)). found ++ concat cs) (after_none n arrows found column all refl (suc most) (eqb-true (length new) 0 t)) ∙ ap (λ (l : List ℕ). found ++ l) concat_none ∙ append-nil found)) p)
    (λ t. subst P (sym (columns-more n arrows most found column (eqb-false (length new) 0 t))) (search_keeps n arrows P keeps most all new (keeps found column p)))
  where
    all : List ℕ
    all = explore n arrows found column

    new : List ℕ
    new = drop (length found) all
