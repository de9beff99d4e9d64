-- A step of each loop, and its end; what the search leaves, and the columns as parts of the order. Assumes nothing.
use mathlib.Core.Path.{◌≡◌, refl, sym, ap, ap₂, subst, ◌∙◌}
use mathlib.Core.Bool.{Bool, true, false, ◌||◌}
use Rattle.std.specs.List.{list_any, sum, position_or_len}
use Rattle.std.proofs.lemmas.List.Sums.{sum_by-cons}
use Rattle.std.specs.Prelude.{eqb}
use mathlib.Core.List.{List, [], ◌∷◌, ◌++◌, append-nil, append_assoc}
use Prim.Native.Nat.{ℕ, suc, ◌+◌, ◌-◌, ◌≤◌, ◌<◌}
use native.Mathlib.Nat.{sub-zero, not-suc-le-zero}
use native.Mathlib.Numerals.{add-one}
use native.Mathlib.Omega.{arith}
use lib.ListN.{length, get_or, take, drop, set, length-append, length-drop, drop_of_length-le}
use lib.Seq.{drop-cons, take_all, get_or-take, take_at, drop_at}
use Rattle.laws.specs.Flat.{table}
use Rattle.laws.specs.Lists.{part_length}
use Rattle.laws.specs.Loops.{over}
use Rattle.laws.specs.Split.{split, split_step, split_snoc, split-take, flat_split, split_at_column, split-set, length-split, sum_all, sum_snoc}
use Rattle.laws.specs.Split.{sum_take, sum_fits}
use Rattle.laws.specs.Put.{put, put_front}
use Rattle.sheet.specs.declared.Ends.{Ends}
use Rattle.columns.specs.Columns.{successors, elem, discover, explore, columns_after, reached, unreached, concat, columns, last_column}
use Rattle.columns.specs.Found.{Fair, Reached, discover_rest, fair_start, explore_one, explore-end, explore_fair, explore_front}
use Rattle.columns.specs.Found.{explore_grows, after_none, after_more, after-end, follow_yes, follow_no, fair_room, target_in, follows}
use Rattle.columns.specs.Found.{follow_fair, visit_fair, over_front, over_grows, discover_fair}

-- whether a list has w, as the library says it
pub elem_list : (w : ℕ) (l : List ℕ) → elem w l ≡ list_any (λ (v : ℕ). eqb v w) l
unfolding elem
elem_list w [] = refl
elem_list w (x ∷ l) = ap (λ (b : Bool). eqb x w || b) (elem_list w l)

-- ---- element after element
module _ {A B : Type 0} (g : A → B → A) where
  pub over_next : (a : A) (l : List B) (i : ℕ) (d : B) → i < length l → over g (g a (get_or l i d)) (drop (i + 1) l) ≡ over g a (drop i l)
  unfolding over
  over_next a l i d h = rw (drop-cons l i d h, add-one)

  pub over_last : (a : A) (l : List B) (i : ℕ) → length l ≤ i → a ≡ over g a (drop i l)
  unfolding over
  over_last a l i h = rw (drop_of_length-le l h)

-- ---- columns that stand in the first places
pub split_front : (ks l rest : List ℕ) → sum_all ks ≤ length l → split ks (l ++ rest) ≡ split ks l
split_front ks l rest h = sym (split-take ks (length l) (l ++ rest) h) ∙ ap (split ks) (take_at l rest (length l) refl)

-- the sizes of the columns, added up as the library does
pub sum_list : (ks : List ℕ) → sum_all ks ≡ sum ks
unfolding sum_all
sum_list [] = refl
sum_list (k ∷ ks) = ap (λ (m : ℕ). k + m) (sum_list ks) ∙ sym (sum_by-cons (λ (x : ℕ). x) k ks)

-- the states from v on
abbrev pub from : ℕ → ℕ → List ℕ
from n v = table (λ (w : ℕ). w) v (n - v)

-- ---- the states that are not found, one by one
module _ (n : ℕ) where
  pub rest_begin : (found : List ℕ) → over discover found (from n 0) ≡ found ++ unreached n found
  unfolding unreached
  rest_begin found = ap (λ (m : ℕ). over discover found (table (λ (w : ℕ). w) 0 m)) (sub-zero n) ∙ discover_rest 0 n found

  pub rest_step : (v : ℕ) (found : List ℕ) → v < n → over discover (discover found v) (from n (v + 1)) ≡ over discover found (from n v)
  unfolding over table
  rest_step v found h =
      let e : n - v ≡ suc (n - (v + 1)) = omega arith in
      rw (e, add-one)

  pub rest_end : (v : ℕ) (found : List ℕ) → n ≤ v → found ≡ over discover found (from n v)
  unfolding over table
  rest_end v found h =
      let e : n - v ≡ 0 = omega arith in
      rw e

-- ---- the states of a column, one by one
module _ (n : ℕ) (arrows : List Ends) (found before : List ℕ) where
  pub explore_step : (i : ℕ) → i < length before → take (length before) found ≡ before
      → explore n arrows (over discover found (successors n arrows (get_or found i 0))) (drop (i + 1) before)
      ≡ explore n arrows found (drop i before)
  explore_step i h e =
      let same : get_or found i 0 ≡ get_or before i 0 = sym (get_or-take (length before) found i 0 h)
      ∙ ap (λ (x : List ℕ). get_or x i 0) e in
      ap (λ (v : ℕ). explore n arrows (over discover found (successors n arrows v)) (drop (i + 1) before)) same
      ∙ explore_one n arrows found (get_or before i 0) (drop (i + 1) before)
      ∙ ap (λ (c : List ℕ). explore n arrows found c) (rw add-one (sym (drop-cons before i 0 h)))

  pub explore_stop : (i : ℕ) → length before ≤ i → found ≡ explore n arrows found (drop i before)
  explore_stop i h =
      sym (ap (λ (c : List ℕ). explore n arrows found c) (drop_of_length-le before {i = i} h) ∙ explore-end n arrows found)

-- columns that were copied to the front of a list
pub split_copied : (room seen all sizes : List ℕ) → seen ≡ all → length seen ≤ length room → sum_all sizes ≡ length all
    → split sizes (put room 0 seen) ≡ split sizes all
split_copied room seen all sizes e h s =
    ap (split sizes) (put_front room seen h ∙ ap (λ (l : List ℕ). l ++ drop (length seen) room) e)
    ∙ split_front sizes all (drop (length seen) room) (omega (arith, s))

-- ---- column by column: what is done, and what is left
module _ (n : ℕ) (arrows : List Ends) (start : ℕ) where
  abbrev pub Searching : List ℕ → List ℕ → ℕ → ℕ → Type 0
  Searching found sizes low left =
      Fair n found × (length sizes ≤ length found) × (sum_all sizes ≡ length found) × (low ≤ length found)
      × (split sizes found ++ columns_after n arrows left found (drop low found) ≡ reached n arrows start)

  first : start < n → Searching (start ∷ []) (1 ∷ []) 0 n
  unfolding split sum_all reached
  first h = (fair_start n start h, omega arith, refl, omega arith, refl)

  pub search_begin : (none none' order sizes : List ℕ) → start < n → none ≡ [] → none' ≡ [] → order ≡ none ++ (start ∷ [])
      → sizes ≡ none' ++ (1 ∷ []) → Searching order sizes 0 (n - 0)
  search_begin none none' order sizes h z z' e f = rw (e, f, z, z', sub-zero n) (first h)

  -- what a search from the last column leaves
  module _ (found found' sizes : List ℕ) (low left : ℕ) (s : Searching found sizes low left)
      (e : found' ≡ explore n arrows found (drop low found)) where
    pub search_grown : length found ≤ length found'
    search_grown = omega (arith, ap length e, explore_grows n arrows found (drop low found))

    front : take (length found) found' ≡ found
    front = ap (take (length found)) e ∙ explore_front (length found) n arrows found (drop low found) (omega arith)
        ∙ take_all (length found) found (omega arith)

    pub search_fair : Fair n found'
    search_fair = subst (Fair n) (sym e) (explore_fair n arrows found (drop low found) s.0)

    new-length : length (drop (length found) found') ≡ length found' - length found
    new-length = length-drop (length found) found'

    same : length found' - length found ≡ 0 → found' ≡ found
    same z = sym (take_all (length found) found' (omega (arith, z))) ∙ front

    stop : length found' - length found ≡ 0 → Reached n arrows start found' sizes
    stop z =
        let f = same z in
        let r = sym (append-nil (split sizes found))
        ∙ ap (λ (r : List (List ℕ)). split sizes found ++ r)
        (sym (after_none n arrows found (drop low found) found' e left (new-length ∙ z))) ∙ s.4 in
        subst (λ (x : List ℕ). Reached n arrows start x sizes) (sym f) (s.0, s.1, s.2, r)

    step : (length found' - length found ≡ 0 → ⊥) → 0 < left
        → Searching found' (sizes ++ ((length found' - length found) ∷ [])) (length found) (left - 1)
    step z l =
        let k = length found' - length found in (
          search_fair,
          omega (arith, length-append sizes (k ∷ []), s.1, z, search_grown),
          sum_snoc sizes k ∙ omega (arith, s.2, search_grown),
          search_grown,
          ap (λ (x : List (List ℕ)). x ++ rest') (split_snoc sizes k found'
              ∙ ap₂ (λ (x : List (List ℕ)) (y : List ℕ). x ++ (y ∷ [])) before last)
              ∙ append_assoc (split sizes found) (drop (length found) found' ∷ []) rest'
              ∙ ap (λ (x : List (List ℕ)). split sizes found ++ x)
              (sym (after_more n arrows found (drop low found) found' e left l (λ h. z (sym new-length ∙ h))))
              ∙ s.4,
        )
      where
        rest' : List (List ℕ)
        rest' = columns_after n arrows (left - 1) found' (drop (length found) found')

        before : split sizes found' ≡ split sizes found
        before = sym (split-take sizes (length found) found' (omega (arith, s.2))) ∙ ap (split sizes) front

        last : take (length found' - length found) (drop (sum_all sizes) found') ≡ drop (length found) found'
        last = ap (λ (j : ℕ). take (length found' - length found) (drop j found')) s.2
            ∙ take_all (length found' - length found) (drop (length found) found') (omega (arith, new-length))

    -- by what the code reads of both
    module _ (high more : ℕ) (f : high ≡ length found) (g : more ≡ length found') where
      less : more - high ≡ length found' - length found
      less = ap₂ ◌-◌ g f

      pub search_stop : more - high ≡ 0 → Reached n arrows start found' sizes
      search_stop z = stop (sym less ∙ z)

      pub search_step : (sizes' : List ℕ) (i : ℕ) → left ≡ n - i → i < n → (more - high ≡ 0 → ⊥)
          → sizes' ≡ sizes ++ ((more - high) ∷ []) → Searching found' sizes' high (n - (i + 1))
      search_step sizes' i l h z e =
          let next : left - 1 ≡ n - (i + 1) = omega (arith, l, h) in
          subst (λ (k : ℕ). Searching found' sizes' high k) next
          (subst (λ (k : ℕ). Searching found' sizes' k (left - 1)) (sym f)
          (subst (λ (x : List ℕ). Searching found' x (length found) (left - 1)) (sym (e ∙ ap (λ (k : ℕ). sizes ++ (k ∷ [])) less))
          (step (λ h. z (less ∙ h)) (omega (arith, l, h)))))

  pub search_all : (found sizes : List ℕ) (low left : ℕ) → Searching found sizes low left → left ≤ 0 → Reached n arrows start found sizes
  search_all found sizes low left s z = (
    s.0,
    s.1,
    s.2,
    sym (append-nil (split sizes found))
        ∙ ap (λ (r : List (List ℕ)). split sizes found ++ r) (sym (after-end n arrows left found (drop low found) z)) ∙ s.4,
  )

  -- ---- with the states that are not reached
  module _ (found all sizes : List ℕ) (r : Reached n arrows start found sizes) (e : all ≡ found ++ unreached n found) where
    pub all-length : length all ≡ n
    all-length = ap length e ∙ length-append found (unreached n found) ∙ r.0

    found_is : concat (reached n arrows start) ≡ found
    unfolding concat
    found_is = ap concat (sym r.3) ∙ flat_split sizes found ∙ take_all (sum_all sizes) found (omega (arith, r.2))

    columns_are : columns n arrows start ≡ split sizes found ++ last_column (unreached n found)
    unfolding columns
    columns_are = ap₂ (λ (a : List (List ℕ)) (b : List ℕ). a ++ last_column (unreached n b)) (sym r.3) found_is

    split-first : split sizes all ≡ split sizes found
    split-first = ap (split sizes) e ∙ split_front sizes found (unreached n found) (omega (arith, r.2))

    rest-length : length (unreached n found) ≡ n - length found
    rest-length = omega (arith, r.0)

    no_rest : n ≤ length found → (sum_all sizes ≡ length all) × (split sizes all ≡ columns n arrows start)
    no_rest h = (
      omega (arith, r.2, all-length, r.0),
      split-first ∙ sym (append-nil (split sizes found))
          ∙ ap (λ (c : List (List ℕ)). split sizes found ++ c) (sym (no_column (unreached n found) (omega (arith, rest-length))))
          ∙ sym columns_are,
    )
      where
        no_column : (u : List ℕ) → length u ≡ 0 → last_column u ≡ []
        no_column [] h = refl
        no_column (v ∷ u) h = absurd (omega arith)

    rest : length found < n → (sum_all (sizes ++ ((n - length found) ∷ [])) ≡ length all)
        × (split (sizes ++ ((n - length found) ∷ [])) all ≡ columns n arrows start)
    rest h = (
      sum_snoc sizes (n - length found) ∙ omega (arith, r.2, all-length, h),
      split_snoc sizes (n - length found) all
          ∙ ap₂ (λ (x : List (List ℕ)) (y : List (List ℕ)). x ++ y) split-first
          (ap (λ (x : List ℕ). x ∷ []) last ∙ sym (one_column (unreached n found) (omega (arith, rest-length, h))))
          ∙ sym columns_are,
    )
      where
        last : take (n - length found) (drop (sum_all sizes) all) ≡ unreached n found
        last =
            ap₂ (λ (j : ℕ) (x : List ℕ). take (n - length found) (drop j x)) r.2 e
            ∙ ap (take (n - length found)) (drop_at found (unreached n found) (length found) refl)
            ∙ take_all (n - length found) (unreached n found) (omega (arith, rest-length))

        one_column : (u : List ℕ) → 0 < length u → last_column u ≡ u ∷ []
        one_column [] h = absurd (not-suc-le-zero h)
        one_column (v ∷ u) h = refl

    -- by what the code reads of those reached
    module _ (seen : ℕ) (f : seen ≡ length found) where
      pub fill_none : n ≤ seen → split sizes all ≡ columns n arrows start
      fill_none h = (no_rest (omega (arith, f, h))).1

      module _ (sizes' : List ℕ) (h : seen < n) (g : sizes' ≡ sizes ++ ((n - seen) ∷ [])) where
        with_rest : (sum_all sizes' ≡ length all) × (split sizes' all ≡ columns n arrows start)
        with_rest =
            subst (λ (z : List ℕ). (sum_all z ≡ length all) × (split z all ≡ columns n arrows start))
            (sym (g ∙ ap (λ (l : ℕ). sizes ++ ((n - l) ∷ [])) f))
            (rest (omega (arith, f, h)))

        pub fill_long : sum_all sizes' ≡ length all
        fill_long = with_rest.0

        pub fill_more : split sizes' all ≡ columns n arrows start
        fill_more = with_rest.1

-- ---- a column of the columns that the code holds, read and stored as its part of the order
module _ (sizes order : List ℕ) (l : ℕ) (cs : List (List ℕ)) (v : split sizes order ≡ cs) (h : l < length cs) where
  pub inside : l < length sizes
  inside = omega (arith, h, ap length v, length-split sizes order)

  -- where it begins and how many states it has, as the code reads them
  module _ (a k : ℕ) (seen : List ℕ) (s : seen ≡ sizes) (fit : sum_all sizes ≤ length order) (e : a ≡ sum_all (take l seen))
      (f : k ≡ get_or seen l 0) where
    start_is : a ≡ sum_all (take l sizes)
    start_is = e ∙ ap (λ (x : List ℕ). sum_all (take l x)) s

    size_is : k ≡ get_or sizes l 0
    size_is = f ∙ ap (λ (x : List ℕ). get_or x l 0) s

    pub room_for : a + k ≤ length order
    room_for = omega (arith, start_is, size_is, sum_fits sizes l inside, fit)

    wide : a + k - a ≡ get_or sizes l 0
    wide = omega (arith, size_is)

    pub part_is : take (a + k - a) (drop a order) ≡ get_or cs l []
    part_is = ap₂ (λ (j b : ℕ). take j (drop b order)) wide start_is ∙ sym (split_at_column sizes l order inside)
        ∙ ap (λ (x : List (List ℕ)). get_or x l []) v

    pub column_long : k ≡ length (get_or cs l [])
    column_long = sym (part_length a (a + k - a) order (omega (arith, room_for)) ∙ omega arith) ∙ ap length part_is

    -- another column of its size in its place
    pub part_set : (d : List ℕ) → length d ≡ k → split sizes (take a order ++ (d ++ drop (a + k - a) (drop a order))) ≡ set cs l d
    part_set d g =
        ap₂ (λ (j b : ℕ). split sizes (take b order ++ (d ++ drop j (drop b order)))) wide start_is
        ∙ split-set sizes l order d inside (g ∙ size_is) (omega (arith, fit))
        ∙ ap (λ (x : List (List ℕ)). set x l d) v

-- ---- column after column, for the one that holds v
module _ (v : ℕ) (ks : List ℕ) (i a e : ℕ) (l : List ℕ) (h : i < length ks) (q : e ≡ a + get_or ks i 0) where
  pub holding_hit : elem v (take (e - a) (drop a l)) ≡ true → position_or_len (elem v) (split (drop i ks) (drop a l)) ≡ 0
  holding_hit t = ap (λ (c : List (List ℕ)). position_or_len (elem v) c) (split_step ks i a e l h q) ∙ rw t

  pub holding_miss : elem v (take (e - a) (drop a l)) ≡ false → position_or_len (elem v) (split (drop i ks) (drop a l)) ≡ 1 + position_or_len (elem v) (split (drop (i + 1) ks) (drop e l))
  holding_miss t = ap (λ (c : List (List ℕ)). position_or_len (elem v) c) (split_step ks i a e l h q) ∙ rw t

pub holding_none : (v : ℕ) (ks : List ℕ) (i : ℕ) (l : List ℕ) → length ks ≤ i → position_or_len (elem v) (split (drop i ks) l) ≡ 0
unfolding split
holding_none v ks i l h = rw (drop_of_length-le ks h)

-- ---- what the check is given for a function
pub ruleset following = (follow_yes, follow_no, fair_room, target_in)

pub ruleset visiting = (follows, follow_fair, over_next, over_last)

pub ruleset exploring = (visit_fair, over_front, over_grows, explore_step, explore_stop)

pub ruleset adding = (fair_room, discover_fair, rest_begin, rest_step, rest_end)

pub ruleset filling = (fill_none, fill_long, fill_more)

pub ruleset counting = (length-split)

pub ruleset reading = (inside, room_for, part_is)

pub ruleset storing = (inside, room_for, column_long, part_set)
