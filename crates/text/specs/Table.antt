-- The automaton agrees with the table: one test over every state and byte, and what follows for texts. Assumes nothing.
use Rattle.std.specs.Prelude.{◌≡◌, refl, Bool, true, false, ◌&&◌, List, [], ◌∷◌, ◌++◌, ℕ, zero, suc, ◌<◌, ◌≤◌, T, eqb, leb}
use Rattle.std.proofs.Common.{sym, ap, ap₂, ◌∙◌, subst, not-suc-le-zero, arith, eqb→eq, eqb-true, ne_eqb}
use Rattle.std.proofs.Math.Option.{none, some}
use Rattle.std.proofs.lemmas.Bool.{eqb-false, lt-leb}
use Rattle.laws.specs.Cases.{by_bool, by_lt}
use Rattle.laws.specs.Loops.{over, over_join}
use Rattle.text.specs.Utf8.{Range, to, Awaited, in_range, lookup, by_table, rows, well_formed, is_done}
use Rattle.text.specs.declared.Awaiting.{Awaiting}
use Rattle.text.specs.declared.Awaiting.TheVariants.{First, One, Two, Three, AfterE0, AfterEd, AfterF0, AfterF4, Nothing}
use Rattle.text.specs.Automaton.{awaiting_of, is_whole, next_within, feed_of, lead, feed_all}

-- what the automaton awaits, by the table
abbrev pub awaits : Awaiting → Awaited
awaits First = some []
awaits One = some (to 0x80 0xbf ∷ [])
awaits Two = some (to 0x80 0xbf ∷ to 0x80 0xbf ∷ [])
awaits Three = some (to 0x80 0xbf ∷ to 0x80 0xbf ∷ to 0x80 0xbf ∷ [])
awaits AfterE0 = some (to 0xa0 0xbf ∷ to 0x80 0xbf ∷ [])
awaits AfterEd = some (to 0x80 0x9f ∷ to 0x80 0xbf ∷ [])
awaits AfterF0 = some (to 0x90 0xbf ∷ to 0x80 0xbf ∷ to 0x80 0xbf ∷ [])
awaits AfterF4 = some (to 0x80 0x8f ∷ to 0x80 0xbf ∷ to 0x80 0xbf ∷ [])
awaits Nothing = none

-- ---- equal as a test
and_l : (a b : Bool) → T (a && b) → T a
and_l true b t = tt
and_l false b t = t

and_r : (a b : Bool) → T (a && b) → T b
and_r true b t = t
and_r false b t = absurd t

abbrev same_range : Range → Range → Bool
same_range r q = eqb r.lo q.lo && eqb r.hi q.hi

abbrev same_row : List Range → List Range → Bool
same_row [] [] = true
same_row [] (q ∷ qs) = false
same_row (r ∷ rs) [] = false
same_row (r ∷ rs) (q ∷ qs) = same_range r q && same_row rs qs

abbrev same : Awaited → Awaited → Bool
same none none = true
same none (some q) = false
same (some r) none = false
same (some r) (some q) = same_row r q

range_is : (r q : Range) → T (same_range r q) → r ≡ q
range_is r q t =
    let a = eqb→eq r.lo q.lo (and_l (eqb r.lo q.lo) (eqb r.hi q.hi) t) in
    let b = eqb→eq r.hi q.hi (and_r (eqb r.lo q.lo) (eqb r.hi q.hi) t) in
    ap₂ to a b

row_is : (r q : List Range) → T (same_row r q) → r ≡ q
row_is [] [] t = refl
row_is [] (q ∷ qs) t = absurd t
row_is (r ∷ rs) [] t = absurd t
row_is (r ∷ rs) (q ∷ qs) t = ap₂ (λ (x : Range) (y : List Range). x ∷ y) (range_is r q (and_l (same_range r q) (same_row rs qs) t)) (row_is rs qs (and_r (same_range r q) (same_row rs qs) t))

same_is : (r q : Awaited) → T (same r q) → r ≡ q
same_is none none t = refl
same_is none (some q) t = absurd t
same_is (some r) none t = absurd t
same_is (some r) (some q) t = ap some (row_is r q t)

-- ---- the test
-- f at each number below n
abbrev pub each_below : (ℕ → Bool) → ℕ → Bool
each_below f zero = true
each_below f (suc n) = f n && each_below f n

pub below_at : (f : ℕ → Bool) (n k : ℕ) → T (each_below f n) → k < n → T (f k)
below_at f zero k t h = absurd (not-suc-le-zero h)
below_at f (suc n) k t h = go (eqb k n) refl (λ l. below_at f n k (and_r (f n) (each_below f n) t) l)
  where
    go : (b : Bool) → eqb k n ≡ b → (k < n → T (f k)) → T (f k)
    go true e r = subst (λ (x : ℕ). T (f x)) (sym (eqb-true k n e)) (and_l (f n) (each_below f n) t)
    go false e r = let d : k ≡ n → ⊥ = eqb-false k n e in r (omega arith)

agrees : Awaiting → ℕ → Bool
unfolding feed_of lead
agrees w b = same (awaits (feed_of w b)) (by_table (awaits w) b)

all_agree : (w : Awaiting) → T (each_below (λ b. agrees w b) 256)
unfolding agrees feed_of lead
all_agree First = tt
all_agree One = tt
all_agree Two = tt
all_agree Three = tt
all_agree AfterE0 = tt
all_agree AfterEd = tt
all_agree AfterF0 = tt
all_agree AfterF4 = tt
all_agree Nothing = tt

-- ---- a number that is no byte is ill-formed
and_no : (a b : Bool) → b ≡ false → (a && b) ≡ false
and_no true b e = e
and_no false b e = refl

-- b is above the range
pub not_in : (b : ℕ) (r : Range) → r.hi < b → in_range b r ≡ false
not_in b r h = and_no (leb r.lo b) (leb b r.hi) (lt-leb b r.hi h)

no_lead : (b : ℕ) → 256 ≤ b → lookup b rows ≡ none
no_lead b h =
    rw (
      not_in b (to 0x00 0x7f) (omega arith),
      not_in b (to 0xc2 0xdf) (omega arith),
      not_in b (to 0xe0 0xe0) (omega arith),
      not_in b (to 0xe1 0xec) (omega arith),
      not_in b (to 0xed 0xed) (omega arith),
      not_in b (to 0xee 0xef) (omega arith),
      not_in b (to 0xf0 0xf0) (omega arith),
      not_in b (to 0xf1 0xf3) (omega arith),
      not_in b (to 0xf4 0xf4) (omega arith),
    )

-- none is awaited
high : (hi : ℕ) → hi < 256 → (b : ℕ) → 256 ≤ b → (lo : ℕ) (row : List Range) → by_table (some (to lo hi ∷ row)) b ≡ none
high hi l b h lo row = rw (not_in b (to lo hi) (omega arith))

all_high : (w : Awaiting) (b : ℕ) → 256 ≤ b → by_table (awaits w) b ≡ none
all_high First b h = no_lead b h
all_high One b h = high 0xbf (omega arith) b h 0x80 []
all_high Two b h = high 0xbf (omega arith) b h 0x80 (to 0x80 0xbf ∷ [])
all_high Three b h = high 0xbf (omega arith) b h 0x80 (to 0x80 0xbf ∷ to 0x80 0xbf ∷ [])
all_high AfterE0 b h = high 0xbf (omega arith) b h 0xa0 (to 0x80 0xbf ∷ [])
all_high AfterEd b h = high 0x9f (omega arith) b h 0x80 (to 0x80 0xbf ∷ [])
all_high AfterF0 b h = high 0xbf (omega arith) b h 0x90 (to 0x80 0xbf ∷ to 0x80 0xbf ∷ [])
all_high AfterF4 b h = high 0x8f (omega arith) b h 0x80 (to 0x80 0xbf ∷ to 0x80 0xbf ∷ [])
all_high Nothing b h = refl

out : (b lo hi : ℕ) (next : Awaiting) → hi < b → next_within b lo hi next ≡ Nothing
out b lo hi next h = by_bool (leb lo b) (λ e. rw (e, lt-leb b hi h)) (λ e. rw e)

pub feed_high : (w : Awaiting) (b : ℕ) → 256 ≤ b → feed_of w b ≡ Nothing
unfolding feed_of lead
feed_high First b h =
    rw (
      lt-leb b 0x7f (omega arith),
      lt-leb b 0xc1 (omega arith),
      lt-leb b 0xdf (omega arith),
      lt-leb b 0xe0 (omega arith),
      lt-leb b 0xec (omega arith),
      lt-leb b 0xed (omega arith),
      lt-leb b 0xef (omega arith),
      lt-leb b 0xf0 (omega arith),
      lt-leb b 0xf3 (omega arith),
      lt-leb b 0xf4 (omega arith),
    )
feed_high One b h = out b 0x80 0xbf First (omega arith)
feed_high Two b h = out b 0x80 0xbf One (omega arith)
feed_high Three b h = out b 0x80 0xbf Two (omega arith)
feed_high AfterE0 b h = out b 0xa0 0xbf One (omega arith)
feed_high AfterEd b h = out b 0x80 0x9f One (omega arith)
feed_high AfterF0 b h = out b 0x90 0xbf Two (omega arith)
feed_high AfterF4 b h = out b 0x80 0x8f Two (omega arith)
feed_high Nothing b h = refl

-- From 8 on a number stands for an ill-formed text,
pub nothing-over : (n : ℕ) → 8 ≤ n → awaiting_of n ≡ Nothing
nothing-over n h =
    rw (
      ne_eqb n 0 (λ e. omega arith),
      ne_eqb n 1 (λ e. omega arith),
      ne_eqb n 2 (λ e. omega arith),
      ne_eqb n 3 (λ e. omega arith),
      ne_eqb n 4 (λ e. omega arith),
      ne_eqb n 5 (λ e. omega arith),
      ne_eqb n 6 (λ e. omega arith),
      ne_eqb n 7 (λ e. omega arith),
    )

-- which stays ill-formed whatever comes,
pub feed-over : (n b : ℕ) → 8 ≤ n → feed_of (awaiting_of n) b ≡ Nothing
unfolding feed_of
feed-over n b h = rw (nothing-over n h)

-- and awaits nothing.
pub awaits-over : (n : ℕ) → 8 ≤ n → awaits (awaiting_of n) ≡ none
awaits-over n h = rw (nothing-over n h)

-- The automaton's step is the table's.
pub feed-table : (w : Awaiting) (b : ℕ) → awaits (feed_of w b) ≡ by_table (awaits w) b
unfolding agrees
feed-table w b =
    by_lt b 256
    (λ (k : b < 256). same_is (awaits (feed_of w b)) (by_table (awaits w) b) (below_at (λ b. agrees w b) 256 b (all_agree w) k))
    (λ (k : 256 ≤ b). ap awaits (feed_high w b k) ∙ sym (all_high w b k))

-- ---- texts
pub feed_all-table : (w : Awaiting) (s : List ℕ) → awaits (feed_all w s) ≡ over by_table (awaits w) s
unfolding over
feed_all-table w [] = refl
feed_all-table w (b ∷ s) = feed_all-table (feed_of w b) s ∙ ap (λ (r : Awaited). over by_table r s) (feed-table w b)

-- no byte is lacking
pub done_is : (w : Awaiting) → is_done (awaits w) ≡ is_whole w
unfolding is_whole
done_is First = refl
done_is One = refl
done_is Two = refl
done_is Three = refl
done_is AfterE0 = refl
done_is AfterEd = refl
done_is AfterF0 = refl
done_is AfterF4 = refl
done_is Nothing = refl

-- a text is well-formed exactly where it ends with a whole character
pub well_formed_is : (s : List ℕ) → well_formed s ≡ is_whole (feed_all First s)
well_formed_is s = ap is_done (sym (feed_all-table First s)) ∙ done_is (feed_all First s)

-- a text in two pieces is fed one piece after the other
pub feed_all_join : (w : Awaiting) (p q : List ℕ) → feed_all w (p ++ q) ≡ feed_all (feed_all w p) q
feed_all_join w p q = over_join feed_of w p q
