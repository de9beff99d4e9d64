-- The automaton's values are the table's code points. Assumes nothing.
use Rattle.std.specs.Prelude.{◌≡◌, Bool, true, false, cond, ℕ, ◌+◌, ◌*◌, ◌%◌, ◌<◌, ◌≤◌, T, leb, ltb}
use Rattle.std.proofs.Math.Path.{refl, sym}
use Rattle.std.proofs.Common.{ap, ◌∙◌, subst, arith, ltb→lt, le-ltb}
use mathlib.Core.List.{List, [], ◌∷◌}
use Rattle.std.proofs.Math.Option.{none, some}
use Rattle.laws.specs.Cases.{by_bool, by_lt}
use Rattle.laws.specs.Loops.{over}
use Rattle.text.specs.Utf8.{Awaited, by_table, is_done, payload, gathered_code, codes_from, code_points}
use Rattle.text.specs.declared.Awaiting.{Awaiting}
use Rattle.text.specs.declared.Awaiting.TheVariants.{First, One, Two, Three, AfterE0, AfterEd, AfterF0, AfterF4, Nothing}
use Rattle.text.specs.Automaton.{awaiting_of, is_whole, next_within, lead, feed_of, gather_of, read_by}
use Rattle.text.specs.Table.{awaits, each_below, below_at, feed_high, nothing-over, feed-table, done_is}

-- what the value is below: the bits gathered, and all 21 where nothing is known
abbrev limit : Awaiting → ℕ
limit First = 2097152
limit One = 32768
limit Two = 512
limit Three = 8
limit AfterE0 = 512
limit AfterEd = 512
limit AfterF0 = 8
limit AfterF4 = 8
limit Nothing = 2097152

all_first : T (each_below (λ b. ltb (payload b) (limit (lead b))) 256)
unfolding payload lead
all_first = tt

first_high : (b : ℕ) → 256 ≤ b → payload b < 8
unfolding payload
first_high b h = rw (le-ltb b 0x80 (omega arith), le-ltb b 0xe0 (omega arith), le-ltb b 0xf0 (omega arith)) (omega arith)

lead-high : (b : ℕ) → 256 ≤ b → lead b ≡ Nothing
unfolding feed_of
lead-high b k = feed_high First b k

first_small : (b : ℕ) → payload b < limit (lead b)
first_small b =
    by_lt b 256
    (λ (k : b < 256). ltb→lt (payload b) (limit (lead b)) (below_at (λ b. ltb (payload b) (limit (lead b))) 256 b all_first k))
    (λ (k : 256 ≤ b). subst (λ (w : Awaiting). payload b < limit w) (sym (lead-high b k)) (omega (arith, first_high b k)))

-- a later byte: next is awaited or nothing, and the limit there is n or all
later : (b lo hi : ℕ) (next : Awaiting) (n m : ℕ) → limit next ≡ n → m < n → n ≤ 2097152 → m < limit (next_within b lo hi next)
later b lo hi next n m e h k =
    by_bool (leb lo b)
    (λ p. by_bool (leb b hi) (λ q. rw (p, q, e) h) (λ q. rw (p, q) (omega arith)))
    (λ p. rw p (omega arith))

-- the value keeps below the limit
keeps : (w : Awaiting) (v b : ℕ) → v < limit w → gather_of w v b < limit (feed_of w b)
unfolding feed_of gather_of is_whole
keeps First v b h = first_small b
keeps One v b h = later b 0x80 0xbf First 2097152 (64 * (v % 32768) + b % 64) refl (omega arith) (omega arith)
keeps Two v b h = later b 0x80 0xbf One 32768 (64 * (v % 32768) + b % 64) refl (omega arith) (omega arith)
keeps Three v b h = later b 0x80 0xbf Two 512 (64 * (v % 32768) + b % 64) refl (omega arith) (omega arith)
keeps AfterE0 v b h = later b 0xa0 0xbf One 32768 (64 * (v % 32768) + b % 64) refl (omega arith) (omega arith)
keeps AfterEd v b h = later b 0x80 0x9f One 32768 (64 * (v % 32768) + b % 64) refl (omega arith) (omega arith)
keeps AfterF0 v b h = later b 0x90 0xbf Two 512 (64 * (v % 32768) + b % 64) refl (omega arith) (omega arith)
keeps AfterF4 v b h = later b 0x80 0x8f Two 512 (64 * (v % 32768) + b % 64) refl (omega arith) (omega arith)
keeps Nothing v b h = omega arith

-- and loses no bit
kept : (v b : ℕ) → v < 32768 → 64 * v + b % 64 ≡ 64 * (v % 32768) + b % 64
kept v b h = omega arith

-- something is awaited
abbrev is_some : Awaited → Bool
is_some none = false
is_some (some row) = true

gather-table : (w : Awaiting) (v b : ℕ) → T (is_some (awaits w)) → v < limit w → gather_of w v b ≡ gathered_code (awaits w) v b
unfolding gather_of is_whole
gather-table First v b k h = refl
gather-table One v b k h = sym (kept v b h)
gather-table Two v b k h = sym (kept v b (omega arith))
gather-table Three v b k h = sym (kept v b (omega arith))
gather-table AfterE0 v b k h = sym (kept v b (omega arith))
gather-table AfterEd v b k h = sym (kept v b (omega arith))
gather-table AfterF0 v b k h = sym (kept v b (omega arith))
gather-table AfterF4 v b k h = sym (kept v b (omega arith))
gather-table Nothing v b k h = absurd k

-- after an ill-formed byte there is no code point more
codes_none : (v : ℕ) (s : List ℕ) → codes_from none v s ≡ []
unfolding codes_from
codes_none v [] = refl
codes_none v (b ∷ s) = codes_none v s

by_nothing : {B : Type 0} (w : Awaiting) → (w ≡ Nothing → B) → (T (is_some (awaits w)) → B) → B
by_nothing First p q = q tt
by_nothing One p q = q tt
by_nothing Two p q = q tt
by_nothing Three p q = q tt
by_nothing AfterE0 p q = q tt
by_nothing AfterEd p q = q tt
by_nothing AfterF0 p q = q tt
by_nothing AfterF4 p q = q tt
by_nothing Nothing p q = p refl

module _ {A : Type 0} (f : A → ℕ → A) where
  read_nothing : (v : ℕ) (a : A) (s : List ℕ) → read_by f Nothing v a s ≡ a
  unfolding read_by feed_of is_whole
  read_nothing v a [] = refl
  read_nothing v a (b ∷ s) = read_nothing (gather_of Nothing v b) a s

  -- from a number that stands for an ill-formed text
  pub read_none : (n v : ℕ) (a : A) (s : List ℕ) → 8 ≤ n → read_by f (awaiting_of n) v a s ≡ a
  read_none n v a s h = rw (nothing-over n h) (read_nothing v a s)

  -- one byte, by the table
  codes_over : (w : Awaited) (v : ℕ) (a : A) (b : ℕ) (s : List ℕ) → over f a (codes_from w v (b ∷ s)) ≡ over f (cond (is_done (by_table w b)) (f a (gathered_code w v b)) a) (codes_from (by_table w b) (gathered_code w v b) s)
  unfolding codes_from over
  codes_over w v a b s = by_bool (is_done (by_table w b)) (λ t. rw t) (λ t. rw t)

  read_from : (s : List ℕ) (w : Awaiting) (v : ℕ) (a : A) → v < limit w → read_by f w v a s ≡ over f a (codes_from (awaits w) v s)
  read_from [] w v a h = unfold read_by over codes_from in refl
  read_from (b ∷ s) w v a h =
      by_nothing w
      (λ k. rw k (read_nothing v a (b ∷ s) ∙ sym (ap (over f a) (codes_none v (b ∷ s)) ∙ over-nil a)))
      (λ k.
      let e = gather-table w v b k h in
      read_step w v a b s
      ∙ read_from s (feed_of w b) (gather_of w v b) (cond (is_whole (feed_of w b)) (f a (gather_of w v b)) a) (keeps w v b h)
      ∙ rw (← (done_is (feed_of w b)), feed-table w b, e) (sym (codes_over (awaits w) v a b s)))
    where
      over-nil : (a : A) → over f a [] ≡ a
      over-nil a = unfold over in refl

      read_step : (w : Awaiting) (v : ℕ) (a : A) (b : ℕ) (s : List ℕ) → read_by f w v a (b ∷ s) ≡ read_by f (feed_of w b) (gather_of w v b) (cond (is_whole (feed_of w b)) (f a (gather_of w v b)) a) s
      read_step w v a b s = unfold read_by in refl

  -- A fold over the code points of a text can be run a byte at a time.
  pub read_codes : (a : A) (s : List ℕ) → read_by f First 0 a s ≡ over f a (code_points s)
  read_codes a s = read_from s First 0 a (omega arith)
