-- "`bend` gives 0.0 exactly when the reverse arrow is absent and no blocked interval has lo < 0 < hi": `straight_exactly`, for all floats
-- and any chord. That no bow between two states is NaN: `bend-number` of `Numbers`. Assumes nothing.
use Rattle.std.specs.Prelude.{◌≡◌, refl, Bool, true, false, not, ◌&&◌, List, ◌⊎◌, ◌+◌, ◌*◌, T, Float}
use Rattle.std.proofs.Common.{ap, ◌∙◌, subst, inr, ⊎_elim, arith, ne_eqb, ltb→lt}
use Rattle.std.proofs.Math.Logic.{inl}
use Rattle.std.specs.Float.{nan, inf, fin}
use Rattle.std.specs.Float.Ieee.{up, down, of_bits}
use Rattle.std.specs.Float.Ieee as Ieee
use Rattle.laws.specs.Cases.{by_bool}
use Rattle.float.specs.Ops.{◌⊕◌, ◌⊗◌, lt, eq, ne}
use Rattle.float.specs.Constants.{f0, f24, f28, f48, f64_0, f0_3}
use Rattle.float.specs.Standins.{clamp}
use Rattle.laws.specs.Nan.{is_nan_lem}
use Rattle.shape.specs.declared.«V».{«V»}
use Rattle.free.specs.declared.Chord.{Chord}
use Rattle.free.specs.declared.Span.{Span}
use Rattle.free.specs.declared.Search.TheVariants as Search
use Rattle.free.specs.Blocked.{blocked}
use Rattle.free.specs.Free.{inside_some, first_free}
use Rattle.free.specs.Moves.{ahead, free_keeps}
use Rattle.bend.specs.Choice.{none, more_of, verified_has}
use Rattle.bend.specs.Numbers.{Off, above_24, above_48, clamp_above, free_above, single_off}
use Rattle.bend.specs.Bend.{base, pair_up, pair_bow, single_bow, bend}

-- ---- numbers that are not zero

pub Apart : Float → Type 0
Apart h = eq h f0 ≡ false

above_apart : (h : Float) → T (lt f0 h) → Apart h
unfolding Apart of_bits Ieee.lt Ieee.eq
above_apart nan t = absurd t
above_apart (inf s) t = refl
above_apart (fin true m e) t = absurd t
above_apart (fin false m e) t =
    let k = ltb→lt (0 * 1 * down e) (m * up e * 1) t in
    let n : m * up e * 1 ≡ 0 * 1 * down e → ⊥ = λ z. omega arith in
    rw (ne_eqb (m * up e * 1) (0 * 1 * down e) n)

below_apart : (h : Float) → T (lt h f0) → Apart h
unfolding Apart of_bits Ieee.lt Ieee.eq
below_apart nan t = absurd t
below_apart (inf s) t = refl
below_apart (fin true m e) t =
    let k = ltb→lt 0 (m * up e * 1 + 0 * 1 * down e) t in
    let n : m * up e * 1 ≡ 0 * 1 * down e → ⊥ = λ z. omega arith in
    rw (ne_eqb (m * up e * 1) (0 * 1 * down e) n)
below_apart (fin false m e) t = let k = ltb→lt (m * up e * 1) (0 * 1 * down e) t in absurd (omega arith)

nan_apart : (h : Float) → h ≡ nan → Apart h
unfolding Apart Ieee.eq
nan_apart h e = rw e

off_apart : (h : Float) → Off h → Apart h
unfolding Off
off_apart h = ⊎_elim (above_apart h) (below_apart h)

-- ---- a two-way pair: above 0, or NaN with a chord whose length is NaN. That of two states is never NaN (`pair_above` of `Numbers`).

Up : Float → Type 0
Up h = T (lt f0 h) ⊎ (h ≡ nan)

up_apart : (h : Float) → Up h → Apart h
unfolding Up
up_apart h = ⊎_elim (above_apart h) (nan_apart h)

up_on : (f : Float → Float) → ((h : Float) → T (lt f0 h) → T (lt f0 (f h))) → f nan ≡ nan → (h : Float) → Up h → Up (f h)
unfolding Up
up_on f keeps n h = ⊎_elim (λ (t : T (lt f0 h)). inl (keeps h t)) (λ (e : h ≡ nan). inr (ap f e ∙ n))

base-up : (c : Chord) → Up (base c)
unfolding Up of_bits
base-up c = go (f0_3 ⊗ c.len)
  where
    go : (x : Float) → T (lt f0 (clamp x f28 f64_0)) ⊎ (clamp x f28 f64_0 ≡ nan)
    go x =
        by_bool (ne x x)
        (λ n. inr (ap (λ (y : Float). clamp y f28 f64_0) (is_nan_lem x n) ∙ unfold Ieee.lt in refl))
        (λ n. inl (clamp_above x n))

free_nan : (l : List Span) → first_free Search.Up l nan ≡ nan
unfolding ahead Ieee.lt
free_nan l = free_keeps Search.Up l (λ h. h ≡ nan) (λ h t e a. absurd (still t (subst (λ (x : Float). T (ahead Search.Up x t)) e a))) nan refl
  where
    still : (t : Float) → T (ahead Search.Up nan t) → ⊥
    still t a = unfold of_bits in a

pair_up_lem : (c : Chord) (l : List Span) → Up (pair_up c l)
pair_up_lem c l = up_on (first_free Search.Up l) (free_above l) (free_nan l) (base c) (base-up c)

-- ---- the theorem

-- an arrow drawn straight
abbrev pub is_zero : Float → Bool
is_zero h = eq h f0

pair_never : (c : Chord) (ps : List «V») (l : List Span) → is_zero (pair_bow c ps l) ≡ false
unfolding pair_bow Apart
pair_never c ps l =
    let u = pair_up_lem c l in
    let v = up_on (λ h. h ⊕ f24) above_24 (unfold Ieee.add in refl) (pair_up c l) u in
    let w = up_on (λ h. h ⊕ f48) above_48 (unfold Ieee.add in refl) (pair_up c l) u in
    up_apart _ (verified_has Up c ps (more_of u (more_of v (more_of w none))))

single_never : (c : Chord) (ps : List «V») (l : List Span) → eq (single_bow c ps l) f0 ≡ false
unfolding Apart
single_never c ps l = off_apart (single_bow c ps l) (single_off c ps l)

pub zero-zero : eq f0 f0 ≡ true
unfolding Ieee.eq of_bits
zero-zero = refl

-- The bow is 0 exactly when there is no reverse arrow and no blocked interval has lo < 0 < hi.
pub straight_exactly : (c : Chord) (ps : List «V») (bothWays : Bool)
    → is_zero (bend c ps bothWays) ≡ not bothWays && not (inside_some (blocked c ps) f0)
unfolding bend
straight_exactly c ps true = pair_never c ps (blocked c ps)
straight_exactly c ps false = by_bool (inside_some (blocked c ps) f0) (λ e. rw e (single_never c ps (blocked c ps))) (λ e. rw e zero-zero)
