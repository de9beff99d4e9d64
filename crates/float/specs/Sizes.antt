-- A rounded size with either sign: the order of such sizes. Assumes nothing.
use Rattle.std.specs.Prelude.{◌≡◌, refl, Bool, true, false, ◌&&◌, ◌||◌, ℕ, zero, suc, ◌+◌, ◌*◌, ◌^◌, ◌≤◌, ◌<◌, T, eqb, ltb, ℤ, Float}
use Rattle.std.proofs.Common.{arith, ltb-true, le-ltb, eqb-true}
use Rattle.std.specs.Float.{inf, fin, binary64}
use Rattle.std.specs.Float.Ieee.{prec, emax, low, up, down, round, units, odd}
use Rattle.std.specs.Float.Ieee as Ieee
use Rattle.std.specs.Float.Ieee.Fits.{round_is}
use Rattle.laws.specs.Cases.{by_bool}
use Rattle.laws.specs.Between.{self_num, self_inf}
use Rattle.float.specs.Ops.{lt, le, ne}
use Rattle.float.specs.Standins.{negative}

-- the first is the size, the second the same with the other sign
pub data Form : Float → Float → Type 0 where
  endless : Form (inf false) (inf true)
  finite : {m : ℕ} {e : ℤ} → Form (fin false m e) (fin true m e)

odd_form : (d q k l : ℕ) → Form (odd d false q k l) (odd d true q k l)
unfolding odd
odd_form d zero k l = finite
odd_form d (suc q) k l = finite

units_form : (q k : ℕ) → Form (units binary64 false q k) (units binary64 true q k)
unfolding units
units_form q k =
    by_bool (ltb (q * 2 ^ k) (2 ^ (low binary64 + suc (emax binary64)))) (λ e. rw e (odd_form (suc (prec binary64)) q k (low binary64))) (λ e. rw e endless)

pub round_form : (a c : ℕ) → Form (round binary64 false a c) (round binary64 true a c)
round_form a c = rw (round_is binary64 false a c, round_is binary64 true a c) (units_form _ _)

at_most : (a b : ℕ) (x : Bool) → T (ltb a b || (eqb a b && x)) → a ≤ b
at_most a b x t =
    by_bool (ltb a b) (λ e. let h : a < b = ltb-true a b e in omega arith)
    (λ e. by_bool (eqb a b) (λ f. let h : a ≡ b = eqb-true a b f in omega arith) (λ f. absurd (rw (e, f) at t)))

-- sizes in order: the positive ones are, the negative ones the other way round
pub sizes-ordered : {u u' v v' : Float} → Form u u' → Form v v' → T (le u v) → (lt v u ≡ false) × (lt u' v' ≡ false)
unfolding Ieee.le Ieee.lt Ieee.eq
sizes-ordered endless endless t = (refl, refl)
sizes-ordered endless finite t = absurd t
sizes-ordered finite endless t = (refl, refl)
sizes-ordered (finite {m} {e}) (finite {m = n} {e = d}) t =
    let h = at_most (m * up e * down d) (n * up d * down e) true t in
    (le-ltb (n * up d * down e) (m * up e * down d) h, le-ltb (n * up d * down e) (m * up e * down d) h)

-- a positive one is not below a negative one
pub signs_apart : {u u' v v' : Float} → Form u u' → Form v v' → lt u v' ≡ false
unfolding Ieee.lt
signs_apart endless endless = refl
signs_apart endless finite = refl
signs_apart finite endless = refl
signs_apart finite finite = refl

pub equals_itself : {u u' : Float} → Form u u' → (ne u u ≡ false) × (ne u' u' ≡ false)
equals_itself endless = (self_inf false, self_inf true)
equals_itself (finite {m} {e}) = (self_num false m e, self_num true m e)

pub form_unsigned : {u u' : Float} → Form u u' → negative u ≡ false
form_unsigned endless = refl
form_unsigned finite = refl
