-- The calls by the definitions of the crates below. Assumes nothing.
use Rattle.std.specs.Prelude.{◌≡◌, refl, List, ℕ, ◌≤◌, length, Float}
use Rattle.std.proofs.Common.{◌∙◌, arith, min, lt-ltb, le-ltb, le-leb}
use Rattle.std.proofs.lemmas.Bool.{lt-leb}
use Rattle.laws.specs.Cases.{by_bool, by_lt}
use Rattle.laws.specs.Refusals.{decide, Clear}
use Rattle.sheet.specs.Sheet.{meaning}
use Rattle.sheet.specs.Refusals.{AtMost, refusals, check_of}
use Rattle.sheet.specs.Order.{accepted_exactly}
use Rattle.sheet.specs.Accepted.{OnMainScreen, on_main_screen}
use Rattle.sheet.specs.Over.{clear_higher}
use Rattle.sheet.specs.declared.Limits.{Limits}
use Rattle.label.specs.Label.{sized}
use Rattle.number.specs.Number.{too_large, num_text, written, written_after}
use Rattle.calls.specs.Calls.{main_screen, smaller, capped_limits, check, label_size, write_num, write_num_after}

-- ---- the limits that count

min_smaller : (a b : ℕ) → min a b ≡ smaller a b
min_smaller a b = by_lt b a (λ h. rw (lt-ltb b a h) (omega arith)) (λ h. rw (le-ltb b a h) (omega arith))

smaller_most : (a b : ℕ) → smaller a b ≤ b
smaller_most a b = by_lt b a (λ h. rw (lt-ltb b a h) (omega arith)) (λ h. rw (le-ltb b a h) h)

smaller-below : (a b : ℕ) → smaller a b ≤ a
smaller-below a b = by_lt b a (λ h. rw (lt-ltb b a h) (omega arith)) (λ h. rw (le-ltb b a h) (omega arith))

smaller-largest : (a b k : ℕ) → k ≤ a → k ≤ b → k ≤ smaller a b
smaller-largest a b k h i = by_lt b a (λ l. rw (lt-ltb b a l) i) (λ l. rw (le-ltb b a l) h)

-- No limit that counts is above the main screen's, nor above the one that is given,
pub capped_most : (m : Limits) → AtMost (capped_limits m) main_screen
unfolding capped_limits
capped_most m = record { states = smaller_most m.states 64; arrows = smaller_most m.arrows 256; lines = smaller_most m.lines 8 }

pub capped-below : (m : Limits) → AtMost (capped_limits m) m
unfolding capped_limits
capped-below m = record { states = smaller-below m.states 64; arrows = smaller-below m.arrows 256; lines = smaller-below m.lines 8 }

-- and each is the largest such.
pub capped-largest : (l m : Limits) → AtMost l m → AtMost l main_screen → AtMost l (capped_limits m)
unfolding capped_limits
capped-largest l m a b = record {
  states = smaller-largest m.states 64 l.states a.states b.states;
  arrows = smaller-largest m.arrows 256 l.arrows a.arrows b.arrows;
  lines = smaller-largest m.lines 8 l.lines a.lines b.lines;
}

-- worked out limit by limit
pub capped_by : (m main : Limits) {a b c : ℕ} → main ≡ main_screen → a ≡ min m.states main.states → b ≡ min m.arrows main.arrows
    → c ≡ min m.lines main.lines → (record { states = a; arrows = b; lines = c } ≡ capped_limits m) × (a ≤ 64) × (b ≤ 256)
unfolding capped_limits
capped_by m main {a} {b} {c} e p q r =
    let p' : a ≡ min m.states 64 = rw e at p in
    let q' : b ≡ min m.arrows 256 = rw e at q in
    let r' : c ≡ min m.lines 8 = rw e at r in
    (rw (p' ∙ min_smaller m.states 64, q' ∙ min_smaller m.arrows 256, r' ∙ min_smaller m.lines 8), omega (arith, p'), omega (arith, q'))

-- what is accepted under limits that count, is within the main screen's
pub accepted_shown : (m : Limits) (s : List ℕ) → Clear (refusals (capped_limits m) s) → OnMainScreen (meaning s)
accepted_shown m s c = on_main_screen (capped_limits m) s (capped_most m) ((accepted_exactly (capped_limits m) s).1 c)

-- A sheet that limits accept which are at most the given and the main screen's, is accepted under the given.
pub clear-capped : (l m : Limits) (s : List ℕ) → AtMost l m → AtMost l main_screen → Clear (refusals l s) → Clear (refusals (capped_limits m) s)
clear-capped l m s a b c = clear_higher l (capped_limits m) s (capped-largest l m a b) c

-- ---- the calls

pub check_is_lem : (s : List ℕ) (m : Limits) {k : Limits} → k ≡ capped_limits m → check_of k s ≡ check s m
unfolding check_of check
check_is_lem s m {k} e = rw e refl

pub label_is : (text lengths : List ℕ) (m : Limits) {k : Limits} → k ≡ capped_limits m → sized k text lengths ≡ label_size text lengths m
unfolding sized label_size
label_is text lengths m {k} e = rw e refl

pub num_is : (v : Float) (out : List ℕ) → (written v (length out) ≡ write_num v out) × (written_after v out ≡ write_num_after v out)
unfolding written written_after write_num write_num_after decide
num_is v out =
    by_bool (too_large v)
    (λ t. (rw t, rw t))
    (λ t. by_lt (length out) (length (num_text v))
    (λ h. (rw (t, lt-ltb _ _ h, lt-leb _ _ h), rw (t, lt-ltb _ _ h, lt-leb _ _ h)))
    (λ h. (rw (t, le-ltb _ _ h, le-leb _ _ h), rw (t, le-ltb _ _ h, le-leb _ _ h))))
