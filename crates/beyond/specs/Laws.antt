-- The refusal arrow by arrow, as the code looks for it, and at the centres that it looks at. Assumes nothing.
use Rattle.std.specs.Prelude.{◌≡◌, refl, Bool, true, false, not, ◌&&◌, ◌||◌, ℕ, suc, length}
use Rattle.std.specs.List.{list_any}
use Rattle.std.proofs.Common.{sym, ap, ap₂, ◌∙◌}
use mathlib.Core.List.{List, [], ◌∷◌}
use Rattle.laws.specs.Any.{any_of, any_filter}
use Rattle.shape.specs.declared.«V».{«V»}
use Rattle.routing.specs.Routing.{Frame, Ends, numbered, numbered_from, numbered_by, is_kept_in, is_loop, kept}
use Rattle.routing.specs.Sheets.{frame_with}
use Rattle.curves.specs.Counted.{counted, frame_from}
use Rattle.beyond.specs.Beyond.{is_beyond, beyond, ends_refused, is_refused}

-- among all arrows
pub beyond-each : (f : Frame) → any_of (is_refused f) (numbered f) ≡ beyond f
unfolding beyond kept
beyond-each f = sym (any_filter (is_beyond f) (λ a. not (is_loop a)) (kept f) ∙ any_filter (λ a. not (is_loop a) && is_beyond f a) (is_kept_in f) (numbered f))

both : (x y z : Bool) → (x && y) && z ≡ x && (y && z)
both true y z = refl
both false y z = refl

refused_one : (f : Frame) (n : ℕ) (e : Ends) → ends_refused f e ≡ is_refused f (numbered_by n e)
unfolding is_beyond
refused_one f n e = both (is_kept_in f (numbered_by n e)) (not (is_loop (numbered_by n e))) (is_beyond f (numbered_by n e))

refused_from : (f : Frame) (n : ℕ) (es : List Ends) → list_any (ends_refused f) es ≡ any_of (is_refused f) (numbered_from n es)
unfolding any_of numbered_from
refused_from f n [] = refl
refused_from f n (e ∷ es) = ap₂ (λ (x y : Bool). x || y) (refused_one f n e) (refused_from f (suc n) es)

pub some_is : (f : Frame) → list_any (ends_refused f) f.arrows ≡ beyond f
some_is f = refused_from f 0 f.arrows ∙ beyond-each f

-- ---- "Centres missing or not finite count as 0."

pub beyond-centred : (flags : List ℕ) (cs ns : List «V») (arrows : List Ends) (n : ℕ) → n ≡ length flags → ns ≡ counted cs n
    → beyond (frame_with flags ns arrows) ≡ beyond (frame_from flags cs arrows)
beyond-centred flags cs ns arrows n e g = ap (λ (l : List «V»). beyond (frame_with flags l arrows)) (g ∙ ap (counted cs) e)

-- of centres that are counted first
pub beyond_counted : (flags : List ℕ) (cs ns : List «V») (arrows : List Ends) (b : Bool) → ns ≡ counted cs (length flags)
    → b ≡ list_any (ends_refused (frame_with flags ns arrows)) arrows → b ≡ beyond (frame_from flags cs arrows)
beyond_counted flags cs ns arrows b e g = g ∙ some_is (frame_with flags ns arrows) ∙ beyond-centred flags cs ns arrows (length flags) refl e
