-- Arrows by their numbers: each number stands for one arrow. Assumes nothing.
use Rattle.std.specs.Prelude.{◌≡◌, Bool, ℕ, zero, suc, ◌+◌, ◌≤◌, ◌<◌, eqb, length, get_or, drop}
use Rattle.std.proofs.Math.Path.{refl}
use Rattle.std.proofs.Common.{sym, ap, ap₂, ◌∙◌, subst, add-zero, add-suc, suc-add, not-suc-le-zero, zero-add, add-one, arith, ne_eqb, eq-eqb, drop_of_length-le, drop-cons}
use mathlib.Core.List.{List, [], ◌∷◌, ◌++◌, flat_map}
use Rattle.laws.specs.Filter.{filter_by, filter_yes, filter_no}
use Rattle.routing.specs.Routing.{Frame, Ends, Numbered, numbered_from, numbered, numbered_at, numbered_by, no_ends}

abbrev pub is_number : ℕ → Numbered → Bool
is_number k a = eqb a.edge k

-- ---- the arrow of a number

none_before : (n m : ℕ) (es : List Ends) → m < n → filter_by (is_number m) (numbered_from n es) ≡ []
unfolding numbered_from
none_before n m [] h = unfold filter_by in refl
none_before n m (e ∷ es) h =
    filter_no (is_number m) (numbered_by n e) (numbered_from (suc n) es) (ne_eqb n m (λ q. absurd (omega arith)))
    ∙ none_before (suc n) m es (omega arith)

one_from : (n k : ℕ) (es : List Ends) → k < length es → filter_by (is_number (n + k)) (numbered_from n es) ≡ numbered_by (n + k) (get_or es k no_ends) ∷ []
unfolding numbered_from
one_from n k [] h = absurd (not-suc-le-zero h)
one_from n zero (e ∷ es) h =
    rw (add-zero n)
    (filter_yes (is_number n) (numbered_by n e) (numbered_from (suc n) es) (eq-eqb n n refl)
    ∙ ap (λ (l : List Numbered). numbered_by n e ∷ l) (none_before (suc n) n es (omega arith)))
one_from n (suc k) (e ∷ es) h =
    let q : n + suc k ≡ suc n + k = omega arith in
    filter_no (is_number (n + suc k)) (numbered_by n e) (numbered_from (suc n) es) (ne_eqb n (n + suc k) (λ q. absurd (omega arith)))
    ∙ rw q (one_from (suc n) k es (omega arith))

pub number_one : (f : Frame) (k : ℕ) → k < length f.arrows → filter_by (is_number k) (numbered f) ≡ numbered_at f k ∷ []
number_one f k h = rw (zero-add) at (one_from 0 k f.arrows h)

none_after : (n m : ℕ) (es : List Ends) → n + length es ≤ m → filter_by (is_number m) (numbered_from n es) ≡ []
unfolding numbered_from
none_after n m [] h = unfold filter_by in refl
none_after n m (e ∷ es) h =
    filter_no (is_number m) (numbered_by n e) (numbered_from (suc n) es) (ne_eqb n m (λ q. absurd (omega arith)))
    ∙ none_after (suc n) m es (omega arith)

pub number_none : (f : Frame) (k : ℕ) → length f.arrows ≤ k → filter_by (is_number k) (numbered f) ≡ []
number_none f k h = none_after 0 k f.arrows (omega arith)

-- ---- two ways that agree on every arrow agree on all

flat_from : {B : Type 0} (g h : Numbered → List B) (n : ℕ) (es : List Ends)
    → ((k : ℕ) → k < length es → g (numbered_by (n + k) (get_or es k no_ends)) ≡ h (numbered_by (n + k) (get_or es k no_ends)))
    → flat_map g (numbered_from n es) ≡ flat_map h (numbered_from n es)
unfolding flat_map numbered_from
flat_from g h n [] a = refl
flat_from {B} g h n (e ∷ es) a =
    ap₂ (λ (x y : List B). x ++ y)
    (subst (λ (m : ℕ). g (numbered_by m e) ≡ h (numbered_by m e)) (add-zero n) (a 0 (omega arith)))
    (flat_from g h (suc n) es
    (λ k l.
    let q : n + suc k ≡ suc n + k = omega arith in
    subst (λ (m : ℕ). g (numbered_by m (get_or es k no_ends)) ≡ h (numbered_by m (get_or es k no_ends))) q (a (suc k) (omega arith))))

pub flat_numbered : {B : Type 0} (g h : Numbered → List B) (f : Frame)
    → ((k : ℕ) → k < length f.arrows → g (numbered_at f k) ≡ h (numbered_at f k)) → flat_map g (numbered f) ≡ flat_map h (numbered f)
flat_numbered g h f a =
    flat_from g h 0 f.arrows
    (λ k l. subst (λ (m : ℕ). g (numbered_by m (get_or f.arrows k no_ends)) ≡ h (numbered_by m (get_or f.arrows k no_ends))) (sym (zero-add k)) (a k l))

-- ---- the arrows as a list, by their numbers

length_from : (k : ℕ) (es : List Ends) → length (numbered_from k es) ≡ length es
unfolding numbered_from
length_from k [] = refl
length_from k (e ∷ es) = ap suc (length_from (suc k) es)

pub length-numbered : (f : Frame) → length (numbered f) ≡ length f.arrows
length-numbered f = length_from 0 f.arrows

at_from : (k : ℕ) (es : List Ends) (i : ℕ) (d : Numbered) → i < length es → get_or (numbered_from k es) i d ≡ numbered_by (k + i) (get_or es i no_ends)
unfolding numbered_from
at_from k [] i d h = absurd (omega arith)
at_from k (e ∷ es) zero d h = rw add-zero
at_from k (e ∷ es) (suc i) d h = at_from (suc k) es i d (omega arith) ∙ ap (λ (j : ℕ). numbered_by j (get_or es i no_ends)) (suc-add k i ∙ sym (add-suc k i))

-- arrow i, and those from i on
pub numbered-at : (f : Frame) (i : ℕ) (d : Numbered) → i < length f.arrows → get_or (numbered f) i d ≡ numbered_at f i
numbered-at f i d h = at_from 0 f.arrows i d h ∙ ap (λ (j : ℕ). numbered_by j (get_or f.arrows i no_ends)) (zero-add i)

pub numbered-drop : (f : Frame) (i : ℕ) → i < length f.arrows → drop i (numbered f) ≡ numbered_at f i ∷ drop (i + 1) (numbered f)
numbered-drop f i h =
    let k : i < length (numbered f) = omega (arith, length-numbered f) in
    rw (add-one, drop-cons (numbered f) i (numbered_at f i), numbered-at f i (numbered_at f i) h)

pub numbered-past : (f : Frame) (i : ℕ) → length f.arrows ≤ i → drop i (numbered f) ≡ []
numbered-past f i h = let k : length (numbered f) ≤ i = omega (arith, length-numbered f) in drop_of_length-le (numbered f) k
