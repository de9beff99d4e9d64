-- How many records there are, and that they are read back from the numbers written for them. Assumes nothing.
use Rattle.std.specs.Prelude.{◌≡◌, Bool, true, false, cond, ℕ, suc, ◌+◌, ◌*◌, ◌≤◌, ◌<◌, length, Float}
use Rattle.std.proofs.Common.{sym, subst, arith, eqb-true}
use mathlib.Core.List.{List, [], ◌∷◌, ◌++◌, flat_map}
use Rattle.laws.specs.Cases.{by_bool}
use Rattle.laws.specs.Filter.{filter_by, filter_yes, filter_no, filter_length}
use Rattle.laws.specs.Put.{put}
use Rattle.label_spots.specs.declared.Geometry.{Geometry}
use Rattle.records.specs.Records.{fields, decode_records}
use Rattle.records.specs.Back.{Small, decode_records_lem}
use Rattle.routing.specs.Routing.{Frame, Ends, BlockSize, numbered_from, numbered, is_kept_in, kept, drawing, drawn_for, records, numbered_by}
use Rattle.routing_laws.specs.Numbers.{length-numbered}
use Rattle.routing_laws.specs.Slots.{is_edge}
use Rattle.routing_laws.proofs.Slots.{records-each, records-length}

-- ---- how many

pub records_most : (f : Frame) (sizes : List BlockSize) → length (records f sizes) ≤ length f.arrows
unfolding kept
records_most f sizes = omega (arith, records-length f sizes, filter_length (is_kept_in f) (numbered f), length-numbered f)

-- ---- every record's number is below the number of arrows

small_join : (gs hs : List Geometry) → Small gs → Small hs → Small (gs ++ hs)
small_join [] hs a b = b
small_join (g ∷ gs) hs a b = (a.0, small_join gs hs a.1 b)

small_own : (k : ℕ) (gs : List Geometry) → k < 65536 → Small (filter_by (is_edge k) gs)
small_own k [] h = unfold filter_by in tt
small_own k (g ∷ gs) h =
    by_bool (is_edge k g)
    (λ t. subst Small (sym (filter_yes (is_edge k) g gs t)) (subst (λ (m : ℕ). m < 65536) (sym (eqb-true g.edge k t)) h, small_own k gs h))
    (λ t. subst Small (sym (filter_no (is_edge k) g gs t)) (small_own k gs h))

small_from : (f : Frame) (gs : List Geometry) (n : ℕ) (es : List Ends) → n + length es ≤ 65536 → Small (flat_map (λ a. cond (is_kept_in f a) (drawn_for gs a) []) (numbered_from n es))
unfolding flat_map numbered_from
small_from f gs n [] h = tt
small_from f gs n (e ∷ es) h =
    small_join (cond (is_kept_in f (numbered_by n e)) (filter_by (is_edge n) gs) []) _ (go (is_kept_in f (numbered_by n e))) (small_from f gs (suc n) es (omega arith))
  where
    go : (b : Bool) → Small (cond b (filter_by (is_edge n) gs) [])
    go true = small_own n gs (omega arith)
    go false = tt

pub records-small : (f : Frame) (sizes : List BlockSize) → length f.arrows ≤ 65536 → Small (records f sizes)
records-small f sizes h = subst Small (sym (records-each f sizes)) (small_from f (drawing f sizes) 0 f.arrows (omega arith))

-- the records are read back, and the record of each arrow among them
pub records_decoded : (f : Frame) (sizes : List BlockSize) (l : List Float) → length f.arrows ≤ 65536 → 20 * length (records f sizes) ≤ length l
    → decode_records (length (records f sizes)) (put l 0 (flat_map fields (records f sizes))) ≡ records f sizes
records_decoded f sizes l n room = decode_records_lem l (records f sizes) room (records-small f sizes n)
