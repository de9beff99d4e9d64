-- What is written is read back: a record, records one after another. Assumes nothing.
use Rattle.std.specs.Prelude.{◌≡◌, ℕ, ◌*◌, ◌<◌, ◌≤◌, List, [], ◌∷◌, ◌++◌, length, refl, Float}
use Rattle.std.proofs.Common.{ap, ◌∙◌, arith}
use mathlib.Core.List.{flat_map}
use Rattle.std.specs.Float.Ieee.{of_bits}
use Rattle.std.specs.Float.Ieee as Ieee
use Rattle.laws.specs.Put.{put}
use Rattle.shape.specs.declared.Curve.{Curve}
use Rattle.shape.specs.declared.Curve.TheVariants.{Line, Quad, Cubic}
use Rattle.records.specs.Whole.{whole_back}
use Rattle.label_spots.specs.declared.Anchor.{Anchor}
use Rattle.label_spots.specs.declared.Anchor.TheVariants.{Start, Middle, End}
use Rattle.label_spots.specs.declared.Geometry.{Geometry}
use Rattle.label_spots.specs.Labels.{anchor_number}
use Rattle.records.specs.Records.{corners_of, curve_of, anchor_of, fields, decode_geometry, decode_records}
use Rattle.laws.specs.Flats as Flats

-- ---- records

curve_back : (c : Curve) → curve_of (corners_of c) ≡ c
unfolding curve_of of_bits Ieee.eq
curve_back (Line p q) = refl
curve_back (Quad p c q) = refl
curve_back (Cubic p c d q) = refl

anchor_back : (a : Anchor) → anchor_of (anchor_number a) ≡ a
unfolding anchor_of of_bits Ieee.eq
anchor_back Start = refl
anchor_back Middle = refl
anchor_back End = refl

abbrev geometry : ℕ → Curve → Anchor → Geometry → Geometry
geometry edge curve anchor g = record { edge = edge; curve = curve; tip = g.tip; tip_angle = g.tip_angle; label = g.label; anchor = anchor; label_box = g.label_box }

pub decode_fields : (g : Geometry) → g.edge < 65536 → decode_geometry (fields g) ≡ g
unfolding decode_geometry
decode_fields g h =
    ap (λ (n : ℕ). geometry n (curve_of (corners_of g.curve)) (anchor_of (anchor_number g.anchor)) g) (whole_back g.edge (omega arith))
    ∙ ap (λ (c : Curve). geometry g.edge c (anchor_of (anchor_number g.anchor)) g) (curve_back g.curve)
    ∙ ap (λ (a : Anchor). geometry g.edge g.curve a g) (anchor_back g.anchor)

-- every arrow number is below 65,536
abbrev pub Small : List Geometry → Type 0
Small [] = Unit {0}
Small (g ∷ gs) = (g.edge < 65536) × Small gs

back_small : (gs : List Geometry) → Small gs → Flats.Back fields 20 (λ g. refl) decode_geometry gs
back_small [] h = tt
back_small (g ∷ gs) h = (decode_fields g h.0, back_small gs h.1)

pub length-records : (gs : List Geometry) → length (flat_map fields gs) ≡ 20 * length gs
length-records gs = Flats.length_flat fields 20 (λ g. refl) gs

-- record n after n records
pub put_record : (l : List Float) (gs : List Geometry) (g : Geometry) → put (put l 0 (flat_map fields gs)) (20 * length gs) (fields g) ≡ put l 0 (flat_map fields (gs ++ (g ∷ [])))
put_record l gs g = Flats.put-more fields 20 (λ g. refl) l gs g

pub decode_records_lem : (l : List Float) (gs : List Geometry) → 20 * length gs ≤ length l → Small gs → decode_records (length gs) (put l 0 (flat_map fields gs)) ≡ gs
decode_records_lem l gs room h = Flats.records_back fields 20 (λ g. refl) decode_geometry l gs room (back_small gs h)
