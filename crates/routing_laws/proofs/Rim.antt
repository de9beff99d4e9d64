-- The rim of a state is what the angles of all arrows give. Assumes nothing.
use Rattle.std.specs.Prelude.{◌≡◌, refl, cond, ℕ, suc, eqb, length, get_or, Float}
use Rattle.std.proofs.Common.{sym, ap, ap₂, ◌∙◌, arith, eqb-true}
use mathlib.Core.List.{List, [], ◌∷◌, ◌++◌, map, flat_map, append-nil}
use Rattle.laws.specs.Cases.{by_bool}
use Rattle.laws.specs.Filter.{filter_by}
use Rattle.laws.specs.Flat.{table}
use Rattle.laws.specs.Zip.{zip_by}
use Rattle.laws.specs.Joined.{flat_same, flat_filter, flat_flat, filter_map, flat_map_lem}
use Rattle.laws.specs.Tables.{table-next}
use Rattle.shape.specs.declared.«V».{«V»}
use Rattle.shape.specs.Centres.{centre, centres}
use Rattle.directions.specs.Rims.{leave_angle, reach_angle}
use Rattle.sheet.specs.Meaning.{is_start}
use Rattle.routing.specs.Routing.{Frame, Numbered, numbered_from, numbered, joined, route_of, rim}
use Rattle.routing.specs.Sheets.{ends_by}
use Rattle.routing_laws.specs.Passes.{is_crossing}
use Rattle.routing_laws.specs.Order.{routes_of}
use Rattle.routing_laws.proofs.Order.{routes-each}
use Rattle.routing_laws.specs.RimAngles.{EndAngles, ends_between, angle_at, meets_rim, arrow_angles, start_mark, rim_angles, ends_at, all_ends, frame_by}
use Rattle.routing_laws.specs.Rim.{leave_of, reach_of, met_by, route_meets}

-- ---- the arrows' ends, from a list for each part

ends_each : (f : Frame) (n : ℕ) (sources targets : List ℕ) → length targets ≡ length sources
    → all_ends sources targets (map (leave_of f) (numbered_from n (zip_by ends_by sources targets))) (map (reach_of f) (numbered_from n (zip_by ends_by sources targets)))
    ≡ map (met_by f) (numbered_from n (zip_by ends_by sources targets))
unfolding table zip_by numbered_from
ends_each f n [] ts h = refl
ends_each f n (s ∷ ss) [] h = absurd (omega arith)
ends_each f n (s ∷ ss) (t ∷ ts) h =
    let a : Numbered = record { edge = n; ends = ends_by s t } in
    let rest : List Numbered = numbered_from (suc n) (zip_by ends_by ss ts) in
    ap (λ (l : List EndAngles). met_by f a ∷ l)
    (table-next (ends_at (s ∷ ss) (t ∷ ts) (leave_of f a ∷ map (leave_of f) rest) (reach_of f a ∷ map (reach_of f) rest)) (ends_at ss ts (map (leave_of f) rest) (map (reach_of f) rest)) 0 (length ss) (λ j. refl)
    ∙ ends_each f (suc n) ss ts (omega arith))

-- ---- where one arrow meets the rim of state k

at_state : (k state : ℕ) (ps : List «V») (g : «V» → Float) → cond (eqb state k) (g (centre ps k) ∷ []) [] ≡ angle_at k state (g (centre ps state))
at_state k state ps g = by_bool (eqb state k) (λ t. rw t (ap (λ (m : ℕ). g (centre ps m) ∷ []) (sym (eqb-true state k t)))) (λ t. rw t)

one_meets : (f : Frame) (k : ℕ) (a : Numbered) → flat_map (route_meets f k) (routes_of f a) ≡ cond (is_crossing f a) (meets_rim k (met_by f a)) []
unfolding flat_map leave_of reach_of
one_meets f k a =
    by_bool (is_crossing f a)
    (λ t. rw t
    (append-nil (route_meets f k (route_of f a))
    ∙ ap₂ (λ (x y : List Float). x ++ y)
    (at_state k a.ends.source f.centres (leave_angle (joined f a).curve))
    (at_state k a.ends.target f.centres (reach_angle (joined f a).curve))))
    (λ t. rw t)

-- ---- all

pub rim-met : (f : Frame) (k : ℕ) → rim f k ≡ rim_angles (length f.flags) k (is_start (get_or f.flags k 0)) (map (met_by f) (numbered f))
unfolding rim rim_angles arrow_angles
rim-met f k =
    ap (λ (l : List Float). l ++ start_mark (is_start (get_or f.flags k 0)))
    (ap (flat_map (route_meets f k)) (routes-each f)
    ∙ flat_flat (route_meets f k) (routes_of f) (numbered f)
    ∙ flat_same _ _ (numbered f) (one_meets f k)
    ∙ sym
    (ap (flat_map (meets_rim k)) (filter_map (ends_between (length f.flags)) (met_by f) (numbered f))
    ∙ flat_map_lem (meets_rim k) (met_by f) (filter_by (is_crossing f) (numbered f))
    ∙ flat_filter (λ a. meets_rim k (met_by f a)) (is_crossing f) (numbered f)))

-- the rim of state k, from the arrows' ends and angles in four lists
pub rim_angles_lem : (flags : List ℕ) (xs ys : List Float) (sources targets : List ℕ) (k : ℕ) → length targets ≡ length sources
    → rim (frame_by flags (centres xs ys) sources targets) k
    ≡ rim_angles (length flags) k (is_start (get_or flags k 0))
    (all_ends sources targets
    (map (leave_of (frame_by flags (centres xs ys) sources targets)) (numbered (frame_by flags (centres xs ys) sources targets)))
    (map (reach_of (frame_by flags (centres xs ys) sources targets)) (numbered (frame_by flags (centres xs ys) sources targets))))
rim_angles_lem flags xs ys sources targets k n =
    rim-met (frame_by flags (centres xs ys) sources targets) k
    ∙ ap (rim_angles (length flags) k (is_start (get_or flags k 0))) (sym (ends_each (frame_by flags (centres xs ys) sources targets) 0 sources targets n))
