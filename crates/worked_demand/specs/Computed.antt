-- What is computed of the two calls: that places are free at every turn, and what is drawn there. Assumes nothing.
use Rattle.std.specs.Prelude.{◌≡◌, refl, Bool, true, false, ℕ, Float, length, get_or}
use Rattle.std.proofs.Common.{ap}
use mathlib.Core.List.{List, [], ◌∷◌, flat_map, map}
use Rattle.std.specs.Int.Count.{count_trailing_zeros}
use Rattle.std.specs.Float.Ieee as Ieee
use Rattle.std.specs.Float.{nan}
use Rattle.laws.specs.Any as LawsAny
use Rattle.laws.specs.Best as LawsBest
use Rattle.laws.specs.Counting as LawsCounting
use Rattle.laws.specs.Every as LawsEvery
use Rattle.laws.specs.Filter as LawsFilter
use Rattle.laws.specs.Flat as LawsFlat
use Rattle.laws.specs.Loops as LawsLoops
use Rattle.laws.specs.Refusals as LawsRefusals
use Rattle.laws.specs.Run as LawsRun
use Rattle.laws.specs.Sort as LawsSort
use Rattle.laws.specs.Zip as LawsZip
use Rattle.root.specs.Root as RootRoot
use Rattle.float.specs.Standins as FloatStandins
use Rattle.text.specs.Utf8 as TextUtf8
use Rattle.text.specs.Digits as TextDigits
use Rattle.sheet.specs.Sheet as SheetSheet
use Rattle.sheet.specs.Refusals as SheetRefusals
use Rattle.label.specs.Label as LabelLabel
use Rattle.shape.specs.Clipping as ShapeClipping
use Rattle.shape.specs.Curves as ShapeCurves
use Rattle.shape.specs.Plane as ShapePlane
use Rattle.trace.specs.Traces as TraceTraces
use Rattle.free.specs.Blocked as FreeBlocked
use Rattle.free.specs.Chords as FreeChords
use Rattle.free.specs.Free as FreeFree
use Rattle.bend.specs.Clear as BowClear
use Rattle.bend.specs.Bend as BowBend
use Rattle.bend.specs.Leads as BowLeads
use Rattle.bend.specs.Between as BowBetween
use Rattle.label_spots.specs.Labels as SpotLabels
use Rattle.label_spots.specs.Spots as SpotSpots
use Rattle.scene.specs.Scene as PlaceScene
use Rattle.scene.specs.Turn as PlaceTurn
use Rattle.directions.specs.Directions as RimDirections
use Rattle.directions.specs.Loop as RimLoop
use Rattle.self_loop.specs.Looped as LoopedLooped
use Rattle.routing.specs.Routing as RoutingRouting
use Rattle.routing.specs.Sheets as RoutingSheets
use Rattle.number.specs.Number as NumberNumber
use Rattle.svg.specs.Paths as SvgPaths
use Rattle.drawing_text.specs.Lines as LinesLines
use Rattle.draw.specs.Drawn as DrawDrawn
use Rattle.laws.specs.Zip.{zip_by}
use Rattle.float.specs.Ops.{of_nat}
use Rattle.sheet.specs.Sheet.{Arrow}
use Rattle.sheet.specs.Refusals.{check_of}
use Rattle.refusal.specs.Refused.{values}
use Rattle.label_spots.specs.declared.Geometry.{Geometry}
use Rattle.records.specs.Records.{fields}
use Rattle.beyond.specs.Beyond as BeyondBeyond
use Rattle.beyond.specs.Beyond.{beyond}
use Rattle.routing.specs.Routing.{kept, edge_of, steps, more, cost, scene_after, first_scene, places_taken, drawn_step, drawn_for, drawing, records}
use Rattle.drawing_text.specs.Lines.{paths_text, paths_writable}
use Rattle.draw.specs.Drawn.{far_centre}
use Rattle.calls.specs.Calls.{capped_limits, numbers_of, drawn_of}
use Rattle.demand3.specs.Demand.{Call, graph, frame, sizes, turns, drawn_at}
use Rattle.worked_demand.specs.Calls.{one_letter, twelve_letters, first, second}
use Rattle.worked_demand.specs.Free.{free, free-taken}

-- ---- places ps, one a turn

-- whether they are free: each costs nothing, and each listed before it something
abbrev pub free_at : Call → List ℕ → Bool
free_at c ps = let f = frame c in free (more f) (cost f) (scene_after f) (first_scene f) (steps f (sizes c)) ps

pub taken_free : (c : Call) (ps : List ℕ) → free_at c ps ≡ true → places_taken (frame c) (sizes c) ≡ ps
taken_free c ps e = let f = frame c in free-taken (more f) (cost f) (scene_after f) (first_scene f) (steps f (sizes c)) ps e

-- the records with their labels there
abbrev pub records_placed : Call → List ℕ → List Geometry
records_placed c ps = flat_map (drawn_for (zip_by (drawn_step (frame c)) (steps (frame c) (sizes c)) ps)) (kept (frame c))

pub drawn_placed : (c : Call) (ps : List ℕ) → places_taken (frame c) (sizes c) ≡ ps → drawn_of c.sheet c.xs c.ys ≡ records_placed c ps
unfolding drawing records
drawn_placed c ps e = ap (records_placed c) e

-- number i of the record of turn t
abbrev pub number_at : Call → List ℕ → ℕ → ℕ → Float
number_at c ps i t = get_or (fields (drawn_at c t (get_or ps t 0))) i nan

-- ---- the two calls, computed

-- with the line l of arrow 1 and labels at the places ps
pub record ComputedCall (c : Call) (l : List ℕ) (ps : List ℕ) (anchors : List ℕ) : Type 0 where
  -- what the sheet says
  pub states : length (graph c).states ≡ 3
  pub sources : map (λ (a : Arrow). a.source) (graph c).arrows ≡ 0 ∷ 1 ∷ 0 ∷ 2 ∷ []
  pub targets : map (λ (a : Arrow). a.target) (graph c).arrows ≡ 1 ∷ 0 ∷ 2 ∷ 2 ∷ []
  pub lines : map (λ (a : Arrow). a.lines) (graph c).arrows ≡ ((97 ∷ []) ∷ []) ∷ (l ∷ []) ∷ ((99 ∷ []) ∷ []) ∷ ((100 ∷ []) ∷ []) ∷ []
  -- no refusal from 1 to 6, nor 8, nor 9
  pub accepted : check_of (capped_limits c.limits) c.sheet ≡ values tt
  pub near : far_centre (length (graph c).states) c.xs c.ys ≡ false
  pub single : beyond (frame c) ≡ false
  -- the turns, by the numbers of their arrows; the places are free, what is drawn there is writable, and so long
  pub turn : map edge_of (turns c) ≡ 3 ∷ 0 ∷ 1 ∷ 2 ∷ []
  pub free : free_at c ps ≡ true
  pub writable : paths_writable (records_placed c ps) ≡ true
  pub numbers : length (numbers_of (records_placed c ps)) ≡ 80
  pub text : length (paths_text (records_placed c ps)) ≡ 141
  -- at each turn the number of points and the anchor
  pub points : map (number_at c ps 1) (0 ∷ 1 ∷ 2 ∷ 3 ∷ []) ≡ map of_nat (4 ∷ 3 ∷ 3 ∷ 2 ∷ [])
  pub anchor : map (number_at c ps 15) (0 ∷ 1 ∷ 2 ∷ 3 ∷ []) ≡ map of_nat anchors

pub first-drawn : ComputedCall first one_letter (0 ∷ 0 ∷ 0 ∷ 0 ∷ []) (1 ∷ 1 ∷ 1 ∷ 0 ∷ [])
unfolding capped_limits flat_map count_trailing_zeros LawsBest.best LawsBest.total_from LawsCounting.how_many LawsFilter.filter_by LawsFlat.table LawsLoops.steps_from LawsLoops.up LawsLoops.down LawsLoops.any_for LawsLoops.any_up LawsLoops.over LawsRefusals.decide LawsRun.run LawsRun.run_scene LawsSort.insert LawsSort.sorted LawsSort.place_from LawsSort.carry LawsSort.pairs LawsZip.zip_by RootRoot.try_digits RootRoot.whole_root RootRoot.nearest_root RootRoot.scale RootRoot.root_bits FloatStandins.root_of FloatStandins.root FloatStandins.round FloatStandins.reduced FloatStandins.series FloatStandins.sin FloatStandins.cos FloatStandins.arc_series FloatStandins.arctangent_of FloatStandins.quarter FloatStandins.atan2 FloatStandins.precedes TextUtf8.payload TextUtf8.codes_from TextDigits.digits_by TextDigits.digits TextDigits.value SheetSheet.chain_by SheetSheet.met_line SheetSheet.met_arrow SheetSheet.met SheetSheet.line_of SheetSheet.lines_from SheetSheet.arrow_of SheetSheet.states_of SheetSheet.arrows_of LawsAny.any_of SheetRefusals.repeats SheetRefusals.is_set SheetRefusals.wrong_record SheetRefusals.wrong_bytes SheetRefusals.indices SheetRefusals.wrong_chains SheetRefusals.large_arrow SheetRefusals.over_limits SheetRefusals.ill_arrow SheetRefusals.ill_formed SheetRefusals.check_of LabelLabel.char_width LabelLabel.line_width LabelLabel.wider_line ShapeClipping.test ShapeClipping.side ShapeClipping.meets ShapeClipping.segment_hits_rect ShapeClipping.segments_cross ShapeCurves.at ShapeCurves.tangent ShapePlane.unit_or ShapePlane.overlaps ShapePlane.touches ShapePlane.spanning ShapePlane.outside TraceTraces.sample TraceTraces.samples TraceTraces.bounds_of TraceTraces.trace_of TraceTraces.foreign TraceTraces.hits_rect TraceTraces.pair_cross TraceTraces.segment_crosses TraceTraces.crosses TraceTraces.point_near TraceTraces.near25 FreeBlocked.intervals FreeChords.chord FreeChords.others_from FreeFree.visit FreeFree.pass FreeFree.passes FreeFree.first_free BowClear.nearest BowClear.clearance BowClear.outdone BowClear.first_that BowClear.verified BowBend.pair_bow BowBend.single_bow BowBend.bend BowLeads.leads BowBetween.straight BowBetween.bowed BowBetween.with_bow BowBetween.between SpotLabels.side_of SpotLabels.place_label SpotLabels.labelled SpotSpots.normal SpotSpots.is_up SpotSpots.upper SpotSpots.line_spot SpotSpots.arc_spot SpotSpots.label_spots PlaceScene.near26 PlaceScene.struck PlaceScene.box_cost PlaceTurn.box_at PlaceTurn.taken RimDirections.angle_between RimDirections.room RimDirections.first_directions RimDirections.rim_in_order RimDirections.nexts RimDirections.gaps RimDirections.by_width RimDirections.middles RimDirections.found RimDirections.directions RimLoop.on_circle RimLoop.loop_curve LoopedLooped.loop_at LoopedLooped.states_but LoopedLooped.crossed LoopedLooped.cramped LoopedLooped.loop_adds LoopedLooped.loop_cost LoopedLooped.loop_taken RoutingRouting.numbered_from RoutingRouting.kept RoutingRouting.joined BeyondBeyond.beyond BeyondBeyond.is_beyond RoutingRouting.routes RoutingRouting.first_scene RoutingRouting.rim RoutingRouting.order RoutingRouting.drawing RoutingRouting.records RoutingSheets.frame_of NumberNumber.rounded_size NumberNumber.minus_text NumberNumber.fraction NumberNumber.decimal NumberNumber.num_text NumberNumber.written NumberNumber.written_after SvgPaths.point_text SvgPaths.points_text SvgPaths.more_text SvgPaths.path_text SvgPaths.curve_text SvgPaths.points_writable SvgPaths.path_writable LawsEvery.every LinesLines.path_line LinesLines.paths_text LinesLines.paths_of LinesLines.paths_writable DrawDrawn.far_centre Ieee.add Ieee.sub Ieee.mul Ieee.div Ieee.rem Ieee.neg Ieee.lt Ieee.le Ieee.eq Ieee.ne Ieee.of_int Ieee.round Ieee.size Ieee.span Ieee.climb Ieee.units Ieee.odd Ieee.sum Ieee.of_bits Ieee.of_fields Ieee.to_bits Ieee.to_unsigned Ieee.is_nan ShapePlane.extended
first-drawn = record {
  states = refl;
  sources = refl;
  targets = refl;
  lines = refl;
  accepted = refl;
  near = refl;
  single = refl;
  turn = refl;
  free = refl;
  writable = refl;
  numbers = refl;
  text = refl;
  points = refl;
  anchor = refl;
}

-- the straight arrow's label, at turn 3, has its first place taken
pub second-drawn : ComputedCall second twelve_letters (0 ∷ 0 ∷ 0 ∷ 1 ∷ []) (1 ∷ 1 ∷ 1 ∷ 2 ∷ [])
unfolding capped_limits flat_map count_trailing_zeros LawsBest.best LawsBest.total_from LawsCounting.how_many LawsFilter.filter_by LawsFlat.table LawsLoops.steps_from LawsLoops.up LawsLoops.down LawsLoops.any_for LawsLoops.any_up LawsLoops.over LawsRefusals.decide LawsRun.run LawsRun.run_scene LawsSort.insert LawsSort.sorted LawsSort.place_from LawsSort.carry LawsSort.pairs LawsZip.zip_by RootRoot.try_digits RootRoot.whole_root RootRoot.nearest_root RootRoot.scale RootRoot.root_bits FloatStandins.root_of FloatStandins.root FloatStandins.round FloatStandins.reduced FloatStandins.series FloatStandins.sin FloatStandins.cos FloatStandins.arc_series FloatStandins.arctangent_of FloatStandins.quarter FloatStandins.atan2 FloatStandins.precedes TextUtf8.payload TextUtf8.codes_from TextDigits.digits_by TextDigits.digits TextDigits.value SheetSheet.chain_by SheetSheet.met_line SheetSheet.met_arrow SheetSheet.met SheetSheet.line_of SheetSheet.lines_from SheetSheet.arrow_of SheetSheet.states_of SheetSheet.arrows_of LawsAny.any_of SheetRefusals.repeats SheetRefusals.is_set SheetRefusals.wrong_record SheetRefusals.wrong_bytes SheetRefusals.indices SheetRefusals.wrong_chains SheetRefusals.large_arrow SheetRefusals.over_limits SheetRefusals.ill_arrow SheetRefusals.ill_formed SheetRefusals.check_of LabelLabel.char_width LabelLabel.line_width LabelLabel.wider_line ShapeClipping.test ShapeClipping.side ShapeClipping.meets ShapeClipping.segment_hits_rect ShapeClipping.segments_cross ShapeCurves.at ShapeCurves.tangent ShapePlane.unit_or ShapePlane.overlaps ShapePlane.touches ShapePlane.spanning ShapePlane.outside TraceTraces.sample TraceTraces.samples TraceTraces.bounds_of TraceTraces.trace_of TraceTraces.foreign TraceTraces.hits_rect TraceTraces.pair_cross TraceTraces.segment_crosses TraceTraces.crosses TraceTraces.point_near TraceTraces.near25 FreeBlocked.intervals FreeChords.chord FreeChords.others_from FreeFree.visit FreeFree.pass FreeFree.passes FreeFree.first_free BowClear.nearest BowClear.clearance BowClear.outdone BowClear.first_that BowClear.verified BowBend.pair_bow BowBend.single_bow BowBend.bend BowLeads.leads BowBetween.straight BowBetween.bowed BowBetween.with_bow BowBetween.between SpotLabels.side_of SpotLabels.place_label SpotLabels.labelled SpotSpots.normal SpotSpots.is_up SpotSpots.upper SpotSpots.line_spot SpotSpots.arc_spot SpotSpots.label_spots PlaceScene.near26 PlaceScene.struck PlaceScene.box_cost PlaceTurn.box_at PlaceTurn.taken RimDirections.angle_between RimDirections.room RimDirections.first_directions RimDirections.rim_in_order RimDirections.nexts RimDirections.gaps RimDirections.by_width RimDirections.middles RimDirections.found RimDirections.directions RimLoop.on_circle RimLoop.loop_curve LoopedLooped.loop_at LoopedLooped.states_but LoopedLooped.crossed LoopedLooped.cramped LoopedLooped.loop_adds LoopedLooped.loop_cost LoopedLooped.loop_taken RoutingRouting.numbered_from RoutingRouting.kept RoutingRouting.joined BeyondBeyond.beyond BeyondBeyond.is_beyond RoutingRouting.routes RoutingRouting.first_scene RoutingRouting.rim RoutingRouting.order RoutingRouting.drawing RoutingRouting.records RoutingSheets.frame_of NumberNumber.rounded_size NumberNumber.minus_text NumberNumber.fraction NumberNumber.decimal NumberNumber.num_text NumberNumber.written NumberNumber.written_after SvgPaths.point_text SvgPaths.points_text SvgPaths.more_text SvgPaths.path_text SvgPaths.curve_text SvgPaths.points_writable SvgPaths.path_writable LawsEvery.every LinesLines.path_line LinesLines.paths_text LinesLines.paths_of LinesLines.paths_writable DrawDrawn.far_centre Ieee.add Ieee.sub Ieee.mul Ieee.div Ieee.rem Ieee.neg Ieee.lt Ieee.le Ieee.eq Ieee.ne Ieee.of_int Ieee.round Ieee.size Ieee.span Ieee.climb Ieee.units Ieee.odd Ieee.sum Ieee.of_bits Ieee.of_fields Ieee.to_bits Ieee.to_unsigned Ieee.is_nan ShapePlane.extended
second-drawn = record {
  states = refl;
  sources = refl;
  targets = refl;
  lines = refl;
  accepted = refl;
  near = refl;
  single = refl;
  turn = refl;
  free = refl;
  writable = refl;
  numbers = refl;
  text = refl;
  points = refl;
  anchor = refl;
}

-- ---- the same states and centres

pub same-states : (graph first).states ≡ (graph second).states
unfolding SheetSheet.chain_by SheetSheet.states_of
same-states = refl

pub same-centres : (frame first).centres ≡ (frame second).centres
unfolding LawsFlat.table RoutingSheets.frame_of SheetSheet.chain_by SheetSheet.states_of
same-centres = refl
