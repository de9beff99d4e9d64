-- What is computed of the worked sheet and of one without records: layout, record, texts. Assumes nothing.
use Rattle.std.specs.Prelude.{◌≡◌, refl, true, false, ℕ, Float, length}
use mathlib.Core.List.{List, [], ◌∷◌, ◌++◌, flat_map}
use Rattle.std.specs.Int.Count.{count_trailing_zeros}
use Rattle.std.specs.Float.Ieee as Ieee
use Rattle.laws.specs.Any as LawsAny
use Rattle.laws.specs.Best as LawsBest
use Rattle.laws.specs.Counting as LawsCounting
use Rattle.laws.specs.Every as LawsEvery
use Rattle.laws.specs.Filter as LawsFilter
use Rattle.laws.specs.Flat as LawsFlat
use Rattle.laws.specs.Loops as LawsLoops
use Rattle.laws.specs.Run as LawsRun
use Rattle.laws.specs.Sort as LawsSort
use Rattle.laws.specs.Zip as LawsZip
use Rattle.root.specs.Root as RootRoot
use Rattle.float.specs.Standins as FloatStandins
use Rattle.text.specs.Utf8 as TextUtf8
use Rattle.text.specs.Digits as TextDigits
use Rattle.text.specs.Ascii.{ascii}
use Rattle.sheet.specs.Meaning as SheetMeaning
use Rattle.label.specs.Label as LabelLabel
use Rattle.shape.specs.Clipping as ShapeClipping
use Rattle.shape.specs.Curves as ShapeCurves
use Rattle.shape.specs.Plane as ShapePlane
use Rattle.trace.specs.Traces as TraceTraces
use Rattle.free.specs.Blocked as FreeBlocked
use Rattle.free.specs.Chords as FreeChords
use Rattle.free.specs.Free as FreeFree
use Rattle.bend.specs.Bend as BowBend
use Rattle.bend.specs.Leads as BowLeads
use Rattle.bend.specs.Between as BowBetween
use Rattle.label_spots.specs.Labels as SpotLabels
use Rattle.label_spots.specs.Spots as SpotSpots
use Rattle.scene.specs.Scene as PlaceScene
use Rattle.scene.specs.Turn as PlaceTurn
use Rattle.routing.specs.Routing as RoutingRouting
use Rattle.routing.specs.Sheets as RoutingSheets
use Rattle.clutter.specs.Clutter as ClutterClutter
use Rattle.circular.specs.Ring as RingRing
use Rattle.columns.specs.Columns as ColumnsColumns
use Rattle.sweep.specs.Sweeps as SweepSweeps
use Rattle.layered.specs.Layered as LayeredLayered
use Rattle.fit.specs.Fit as FitFit
use Rattle.layout.specs.Layout as LayoutLayout
use Rattle.number.specs.Number as NumberNumber
use Rattle.svg.specs.Paths as SvgPaths
use Rattle.totals.specs.Totals as TotalsTotals
use Rattle.drawing_text.specs.Lines as LinesLines
use Rattle.draw.specs.Drawn as DrawDrawn
use Rattle.float.specs.Constants.{whole}
use Rattle.sheet.specs.Sheet.{Graph, flags_of}
use Rattle.sheet.specs.Examples.{empty_graph, small_graph}
use Rattle.shape.specs.Centres.{centres}
use Rattle.label_spots.specs.declared.Geometry.{Geometry}
use Rattle.beyond.specs.Beyond.{beyond}
use Rattle.beyond.specs.Beyond as BeyondBeyond
use Rattle.routing.specs.Sheets.{frame_of, records_of}
use Rattle.totals.specs.Totals.{totals_of}
use Rattle.drawing_text.specs.Lines.{paths_text, paths_writable, list_text, list_writable}
use Rattle.drawing_text.specs.Worked.{worked_listing}
use Rattle.draw.specs.Drawn.{far_centre}
use Rattle.layout.specs.Layout.{Layout, plan_of, layout_of}
use Rattle.plan.specs.Measured.{layout_beyond}
use Rattle.plan.specs.Measured as PlanMeasured
use Rattle.calls.specs.Calls.{numbers_of}

-- `state 0 66 38` and `state 1 206 38`
abbrev pub small_xs : List Float
small_xs = whole 66 ∷ whole 206 ∷ []

abbrev pub small_ys : List Float
small_ys = whole 38 ∷ whole 38 ∷ []

-- `size 244 76`
abbrev pub small_layout : Layout
small_layout = record { xs = small_xs; ys = small_ys; width = whole 244; height = whole 76 }

abbrev pub path : List ℕ
path = ascii "M 88 38 L 184 38\n"

-- what is drawn at those centres
abbrev pub small_records : List Geometry
small_records = records_of small_graph small_xs small_ys

-- "No states: 32, 32."
abbrev pub empty_layout : Layout
empty_layout = record { xs = []; ys = []; width = whole 32; height = whole 32 }

-- no arrows and no lines
abbrev pub empty_listing : List ℕ
empty_listing = ascii "size 32 32\n" ++ ascii "total 0 0 0 0 0\n"

-- a graph listed as Auto: its layout, that nothing refuses what is drawn there, and its listing
pub record AutoListed (g : Graph) (p : Layout) (listed : List ℕ) : Type 0 where
  pub laid : layout_of 0 (plan_of g) ≡ p
  pub within : layout_beyond 0 (plan_of g) ≡ false
  pub near : far_centre (length g.states) p.xs p.ys ≡ false
  pub single : beyond (frame_of g p.xs p.ys) ≡ false
  pub text : let gs = records_of g p.xs p.ys in list_text p.width p.height (centres p.xs p.ys) (flags_of g) gs (totals_of g gs) ≡ listed
  pub text_ok : let gs = records_of g p.xs p.ys in list_writable p.width p.height (centres p.xs p.ys) (flags_of g) gs (totals_of g gs) ≡ true

pub record Computed : Type 0 where
  pub small : AutoListed small_graph small_layout worked_listing
  pub none : AutoListed empty_graph empty_layout empty_listing
  -- at the small layout's centres
  pub numbers : length (numbers_of small_records) ≡ 20
  pub paths : paths_text small_records ≡ path
  pub paths_ok : paths_writable small_records ≡ true

pub computed : Computed
unfolding flat_map count_trailing_zeros LawsBest.best LawsBest.total_from LawsCounting.how_many LawsFilter.filter_by LawsFlat.table LawsLoops.steps_from LawsLoops.up LawsLoops.down LawsLoops.over LawsRun.run LawsSort.insert LawsSort.sorted LawsZip.zip_by RootRoot.try_digits RootRoot.whole_root RootRoot.nearest_root RootRoot.scale RootRoot.root_bits FloatStandins.root_of FloatStandins.root FloatStandins.round FloatStandins.reduced FloatStandins.series FloatStandins.sin FloatStandins.cos FloatStandins.arc_series FloatStandins.arctangent_of FloatStandins.quarter FloatStandins.atan2 TextUtf8.payload TextUtf8.codes_from TextDigits.digits_by TextDigits.digits LawsAny.any_of LabelLabel.char_width LabelLabel.line_width LabelLabel.wider_line ShapeClipping.test ShapeClipping.side ShapeClipping.meets ShapeClipping.segment_hits_rect ShapeCurves.at ShapeCurves.tangent ShapePlane.unit_or ShapePlane.overlaps ShapePlane.touches ShapePlane.spanning ShapePlane.outside TraceTraces.sample TraceTraces.samples TraceTraces.bounds_of TraceTraces.trace_of TraceTraces.foreign TraceTraces.hits_rect FreeBlocked.intervals FreeChords.chord FreeChords.others_from BowBend.single_bow BowBend.bend BowLeads.leads BowBetween.straight BowBetween.with_bow BowBetween.between SpotLabels.place_label SpotLabels.labelled SpotSpots.normal SpotSpots.is_up SpotSpots.upper SpotSpots.line_spot SpotSpots.label_spots PlaceScene.near26 PlaceScene.struck PlaceScene.box_cost PlaceTurn.box_at RoutingRouting.numbered_from RoutingRouting.kept RoutingRouting.joined RoutingRouting.routes RoutingRouting.first_scene RoutingRouting.order RoutingRouting.drawing RoutingRouting.records RoutingSheets.frame_of ClutterClutter.crossings ClutterClutter.near24 ClutterClutter.collides ClutterClutter.collisions ClutterClutter.clutter_of SheetMeaning.start_from RingRing.largest RingRing.around_ring RingRing.ringed ColumnsColumns.successors ColumnsColumns.elem ColumnsColumns.discover ColumnsColumns.explore ColumnsColumns.columns_after ColumnsColumns.reached ColumnsColumns.unreached ColumnsColumns.concat ColumnsColumns.columns SweepSweeps.centre_column SweepSweeps.other_end SweepSweeps.neighbours SweepSweeps.slot_total SweepSweeps.barycentre SweepSweeps.ordered_column SweepSweeps.arrange SweepSweeps.sweep_down SweepSweeps.sweep_up SweepSweeps.four_sweeps SweepSweeps.swept LayeredLayered.column_gap LayeredLayered.row LayeredLayered.column_of LayeredLayered.layered_xs LayeredLayered.layered_ys FitFit.state_points FitFit.states_points FitFit.drawn_points FitFit.covered FitFit.drawing_bounds FitFit.shifted LayoutLayout.layers LayoutLayout.ring LayoutLayout.clutter_at LayoutLayout.is_dense LayoutLayout.is_tangled LayoutLayout.chosen LayoutLayout.fitted LayoutLayout.layout_of NumberNumber.rounded_size NumberNumber.minus_text NumberNumber.fraction NumberNumber.decimal NumberNumber.num_text SvgPaths.head_of SvgPaths.point_text SvgPaths.points_text SvgPaths.more_text SvgPaths.path_text SvgPaths.curve_text SvgPaths.head_text SvgPaths.points_writable SvgPaths.path_writable LawsEvery.every TotalsTotals.totals_of LinesLines.path_line LinesLines.paths_text LinesLines.paths_of LinesLines.field_text LinesLines.fields_text LinesLines.body_text LinesLines.line_text LinesLines.lines_text LinesLines.field_writable LinesLines.fields_writable LinesLines.line_writable LinesLines.lines_writable LinesLines.starts LinesLines.list_lines LinesLines.paths_writable LinesLines.states_from LinesLines.list_text LinesLines.list_writable DrawDrawn.far_centre Ieee.add Ieee.sub Ieee.mul Ieee.div Ieee.rem Ieee.neg Ieee.lt Ieee.le Ieee.eq Ieee.ne Ieee.of_int Ieee.round Ieee.size Ieee.span Ieee.climb Ieee.units Ieee.odd Ieee.sum Ieee.of_bits Ieee.of_fields Ieee.to_bits Ieee.to_unsigned Ieee.is_nan BeyondBeyond.is_beyond BeyondBeyond.beyond LayoutLayout.takes_ring PlanMeasured.any_beyond PlanMeasured.measured PlanMeasured.layout_beyond ShapePlane.extended
computed = record {
  small = record { laid = refl; within = refl; near = refl; single = refl; text = refl; text_ok = refl };
  none = record { laid = refl; within = refl; near = refl; single = refl; text = refl; text_ok = refl };
  numbers = refl;
  paths = refl;
  paths_ok = refl;
}
