-- `geometry::draw_over` meets its contract.
use Rattle.std.specs.Prelude.{◌≡◌, ◌+◌, ◌≤◌, length}
use Rattle.std.proofs.Common.{rules, ap, ◌∙◌, arith}
use Rattle.routing_laws.proofs.Decoded.{records_most}
use Rattle.curves.specs.Lay.{frame_in, laid_by, laid_of}
use Rattle.turns.specs.Steps.{loops_of}
use Rattle.turns.proofs.Laws.{all_traces}
use Rattle.geometry.proofs.Laws.{none_drawn, all_gathered}
use lib.ListN.{replicate}
use Rattle.std.specs.Prelude.{None, Option, map}
use Rattle.std.proofs.lemmas.List.{length-replicate, length-map}
use Rattle.laws.specs.Put.{put}
use Rattle.trace.specs.Form.{trace_in}
use Rattle.label_spots.specs.declared.Geometry.{Geometry}
use Rattle.geometry.proofs.draw_over.Goals as goal

pub run-requires : goal.run-requires
run-requires g c = let f = frame_in c.args.frame.now in
    let many : length (laid_of f) ≡ length f.arrows = length-map f.arrows (laid_by f) in
    let traces : length c.lay.new.traces + loops_of (laid_of f) ≤ g.row.TRACES = omega (arith, c.lay.ensures.many, all_traces (laid_of f), many, c.requires.traces) in
    search rules

pub gather-requires : goal.gather-requires
gather-requires g c = let a = c.args in
    let f = frame_in a.frame.now in
    let all = all_gathered f (map trace_in c.lay.new.traces) c.new-boxes.result c.lay.ensures.traces c.new-boxes.ensures a.sizes.now (replicate {A = Option Geometry} g.row.ARROWS None) _ c.run.ensures
    (omega (arith, length-replicate {A = Option Geometry} g.row.ARROWS None, c.requires.arrows)) (none_drawn g.row.ARROWS) in
    omega (arith, ap length all, records_most f a.sizes.now, c.requires.room)

pub returns : goal.returns
returns g c = let a = c.args in
    let f = frame_in a.frame.now in
    let all = all_gathered f (map trace_in c.lay.new.traces) c.new-boxes.result c.lay.ensures.traces c.new-boxes.ensures a.sizes.now (replicate {A = Option Geometry} g.row.ARROWS None) _ c.run.ensures
    (omega (arith, length-replicate {A = Option Geometry} g.row.ARROWS None, c.requires.arrows)) (none_drawn g.row.ARROWS) in
    (c.gather.ensures.0 ∙ ap length all, c.gather.ensures.1 ∙ ap (put a.out.now 0) all)
