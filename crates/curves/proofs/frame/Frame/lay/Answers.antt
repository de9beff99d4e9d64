-- `curves::Frame::lay` meets its contract.
use Rattle.std.proofs.Common.{rules, ◌≡◌, ap, ◌∙◌, arith, ◌++◌, ◌+◌, ◌≤◌, length, map, List}
use Rattle.std.proofs.lemmas.List.{length-map}
use Rattle.laws.specs.Counting.{how_many-le}
use Rattle.trace.specs.Form.{trace_in}
use Rattle.trace.specs.Traces.{Trace}
use Rattle.routing.specs.Routing.{start_traces}
use Rattle.curves.specs.Lay.{frame_in, laid_by, laid_of, laid_traces, is_crossing, crossings}
use Rattle.curves.proofs.Laws.{first_are}
use Rattle.curves.proofs.frame.Frame.lay.Goals as goal

pub push_arrows-requires : goal.push_arrows-requires
push_arrows-requires g c = let f = frame_in c.args.self.now in
    let ls = c.as_slice.result.now in
    let all : ls ≡ laid_of f = c.as_slice.ensures.all ∙ c.lay_arrows.ensures ∙ ap (λ x. x ++ laid_of f) c.requires.none.0 in
    let room : length c.args.traces.now + crossings ls ≤ g.row.T = omega (arith, ap length c.requires.none.1, how_many-le is_crossing ls, ap length all, length-map f.arrows (laid_by f), c.requires.room.1) in
    search rules

pub push_starts-requires : goal.push_starts-requires
push_starts-requires g c = let f = frame_in c.args.self.now in
    let ls = c.as_slice.result.now in
    let all : ls ≡ laid_of f = c.as_slice.ensures.all ∙ c.lay_arrows.ensures ∙ ap (λ x. x ++ laid_of f) c.requires.none.0 in
    let room : length c.push_arrows.new.traces + length f.centres ≤ g.row.T = omega (arith, c.push_arrows.ensures.many, ap length c.requires.none.1, how_many-le is_crossing ls, ap length all, length-map f.arrows (laid_by f), c.requires.room.1) in
    search rules

pub returns-clause-traces : goal.returns-clause-traces
returns-clause-traces g c = let f = c.args.self.now in
    c.push_starts.ensures.all
    ∙ ap (λ (x : List Trace). x ++ start_traces f.flags.now f.centres.now)
    (c.push_arrows.ensures.all
    ∙ ap (λ x. map trace_in x ++ laid_traces 0 c.as_slice.result.now) c.requires.none.1
    ∙ ap (laid_traces 0) (c.as_slice.ensures.all ∙ c.lay_arrows.ensures ∙ ap (λ x. x ++ laid_of (frame_in f)) c.requires.none.0))
    ∙ first_are (frame_in f)

pub returns-clause-many : goal.returns-clause-many
returns-clause-many g c = let f = frame_in c.args.self.now in
    let all = c.as_slice.ensures.all ∙ c.lay_arrows.ensures ∙ ap (λ x. x ++ laid_of f) c.requires.none.0 in
    omega (arith, c.push_starts.ensures.many, c.push_arrows.ensures.many, ap length c.requires.none.1, ap crossings all)
