use Rattle.std.proofs.Common.{sym, ap, ◌∙◌, length, ◌≡◌, List, ℕ, Float, Bool}
use Rattle.laws.specs.Put.{put}
use Rattle.laws.specs.Refusals.{decide-first, decide-rest}
use Rattle.sheet.specs.Sheet.{Graph, meaning}
use Rattle.label_spots.specs.declared.Geometry.{Geometry}
use Rattle.routing.specs.Sheets.{records_of}
use Rattle.refusal.specs.Refused.{values, number}
use Rattle.draw.specs.Drawn.{xs_of, ys_of, far_centre, bow_refusals}
use Rattle.draw.proofs.draw_accepted.Goals as goal

pub returns-then-far_centre : goal.returns-then-far_centre
returns-then-far_centre c = let g : Graph = meaning c.args.s.now in
    let xs : List Float = xs_of c.args.centres.now in
    let ys : List Float = ys_of c.args.centres.now in
    let l : List Geometry = c.args.out.now in
    let b : Bool = far_centre (length g.states) xs ys in
    let e : b ≡ c.far_centre.result = ap (λ (n : ℕ). far_centre n xs ys) (sym c.state_count-n.ensures) ∙ sym c.far_centre.ensures in (
      decide-first 8 b (bow_refusals g xs ys) number (values (length (records_of g xs ys))) (e ∙ c.if-far_centre.true),
      decide-first 8 b (bow_refusals g xs ys) (λ n. l) (put l 0 (records_of g xs ys)) (e ∙ c.if-far_centre.true),
    )

pub returns : goal.returns
returns c = let g : Graph = meaning c.args.s.now in
    let xs : List Float = xs_of c.args.centres.now in
    let ys : List Float = ys_of c.args.centres.now in
    let l : List Geometry = c.args.out.now in
    let b : Bool = far_centre (length g.states) xs ys in
    let e : b ≡ c.far_centre.result = ap (λ (n : ℕ). far_centre n xs ys) (sym c.state_count-n.ensures) ∙ sym c.far_centre.ensures in (
      c.draw_near.ensures.0 ∙ decide-rest 8 b (bow_refusals g xs ys) number (values (length (records_of g xs ys))) (e ∙ c.if-far_centre.false),
      c.draw_near.ensures.1 ∙ decide-rest 8 b (bow_refusals g xs ys) (λ n. l) (put l 0 (records_of g xs ys)) (e ∙ c.if-far_centre.false),
    )
