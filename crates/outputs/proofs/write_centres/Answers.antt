-- `outputs::write_centres` meets its contract.
use Rattle.std.proofs.Common.{sym, ◌∙◌, map, arith}
use Rattle.std.proofs.lemmas.List.{length-map}
use Rattle.laws.specs.Filled.{copy-end}
use Rattle.outputs.proofs.Laws.{centre_step}
use Rattle.outputs.proofs.write_centres.Goals as goal

pub loop-k-preserved : goal.loop-k-preserved
loop-k-preserved c = let cs = c.args.centres.now in
    let l = c.loop-k in
    let h = c.loop-k-test.true in
    (centre_step (λ c. c.x) cs l.k _ _ l.xs h l.invariant.0, centre_step (λ c. c.y) cs l.k _ _ l.ys h l.invariant.1)

pub returns : goal.returns
returns c = let cs = c.args.centres.now in
    let l = c.loop-k in (
      sym (copy-end l.xs (map (λ c. c.x) cs) l.k (omega (arith, length-map cs (λ c. c.x)))) ∙ l.invariant.0,
      sym (copy-end l.ys (map (λ c. c.y) cs) l.k (omega (arith, length-map cs (λ c. c.y)))) ∙ l.invariant.1,
    )
