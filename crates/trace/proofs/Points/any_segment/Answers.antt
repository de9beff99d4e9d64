-- `trace::Points::any_segment` meets its contract.
use Rattle.std.proofs.Common.{rules, tests}
use Rattle.std.proofs.lemmas.Iterator.Search.{any_from_yields_List}
use Rattle.std.proofs.lemmas.Iterator.{YieldsList-from_zip, YieldsList-from_slice}
use Rattle.std.proofs.lemmas.Iterator.Adapters.{YieldsList-from_skip}
use Rattle.shape.specs.declared.«V».{«V»}
use Rattle.trace.specs.Form.{points_in}
use Rattle.trace.proofs.Points.any_segment.Goals as goal

pub returns : goal.returns
returns g c = λ p same.
    let l = points_in c.args.self.now in
    any_from_yields_List (λ (s : «V» × «V»). p s.0 s.1) c.any.new.self _ _ c.any.ensures.ran
    (YieldsList-from_zip (YieldsList-from_slice l (cc)) (YieldsList-from_skip 1 (YieldsList-from_slice l (cc)) (cc)))
    (λ x b q k. let z = k.met in (search (rules, tests, z), same x.0.now x.1.now b (search (rules, tests, z))))
