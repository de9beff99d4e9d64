-- `trace::samples` meets its contract.
use Rattle.std.proofs.Common.{rules, tests}
use Rattle.shape.specs.Curves.{start}
use Rattle.trace.specs.Traces.{sample}
use Rattle.trace.proofs.Made.{made_is}
use Rattle.trace.proofs.samples.Goals as goal

pub returns : goal.returns
returns c = made_is _ _ (sample c.args.c) (λ q i y k. search (rules, tests)) c.from_fn.result 17 (start c.args.c) c.from_fn.ensures.items
