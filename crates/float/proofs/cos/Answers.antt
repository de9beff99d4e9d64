-- `float::cos` meets its contract.
use Rattle.float.specs.Standins.{cos, cosine_divisor}
use Rattle.float.proofs.cos.Goals as goal

pub returns : goal.returns
unfolding cos
returns c = rw (← c.reduced-r.ensures) (c.series.ensures cosine_divisor (λ k n e. e))
