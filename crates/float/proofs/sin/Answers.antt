-- `float::sin` meets its contract.
use Rattle.float.specs.Standins.{sin, sine_divisor}
use Rattle.float.proofs.sin.Goals as goal

pub returns : goal.returns
unfolding sin
returns c = rw (← c.reduced-r.ensures, c.series.ensures sine_divisor (λ k n e. e))
