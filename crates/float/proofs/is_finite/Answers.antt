-- `float::is_finite` meets its contract.
use Rattle.float.specs.Signs.{finite_test}
use Rattle.float.proofs.is_finite.Goals as goal

pub returns : goal.returns
returns c = rw (c.abs.ensures, c.infinity.ensures) (finite_test c.args.v)
