-- The test of the lengths that are left is the test of all.
use Rattle.std.proofs.Common.{◌≡◌, drop}
use Rattle.label.specs.Measuring.{lengths_fit}
use Rattle.label.proofs.lengths_fit.Given as goal

abbrev pub invariant-loop-n : goal.invariant-loop-n
invariant-loop-n l = lengths_fit l.most l.left (drop l.n-index l.lengths) ≡ lengths_fit l.most l.bytes l.lengths
