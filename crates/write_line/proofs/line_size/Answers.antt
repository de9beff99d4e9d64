-- `write_line::line_size` meets its contract.
use native.Mathlib.Omega.{arith}
use Rattle.sheet.specs.Sheet.{line_of}
use Rattle.write_line.specs.Lines.{line_space}
use Rattle.write_line.proofs.line_size.Goals as goal

pub returns : goal.returns
returns c = let a = c.args in
    (line_space (line_of a.s.now a.k) _ c.line_length.ensures, omega arith)
