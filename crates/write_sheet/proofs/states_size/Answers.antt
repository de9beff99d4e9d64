-- `write_sheet::states_size` meets its contract.
use mathlib.Core.Path.{ap, ◌∙◌}
use Prim.Native.Nat.{ℕ}
use lib.ListN.{length}
use Rattle.sheet.specs.Sheet.{chain}
use Rattle.write_sheet.specs.Whole.{states_space}
use Rattle.write_sheet.proofs.states_size.Goals as goal

pub returns : goal.returns
returns c = let s = c.args.s.now in
    let e = c.chain_length.ensures.0 ∙ ap (λ (i : ℕ). length (chain s i)) c.word_at.ensures in
    (states_space s _ e, c.chain_length.ensures.1)
