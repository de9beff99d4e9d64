use Rattle.std.proofs.Common.{◌≡◌, List, ℕ}
use mathlib.Core.List.{flat_map}
use Rattle.sheet.specs.Sheet.{Met}
use Rattle.reader.specs.Reading.{chain_rest}
use Rattle.sheet_check.specs.Walk.{walk, Visits}
use Rattle.sheet_check.proofs.walk.Given as goal

abbrev pub invariant-loop-i : goal.invariant-loop-i
invariant-loop-i g l = (s : List ℕ) (met : ℕ → List Met) → Visits (goal.F-post g l.visit) s met → walk s (flat_map met (chain_rest l.i-iterator)) l.marks ≡ walk s (flat_map met (chain_rest l.fn.chain)) l.initial.marks
