use Rattle.std.proofs.Common.{◌≡◌, map, ℕ}
use Rattle.laws.specs.Put.{put}
use Rattle.reader.specs.Reading.{chain_rest}
use Rattle.meaning.specs.Read.{Computes}
use Rattle.meaning.proofs.each_into.Given as goal

abbrev pub invariant-loop-place : goal.invariant-loop-place
invariant-loop-place g l =
    (f : ℕ → g.row.T.Denot) → Computes (goal.F-post g l.value) f
    → put l.out l.place-index (map f (chain_rest l.chain)) ≡ put l.initial.out 0 (map f (chain_rest l.initial.chain))
