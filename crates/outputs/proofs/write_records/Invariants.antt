-- `outputs::write_records` meets its contract.
use Rattle.std.proofs.Common.{◌≡◌, take}
use Rattle.laws.specs.Put.{put}
use Rattle.outputs.specs.Answers.{numbers_of}
use Rattle.outputs.proofs.write_records.Given as goal

abbrev pub invariant-loop-k : goal.invariant-loop-k
invariant-loop-k l = l.records ≡ put l.initial.records 0 (numbers_of (take l.k l.drawn))
