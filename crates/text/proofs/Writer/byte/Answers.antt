use Rattle.std.proofs.Common.{arith, rules}
use Rattle.laws.specs.Put.{put}
use Rattle.text.proofs.Writer.byte.Goals as goal

pub returns : goal.returns
unfolding put
returns c = record { slice = search rules; text = record { room = omega arith; list = c.store.ensures; next_is = omega arith } }
