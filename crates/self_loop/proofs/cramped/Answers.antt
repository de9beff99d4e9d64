-- `self_loop::cramped` meets its contract.
use native.Mathlib.Omega.{arith}
use mathlib.Core.Bool.{true, false}
use Rattle.self_loop.proofs.Laws.{cramped_is}
use Rattle.self_loop.proofs.cramped.Goals as goal

pub returns-then-room : goal.returns-then-room
returns-then-room c = (cramped_is c.args.phi c.args.taken.now c.room.result true c.room.ensures c.if-room.true, omega arith)

pub returns : goal.returns
returns c = (cramped_is c.args.phi c.args.taken.now c.room.result false c.room.ensures c.if-room.false, omega arith)
