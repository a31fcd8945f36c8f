-- `has_room` meets its contract: the code tests a difference, since the sum may be beyond 64 bits.
use mathlib.Core.Path.{sym}
use Prim.Native.Nat.{◌+◌}
use native.Mathlib.Omega.{arith}
use borrow.Author.Tests.{lt-leb}
use Rattle.definitions.proofs.Room.{room-is}
use Rattle.outputs.proofs.has_room.Goals as goal

pub returns-then-at-room : goal.returns-then-at-room
returns-then-at-room c = let a = c.args in sym (lt-leb (a.at + a.n) a.room (omega arith))

pub returns : goal.returns
returns c = let a = c.args in room-is a.n a.at a.room c.if-at-room.false
