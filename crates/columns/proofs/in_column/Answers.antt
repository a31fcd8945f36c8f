-- `columns::in_column` meets its contract: the code tests a difference, since the sum may be beyond 64 bits. Assumes
-- nothing.
use mathlib.Core.Path.{sym}
use Prim.Native.Nat.{◌+◌}
use native.Mathlib.Omega.{arith}
use borrow.Author.Tests.{lt-leb}
use Rattle.definitions.proofs.Room.{room-is}
use Rattle.columns.proofs.in_column.Goals as goal

pub returns-then-first-room : goal.returns-then-first-room
returns-then-first-room c = let a = c.args in sym (lt-leb (a.first + a.count) a.room (omega arith))

pub returns : goal.returns
returns c = let a = c.args in room-is a.count a.first a.room c.if-first-room.false
