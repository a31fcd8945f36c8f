-- Whether so much from a place on lies within a room, by a difference: the sum may be beyond what the code can hold.
use mathlib.Core.Path.{◌≡◌, sym, ◌∙◌}
use Prim.Native.Nat.{ℕ, ◌+◌, ◌-◌, ◌≤◌}
use native.Mathlib.Omega.{arith}
use native.Mathlib.Decide.{dec_le}
use lib.Dec.{leb}
use borrow.Author.Tests.{le-leb, lt-leb}

pub room-is : (n at room : ℕ) → at ≤ room → leb n (room - at) ≡ leb (at + n) room
room-is n at room h = cases (dec_le (at + n) room)
  where
    cases : Dec (at + n ≤ room) → leb n (room - at) ≡ leb (at + n) room
    cases (yes l) = le-leb n (room - at) (omega arith) ∙ sym (le-leb (at + n) room l)
    cases (no l) = lt-leb n (room - at) (omega arith) ∙ sym (lt-leb (at + n) room (omega arith))
