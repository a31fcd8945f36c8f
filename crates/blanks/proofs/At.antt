-- The byte at place i: there is none behind the end, and any other is the one that stands there.
use Prim.Native.Nat.{ℕ, ◌≤◌, ◌<◌}
use mathlib.Core.Path.{◌≡◌}
use mathlib.Core.Bool.{false}
use mathlib.Core.List.{List}
use lib.Dec.{eqb}
use lib.ListN.{length, get_or, drop, drop_of_length-le}
use lib.Seq.{drop-cons}
use Rattle.definitions.specs.Bytes.{is_at}

pub at_none : (b i : ℕ) (s : List ℕ) → length s ≤ i → is_at b (drop i s) ≡ false
unfolding is_at
at_none b i s h = rw (drop_of_length-le s h)

pub at-is : (b i : ℕ) (s : List ℕ) → i < length s → is_at b (drop i s) ≡ eqb (get_or s i 0) b
unfolding is_at
at-is b i s h = rw (drop-cons s i 0 h)
