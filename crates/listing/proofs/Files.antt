-- The lines are listed where they fit, and nothing is changed where they do not.
use Rattle.std.specs.Prelude.{Ok, Err}
use mathlib.Core.Path.{◌≡◌, ap}
use mathlib.Core.List.{List}
use Prim.Native.Nat.{ℕ, ◌≤◌, ◌<◌}
use native.Mathlib.Omega.{arith}
use borrow.Author.Tests.{le-leb, lt-leb}
use lib.ListN.{length}
use Rattle.definitions.specs.Limits.{needed_limit}
use Rattle.definitions.specs.Refusal.{refusal, needed}
use Rattle.definitions.specs.Table.{Table, accepted}
use Rattle.definitions.specs.File.{first_at, reading}
use Rattle.definitions.specs.Write.{output_after}
use Rattle.definitions.specs.House.{listing}
use Rattle.listing_read.specs.ListsRead.{file_listing, ListsRead}
use Rattle.listing.specs.ListsFile.{ListsFile}

module _ (first : ℕ) (s : List ℕ) (t : Table) where
  abbrev text : List ℕ
  text = listing first (reading (first_at first) s t)

  -- ---- the length was measured first: w is needed
  module _ (o : List ℕ) (w : ℕ) (e : w ≡ needed (length text)) where
    pub lists-full : length o < w → ListsFile first s t o (Err (refusal 14 w)) t o
    unfolding file_listing output_after
    lists-full h =
        let f : length o < length text = unfold needed in omega (arith, e) in
        let l = lt-leb (length text) (length o) f in
        record { answer = rw (l, e); output = rw l; tables = rw l }

    whole : w ≤ length o → length o < needed_limit → w ≡ length text
    unfolding needed
    whole h g = omega (arith, e)

    pub lists-all : w ≤ length o → length o < needed_limit → (t' : Table) (o' : List ℕ) → ListsRead first s t o t' o'
        → ListsFile first s t o (Ok w) t' o'
    unfolding file_listing
    lists-all h g t' o' r =
        let n = whole h g in
        let l = le-leb (length text) (length o) (omega (arith, n)) in
        record { answer = rw l (ap accepted n); output = r.output; tables = rw l r.tables }
