-- What the walk over a row's terms leaves: their pieces in the output, and their sums.
use Rattle.std.specs.Prelude.{ℕ, ◌≡◌, List}
use Rattle.definitions.specs.Row.{Term}
use Rattle.puts.specs.SeveralPuts.{LandsEach}
use Rattle.shown.specs.declared.terms.Style.{Style}
use Rattle.shown.specs.Sums.{no_sums}
use Rattle.lines.specs.declared.terms.Ended.{Ended}
use Rattle.lines.specs.LinePieces.{terms_pieces, sums_of}

pub record PutsTerms (s : Style) (ts : List Term) (at : ℕ) (o : List ℕ) (r : Ended) (o' : List ℕ) : Type 0 where
  pub text : LandsEach (terms_pieces s ts) at o r.at o'
  pub sums : r.sums ≡ sums_of s no_sums ts
