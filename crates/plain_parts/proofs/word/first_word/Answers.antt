-- `word::first_word` meets its contract: the lanes of its halves are the first four bytes, and the four behind them.
use mathlib.Core.Path.{subst}
use Prim.Native.Nat.{ℕ}
use mathlib.Core.List.{List}
use Rattle.definitions.proofs.Parts.{part-is}
use Rattle.plain_parts.specs.Lanes.{Loaded}
use Rattle.plain_parts.proofs.LaneLaws.{word-is}
use Rattle.plain_parts.proofs.word.first_word.Goals as goal

pub returns : goal.returns
returns c =
    let s = c.args.s.now in
    word-is s _ _ c.first_half.ensures
    (subst (λ (t : List ℕ). Loaded t 4 c.first_half-2.result) (part-is s 4) c.first_half-2.ensures)
