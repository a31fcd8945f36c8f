-- `row_length` meets its contract: the word, a tab, the bound and an LF are added to the terms.
use native.Mathlib.Omega.{arith}
use mathlib.Core.Path.{◌≡◌, ap, ◌∙◌}
use mathlib.Core.List.{[], ◌∷◌}
use Prim.Native.Nat.{ℕ, ◌+◌, ◌≤◌}
use lib.ListN.{length, length-append}
use lib.IntN.{ℤ}
use mir.Facts.{to_z-of_z}
use Rattle.definitions.specs.Refusal.{needed}
use Rattle.definitions.specs.Bytes.{tab}
use Rattle.definitions.specs.Number.{integer_text}
use Rattle.definitions.specs.House.{kind_word}
use Rattle.laws.proofs.Digits.{number-length-most}
use Rattle.columns.specs.Kinds.{read_kind}
use Rattle.house_lengths.proofs.WordLaws.{word-most}
use Rattle.house_lengths.proofs.lines.row_length.Goals as goal
use Rattle.house_lengths.proofs.lines.row_length.Goals.{After-number_length, Start}

module _ (c : After-number_length) where
  abbrev start : Start
  start = (goal.at.After-number_length c).Start

  bound-length : (c.number_length.result ≡ length (integer_text start.args.bound)) × (length (integer_text start.args.bound) ≤ 20)
  bound-length = (
    c.number_length.ensures ∙ ap (λ (z : ℤ). length (integer_text z)) (to_z-of_z start.ranges.bound),
    number-length-most
        start.args.bound start.ranges.bound,
  )

  word-length : (c.word_length.result ≡ length (kind_word (read_kind start.args.kind))) ×
      (length (kind_word (read_kind start.args.kind)) ≤ 3)
  word-length = (c.word_length.ensures, word-most (read_kind start.args.kind))

pub overflow_add-more : goal.overflow_add-more
overflow_add-more c = omega (arith, bound-length c, word-length c)

pub overflow_add-more-2 : goal.overflow_add-more-2
overflow_add-more-2 c = omega (arith, bound-length c, word-length c)

pub returns : goal.returns
returns c =
    let d = (goal.at.returns c).After-number_length in
    c.add_needed.ensures ∙ ap (λ (n : ℕ). needed (c.args.terms + n))
    (omega (arith, bound-length d, word-length d, length-append (kind_word (read_kind c.args.kind)) (tab ∷ [])))
