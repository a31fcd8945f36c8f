-- `fields_length` meets its contract: what the byte behind the blanks begins has met its terms (statements'
-- proofs/MetTerms.antt).
use Prim.Native.Nat.{ℕ, ◌<◌}
use mathlib.Core.List.{List}
use mathlib.Core.Path.{◌≡◌, sym, ap, ◌∙◌}
use lib.ListN.{length, drop}
use Rattle.definitions.specs.Bytes.{begins}
use Rattle.definitions.specs.declared.Beginning.{Beginning}
use Rattle.definitions.specs.declared.Beginning.TheVariants.{Comment, Objective, Constraint, Nothing}
use Rattle.definitions.specs.declared.Options.{Options}
use Rattle.definitions.proofs.Parts.{part-is}
use Rattle.sums.specs.Met.{met_terms}
use Rattle.statements.specs.Met.{goal_met, met_by, statement_met}
use Rattle.statements.proofs.MetTerms.{end-met, met-begun}
use Rattle.listing_lengths.specs.Measure.{fields_length}
use Rattle.listing_lengths.proofs.LineLengths.{none-length}
use Rattle.listing_lengths.proofs.statement.fields_length.Goals as goal
use Rattle.listing_lengths.proofs.statement.fields_length.Goals.{After-begins, Start}

-- what the byte behind the blanks begins
module _ (c : After-begins) where
  abbrev start : Start
  start = (goal.at.After-begins c).Start

  abbrev options : Options
  options = start.args.options

  abbrev text : List ℕ
  text = start.args.s.now

  abbrev gap : ℕ
  gap = c.blanks_of-k.result

  gap_below : gap < length text
  gap_below = c.if-s-k.false

  met-is : (q : Beginning) → c.begins.result ≡ q → statement_met options text ≡ met_by q options (drop gap text)
  met-is q e =
      met-begun options text gap c.blanks_of-k.ensures gap_below c.begins.result
      (c.begins.ensures ∙ ap begins c.class_of.ensures) q e

  fields-are : (q : Beginning) → c.begins.result ≡ q
      → fields_length options.first (met_by q options (drop gap text)) ≡ fields_length options.first (statement_met options text)
  fields-are q e = ap (fields_length options.first) (sym (met-is q e))

pub returns-then-s-k : goal.returns-then-s-k
returns-then-s-k c =
    none-length c.args.options.first
    ∙ ap (fields_length c.args.options.first) (sym (end-met c.args.options c.args.s.now _
    c.blanks_of-k.ensures c.if-s-k.true))

pub returns-in-Comment : goal.returns-in-Comment
returns-in-Comment c =
    none-length (options (goal.at.returns-in-Comment c).After-begins).first ∙ fields-are (goal.at.returns-in-Comment c).After-begins Comment c.in-Comment.is

pub returns-in-Objective : goal.returns-in-Objective
returns-in-Objective c =
    c.goal_length.ensures ∙ ap (λ (x : List ℕ). fields_length (options (goal.at.returns-in-Objective c).After-begins).first (goal_met (options (goal.at.returns-in-Objective c).After-begins) x)) (part-is (text (goal.at.returns-in-Objective c).After-begins) (gap (goal.at.returns-in-Objective c).After-begins))
    ∙ fields-are (goal.at.returns-in-Objective c).After-begins Objective c.in-Objective.is

pub returns-in-Constraint : goal.returns-in-Constraint
returns-in-Constraint c =
    c.sum_length.ensures ∙ ap (λ (x : List ℕ). fields_length (options (goal.at.returns-in-Constraint c).After-begins).first (met_terms (options (goal.at.returns-in-Constraint c).After-begins) x)) (part-is (text (goal.at.returns-in-Constraint c).After-begins) (gap (goal.at.returns-in-Constraint c).After-begins))
    ∙ fields-are (goal.at.returns-in-Constraint c).After-begins Constraint c.in-Constraint.is

pub returns-in-Nothing : goal.returns-in-Nothing
returns-in-Nothing c =
    none-length (options (goal.at.returns-in-Nothing c).After-begins).first ∙ fields-are (goal.at.returns-in-Nothing c).After-begins Nothing c.in-Nothing.is
