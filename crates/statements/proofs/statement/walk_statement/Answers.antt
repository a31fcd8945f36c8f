-- `walk_statement` meets its contract: what the byte behind the blanks begins, and the answer of its reader, so many
-- blanks on (proofs/Rows.antt).
use Prim.Native.Nat.{ℕ, ◌+◌, ◌<◌, ◌^◌}
use mathlib.Core.List.{List}
use mathlib.Core.Path.{◌≡◌, sym, ap, subst, ◌∙◌}
use native.Mathlib.Omega.{arith}
use lib.ListN.{length, get_or, drop, length-drop}
use Rattle.definitions.specs.Bytes.{blanks, begins, class_of}
use Rattle.definitions.specs.Reader.{Got}
use Rattle.definitions.specs.Text.{remark, goal, constraint}
use Rattle.definitions.specs.declared.Entry.{Entry}
use Rattle.definitions.specs.declared.Beginning.{Beginning}
use Rattle.definitions.specs.declared.Beginning.TheVariants.{Comment, Objective, Constraint, Nothing}
use Rattle.definitions.specs.declared.Options.{Options}
use Rattle.definitions.proofs.Parts.{part-is}
use Rattle.definitions.proofs.Statements.{goal-taken, constraint-taken}
use Rattle.beginnings.specs.Said.{said_comment}
use Rattle.statements.specs.Brief.{brief_row, row_after, comment_after}
use Rattle.statements.specs.Fitting.{Fitting}
use Rattle.closings.specs.Closed.{said_row}
use Rattle.statements.specs.Met.{met_by, statement_met}
use Rattle.statements.proofs.MetTerms.{none-put, end-met, met-begun}
use Rattle.statements.proofs.Rows.{row_fits, comment-fits, statement-end, statement-comment, statement-goal}
use Rattle.statements.proofs.Rows.{statement-constraint, statement-nothing}
use Rattle.statements.proofs.statement.walk_statement.Goals as goal
use Rattle.statements.proofs.statement.walk_statement.Goals.{After-begins, After-constraint, After-objective, After-read_comment, Start}

-- what the byte behind the blanks begins
module _ (c : After-begins) where
  abbrev start : Start
  start = (goal.at.After-begins c).Start

  abbrev options : Options
  options = start.args.options

  abbrev text : List ℕ
  text = start.args.s.now

  abbrev gap : ℕ
  gap = c.blanks_of-k.result

  abbrev rest : List ℕ
  rest = drop gap text

  gap_is : gap ≡ blanks text
  gap_is = c.blanks_of-k.ensures

  gap_below : gap < length text
  gap_below = c.if-s-k.false

  fits : gap + length rest < 2 ^ 64
  fits = omega (arith, gap_below, length-drop gap text, start.well_formed.0.0)

  begun : c.begins.result ≡ begins (class_of (get_or text gap 0))
  begun = c.begins.ensures ∙ ap begins c.class_of.ensures

  met-is : (q : Beginning) → c.begins.result ≡ q → statement_met options text ≡ met_by q options rest
  met-is q e = met-begun options text gap gap_is gap_below c.begins.result begun q e

-- a comment
module _ (c : After-read_comment) where
  abbrev at-comment : After-begins
  at-comment = (goal.at.After-read_comment c).After-begins

  comment-is : said_comment c.read_comment.result ≡ remark (rest at-comment)
  comment-is = c.read_comment.ensures ∙ ap remark (part-is (text at-comment) (gap at-comment))

-- an objective
module _ (c : After-objective) where
  abbrev at-objective : After-begins
  at-objective = (goal.at.After-objective c).After-begins

  objective-is : said_row c.objective.result ≡ brief_row (goal (options at-objective) (rest at-objective))
  objective-is =
      c.objective.ensures.answer
      ∙ ap (λ (t : List ℕ). brief_row (goal (options at-objective) t))
      (part-is (text at-objective) (gap at-objective))

-- a constraint
module _ (c : After-constraint) where
  abbrev at-constraint : After-begins
  at-constraint = (goal.at.After-constraint c).After-begins

  constraint-is : said_row c.constraint.result ≡ brief_row (constraint (options at-constraint) (rest at-constraint))
  constraint-is =
      c.constraint.ensures.answer
      ∙ ap (λ (t : List ℕ). brief_row (constraint (options at-constraint) t))
      (part-is (text at-constraint) (gap at-constraint))

pub returns-then-s-k : goal.returns-then-s-k
returns-then-s-k c =
    record {
      answer = statement-end _ _ _ c.blanks_of-k.ensures c.if-s-k.true;
      filled = rw (end-met _ _ _ c.blanks_of-k.ensures c.if-s-k.true) (none-put _ _);
    }

pub comment_after-requires : goal.comment_after-requires
comment_after-requires c = let d = at-comment c in comment-fits (gap d) (rest d) (fits d) c.read_comment.result
    (comment-is c)

pub row_after-requires : goal.row_after-requires
row_after-requires c =
    let p = (goal.at.row_after-requires c).After-objective in
    let d = at-objective p in
    subst (λ (g : Got Entry). Fitting (gap d) g) (sym (objective-is p))
    (row_fits (gap d) (rest d) (fits d) _ (goal-taken (options d) (rest d)))

pub row_after-requires-in-Constraint : goal.row_after-requires-in-Constraint
row_after-requires-in-Constraint c =
    let p = (goal.at.row_after-requires-in-Constraint c).After-constraint in
    let d = at-constraint p in
    subst (λ (g : Got Entry). Fitting (gap d) g) (sym (constraint-is p))
    (row_fits (gap d) (rest d) (fits d) _ (constraint-taken (options d) (rest d)))

pub returns-in-Comment : goal.returns-in-Comment
returns-in-Comment c =
    let p = (goal.at.returns-in-Comment c).After-read_comment in
    let d = at-comment p in
    let q = c.in-Comment.is in
    record {
      answer =
          c.comment_after.ensures ∙ ap (comment_after (gap d)) (comment-is p)
          ∙ statement-comment (options d) (text d) (gap d) (gap_is d) (gap_below d) _ (begun d) q;
      filled = rw (met-is d Comment q) (none-put _ _);
    }

pub returns-in-Objective : goal.returns-in-Objective
returns-in-Objective c =
    let p = (goal.at.returns-in-Objective c).After-objective in
    let d = at-objective p in
    let q = c.in-Objective.is in
    record {
      answer =
          c.row_after.ensures ∙ ap (row_after (gap d)) (objective-is p)
          ∙ statement-goal (options d) (text d) (gap d) (gap_is d) (gap_below d) _ (begun d) q;
      filled = rw (met-is d Objective q, ← part-is (text d) (gap d)) c.objective.ensures.filled;
    }

pub returns-in-Constraint : goal.returns-in-Constraint
returns-in-Constraint c =
    let p = (goal.at.returns-in-Constraint c).After-constraint in
    let d = at-constraint p in
    let q = c.in-Constraint.is in
    record {
      answer =
          c.row_after-in-Constraint.ensures ∙ ap (row_after (gap d)) (constraint-is p)
          ∙ statement-constraint (options d) (text d) (gap d) (gap_is d) (gap_below d) _ (begun d) q;
      filled = rw (met-is d Constraint q, ← part-is (text d) (gap d)) c.constraint.ensures.filled;
    }

pub returns-in-Nothing : goal.returns-in-Nothing
returns-in-Nothing c =
    let p = (goal.at.returns-in-Nothing c).After-begins in
    record {
      answer = statement-nothing (options p) (text p) (gap p) (gap_is p) (gap_below p) _ (begun p) c.in-Nothing.is;
      filled = rw (met-is p Nothing c.in-Nothing.is) (none-put _ _);
    }
