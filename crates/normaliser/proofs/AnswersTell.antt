-- What an answer tells of the rows.
use Rattle.std.specs.Prelude.{Ok, Err}
use mathlib.Core.Path.{◌≡◌, refl, sym, ap, ◌∙◌}
use mathlib.Core.List.{List}
use borrow.Author.Tests.{le-leb}
use lib.ListN.{length}
use Rattle.definitions.specs.declared.Refusal.{Refusal}
use Rattle.definitions.specs.Row.{Line}
use Rattle.definitions.specs.Table.{Table, row_room, term_room, Outcome, refused, accepted, all_terms, filled, fitted, counted, after}
use Rattle.definitions.specs.declared.Totals.{Totals}
use Rattle.definitions.specs.Normal.{normalising}
use Rattle.definitions.proofs.Columns.{fitted-accepted}
use Rattle.definitions.proofs.Truths.{never}
use Rattle.normal_checks.specs.FirstWalk.{normal_rows}
use Rattle.normaliser.specs.Fill.{Ready}
use Rattle.normaliser.specs.Normalises.{Normalises}

module _ (t o : Table) where
  -- a refused call changes nothing
  pub normal-refused : (i : Refusal) → refused i ≡ counted (normalising t o) → Normalises t o (Err i) o
  unfolding after
  normal-refused i e = by (normalising t o) refl e
    where
      by : (q : Outcome (List Line)) → normalising t o ≡ q → refused i ≡ counted q → Normalises t o (Err i) o
      by (refused j) a f = record { answer = e; after = ap (λ (q : Outcome (List Line)). after q o) (sym a) }
      by (accepted ls) a f = never (cc)

  module _ (x : Totals) (e : accepted x ≡ counted (normalising t o)) where
    pub ready : Ready t o
    unfolding normalising
    ready = by (normalising t o) refl e
      where
        by : (q : Outcome (List Line)) → normalising t o ≡ q → accepted x ≡ counted q → Ready t o
        by (refused j) a f = never (cc)
        by (accepted ls) a f =
            let g = fitted-accepted o (normal_rows t) ls a in
            record { given = ls; accepts = g.accepts; rows = g.rows; terms = g.terms }

    pub normal-filled : (o' : Table) → ((ls : List Line) → normal_rows t ≡ accepted ls → o' ≡ filled ls o)
        → Normalises t o (Ok x) o'
    unfolding normalising fitted after
    normal-filled o' d =
        let r = ready in
        let ls = r.given in
        let f : normalising t o ≡ accepted ls =
        rw (r.accepts, le-leb (length ls) (row_room o) r.rows, le-leb (length (all_terms ls)) (term_room o) r.terms) in
        record { answer = e; after = d ls r.accepts ∙ ap (λ (q : Outcome (List Line)). after q o) (sym f) }
