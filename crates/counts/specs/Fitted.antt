-- What was counted of a file, held against the room for it.
use Rattle.std.specs.Prelude.{ℕ, cond, leb}
use Rattle.definitions.specs.Refusal.{refusal}
use Rattle.definitions.specs.Table.{Outcome, refused, accepted}
use Rattle.definitions.specs.declared.Totals.{Totals}

-- "9, then 10, once the whole file has read well": `fitted` (definitions/specs/Table), of which only the totals are
-- known
abbrev pub fitted_totals : ℕ → ℕ → Outcome Totals → Outcome Totals
fitted_totals rows terms (refused r) = refused r
fitted_totals rows terms (accepted n) =
    cond (leb n.rows rows) (cond (leb n.terms terms) (accepted n) (refused (refusal 10 n.terms))) (refused (refusal 9 n.rows))
