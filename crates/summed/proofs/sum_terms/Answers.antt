-- `summed::sum_terms` meets its contract: each refusal is where the definition gives it, in its order
-- (proofs/Orders.antt). Assumes nothing.
use Rattle.std.proofs.Common.{sym, ap, ◌∙◌, arith, w64}
use mir.Facts.{to_z-of_z}
use Rattle.definitions.specs.Refusal.{accept}
use Rattle.term_checks.proofs.Terms.{sizes-on}
use Rattle.assigned.proofs.Known.{covered-within}
use Rattle.summed.proofs.Orders.{sums-11, sums-8, sums-12, sums-up}
use Rattle.summed.proofs.sum_terms.Goals as goal

pub returns-then-not-indexed_of : goal.returns-then-not-indexed_of
returns-then-not-indexed_of c = sums-11 _ _ _ _ c.requires (sym c.indexed_of.ensures ∙ c.if-not-indexed_of.true)

pub returns-then-sizes_of-gt-WEIGHT_LIMIT : goal.returns-then-sizes_of-gt-WEIGHT_LIMIT
returns-then-sizes_of-gt-WEIGHT_LIMIT c =
    sums-8 _ _ _ _ c.requires (sym c.indexed_of.ensures ∙ c.if-not-indexed_of.false) (omega (arith, c.sizes_of.ensures))

pub returns-then-not-covered : goal.returns-then-not-covered
returns-then-not-covered c =
    sums-12 _ _ _ _ c.requires (sym c.indexed_of.ensures ∙ c.if-not-indexed_of.false) (omega (arith, c.sizes_of.ensures))
    (sym c.covered.ensures ∙ c.if-not-covered.true)

pub sum_of-requires-clause-small : goal.sum_of-requires-clause-small
sum_of-requires-clause-small c =
    omega (arith, sizes-on c.args.weights.now c.args.literals.now c.requires, c.sizes_of.ensures)

pub sum_of-requires-clause-covers : goal.sum_of-requires-clause-covers
sum_of-requires-clause-covers c = covered-within _ _ _ (sym c.covered.ensures ∙ c.if-not-covered.false)

pub returns : goal.returns
returns c =
    ap accept (to_z-of_z {w = w64} (record { sfits = c.sum_of.type_inv }) ∙ c.sum_of.ensures)
    ∙ sums-up _ _ _ _ c.requires (sym c.indexed_of.ensures ∙ c.if-not-indexed_of.false) (omega (arith, c.sizes_of.ensures))
    (sym c.covered.ensures ∙ c.if-not-covered.false)
