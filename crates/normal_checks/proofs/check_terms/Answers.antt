-- `normal_checks::check_terms` meets its contract: each refusal is where the definition gives it, in its order
-- (proofs/Checks.antt). Assumes nothing.
use Rattle.std.proofs.Common.{◌≤◌, sym, ◌∙◌, arith, w64, FitsSigned}
use mir.Facts.{to_z-of_z}
use Rattle.definitions.specs.Limits.{weight_limit}
use Rattle.term_checks.specs.TermTests.{weight_sizes}
use Rattle.normal_checks.proofs.Checks.{terms-unindexed, terms-large, terms-beyond, terms-accepted, bound-tested}
use Rattle.normal_checks.proofs.check_terms.Goals as goal

pub returns-then-not-indexed_of : goal.returns-then-not-indexed_of
returns-then-not-indexed_of c = terms-unindexed _ _ _ _ (sym c.indexed_of.ensures ∙ c.if-not-indexed_of.true)

pub returns-then-sizes_of-gt-WEIGHT_LIMIT : goal.returns-then-sizes_of-gt-WEIGHT_LIMIT
returns-then-sizes_of-gt-WEIGHT_LIMIT c =
    terms-large _ _ _ _ (sym c.indexed_of.ensures ∙ c.if-not-indexed_of.false) (omega (arith, c.sizes_of.ensures))

pub returns-then-not-sum_fits : goal.returns-then-not-sum_fits
returns-then-not-sum_fits c =
    let a = c.args in
    let f : FitsSigned w64 c.shift_of.result = record { sfits = c.shift_of.type_inv } in
    let h : weight_sizes a.weights.now ≤ weight_limit = omega (arith, c.sizes_of.ensures) in
    let e = rw (to_z-of_z c.ranges.bound, to_z-of_z f) at c.sum_fits.ensures in
    terms-beyond a.kind a.bound a.weights.now a.literals.now (sym c.indexed_of.ensures ∙ c.if-not-indexed_of.false) h
    (sym (bound-tested _ a.kind _ a.bound _ a.weights.now c.read_kind.ensures c.shift_of.ensures h e) ∙ c.if-not-sum_fits.true)

pub returns : goal.returns
returns c =
    let a = c.args in
    let f : FitsSigned w64 c.shift_of.result = record { sfits = c.shift_of.type_inv } in
    let h : weight_sizes a.weights.now ≤ weight_limit = omega (arith, c.sizes_of.ensures) in
    let e = rw (to_z-of_z c.ranges.bound, to_z-of_z f) at c.sum_fits.ensures in
    terms-accepted a.kind a.bound a.weights.now a.literals.now (sym c.indexed_of.ensures ∙ c.if-not-indexed_of.false) h
    (sym (bound-tested _ a.kind _ a.bound _ a.weights.now c.read_kind.ensures c.shift_of.ensures h e) ∙ c.if-not-sum_fits.false)
