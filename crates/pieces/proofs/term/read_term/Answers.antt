-- `read_term` meets its contract: a number, and behind it what `read_weighted` reads (proofs/Terms.antt).
use native.Mathlib.Omega.{arith}
use mathlib.Core.Path.{◌≡◌, sym, ap, ◌∙◌}
use Prim.Native.Nat.{◌≤◌}
use lib.ListN.{length, drop, length-drop}
use mir.Syntax.{w64}
use mir.Val.{SFits}
use mir.Facts.{to_z-of_z}
use Rattle.std.proofs.Common.{rules}
use Rattle.std.proofs.lemmas.Result.{err_from_is_err_and}
use Rattle.definitions.specs.Refusal.{fault}
use Rattle.definitions.specs.Reader.{none, got, more}
use Rattle.definitions.specs.Number.{number}
use Rattle.definitions.specs.Text.{after_weight, weighted}
use Rattle.definitions.proofs.Numbers.{number-within, number_fits}
use Rattle.definitions.proofs.Parts.{part-is}
use Rattle.definitions.proofs.Statements.{within-after-weight}
use Rattle.numbers.specs.Read.{said}
use Rattle.pieces.specs.Said.{said_term}
use Rattle.pieces.proofs.Terms.{weighted-missing, weighted-number}
use Rattle.pieces.proofs.term.read_term.Goals as goal
use Rattle.pieces.proofs.term.read_term.Goals.{After-read_weighted, In_ok-weight}

-- a number is read
module _ (c : In_ok-weight) where
  read : got c.in_ok-weight.weight c.in_ok-weight.n ≡ number c.args.s.now
  read = sym (ap said c.in_ok-weight.ensures.ok_part) ∙ c.read_number.ensures

  taken : c.in_ok-weight.n ≤ length c.args.s.now
  taken = (number-within c.args.s.now (sym read)).1

-- and what stands behind it
module _ (c : After-read_weighted) where
  number-read : got c.in_ok-weight.weight c.in_ok-weight.n ≡ number c.args.s.now
  number-read = read (goal.at.After-read_weighted c).In_ok-weight

  behind : said_term c.read_weighted.result ≡ after_weight c.args.options c.in_ok-weight.weight (drop c.in_ok-weight.n c.args.s.now)
  behind = rw (part-is c.args.s.now c.in_ok-weight.n, to_z-of_z (number_fits c.args.s.now (sym number-read))) at c.read_weighted.ensures

  answer : more c.in_ok-weight.n (said_term c.read_weighted.result) ≡ weighted c.args.options c.args.s.now
  answer = ap (more c.in_ok-weight.n) behind ∙ weighted-number _ _ _ _ number-read

pub returns-in_err-weight : goal.returns-in_err-weight
returns-in_err-weight c =
    let p = err_from_is_err_and c.from_residual.result c.from_residual.ensures.1 in
    let h = c.in_err-weight.ensures in
    let v = rw h.ok_part at h.value in
    let e : c.in_err-weight.field-0.0 ≡ fault 3 = cc in
    let m : none (fault 3) ≡ number c.args.s.now = sym (ap said h.ok_part) ∙ c.read_number.ensures in
    rw (p.1, p.2) (ap none e ∙ weighted-missing _ _ m)

pub slice_bounds-read_weighted-count : goal.slice_bounds-read_weighted-count
slice_bounds-read_weighted-count c = taken (goal.at.slice_bounds-read_weighted-count c).In_ok-weight

pub slice_bounds-read_weighted-start : goal.slice_bounds-read_weighted-start
slice_bounds-read_weighted-start c = taken (goal.at.slice_bounds-read_weighted-start c).In_ok-weight

pub returns-in_err-term : goal.returns-in_err-term
returns-in_err-term c =
    let p = err_from_is_err_and c.from_residual-in_err-term.result c.from_residual-in_err-term.ensures.1 in
    rw (p.1, p.2) (sym (ap (λ r. more c.in_ok-weight.n (said_term r)) c.in_err-term.was) ∙ answer (goal.at.returns-in_err-term c).After-read_weighted)

pub overflow_add-result : goal.overflow_add-result
overflow_add-result c =
    let s = c.args.s.now in
    let n = c.in_ok-weight.n in
    let d = (goal.at.overflow_add-result c).After-read_weighted in
    omega (
      arith,
      (within-after-weight c.args.options c.in_ok-weight.weight).most (drop n s) _ _ (sym (behind d) ∙ ap said_term c.in_ok-term.was),
      length-drop n s,
      taken (goal.at.overflow_add-result c).In_ok-weight,
      c.well_formed,
    )

pub returns : goal.returns
returns c =
    let f : SFits w64 c.in_ok-term.term.weight = search rules in
    rw (to_z-of_z f) (sym (ap (λ r. more c.in_ok-weight.n (said_term r)) c.in_ok-term.was) ∙ answer (goal.at.returns c).After-read_weighted)
