-- `read_weighted` meets its contract: blanks, a literal and blanks, each read on what the one before left
-- (proofs/Terms.antt).
use native.Mathlib.Omega.{arith}
use mathlib.Core.Path.{◌≡◌, sym, ap, ◌∙◌}
use Prim.Native.Nat.{◌+◌, ◌≤◌}
use lib.ListN.{length, drop}
use mir.Facts.{to_z-of_z}
use Rattle.std.proofs.lemmas.Result.{err_from_is_err_and}
use Rattle.definitions.specs.Bytes.{blanks}
use Rattle.definitions.specs.Reader.{got}
use Rattle.definitions.specs.Text.{literal}
use Rattle.definitions.proofs.Parts.{part-is}
use Rattle.definitions.proofs.Texts.{blanks-within}
use Rattle.literal_read.specs.Said.{said_literal}
use Rattle.pieces.proofs.Terms.{literal-ends-within, blanks-end-within, after-weight-no-blank}
use Rattle.pieces.proofs.Terms.{after-weight-no-literal, after-weight-literal}
use Rattle.pieces.proofs.term.read_weighted.Goals as goal
use Rattle.pieces.proofs.term.read_weighted.Goals.{After-blanks_of-j, After-read_literal, In_ok-literal}

-- behind the blanks
behind : (c : After-read_literal) → said_literal c.read_literal.result ≡ literal c.args.options (drop c.blanks_of-k.result c.args.s.now)
behind c = c.read_literal.ensures ∙ ap (literal c.args.options) (part-is c.args.s.now c.blanks_of-k.result)

-- a literal is read
module _ (c : In_ok-literal) where
  read : got c.in_ok-literal.literal.0 c.in_ok-literal.n ≡ literal c.args.options (drop c.blanks_of-k.result c.args.s.now)
  read = sym (ap said_literal c.in_ok-literal.was) ∙ behind (goal.at.In_ok-literal c).After-read_literal

  ends-within : c.blanks_of-k.result + c.in_ok-literal.n ≤ length c.args.s.now
  ends-within = literal-ends-within _ c.args.s.now _ c.blanks_of-k.ensures _ _ read

-- and the blanks behind it
last-is : (c : After-blanks_of-j) → c.blanks_of-j.result ≡ blanks (drop (c.blanks_of-k.result + c.in_ok-literal.n) c.args.s.now)
last-is c = c.blanks_of-j.ensures ∙ ap blanks (part-is c.args.s.now (c.blanks_of-k.result + c.in_ok-literal.n))

pub returns-then-k-eq0 : goal.returns-then-k-eq0
returns-then-k-eq0 c = after-weight-no-blank _ _ _ c.blanks_of-k.ensures _ c.if-k-eq0.true

pub slice_bounds-read_literal-count : goal.slice_bounds-read_literal-count
slice_bounds-read_literal-count c = omega (arith, c.blanks_of-k.ensures, blanks-within c.args.s.now)

pub slice_bounds-read_literal-start : goal.slice_bounds-read_literal-start
slice_bounds-read_literal-start c = omega (arith, c.blanks_of-k.ensures, blanks-within c.args.s.now)

pub returns-in_err-literal : goal.returns-in_err-literal
returns-in_err-literal c =
    let p = err_from_is_err_and c.from_residual.result c.from_residual.ensures.1 in
    rw (p.1, p.2) (after-weight-no-literal _ _ _ c.blanks_of-k.ensures _ c.if-k-eq0.false _
    (sym (ap said_literal c.in_err-literal.was) ∙ behind (goal.at.returns-in_err-literal c).After-read_literal))

pub overflow_add-a : goal.overflow_add-a
overflow_add-a c = omega (arith, ends-within (goal.at.overflow_add-a c).In_ok-literal, c.well_formed)

pub slice_bounds-blanks_of-count : goal.slice_bounds-blanks_of-count
slice_bounds-blanks_of-count c = ends-within (goal.at.slice_bounds-blanks_of-count c).In_ok-literal

pub slice_bounds-blanks_of-start : goal.slice_bounds-blanks_of-start
slice_bounds-blanks_of-start c = ends-within (goal.at.slice_bounds-blanks_of-start c).In_ok-literal

pub overflow_add-result : goal.overflow_add-result
overflow_add-result c =
    let r = read (goal.at.overflow_add-result c).In_ok-literal in
    let l = last-is (goal.at.overflow_add-result c).After-blanks_of-j in
    omega (arith, blanks-end-within _ c.args.s.now _ c.blanks_of-k.ensures _ _ r _ l, c.well_formed)

pub returns : goal.returns
returns c =
    rw (to_z-of_z c.ranges.weight) (after-weight-literal _ _ _ c.blanks_of-k.ensures _ c.if-k-eq0.false _ _ _
    (read (goal.at.returns c).In_ok-literal) (last-is (goal.at.returns c).After-blanks_of-j))
