-- `read_comparison` meets its contract: a link of the chain for each call, each on the part that the last one left.
use Prim.Native.Nat.{ℕ, ◌+◌, ◌≤◌}
use mathlib.Core.List.{List}
use mathlib.Core.Path.{◌≡◌, sym, ap, ◌∙◌}
use native.Mathlib.Omega.{arith}
use mir.Facts.{to_z-of_z}
use lib.IntN.{ℤ}
use lib.ListN.{length, drop, length-drop}
use Rattle.definitions.specs.Bytes.{blanks}
use Rattle.definitions.specs.Number.{number}
use Rattle.definitions.specs.Reader.{got}
use Rattle.definitions.specs.Text.{operator, ending, Comparison, comparison_of, comparison}
use Rattle.definitions.specs.declared.OpbOperator.{OpbOperator}
use Rattle.definitions.proofs.Numbers.{number-within, number_fits}
use Rattle.definitions.proofs.Parts.{part-is}
use Rattle.definitions.proofs.Statements.{within-operator, within-comparison}
use Rattle.definitions.proofs.Texts.{blanks-within}
use Rattle.std.proofs.lemmas.Result.{err_from_is_err_and}
use Rattle.numbers.specs.Read.{said}
use Rattle.operators.specs.Said.{said_operator}
use Rattle.frames.specs.Said.{said_ending}
use Rattle.frames.proofs.Closings.{refused, comparison-no-operator, comparison-no-number, comparison-no-ending, comparison-got}
use Rattle.frames.proofs.closing.read_comparison.Goals as goal
use Rattle.frames.proofs.closing.read_comparison.Goals.{After-blanks_of, After-read_ending, After-read_number, In_ok-operator, In_ok-number, In_ok-semicolon}

module _ (c : In_ok-operator) where
  abbrev text : List ℕ
  text = c.args.s.now

  abbrev found : OpbOperator
  found = c.in_ok-operator.operator

  abbrev operator-end : ℕ
  operator-end = c.in_ok-operator.n

  operator-got : operator text ≡ got found operator-end
  operator-got = sym c.read_operator.ensures ∙ ap said_operator c.in_ok-operator.ensures.ok_part

  operator-within : operator-end ≤ length text
  operator-within = within-operator.most text found operator-end operator-got

module _ (c : After-blanks_of) where
  abbrev behind-operator : In_ok-operator
  behind-operator = (goal.at.After-blanks_of c).In_ok-operator

  abbrev blanks-end : ℕ
  blanks-end = operator-end behind-operator + c.blanks_of.result

  blanks-got : c.blanks_of.result ≡ blanks (drop (operator-end behind-operator) (text behind-operator))
  blanks-got = c.blanks_of.ensures ∙ ap blanks (part-is (text behind-operator) (operator-end behind-operator))

  blanks-end-within : blanks-end ≤ length (text behind-operator)
  blanks-end-within =
      let s = text behind-operator in
      let n = operator-end behind-operator in
      omega (arith, operator-within behind-operator, blanks-got, blanks-within (drop n s), length-drop n s)

module _ (c : After-read_number) where
  abbrev behind-blanks : After-blanks_of
  behind-blanks = (goal.at.After-read_number c).After-blanks_of

  abbrev number-text : List ℕ
  number-text = text (behind-operator behind-blanks)

  number_by : number (drop (blanks-end behind-blanks) number-text) ≡ said c.read_number.result
  number_by = sym (c.read_number.ensures ∙ ap number (part-is number-text (blanks-end behind-blanks)))

module _ (c : In_ok-number) where
  abbrev at-number : After-read_number
  at-number = (goal.at.In_ok-number c).After-read_number

  abbrev value : ℤ
  value = c.in_ok-number.number

  abbrev number-bytes : ℕ
  number-bytes = c.in_ok-number.m

  abbrev number-end : ℕ
  number-end = blanks-end (behind-blanks at-number) + number-bytes

  number-got : number (drop (blanks-end (behind-blanks at-number)) (number-text at-number)) ≡ got value number-bytes
  number-got = number_by at-number ∙ ap said c.in_ok-number.ensures.ok_part

  number-end-within : number-end ≤ length (number-text at-number)
  number-end-within =
      let b = behind-blanks at-number in
      omega (
        arith,
        blanks-end-within b,
        (number-within _ number-got).1,
        length-drop (blanks-end b) (number-text at-number),
      )

module _ (c : After-read_ending) where
  abbrev behind-number : In_ok-number
  behind-number = (goal.at.After-read_ending c).In_ok-number

  abbrev ending-text : List ℕ
  ending-text = number-text (at-number behind-number)

  ending-by : ending (drop (number-end behind-number) ending-text) ≡ said_ending c.read_ending.result
  ending-by = sym (c.read_ending.ensures ∙ ap ending (part-is ending-text (number-end behind-number)))

-- the whole
module _ (c : In_ok-semicolon) where
  abbrev at-ending : After-read_ending
  at-ending = (goal.at.In_ok-semicolon c).After-read_ending

  abbrev read : Comparison
  read =
      let d = behind-number at-ending in
      comparison_of (found (behind-operator (behind-blanks (at-number d)))) (value d) c.in_ok-semicolon.semicolon

  abbrev comparison-end : ℕ
  comparison-end = number-end (behind-number at-ending) + c.in_ok-semicolon.k

  comparison-is : comparison (ending-text at-ending) ≡ got read comparison-end
  comparison-is =
      let d = behind-number at-ending in
      let e = behind-blanks (at-number d) in
      let f = behind-operator e in
      comparison-got (text f) (found f) (operator-end f) e.blanks_of.result (operator-got f) (blanks-got e) (value d)
      (number-bytes d) (number-got d) _ _
      (ending-by at-ending ∙ ap said_ending c.in_ok-semicolon.ensures.ok_part)

pub returns-in_err-operator : goal.returns-in_err-operator
returns-in_err-operator c =
    let p = err_from_is_err_and c.from_residual.result c.from_residual.ensures.1 in
    rw (p.1, p.2, refused _ _ _ c.in_err-operator.ensures.value)
    (sym (comparison-no-operator c.args.s.now
    (sym c.read_operator.ensures ∙ ap said_operator c.in_err-operator.ensures.ok_part)))

pub slice_bounds-blanks_of-count : goal.slice_bounds-blanks_of-count
slice_bounds-blanks_of-count c = operator-within c

pub slice_bounds-blanks_of-start : goal.slice_bounds-blanks_of-start
slice_bounds-blanks_of-start c = operator-within c

pub overflow_add-a : goal.overflow_add-a
overflow_add-a c = let h = blanks-end-within c in omega arith

pub slice_bounds-read_number-count : goal.slice_bounds-read_number-count
slice_bounds-read_number-count c = blanks-end-within c

pub slice_bounds-read_number-start : goal.slice_bounds-read_number-start
slice_bounds-read_number-start c = blanks-end-within c

pub returns-in_err-number : goal.returns-in_err-number
returns-in_err-number c =
    let p = (goal.at.returns-in_err-number c).After-read_number in
    let e = behind-blanks p in
    let f = behind-operator e in
    let r = err_from_is_err_and c.from_residual-in_err-number.result c.from_residual-in_err-number.ensures.1 in
    rw (r.1, r.2, refused _ _ _ c.in_err-number.ensures.value)
    (sym (comparison-no-number (text f) (found f) (operator-end f) e.blanks_of.result (operator-got f) (blanks-got e)
    (number_by p ∙ ap said c.in_err-number.ensures.ok_part)))

pub overflow_add-b : goal.overflow_add-b
overflow_add-b c = let h = number-end-within (goal.at.overflow_add-b c).In_ok-number in omega arith

pub slice_bounds-read_ending-count : goal.slice_bounds-read_ending-count
slice_bounds-read_ending-count c = number-end-within (goal.at.slice_bounds-read_ending-count c).In_ok-number

pub slice_bounds-read_ending-start : goal.slice_bounds-read_ending-start
slice_bounds-read_ending-start c = number-end-within (goal.at.slice_bounds-read_ending-start c).In_ok-number

pub returns-in_err-semicolon : goal.returns-in_err-semicolon
returns-in_err-semicolon c =
    let p = (goal.at.returns-in_err-semicolon c).After-read_ending in
    let d = behind-number p in
    let e = behind-blanks (at-number d) in
    let f = behind-operator e in
    let r = err_from_is_err_and c.from_residual-in_err-semicolon.result c.from_residual-in_err-semicolon.ensures.1 in
    rw (r.1, r.2, refused _ _ _ c.in_err-semicolon.ensures.value)
    (sym (comparison-no-ending (text f) (found f) (operator-end f) e.blanks_of.result (operator-got f) (blanks-got e)
    (value d) (number-bytes d) (number-got d)
    (ending-by p ∙ ap said_ending c.in_err-semicolon.ensures.ok_part)))

pub overflow_add-result : goal.overflow_add-result
overflow_add-result c =
    let h = within-comparison.most (ending-text (at-ending c)) (read c) (comparison-end c) (comparison-is c) in
    omega arith

pub returns : goal.returns
returns c =
    let d = behind-number (at-ending c) in
    rw (to_z-of_z (number_fits _ (number-got d))) (sym (comparison-is c))
