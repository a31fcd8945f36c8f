-- `forms::is_string` meets its contract: three runs, and what is left behind them. Assumes nothing.
use Prim.Native.Nat.{ℕ, ◌+◌, ◌≤◌}
use mathlib.Core.Path.{◌≡◌, ap, ◌∙◌}
use mathlib.Core.List.{List}
use native.Mathlib.Omega.{arith}
use borrow.Author.Tests.{ne_eqb}
use lib.ListN.{length, drop}
use Rattle.definitions.specs.Values.{is_white, is_bit, front_of}
use Rattle.definitions.proofs.Parts.{part-is}
use Rattle.forms.proofs.Forms.{Trimmed, first-within, bits-within, last_within, string-not, string-more, string-one}
use Rattle.forms.proofs.is_string.Goals as goal
use Rattle.forms.proofs.is_string.Goals.{After-bit_run-count, After-white_run-start, After-white_run-tail}

-- the white space in front
module _ (c : After-white_run-start) where
  abbrev text : List ℕ
  text = c.args.s.now

  abbrev start : ℕ
  start = c.white_run-start.result

  start-within : start ≤ length text
  start-within = first-within text start c.white_run-start.ensures

-- the zeros and ones behind it
module _ (c : After-bit_run-count) where
  abbrev at_bits : After-white_run-start
  at_bits = (goal.at.After-bit_run-count c).After-white_run-start

  abbrev end : ℕ
  end = start at_bits + c.bit_run-count.result

  bits_are : c.bit_run-count.result ≡ length (front_of is_bit (drop (start at_bits) (text at_bits)))
  bits_are = c.bit_run-count.ensures ∙ ap (λ (s : List ℕ). length (front_of is_bit s)) (part-is (text at_bits) (start at_bits))

  end-within : end ≤ length (text at_bits)
  end-within = bits-within (text at_bits) (start at_bits) c.bit_run-count.result (start-within at_bits) bits_are

-- the white space behind them
module _ (c : After-white_run-tail) where
  abbrev at-end : After-bit_run-count
  at-end = (goal.at.After-white_run-tail c).After-bit_run-count

  abbrev whole : List ℕ
  whole = text (at_bits at-end)

  last-are : c.white_run-tail.result ≡ length (front_of is_white (drop (end at-end) whole))
  last-are = c.white_run-tail.ensures ∙ ap (λ (s : List ℕ). length (front_of is_white s)) (part-is whole (end at-end))

  tail_within : end at-end + c.white_run-tail.result ≤ length whole
  tail_within = last_within whole (end at-end) c.white_run-tail.result (end-within at-end) last-are

  trimmed : Trimmed whole (start (at_bits at-end)) at-end.bit_run-count.result c.white_run-tail.result
  trimmed = record { first = (at_bits at-end).white_run-start.ensures; bits = bits_are at-end; last = last-are }

pub slice_bounds-bit_run-count : goal.slice_bounds-bit_run-count
slice_bounds-bit_run-count c = start-within c

pub slice_bounds-bit_run-start : goal.slice_bounds-bit_run-start
slice_bounds-bit_run-start c = start-within c

pub overflow_add-end : goal.overflow_add-end
overflow_add-end c = omega (arith, end-within c)

pub slice_bounds-white_run-count : goal.slice_bounds-white_run-count
slice_bounds-white_run-count c = end-within c

pub slice_bounds-white_run-start : goal.slice_bounds-white_run-start
slice_bounds-white_run-start c = end-within c

pub overflow_add-end-2 : goal.overflow_add-end-2
overflow_add-end-2 c = omega (arith, tail_within c)

pub returns-then-end-tail : goal.returns-then-end-tail
returns-then-end-tail c = string-not _ _ _ _ (trimmed (goal.at.returns-then-end-tail c).After-white_run-tail) c.if-end-tail.true

pub returns-then-count-ne1 : goal.returns-then-count-ne1
returns-then-count-ne1 c = rw (ne_eqb c.bit_run-count.result 1 c.if-count-ne1.true) (string-more _ _ _ _ (trimmed (goal.at.returns-then-count-ne1 c).After-white_run-tail) c.if-end-tail.false c.if-count-ne1.true)

pub bounds-s-start : goal.bounds-s-start
bounds-s-start c = omega (arith, end-within (goal.at.bounds-s-start c).After-bit_run-count)

pub returns-else-count-ne1 : goal.returns-else-count-ne1
returns-else-count-ne1 c = string-one _ _ _ _ (trimmed (goal.at.returns-else-count-ne1 c).After-white_run-tail) c.if-end-tail.false c.if-count-ne1.false
