-- `walk_plain` meets its contract: the loop stands behind a run of plain terms (`Ran`, specs/Run.antt), with the rest
-- of the text from there on; how much was passed is told by what is left. The measure is what is left of the text.
use Prim.Native.Nat.{ℕ, ◌+◌, ◌-◌, ◌≤◌}
use mathlib.Core.Path.{◌≡◌, refl}
use mathlib.Core.List.{List}
use native.Mathlib.Omega.{arith}
use lib.ListN.{length, take, drop}
use lib.IntN.{ℤ}
use Rattle.definitions.specs.declared.Options.{Options}
use Rattle.plain.specs.Plain.{PlainIs}
use Rattle.sums.specs.Run.{Ran, begun}
use Rattle.plain.specs.declared.PlainTerm.{PlainTerm}
use Rattle.sums.proofs.Runs.{ran-under, ran-kept, plain-has-byte, ran-plain, plain-there, rest-behind, rest-holds}
use Rattle.sums.proofs.Runs.{passed, none_passed, left-within, passed-more, left_less}
use Rattle.sums.proofs.run.walk_plain.Goals as goal
use Rattle.sums.proofs.run.walk_plain.Goals.{After-add_plain-size, After-put_plain, At-loop-term, In-Some, Start}

-- a turn begins
module _ (c : At-loop-term) where
  abbrev start : Start
  start = (goal.at.At-loop-term c).Start

  abbrev options : Options
  options = start.args.options

  abbrev text : List ℕ
  text = start.args.s.now

  abbrev left : List ℕ
  left = c.loop-term.rest.now

  -- the offset of what is left
  abbrev place : ℕ
  place = passed text left

  abbrev RanTo : ℕ → ℕ → ℕ → List ℤ → List ℕ → Type 0
  RanTo = Ran options text start.args.from start.args.before start.args.weights.now start.args.literals.now

-- a plain term stands there
module _ (c : In-Some) where
  abbrev turn : At-loop-term
  turn = (goal.at.In-Some c).At-loop-term

  abbrev found : PlainTerm
  found = c.in-Some.term

  abbrev bytes : ℕ
  bytes = c.in-Some.taken

  plain : PlainIs (options turn) (drop (place turn) (text turn)) found bytes
  plain =
      plain-there (text turn) (place turn) bytes turn.loop-term.invariant.0 (options turn) _ found
      c.plain_term.ensures c.in-Some.is

-- and is put and counted
module _ (c : After-add_plain-size) where
  abbrev put : After-put_plain
  put = (goal.at.After-add_plain-size c).After-put_plain

  abbrev here : In-Some
  here = (goal.at.After-add_plain-size c).In-Some

  next : RanTo (turn here) (place (turn here) + bytes here) ((turn here).loop-term.terms + 1) c.add_plain-size.result
      put.put_plain.new.weights put.put_plain.new.literals
  next = ran-plain (turn here).loop-term.invariant.1 (plain here) c.add_plain-size.ensures put.put_plain.ensures

  held : bytes here ≤ length (left (turn here))
  held = rest-holds (text (turn here)) (place (turn here)) (bytes here) (turn here).loop-term.invariant.0 (ran-kept next).within

  -- where the next turn begins
  further : passed (text (turn here)) (take (length (left (turn here)) - bytes here) (drop (bytes here) (left (turn here))))
      ≡ place (turn here) + bytes here
  further = passed-more (text (turn here)) (turn here).loop-term.invariant.0 (bytes here) held

pub loop-term-init : goal.loop-term-init
loop-term-init c = rw (none_passed c.args.s.now) (refl, begun)

pub overflow_sub-result : goal.overflow_sub-result
overflow_sub-result c = left-within (text (goal.at.overflow_sub-result c).At-loop-term) c.loop-term.invariant.0

pub returns : goal.returns
returns c = c.loop-term.invariant.1

pub put_plain-requires : goal.put_plain-requires
put_plain-requires c = (plain (goal.at.put_plain-requires c).In-Some).fits

pub add_plain-size-requires : goal.add_plain-size-requires
add_plain-size-requires c =
    (ran-under (start (turn (goal.at.add_plain-size-requires c).In-Some)).requires.1 (turn (goal.at.add_plain-size-requires c).In-Some).loop-term.invariant.1, (plain (goal.at.add_plain-size-requires c).In-Some).fits.size)

pub overflow_add-terms : goal.overflow_add-terms
overflow_add-terms c = omega (arith, (ran-kept (next c)).within, (ran-kept (next c)).fewer, (start (turn (here c))).requires.0)

pub slice_bounds-rest-count : goal.slice_bounds-rest-count
slice_bounds-rest-count c = held c

pub slice_bounds-rest-start : goal.slice_bounds-rest-start
slice_bounds-rest-start c = held c

pub loop-term-smaller : goal.loop-term-smaller
loop-term-smaller c =
    let h = here (goal.at.loop-term-smaller c).After-add_plain-size in
    left_less (text (turn h)) (turn h).loop-term.invariant.0 (bytes h) (held (goal.at.loop-term-smaller c).After-add_plain-size) (plain-has-byte (turn h).loop-term.invariant.1 (plain h))

pub loop-term-preserved : goal.loop-term-preserved
loop-term-preserved c =
    let h = here (goal.at.loop-term-preserved c).After-add_plain-size in
    rw (further (goal.at.loop-term-preserved c).After-add_plain-size) (rest-behind (text (turn h)) (place (turn h)) (bytes h) (turn h).loop-term.invariant.0, next (goal.at.loop-term-preserved c).After-add_plain-size)
