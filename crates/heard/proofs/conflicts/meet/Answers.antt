-- `heard::conflicts::meet` meets its contract: the literal lies before or behind the window, clashes, or is marked.
-- Assumes nothing.
use Prim.Native.Nat.{ℕ, ◌-◌, ◌*◌}
use mathlib.Core.Path.{◌≡◌, refl, sym, ap, ◌∙◌}
use mathlib.Core.Bool.{Bool, true, false}
use native.Mathlib.Omega.{arith}
use Rattle.definitions.specs.Literal.{index_of}
use Rattle.definitions.specs.Values.{bit_made}
use Rattle.heard.specs.Windows.{clashes}
use Rattle.heard.specs.declared.conflicts.Met.TheVariants as met
use Rattle.heard.proofs.Marking.{met-before, met-behind, met-conflict, met-marked}
use Rattle.heard.proofs.conflicts.meet.Goals as goal
use Rattle.heard.proofs.conflicts.meet.Goals.{After-clashes, After-index-v, After-var, Start}

-- the variable's index, as the code has it
index_is : (k : After-index-v) → k.index-v.result ≡ index_of k.args.literal.0
index_is k = k.index-v.ensures ∙ k.var.ensures

-- the call that looks for a clash has answered
module _ (k : After-clashes) where
  abbrev entry : Start
  entry = (goal.at.After-clashes k).Start

  told : (b : Bool) → k.clashes.result ≡ b
      → clashes entry.args.values.now entry.args.known.now entry.args.marks.now entry.args.base
      entry.args.literal.0 ≡ b
  told b e = sym k.clashes.ensures ∙ e

pub returns-then-v-base : goal.returns-then-v-base
returns-then-v-base c = record { met = sym (met-before _ _ _ _ _ (omega (arith, index_is (goal.at.returns-then-v-base c).After-index-v))); marks = refl }

pub returns-then-v-base-ge-WINDOW : goal.returns-then-v-base-ge-WINDOW
returns-then-v-base-ge-WINDOW c = let e = index_is (goal.at.returns-then-v-base-ge-WINDOW c).After-index-v in record { met = ap met.Behind e ∙ sym (met-behind _ _ _ _ _ (omega (arith, e))); marks = refl }

pub returns-then-clashes : goal.returns-then-clashes
returns-then-clashes c =
    let e = index_is (goal.at.returns-then-clashes c).After-index-v in
    record { met = sym (met-conflict _ _ _ _ _ (omega (arith, e)) (omega (arith, e)) (told (goal.at.returns-then-clashes c).After-clashes true c.if-clashes.true)); marks = refl }

pub returns : goal.returns
returns c =
    let e = index_is (goal.at.returns c).After-index-v in
    let s = entry (goal.at.returns c).After-clashes in record {
      met = sym (met-marked _ _ _ _ _ (omega (arith, e)) (omega (arith, e)) (told (goal.at.returns c).After-clashes false c.if-clashes.false));
      marks = c.make_bit.ensures
          ∙ ap (λ (o : ℕ). bit_made true (o - 2 * s.args.base) s.args.marks.now) c.code.ensures;
    }
