-- What a step answers, case by case: a file above the limit, an offset past the end, and what `statement` finds at the
-- offset.
use Rattle.std.specs.Prelude.{Option, Some, None, Result, Ok}
use Prim.Native.Nat.{ℕ, ◌+◌, ◌≤◌, ◌<◌}
use mathlib.Core.Path.{◌≡◌, refl, sym, ap, ◌∙◌}
use mathlib.Core.List.{List}
use native.Mathlib.Omega.{arith}
use borrow.Author.Tests.{le-leb, lt-leb}
use lib.ListN.{length, drop, length-drop, drop_of_length-le}
use Rattle.definitions.specs.Limits.{file_limit}
use Rattle.definitions.specs.Refusal.{refusal, further}
use Rattle.definitions.specs.declared.Refusal.{Refusal}
use Rattle.definitions.specs.Walk.{Step, stop, bad, item}
use Rattle.definitions.specs.Row.{Line}
use Rattle.definitions.specs.Text.{statement}
use Rattle.definitions.specs.Stepping.{Stepped, ended, stopped, stepped, stepped_by, step_at, offset_after}
use Rattle.definitions.specs.declared.Entry.{Entry}
use Rattle.definitions.specs.declared.Options.{Options}
use Rattle.definitions.proofs.Statements.{statement-moves, statement-taken}
use Rattle.definitions.proofs.SameAnswers.{Forward, step-forward}
use Rattle.definitions.proofs.Truths.{never}
use Rattle.statements.specs.Brief.{entry_at, brief_step}
use Rattle.statements.proofs.Briefs.{brief-stop, brief-bad, LineTold, line-told, bad-within, entry-in-file}
use Rattle.statements.proofs.Rows.{statement-first}
use Rattle.walker.specs.Said.{said_stepped, brief_stepped}
use Rattle.walker.specs.declared.steps.Step as code

module _ (o : Options) (s : List ℕ) (at : ℕ) where
  -- 1: "file above the limit", place 0
  pub step-long : file_limit < length s → stopped (refusal 1 0) ≡ brief_stepped (step_at o s at)
  unfolding step_at
  step-long h = sym (rw (lt-leb (length s) file_limit h))

  module _ (short : length s ≤ file_limit) where
    step_is : (x : Step Line) → statement o (drop at s) ≡ x → step_at o s at ≡ stepped_by at x
    unfolding step_at
    step_is x e = rw (le-leb (length s) file_limit short) (ap (stepped_by at) e)

    pub step_past : length s < at → ended ≡ brief_stepped (step_at o s at)
    step_past h =
        ap brief_stepped (sym (step_is stop (ap (statement o) (drop_of_length-le s {i = at} (omega arith)) ∙ (statement-moves o).none)))

    pub step_end : stop ≡ brief_step (statement o (drop at s)) → ended ≡ brief_stepped (step_at o s at)
    step_end e = ap brief_stepped (sym (step_is stop (brief-stop _ e)))

    module _ (within : at ≤ length s) where
      -- a refusal
      module _ (r : Refusal) (e : bad r ≡ brief_step (statement o (drop at s))) where
        pub refusal-fits : at + r.place ≤ length s
        refusal-fits = omega (arith, bad-within o (drop at s) r (brief-bad _ r e), length-drop at s)

        pub step-refused : stopped (further at r) ≡ brief_stepped (step_at o s at)
        step-refused = ap brief_stepped (sym (step_is (bad r) (brief-bad _ r e)))

      -- a line
      module _ (x : Entry) (m : ℕ) (e : item x m ≡ brief_step (statement o (drop at s))) where
        told : LineTold (statement o (drop at s)) x m
        told = line-told _ x m e

        pub first_fits : at + x.first ≤ length s
        first_fits =
            let f = statement-first o (drop at s) told.line m told.is in
            omega (arith, ap (λ (y : Entry). y.first) told.told, f, length-drop at s)

        pub next_fits : at + m ≤ length s
        next_fits = omega (arith, (statement-taken o (drop at s) told.line m told.is).within, length-drop at s)

        pub step_line : stepped (entry_at at x) (at + m) ≡ brief_stepped (step_at o s at)
        step_line =
            ap (λ (y : Entry). stepped (entry_at at y) (at + m)) told.told
            ∙ ap (λ (y : Entry). stepped y (at + m)) (entry-in-file at told.line)
            ∙ ap brief_stepped (sym (step_is (item told.line m) told.is))

-- ---- what a brief answer says of a step

pub brief-ended : (x : Stepped Line) → ended ≡ brief_stepped x → x ≡ ended
brief-ended ended e = refl
brief-ended (stopped r) e = never (cc)
brief-ended (stepped l n) e = never (cc)

pub brief-stopped : (x : Stepped Line) (r : Refusal) → stopped r ≡ brief_stepped x → x ≡ stopped r
brief-stopped ended r e = never (cc)
brief-stopped (stopped q) r e = cc
brief-stopped (stepped l n) r e = never (cc)

pub record SteppedIs (x : Stepped Line) (n : ℕ) : Type 0 where
  pub line : Line
  pub is : x ≡ stepped line n

pub brief-stepped : (x : Stepped Line) (b : Entry) (n : ℕ) → stepped b n ≡ brief_stepped x → SteppedIs x n
brief-stepped ended b n e = never (cc)
brief-stepped (stopped r) b n e = never (cc)
brief-stepped (stepped l m) b n e = let q : m ≡ n = cc in record { line = l; is = ap (stepped l) q }

-- what is told of a step has its offset
pub brief-offset : (x : Stepped Line) (at : ℕ) → offset_after (brief_stepped x) at ≡ offset_after x at
brief-offset ended at = refl
brief-offset (stopped r) at = refl
brief-offset (stepped l n) at = refl

-- a line that is told takes the offset forward, within the file
pub told-forward : (o : Options) (s : List ℕ) (at : ℕ) (b : Entry) (n : ℕ) → stepped b n ≡ brief_stepped (step_at o s at) → Forward o s at n
told-forward o s at b n e = let i = brief-stepped (step_at o s at) b n e in step-forward o s at i.line n i.is

-- ---- an answer with a line, or with none
pub line-stepped : (r : Result (Option code.Step) Refusal) (o : Option code.Step) (l : code.Step) → r ≡ Ok o → o ≡ Some l
    → said_stepped r ≡ stepped l.entry l.next
line-stepped r o l p q = rw (p, q)

pub end-stepped : (r : Result (Option code.Step) Refusal) (o : Option code.Step) → r ≡ Ok o → o ≡ None → said_stepped r ≡ ended
end-stepped r o p q = rw (p, q)
