-- What filling the terms of the statement at an offset answers and leaves: the end, the step's refusal, and what
-- `fill_terms` does.
use Rattle.std.specs.Prelude.{Result, Ok, Err}
use Prim.Native.Nat.{ℕ, ◌≤◌}
use mathlib.Core.Path.{◌≡◌, sym, ap, ◌∙◌}
use mathlib.Core.Bool.{Bool, true, false, cond}
use mathlib.Core.List.{List}
use native.Mathlib.Omega.{arith}
use lib.Dec.{leb}
use lib.ListN.{length, drop}
use lib.IntN.{ℤ}
use Rattle.definitions.specs.Limits.{file_limit}
use Rattle.definitions.specs.Refusal.{refusal}
use Rattle.definitions.specs.declared.Refusal.{Refusal}
use Rattle.definitions.specs.Walk.{Step, stop, bad, item}
use Rattle.definitions.specs.Row.{Term, Line}
use Rattle.definitions.specs.Table.{Outcome}
use Rattle.definitions.specs.Text.{statement}
use Rattle.definitions.specs.Stepping.{Stepped, ended, stopped, stepped, stepped_by, step_at, terms_fitted, terms_by, columns_room, terms_at_step}
use Rattle.definitions.specs.declared.Entry.{Entry}
use Rattle.definitions.specs.declared.Options.{Options}
use Rattle.definitions.proofs.SameAnswers.{step-forward}
use Rattle.definitions.proofs.Truths.{never}
use Rattle.statements.proofs.Briefs.{terms-in-file}
use Rattle.walker.specs.Said.{brief_stepped}
use Rattle.walker.proofs.StepAnswers.{brief-ended, brief-stopped, brief-stepped}
use Rattle.fills.specs.FillsTerms.{FillsTerms}
use Rattle.fills.proofs.FillTerms.{refusing, no-terms}

-- ---- the terms of the statement at the offset
module _ (o : Options) (s : List ℕ) (at : ℕ) (w : List ℤ) (l : List ℕ) where
  abbrev answer : Outcome (List Term)
  answer = terms_at_step o s at w l

  answers : (x : Stepped Line) → step_at o s at ≡ x → answer ≡ terms_by (columns_room w l) x
  unfolding terms_at_step
  answers x e = ap (terms_by (columns_room w l)) e

  pub fill-ended : ended ≡ brief_stepped (step_at o s at) → FillsTerms answer w l (Ok 0) w l
  fill-ended e = no-terms answer w l (answers ended (brief-ended _ e))

  pub fill-stopped : (r : Refusal) → stopped r ≡ brief_stepped (step_at o s at) → FillsTerms answer w l (Err r) w l
  fill-stopped r e = refusing answer w l r (answers (stopped r) (brief-stopped _ r e))

  module _ (b : Entry) (n : ℕ) (e : stepped b n ≡ brief_stepped (step_at o s at)) where
    pub fill-within : at ≤ length s
    fill-within = let i = brief-stepped _ b n e in let f = step-forward o s at i.line n i.is in omega (arith, f.rises, f.within)

    -- the statement at the front of the rest has the same terms
    same-terms : terms_by (columns_room w l) (stepped_by 0 (statement o (drop at s))) ≡ answer
    unfolding terms_at_step step_at
    same-terms =
        by (leb (length s) file_limit) (statement o (drop at s)) (brief-stepped (step_at o s at) b n e).line
        (brief-stepped (step_at o s at) b n e).is
      where
        by : (t : Bool) (x : Step Line) (y : Line) → cond t (stepped_by at x) (stopped (refusal 1 0)) ≡ stepped y n
            → terms_by (columns_room w l) (stepped_by 0 x) ≡ terms_by (columns_room w l) (cond t (stepped_by at x) (stopped (refusal 1 0)))
        by false x y q = never (cc)
        by true stop y q = never (cc)
        by true (bad r) y q = never (cc)
        by true (item z m) y q = ap (terms_fitted (columns_room w l)) (terms-in-file 0 z ∙ sym (terms-in-file at z))

    pub fill-line : (r : Result ℕ Refusal) (w' : List ℤ) (l' : List ℕ)
        → FillsTerms (terms_by (columns_room w l) (stepped_by 0 (statement o (drop at s)))) w l r w' l'
        → FillsTerms answer w l r w' l'
    fill-line r w' l' f = rw same-terms at f
