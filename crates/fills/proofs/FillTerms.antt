-- What filling one statement's terms answers and leaves, case by case: the end, the statement's own refusal, 10, and
-- the terms.
use Rattle.std.specs.Prelude.{Ok, Err}
use Prim.Native.Nat.{ℕ, ◌≤◌, ◌<◌, ◌^◌}
use mathlib.Core.Path.{◌≡◌, refl, sym, ap, subst, ◌∙◌}
use mathlib.Core.List.{List, [], map}
use native.Mathlib.Omega.{arith}
use borrow.Author.Tests.{le-leb, lt-leb}
use lib.ListN.{length}
use lib.Seq.{take_all}
use lib.IntN.{ℤ}
use Rattle.definitions.specs.Refusal.{refusal}
use Rattle.definitions.specs.declared.Refusal.{Refusal}
use Rattle.definitions.specs.Walk.{Step, stop, bad, item}
use Rattle.definitions.specs.Lists.{over}
use Rattle.definitions.specs.Row.{Term, weight_of, literal_of, Line, terms_of}
use Rattle.definitions.specs.Table.{Outcome, refused, accepted}
use Rattle.definitions.specs.Stepping.{stepped_by, terms_fitted, terms_by, columns_room, terms_kept, terms_counted}
use Rattle.statements.specs.Brief.{brief_step}
use Rattle.sums.specs.Walked.{TermsFilled, TermsPut}
use Rattle.fills.specs.FillsTerms.{FillsTerms}
use Rattle.laws.proofs.Puts.{needed-word}
use Rattle.statements.proofs.Briefs.{brief-stop, brief-bad, LineIs, terms-in-file}

-- ---- what is answered and left, whatever the terms are of
module _ (x : Outcome (List Term)) (w : List ℤ) (l : List ℕ) where
  -- nothing is filled
  pub refusing : (r : Refusal) → x ≡ refused r → FillsTerms x w l (Err r) w l
  refusing r e =
      record {
        answer = ap terms_counted (sym e);
        filled =
            record {
              weights = ap (λ (y : Outcome (List Term)). over (map weight_of (terms_kept y)) w) (sym e);
              literals = ap (λ (y : Outcome (List Term)). over (map literal_of (terms_kept y)) l) (sym e);
            };
      }

  filling : (ts : List Term) (n : ℕ) (w' : List ℤ) (l' : List ℕ) → x ≡ accepted ts → n ≡ length ts → TermsFilled ts w l w' l'
      → FillsTerms x w l (Ok n) w' l'
  filling ts n w' l' e c f =
      record {
        answer = ap accepted c ∙ ap terms_counted (sym e);
        filled = subst (λ (y : Outcome (List Term)). TermsFilled (terms_kept y) w l w' l') (sym e) f;
      }

  pub no-terms : x ≡ accepted [] → FillsTerms x w l (Ok 0) w l
  no-terms e = filling [] 0 w l e refl (record { weights = refl; literals = refl })

-- ---- the statement at the front of the rest of a file
module _ (x : Step Line) (w : List ℤ) (l : List ℕ) where
  abbrev answer : Outcome (List Term)
  answer = terms_by (columns_room w l) (stepped_by 0 x)

  answers : (y : Step Line) → x ≡ y → answer ≡ terms_by (columns_room w l) (stepped_by 0 y)
  answers y e = ap (λ (z : Step Line). terms_by (columns_room w l) (stepped_by 0 z)) e

  pub fill-refused : (r : Refusal) → bad r ≡ brief_step x → FillsTerms answer w l (Err r) w l
  fill-refused r e =
      refusing answer w l r (answers (bad r) (brief-bad x r e) ∙ ap (λ (p : ℕ). refused (refusal r.number p)) (omega arith))

  pub fill_end : stop ≡ brief_step x → FillsTerms answer w l (Ok 0) w l
  fill_end e = no-terms answer w l (answers stop (brief-stop x e))

  -- a line of n bytes
  module _ (terms n : ℕ) (i : LineIs x terms n) where
    line-answers : answer ≡ terms_fitted (columns_room w l) (terms_of i.line)
    line-answers = answers (item i.line n) i.is ∙ ap (terms_fitted (columns_room w l)) (terms-in-file 0 i.line)

    pub fill-beyond : columns_room w l < terms → terms < 2 ^ 64 → FillsTerms answer w l (Err (refusal 10 terms)) w l
    unfolding terms_fitted
    fill-beyond h small =
        let c = i.counted in
        refusing answer w l (refusal 10 terms)
        (line-answers
        ∙ rw (lt-leb (length (terms_of i.line)) (columns_room w l) (omega arith))
        (ap (λ (k : ℕ). refused (refusal 10 k)) (needed-word (length (terms_of i.line)) (omega arith) ∙ sym c)))

    -- it fits: what was met was put, and is the line's terms
    pub fill-whole : terms ≤ columns_room w l → (met : List Term) (w' : List ℤ) (l' : List ℕ) → met ≡ terms_of i.line
        → TermsPut met w l w' l' → FillsTerms answer w l (Ok terms) w' l'
    unfolding terms_fitted
    fill-whole h met w' l' e f =
        let c = i.counted in
        filling answer w l (terms_of i.line) terms w' l'
        (line-answers ∙ rw (le-leb (length (terms_of i.line)) (columns_room w l) (omega arith)))
        c
        (subst (λ (ts : List Term). TermsFilled ts w l w' l') (take_all (columns_room w l) met (omega (arith, ap length e)) ∙ e) f)
