-- How does stepping go through a file? As the walk of the whole file does, and a line that is handed out takes the
-- offset forward within the file.
use Prim.Native.Nat.{ℕ, zero, suc, ◌+◌, ◌≤◌, ◌<◌}
use mathlib.Core.Path.{◌≡◌, refl, sym, ap, ◌∙◌}
use mathlib.Core.Bool.{Bool, true, false, cond}
use mathlib.Core.List.{List}
use native.Mathlib.Omega.{arith}
use lib.Dec.{leb}
use lib.ListN.{length, drop, length-drop}
use lib.Seq.{drop-drop}
use Rattle.definitions.specs.Limits.{file_limit}
use Rattle.definitions.specs.Refusal.{refusal}
use Rattle.definitions.specs.Walk.{Step, stop, bad, item, Walked, broken, items, before, walk, all}
use Rattle.definitions.specs.Row.{Line}
use Rattle.definitions.specs.Text.{statement, in_file}
use Rattle.definitions.specs.Table.{refused}
use Rattle.definitions.specs.File.{lines_of, statements, file}
use Rattle.definitions.specs.Stepping.{Stepped, ended, stopped, stepped, stepped_by, step_at, offset_after, line_before, steps_in}
use Rattle.definitions.specs.Stepping.{steps_from}
use Rattle.definitions.specs.declared.Options.{Options}
use Rattle.definitions.proofs.Truths.{never}
use Rattle.definitions.proofs.Walks.{walk-stop, walk-bad, walk-item}
use Rattle.definitions.proofs.Statements.{statement-moves}

lines-before : (l : Line) (w : Walked Line) → line_before l (lines_of w) ≡ lines_of (before l w)
lines-before l (broken r) = refl
lines-before l (items ls n) = refl

module _ (o : Options) (s : List ℕ) where
  -- ---- a file within the limit
  module _ (short : leb (length s) file_limit ≡ true) where
    step-short : (at : ℕ) → step_at o s at ≡ stepped_by at (statement o (drop at s))
    unfolding step_at
    step-short at = rw short

    -- the steps go on as the walk of the whole file does; with more steps than bytes left they come to the end
    steps-walk : (n at : ℕ) → length (drop at s) < n → steps_in o s n at ≡ lines_of (walk (statement o) in_file (drop at s) 0 at)
    unfolding steps_in
    steps-walk zero at h = absurd (omega arith)
    steps-walk (suc n) at h = by (statement o (drop at s)) refl (λ next i. steps-walk n next i)
      where
        by : (x : Step Line) → statement o (drop at s) ≡ x
            → ((next : ℕ) → length (drop next s) < n → steps_in o s n next ≡ lines_of (walk (statement o) in_file (drop next s) 0 next))
            → steps_in o s (suc n) at ≡ lines_of (walk (statement o) in_file (drop at s) 0 at)
        by stop e ih =
            rw (step-short at ∙ ap (stepped_by at) e, steps_in)
            (ap lines_of (sym (walk-stop (statement o) in_file (statement-moves o) at (drop at s) e)))
        by (bad r) e ih =
            rw (step-short at ∙ ap (stepped_by at) e, steps_in)
            (ap lines_of (sym (walk-bad (statement o) in_file (statement-moves o) at (drop at s) r e)))
        by (item l m) e ih =
            let shorter : length (drop (at + m) s) < n =
            omega (
              arith,
              (statement-moves o).least (drop at s) l m e,
              (statement-moves o).most (drop at s) l m e,
              length-drop at s,
              length-drop (at + m) s,
            ) in
            rw (step-short at ∙ ap (stepped_by at) e, steps_in)
            (ap (line_before (in_file at l)) (ih (at + m) shorter)
            ∙ ap (λ (t : List ℕ). line_before (in_file at l) (lines_of (walk (statement o) in_file t 0 (at + m)))) (sym (drop-drop m at s))
            ∙ lines-before (in_file at l) (walk (statement o) in_file (drop m (drop at s)) 0 (at + m))
            ∙ ap lines_of (sym (walk-item (statement o) in_file (statement-moves o) at (drop at s) l m e)))

  -- ---- a file above the limit: 1
  module _ (long : leb (length s) file_limit ≡ false) where
    step-long : (at : ℕ) → step_at o s at ≡ stopped (refusal 1 0)
    unfolding step_at
    step-long at = rw long

    steps-long : steps_from o s 0 ≡ refused (refusal 1 0)
    unfolding steps_from steps_in
    steps-long = rw (step-long 0, steps_in)

  -- ---- from the beginning of the file

  pub steps-file : steps_from o s 0 ≡ file o s
  unfolding steps_from file statements all
  steps-file = by (leb (length s) file_limit) refl
    where
      by : (b : Bool) → leb (length s) file_limit ≡ b → steps_from o s 0 ≡ file o s
      by true e = steps-walk e (suc (length s)) 0 (omega arith) ∙ sym (rw e)
      by false e = steps-long e ∙ sym (rw e)

  -- ---- the offset

  pub step-moves : (at : ℕ) (l : Line) (next : ℕ) → step_at o s at ≡ stepped l next → (at < next) × (next ≤ length s)
  unfolding step_at
  step-moves at l next e = by (leb (length s) file_limit) (statement o (drop at s)) refl e
    where
      by : (b : Bool) (x : Step Line) → statement o (drop at s) ≡ x → cond b (stepped_by at x) (stopped (refusal 1 0)) ≡ stepped l next
          → (at < next) × (next ≤ length s)
      by false x p q = never cc
      by true stop p q = never cc
      by true (bad r) p q = never cc
      by true (item x n) p q =
          let m : at + n ≡ next = cc in
          let f = (statement-moves o).least (drop at s) x n p in
          let t = (statement-moves o).most (drop at s) x n p in
          (omega arith, omega (arith, length-drop at s))

  -- what holds of the offset where it stays, and behind each line, holds of the offset after a step
  pub offset-after : (P : ℕ → Type 0) (at : ℕ) → P at → ((l : Line) (next : ℕ) → step_at o s at ≡ stepped l next → P next)
      → P (offset_after (step_at o s at) at)
  offset-after P at here there = by (step_at o s at) refl
    where
      by : (x : Stepped Line) → step_at o s at ≡ x → P (offset_after x at)
      by ended e = here
      by (stopped r) e = here
      by (stepped l n) e = there l n e
