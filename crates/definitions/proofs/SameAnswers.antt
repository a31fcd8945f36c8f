-- Has stepping the same answers as reading the file at once? The lines, one for one, with their terms and places, or
-- the first refusal of 1 to 8, with its place. And stepping comes to an end: a statement takes the offset forward,
-- never past the file's end; at the end and at a refusal it stays, and the same is said again.
use Prim.Native.Nat.{ℕ, ◌≤◌, ◌<◌}
use mathlib.Core.Path.{◌≡◌, ap, ◌∙◌}
use mathlib.Core.List.{List}
use native.Mathlib.Omega.{arith}
use lib.ListN.{length}
use Rattle.definitions.specs.Refusal.{Refusal}
use Rattle.definitions.specs.Row.{Line}
use Rattle.definitions.specs.File.{file}
use Rattle.definitions.specs.Stepping.{Stepped, ended, stopped, stepped, step_at, offset_after, steps_from}
use Rattle.definitions.specs.declared.Options.{Options}
use Rattle.definitions.proofs.Steps.{steps-file, step-moves, offset-after}

module _ (o : Options) (s : List ℕ) where
  -- stepping from the beginning of the file gives exactly what reading it at once gives
  pub same-answers : steps_from o s 0 ≡ file o s
  same-answers = steps-file o s

  -- ---- the offset

  -- a line is handed out: the offset rises, and does not pass the file's end
  pub record Forward (at next : ℕ) : Type 0 where
    pub rises : at < next
    pub within : next ≤ length s

  pub step-forward : (at : ℕ) (l : Line) (next : ℕ) → step_at o s at ≡ stepped l next → Forward at next
  step-forward at l next e = let m = step-moves o s at l next e in record { rises = m.0; within = m.1 }

  -- the offset never falls, and from within the file it stays within
  pub offset-rises : (at : ℕ) → at ≤ offset_after (step_at o s at) at
  offset-rises at = offset-after o s (λ n. at ≤ n) at (omega arith) (λ l n e. omega (arith, (step-forward at l n e).rises))

  pub offset-within : (at : ℕ) → at ≤ length s → offset_after (step_at o s at) at ≤ length s
  offset-within at h = offset-after o s (λ n. n ≤ length s) at h (λ l n e. (step-forward at l n e).within)

  -- ---- a further step after the end or a refusal says the same again

  pub ended-again : (at : ℕ) → step_at o s at ≡ ended → step_at o s (offset_after (step_at o s at) at) ≡ ended
  ended-again at e = ap (λ (x : Stepped Line). step_at o s (offset_after x at)) e ∙ e

  pub stopped-again : (at : ℕ) (r : Refusal) → step_at o s at ≡ stopped r → step_at o s (offset_after (step_at o s at) at) ≡ stopped r
  stopped-again at r e = ap (λ (x : Stepped Line). step_at o s (offset_after x at)) e ∙ e
