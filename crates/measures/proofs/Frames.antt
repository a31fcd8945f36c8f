-- What stands around the terms of a row: how long it is.
use mathlib.Core.Path.{◌≡◌, refl, ap}
use mathlib.Core.Bool.{Bool, true, false}
use mathlib.Core.List.{List, ◌++◌}
use mathlib.Core.Logic.{◌⊎◌, inl, inr}
use Prim.Native.Nat.{◌+◌}
use native.Mathlib.Omega.{arith}
use lib.IntN.{ℤ, pos}
use lib.ListN.{length, length-append}
use Rattle.definitions.specs.Bytes.{min_text}
use Rattle.definitions.specs.Number.{integer_text}
use Rattle.definitions.specs.Row.{Term, Row, row_of}
use Rattle.definitions.specs.Write.{closed, offset_text, comparison_text, row_text, printed}
use Rattle.definitions.specs.declared.Kind.{Kind}
use Rattle.definitions.specs.declared.Kind.TheVariants.{AtLeast as at_least, AtMost as at_most, Equal as equal, Objective as objective}
use Rattle.definitions.specs.Back.{is_goal}
use Rattle.shown.specs.declared.terms.Style.{Style}
use Rattle.printed.specs.Kinds.{is_at_most}
use Rattle.shown.specs.Terms.{terms_text}
use Rattle.printed.specs.Rows.{operator_text}
use Rattle.printed.proofs.PrintedTexts.{comparison-length, offset-length, constraint-text, objective-text}
use Rattle.measures.specs.Rows.{frame_text}

-- of an "at least" or an "at most" row
pub frame-at-least : (k : Kind) (z : ℤ) → (k ≡ at_least) ⊎ (k ≡ at_most) → length (frame_text k z) ≡ length (integer_text z) + 5
frame-at-least k z (inl e) = rw e (omega (arith, comparison-length z (operator_text at_least)))
frame-at-least k z (inr e) = rw e (omega (arith, comparison-length z (operator_text at_most)))

module _ (z : ℤ) where
  pub frame-equal : length (frame_text equal z) ≡ length (integer_text z) + 4
  frame-equal = omega (arith, comparison-length z (operator_text equal))

  pub frame-no-offset : z ≡ pos 0 → length (frame_text objective z) ≡ 6
  unfolding offset_text
  frame-no-offset e = rw e

  pub frame-offset : (z ≡ pos 0 → ⊥) → length (frame_text objective z) ≡ length (integer_text z) + 50
  frame-offset h = omega (arith, offset-length z h)

-- ---- the whole of a row

module _ (k : Kind) (b : ℤ) (ts : List Term) (s : Style) (f : s.flip ≡ is_at_most k) (a : s.apart ≡ is_goal k) where
  abbrev line_of : Row
  line_of = printed s.plain (row_of k b ts)

  frame-constraint : (z : ℤ) → is_goal k ≡ false → frame_text k z ≡ comparison_text (operator_text k) z
  frame-constraint z o = rw o

  frame-objective : (z : ℤ) → is_goal k ≡ true → frame_text k z ≡ min_text ++ (closed ++ offset_text z)
  frame-objective z o = rw o

  pub row-text-length : length (row_text s.first line_of) ≡ length (terms_text s ts) + length (frame_text k line_of.bound)
  row-text-length = by (is_goal k) refl
    where
      by : (o : Bool) → is_goal k ≡ o → length (row_text s.first line_of)
          ≡ length (terms_text s ts) + length (frame_text k line_of.bound)
      by true o =
          omega (
            arith,
            ap length (objective-text k b ts s f a o),
            ap length (frame-objective line_of.bound o),
            length-append (terms_text s ts) (closed ++ offset_text line_of.bound),
          )
      by false o =
          omega (
            arith,
            ap length (constraint-text k b ts s f a o),
            ap length (frame-constraint line_of.bound o),
            length-append (terms_text s ts) (comparison_text (operator_text k) line_of.bound),
          )
