-- Laws of the walk over the digits at the front of a text, and of what the digits and a sign before them make.
use mathlib.Core.Path.{◌≡◌, refl, sym, ◌∙◌}
use mathlib.Core.Bool.{Bool, true, false}
use mathlib.Core.List.{List, [], ◌∷◌, ◌++◌, append_assoc, append-nil}
use Prim.Native.Nat.{ℕ, suc, ◌+◌, ◌-◌, ◌*◌, ◌/◌, ◌≤◌, ◌<◌, min}
use native.Mathlib.Omega.{arith}
use native.Mathlib.Numerals.{add-one}
use lib.Dec.{lit<}
use lib.ListN.{length, get_or, take, drop, drop_of_length-le, length-drop}
use lib.Seq.{drop-cons, take-suc, length-take-le, take_all}
use mir.Syntax.{w64}
use mir.Val.{SFits}
use Rattle.std.specs.Prelude.{Some, None, slice_get}
use Rattle.definitions.specs.Refusal.{fault}
use Rattle.definitions.specs.Reader.{none, got}
use Rattle.definitions.specs.Number.{leading, value_on, value, signed, ended}
use Rattle.definitions.proofs.Numbers.{leading-digit, leading_low, leading-high, leading_length, value-snoc, most}
use Rattle.definitions.proofs.Numbers.{signed-within, within_signed, signed-beyond, ended-none, ended-beyond, ended-got}
use Rattle.definitions.proofs.Whole.{in-true, true-in}
use Rattle.numbers.specs.declared.Run.{Run}
use Rattle.numbers.specs.Read.{cap, run_of}

-- what a walk over the digits of s knows after i of them: they are all digits, and m is their value up to the cap
pub record Walked (s : List ℕ) (i m : ℕ) : Type 0 where
  pub within : i ≤ length s
  pub passed : leading s ≡ take i s ++ leading (drop i s)
  pub size : m ≡ min (value (take i s)) cap

abbrev run : ℕ → ℕ → Run
run i m = record { count = i; size = m }

pub walked_none : (s : List ℕ) → Walked s 0 0
unfolding value_on
walked_none s = record { within = omega arith; passed = refl; size = refl }

module _ (s : List ℕ) (i m : ℕ) (w : Walked s i m) where
  -- no digit stands after them
  walked_end : leading (drop i s) ≡ [] → run i m ≡ run_of s
  walked_end e =
      let p : leading s ≡ take i s = w.passed ∙ rw (e, append-nil) in
      let c : i ≡ length (leading s) = rw (p, length-take-le i s w.within) in
      let v : m ≡ min (value (leading s)) cap = rw p w.size in
      cc

  pub walked_all : length s ≤ i → run (length s) m ≡ run_of s
  unfolding leading
  walked_all h = let e : length s ≡ i = omega (arith, w.within) in rw e (walked_end (rw (drop_of_length-le s h)))

  module _ (h : i < length s) where
    at_front : drop i s ≡ get_or s i 0 ∷ drop (suc i) s
    at_front = drop-cons s i 0 h

    pub walked_low : get_or s i 0 < 48 → run i m ≡ run_of s
    walked_low k = walked_end (rw at_front (leading_low _ _ k))

    pub walked-high : 57 < get_or s i 0 → run i m ≡ run_of s
    walked-high k = walked_end (rw at_front (leading-high _ _ k))

    module _ (k : 48 ≤ get_or s i 0) (l : get_or s i 0 ≤ 57) where
      value-more : value (take (suc i) s) ≡ value (take i s) * 10 + (get_or s i 0 - 48)
      value-more = rw (take-suc s i 0 h) (value-snoc 0 (take i s) (get_or s i 0))

      passed-more : leading s ≡ take (suc i) s ++ leading (drop (suc i) s)
      passed-more = w.passed ∙ rw (at_front, leading-digit _ _ k l, take-suc s i 0 h, append_assoc)

      pub walked-add : m ≤ cap / 10 → Walked s (i + 1) (m * 10 + (get_or s i 0 - 48))
      walked-add g = rw add-one (record { within = h; passed = passed-more; size = omega (arith, w.size, value-more) })

      pub walked-over : cap / 10 < m → Walked s (i + 1) cap
      walked-over g = rw add-one (record { within = h; passed = passed-more; size = omega (arith, w.size, value-more) })

pub run_length : (s : List ℕ) (r : Run) → r ≡ run_of s → r.count ≤ length s
run_length s r e = rw e (leading_length s)

-- ---- a run of digits behind a sign of k bytes

most-below-cap : (negative : Bool) → most negative < cap
most-below-cap true = lit< tt
most-below-cap false = lit< tt

module _ (negative : Bool) (k : ℕ) (s : List ℕ) (r : Run) (e : r ≡ run_of s) where
  counted : r.count ≡ length (leading s)
  counted = rw e

  sized : r.size ≡ min (value (leading s)) cap
  sized = rw e

  pub run_none : r.count ≡ 0 → none (fault 3) ≡ ended negative k (leading s)
  run_none z = sym (ended-none negative k (leading s) (sym counted ∙ z))

  pub run-beyond : (SFits w64 (signed negative r.size) → ⊥) → none (fault 3) ≡ ended negative k (leading s)
  run-beyond n =
      let h : r.size ≤ most negative → ⊥ = λ l. n (true-in _ (signed-within negative _ l)) in
      sym (ended-beyond negative k (leading s) (signed-beyond negative _ (omega (arith, h, sized))))

  pub run-got : (r.count ≡ 0 → ⊥) → SFits w64 (signed negative r.size)
      → got (signed negative r.size) (k + r.count) ≡ ended negative k (leading s)
  run-got n f =
      let h : r.size ≤ most negative = within_signed negative _ (in-true _ f) in
      let v : r.size ≡ value (leading s) = omega (arith, sized, most-below-cap negative) in
      rw (v, counted) (sym (ended-got negative k (leading s) (λ q. n (counted ∙ q)) (signed-within negative _ (omega arith))))

-- ---- the first byte, as the code has it
pub first-none : (s : List ℕ) → None ≡ slice_get s 0 → length s ≡ 0
first-none [] e = refl
first-none (b ∷ s) e = cc

pub first-some : (s : List ℕ) (b : ℕ) → Some b ≡ slice_get s 0 → (0 < length s) × (get_or s 0 0 ≡ b)
first-some [] b e = cc
first-some (x ∷ s) b e = (omega arith, cc)

-- the part from 1 on, as the code lends it
pub rest-is : (s : List ℕ) → take (length s - 1) (drop 1 s) ≡ drop 1 s
rest-is s = take_all (length s - 1) (drop 1 s) (rw (length-drop 1 s) (omega arith))
