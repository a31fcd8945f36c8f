-- Laws of operators, by what the code looks at: a byte at a place.
use Prim.Native.Nat.{ℕ, ◌<◌, ◌≤◌}
use mathlib.Core.Path.{◌≡◌, refl}
use mathlib.Core.Bool.{false}
use mathlib.Core.List.{List, [], ◌∷◌}
use native.Mathlib.Omega.{arith}
use borrow.Author.Tests.{eq-eqb, ne_eqb}
use lib.ListN.{length, get_or}
use Rattle.std.proofs.lemmas.List.{get_or_past}
use Rattle.definitions.specs.Refusal.{fault}
use Rattle.definitions.specs.Bytes.{is_at, less, equals, greater}
use Rattle.definitions.specs.Reader.{none, got}
use Rattle.definitions.specs.Text.{operator}
use Rattle.blanks.proofs.At.{at-is}
use Rattle.definitions.specs.declared.OpbOperator.TheVariants.{LE, GE, LT, GT, EQ}

pub operator-empty : (s : List ℕ) → length s < 1 → operator s ≡ none (fault 6)
unfolding operator
operator-empty [] h = refl
operator-empty (b ∷ s) h = absurd (omega arith)

pub operator-le : (s : List ℕ) → 2 ≤ length s → get_or s 0 0 ≡ less → get_or s 1 0 ≡ equals → operator s ≡ got LE 2
unfolding operator
operator-le [] h e f = absurd (omega arith)
operator-le (b ∷ s) h e f = rw (eq-eqb b less e, at-is equals 0 s (omega arith), eq-eqb (get_or s 0 0) equals f)

-- a byte that is not `=`, or none
not-equals : (s : List ℕ) → (get_or s 0 0 ≡ equals → ⊥) → is_at equals s ≡ false
unfolding is_at
not-equals [] n = refl
not-equals (b ∷ s) n = ne_eqb b equals n

pub operator-lt : (s : List ℕ) → 1 ≤ length s → get_or s 0 0 ≡ less → (get_or s 1 0 ≡ equals → ⊥) → operator s ≡ got LT 1
unfolding operator
operator-lt [] h e n = absurd (omega arith)
operator-lt (b ∷ s) h e n = rw (eq-eqb b less e, not-equals s n)

pub operator_lone-lt : (s : List ℕ) → 1 ≤ length s → length s < 2 → get_or s 0 0 ≡ less → operator s ≡ got LT 1
operator_lone-lt s h l e = let z : get_or s 1 0 ≡ 0 = get_or_past s 1 0 (omega arith) in operator-lt s h e (λ q. omega arith)

pub operator-ge : (s : List ℕ) → 2 ≤ length s → get_or s 0 0 ≡ greater → get_or s 1 0 ≡ equals → operator s ≡ got GE 2
unfolding operator
operator-ge [] h e f = absurd (omega arith)
operator-ge (b ∷ s) h e f = rw (e, at-is equals 0 s (omega arith), eq-eqb (get_or s 0 0) equals f)

pub operator-gt : (s : List ℕ) → 1 ≤ length s → get_or s 0 0 ≡ greater → (get_or s 1 0 ≡ equals → ⊥) → operator s ≡ got GT 1
unfolding operator
operator-gt [] h e n = absurd (omega arith)
operator-gt (b ∷ s) h e n = rw (e, not-equals s n)

pub operator_lone-gt : (s : List ℕ) → 1 ≤ length s → length s < 2 → get_or s 0 0 ≡ greater → operator s ≡ got GT 1
operator_lone-gt s h l e = let z : get_or s 1 0 ≡ 0 = get_or_past s 1 0 (omega arith) in operator-gt s h e (λ q. omega arith)

pub operator-eq : (s : List ℕ) → 1 ≤ length s → get_or s 0 0 ≡ equals → operator s ≡ got EQ 1
unfolding operator
operator-eq [] h e = absurd (omega arith)
operator-eq (b ∷ s) h e = rw e

pub operator-other : (s : List ℕ) → (get_or s 0 0 ≡ less → ⊥) → (get_or s 0 0 ≡ greater → ⊥)
    → (get_or s 0 0 ≡ equals → ⊥) → operator s ≡ none (fault 6)
unfolding operator
operator-other [] l g e = refl
operator-other (b ∷ s) l g e = rw (ne_eqb b less l, ne_eqb b greater g, ne_eqb b equals e)

-- what `read_operator` comes to in each of its cases
pub ruleset by_bytes = (operator-empty, operator-le, operator-lt, operator_lone-lt, operator-ge, operator-gt, operator_lone-gt, operator-eq, operator-other)
