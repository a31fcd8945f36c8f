-- Laws of ending and comparison, by what the code looks at: a byte at a place, blanks and a line ending counted, a part
-- read.
use Prim.Native.Nat.{ℕ, zero, suc, ◌+◌, ◌<◌}
use mathlib.Core.Path.{◌≡◌, refl, ap, ◌∙◌}
use mathlib.Core.Bool.{Bool, true, false}
use mathlib.Core.List.{List, [], ◌∷◌}
use native.Mathlib.Omega.{arith}
use native.Mathlib.Numerals.{add-one}
use borrow.Author.Tests.{ne_eqb}
use lib.IntN.{ℤ}
use lib.ListN.{length, get_or, drop}
use lib.Seq.{drop-drop}
use Rattle.std.specs.Prelude.{Option, Some, None, Err}
use Rattle.std.specs.Option.{ok_or}
use Rattle.definitions.specs.Refusal.{fault}
use Rattle.definitions.specs.Bytes.{blanks, line_ending, semicolon}
use Rattle.definitions.specs.Reader.{none, got, Reader, more, chain, done}
use Rattle.definitions.specs.Number.{number}
use Rattle.definitions.specs.Text.{gap, operator, closing, ending, comparison_of, comparison}
use Rattle.definitions.specs.declared.OpbOperator.{OpbOperator}
use Rattle.definitions.proofs.Chains.{chain-none, chain-got}

-- ---- closing

pub closing-empty : (s : List ℕ) → length s ≡ 0 → closing s ≡ got false 0
unfolding closing
closing-empty [] e = refl
closing-empty (b ∷ s) e = absurd (omega arith)

-- k blanks behind the `;`, and n bytes of a line ending behind them
pub closing-semicolon : (s : List ℕ) (k n : ℕ) → 0 < length s → get_or s 0 0 ≡ semicolon → k ≡ blanks (drop 1 s)
    → n ≡ line_ending (drop (k + 1) s) → closing s ≡ got true (k + 1 + n)
unfolding closing
closing-semicolon [] k n h e f g = absurd (omega arith)
closing-semicolon (b ∷ s) k n h e f g =
    let m : n ≡ line_ending (drop k s) = rw add-one at g in
    rw (e, ← f, ← m) (ap (got true) (omega arith))

pub closing-line : (s : List ℕ) (n : ℕ) → 0 < length s → (get_or s 0 0 ≡ semicolon → ⊥) → n ≡ line_ending s → (n ≡ 0 → ⊥)
    → closing s ≡ got false n
unfolding closing
closing-line [] n h e f g = absurd (omega arith)
closing-line (b ∷ s) zero h e f g = absurd (g refl)
closing-line (b ∷ s) (suc n) h e f g = rw (ne_eqb b semicolon e, ← f, closing)

pub closing-none : (s : List ℕ) → 0 < length s → (get_or s 0 0 ≡ semicolon → ⊥) → line_ending s ≡ 0 → closing s ≡ none (fault 7)
unfolding closing
closing-none [] h e f = absurd (omega arith)
closing-none (b ∷ s) h e f = rw (ne_eqb b semicolon e, f, closing)

-- ---- ending: k blanks, and the closing behind them
pub ending-is : (s : List ℕ) (k : ℕ) → k ≡ blanks s → ending s ≡ more k (closing (drop k s))
unfolding ending gap
ending-is s k e = chain-got gap (λ _. closing) s k k (rw (← e))

-- ---- what an answer that is not there is refused for
pub refused : {A E : Type 0} (o : Option A) (e f : E) → Err f ≡ ok_or o e → f ≡ e
refused (Some x) e f h = cc
refused None e f h = cc

-- ---- comparison: an operator p of n bytes, j blanks, a number z of m bytes, an ending of k bytes

-- a link of a chain that is reached at place i
chain-at : {A B : Type 0} (q : Reader A) (k : A → Reader B) (s : List ℕ) (i : ℕ) (a : A) (n : ℕ) → q (drop i s) ≡ got a n
    → chain q k (drop i s) ≡ more n (k a (drop (i + n) s))
chain-at q k s i a n e = chain-got q k (drop i s) a n e ∙ ap (λ t. more n (k a t)) (drop-drop n i s)

module _ (s : List ℕ) where
  pub comparison-no-operator : operator s ≡ none (fault 6) → comparison s ≡ none (fault 6)
  unfolding comparison
  comparison-no-operator o = chain-none operator _ s (fault 6) o

  module _ (p : OpbOperator) (n j : ℕ) (o : operator s ≡ got p n) (g : j ≡ blanks (drop n s)) where
    behind-blanks : comparison s ≡ more n (more j (chain number (λ z. chain ending λ e. done (comparison_of p z e)) (drop (n + j) s)))
    unfolding comparison gap
    behind-blanks = chain-got operator _ s p n o ∙ ap (more n) (chain-at gap _ s n j j (rw (← g)))

    pub comparison-no-number : number (drop (n + j) s) ≡ none (fault 3) → comparison s ≡ none (fault 3)
    comparison-no-number f = behind-blanks ∙ ap (λ x. more n (more j x)) (chain-none number _ (drop (n + j) s) (fault 3) f)

    module _ (z : ℤ) (m : ℕ) (f : number (drop (n + j) s) ≡ got z m) where
      behind-number : comparison s ≡ more n (more j (more m (chain ending (λ e. done (comparison_of p z e)) (drop (n + j + m) s))))
      behind-number = behind-blanks ∙ ap (λ x. more n (more j x)) (chain-at number _ s (n + j) z m f)

      pub comparison-no-ending : ending (drop (n + j + m) s) ≡ none (fault 7) → comparison s ≡ none (fault 7)
      comparison-no-ending e = behind-number ∙ ap (λ x. more n (more j (more m x))) (chain-none ending _ (drop (n + j + m) s) (fault 7) e)

      pub comparison-got : (c : Bool) (k : ℕ) → ending (drop (n + j + m) s) ≡ got c k
          → comparison s ≡ got (comparison_of p z c) (n + j + m + k)
      unfolding done
      comparison-got c k e =
          behind-number
          ∙ ap (λ x. more n (more j (more m x))) (chain-got ending _ (drop (n + j + m) s) c k e)
          ∙ ap (got (comparison_of p z c)) (omega arith)
