-- Laws for the code of terms: what `after_weight`, `weighted` and `term_step` are in each case that the code tells apart,
-- and how many bytes they take.
use Prim.Native.Nat.{ℕ, zero, suc, ◌+◌, ◌≤◌}
use mathlib.Core.Path.{◌≡◌, refl, sym, ap, ◌∙◌}
use mathlib.Core.Bool.{Bool, true, false}
use mathlib.Core.List.{List, [], ◌∷◌}
use mathlib.Core.Logic.{inl, inr}
use types.Run.{OneOf}
use denote.Enum.Declared.{tag_of}
use native.Mathlib.Omega.{arith}
use lib.ListN.{length, get_or, drop, length-drop}
use lib.Seq.{drop-drop}
use lib.IntN.{ℤ}
use Rattle.definitions.specs.declared.Fault.{Fault}
use Rattle.definitions.specs.Refusal.{fault, fault_at}
use Rattle.definitions.specs.Bytes.{class_of, begins, blanks}
use Rattle.definitions.specs.Reader.{none, got, more, done}
use Rattle.definitions.specs.Number.{number}
use Rattle.definitions.specs.Walk.{stop, bad, item}
use Rattle.definitions.specs.Row.{Term, term}
use Rattle.definitions.specs.Text.{gap, gap1, some_blanks, literal, after_weight, weighted, begins_term, as_step, term_step}
use Rattle.definitions.specs.declared.Options.{Options}
use Rattle.definitions.specs.declared.Beginning.{Beginning}
use Rattle.definitions.specs.declared.Beginning.TheVariants.{Comment, Objective, Constraint, Nothing}
use Rattle.definitions.specs.contracts.Beginning.{the_type}
use Rattle.definitions.proofs.Chains.{chain-none, chain-got}
use Rattle.definitions.proofs.Texts.{blanks-within, same_beginning, digit-or-sign-is-constraint}
use Rattle.definitions.proofs.Statements.{within-literal}

-- ---- behind a weight: k blanks

some-blanks : (k : ℕ) → (k ≡ 0 → ⊥) → some_blanks k ≡ got k k
some-blanks zero h = absurd (h refl)
some-blanks (suc k) h = refl

module _ (o : Options) (s : List ℕ) (k : ℕ) (is : k ≡ blanks s) where
  -- and a literal of n bytes
  module _ (c n : ℕ) (q : got c n ≡ literal o (drop k s)) where
    pub literal-ends-within : k + n ≤ length s
    literal-ends-within = omega (arith, (within-literal o).most (drop k s) c n (sym q), length-drop k s, blanks-within s)

    pub blanks-end-within : (j : ℕ) → j ≡ blanks (drop (k + n) s) → k + n + j ≤ length s
    blanks-end-within j f = omega (arith, literal-ends-within, blanks-within (drop (k + n) s), length-drop (k + n) s)

  module _ (w : ℤ) where
    pub after-weight-no-blank : k ≡ 0 → none (fault 4) ≡ after_weight o w s
    unfolding after_weight gap1
    after-weight-no-blank z = sym (chain-none gap1 _ s (fault 4) (ap some_blanks (sym is ∙ z)))

    module _ (some : k ≡ 0 → ⊥) where
      gap_is : gap1 s ≡ got k k
      unfolding gap1
      gap_is = ap some_blanks (sym is) ∙ some-blanks k some

      pub after-weight-no-literal : (e : Fault) → none e ≡ literal o (drop k s) → none e ≡ after_weight o w s
      unfolding after_weight
      after-weight-no-literal e q = sym (chain-got gap1 _ s k k gap_is ∙ ap (more k) (chain-none (literal o) _ (drop k s) e (sym q)))

      pub after-weight-literal : (c n j : ℕ) → got c n ≡ literal o (drop k s) → j ≡ blanks (drop (k + n) s)
          → got (term w c) (k + n + j) ≡ after_weight o w s
      unfolding after_weight gap done
      after-weight-literal c n j q f =
          sym (chain-got gap1 _ s k k gap_is
          ∙ ap (more k) (chain-got (literal o) _ (drop k s) c n (sym q)
          ∙ ap (more n) (chain-got gap _ (drop n (drop k s)) j j (rw (drop-drop n k s, ← f))))
          ∙ ap (got (term w c)) (omega arith))

-- ---- a number, and what is behind it
module _ (o : Options) (s : List ℕ) where
  pub weighted-missing : none (fault 3) ≡ number s → none (fault 3) ≡ weighted o s
  unfolding weighted
  weighted-missing q = sym (chain-none number _ s (fault 3) (sym q))

  pub weighted-number : (w : ℤ) (n : ℕ) → got w n ≡ number s → more n (after_weight o w (drop n s)) ≡ weighted o s
  unfolding weighted
  weighted-number w n q = sym (chain-got number _ s w n (sym q))

-- ---- the next term of a sum

-- a beginning whose tag is another than a constraint's
no-constraint : (p : Beginning) → OneOf (0 ∷ 1 ∷ 3 ∷ []) (tag_of the_type p) → same_beginning p Constraint ≡ false
no-constraint Comment k = refl
no-constraint Objective k = refl
no-constraint Constraint (inl e) = absurd (omega arith)
no-constraint Constraint (inr (inl e)) = absurd (omega arith)
no-constraint Constraint (inr (inr e)) = absurd (omega arith)
no-constraint Nothing k = refl

module _ (o : Options) where
  pub step-empty : (s : List ℕ) → length s ≡ 0 → stop ≡ term_step o s
  unfolding term_step begins_term
  step-empty [] e = refl
  step-empty (b ∷ s) e = absurd (omega arith)

  begins-term : (s : List ℕ) → (length s ≡ 0 → ⊥) → begins_term s ≡ same_beginning (begins (class_of (get_or s 0 0))) Constraint
  unfolding begins_term
  begins-term [] h = absurd (h refl)
  begins-term (b ∷ s) h = digit-or-sign-is-constraint b

  module _ (s : List ℕ) (h : length s ≡ 0 → ⊥) (p : Beginning) (is : p ≡ begins (class_of (get_or s 0 0))) where
    test-is : (t : Bool) → same_beginning p Constraint ≡ t → begins_term s ≡ t
    test-is t e = begins-term s h ∙ ap (λ (q : Beginning). same_beginning q Constraint) (sym is) ∙ e

    pub step-stop : OneOf (0 ∷ 1 ∷ 3 ∷ []) (tag_of the_type p) → stop ≡ term_step o s
    unfolding term_step
    step-stop k = rw (test-is false (no-constraint p k), term_step)

    pub step-term : p ≡ Constraint → as_step (weighted o s) ≡ term_step o s
    unfolding term_step
    step-term e = rw (test-is true (ap (λ (q : Beginning). same_beginning q Constraint) e), term_step)

-- where a digit or sign stands
module _ (o : Options) (s : List ℕ) (h : length s ≡ 0 → ⊥) (b : begins (class_of (get_or s 0 0)) ≡ Constraint) where
  step-is : as_step (weighted o s) ≡ term_step o s
  step-is = step-term o s h (begins (class_of (get_or s 0 0))) refl b

  pub step-refused : (e : Fault) → none e ≡ weighted o s → bad (fault_at 0 e) ≡ term_step o s
  step-refused e q = ap as_step q ∙ step-is

  pub step-item : (x : Term) (n : ℕ) → got x n ≡ weighted o s → item x n ≡ term_step o s
  step-item x n q = ap as_step q ∙ step-is

-- what `next_term` comes to: no byte, or a term
pub ruleset by_next = (step-empty, step-refused, step-item)
