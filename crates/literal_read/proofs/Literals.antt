-- Laws for the code of literals: what `digits`, `variable` and `literal` are in each case that the code tells apart,
-- and how many bytes they take.
use Prim.Native.Nat.{ℕ, ◌+◌, ◌≤◌, min}
use mathlib.Core.Path.{◌≡◌, refl, sym, ap, ◌∙◌}
use mathlib.Core.Bool.{Bool, true, false}
use mathlib.Core.List.{List, [], ◌∷◌}
use native.Mathlib.Omega.{arith}
use native.Mathlib.Decide.{dec_le}
use borrow.Author.Tests.{eq-eqb, ne_eqb, eqb-true, eqb-false}
use lib.Dec.{eqb}
use lib.ListN.{length, get_or, drop}
use Rattle.definitions.specs.Refusal.{Checked, refuse, accept, fault}
use Rattle.definitions.specs.Bytes.{letter_x, tilde, minus}
use Rattle.definitions.specs.Reader.{Got, none, got, more}
use Rattle.definitions.specs.Number.{leading, value}
use Rattle.definitions.specs.Literal.{index}
use Rattle.definitions.specs.Text.{code_by, digits, variable, literal}
use Rattle.definitions.specs.declared.Options.{Options}
use Rattle.definitions.proofs.Statements.{within-literal}
use Rattle.numbers.specs.Read.{cap, run_of}
use Rattle.numbers.specs.declared.Run.{Run}
use Rattle.std.specs.Prelude.{Option}
use Rattle.literals.specs.Said.{said_lit}
use Rattle.literals.specs.FileDigits.{then_code}
use Rattle.literals.specs.declared.Lit.{Lit}
use Rattle.literals.proofs.Conversions.{index-beyond}

-- ---- an index of capped digits

-- a size that stopped at the cap is beyond a file number, and so is the value of its digits
capped-index : (first v : ℕ) → index first (min v cap) ≡ index first v
capped-index first v = cases (dec_le v cap)
  where
    cases : Dec (v ≤ cap) → index first (min v cap) ≡ index first v
    cases (yes h) = ap (index first) (omega arith)
    cases (no h) = sym (index-beyond first (min v cap) (omega arith)) ∙ index-beyond first v (omega arith)

-- ---- the digits of a file number

-- a literal of n bytes by its code
abbrev pub literal_of : ℕ → Checked ℕ → Got ℕ
literal_of n (refuse e) = none (fault e)
literal_of n (accept c) = got c n

module _ (o : Options) (negative : Bool) (s : List ℕ) (run : Run) (is : run ≡ run_of s) where
  counted : length (leading s) ≡ run.count
  counted = ap (λ (r : Run). r.count) (sym is)

  pub digits-missing : run.count ≡ 0 → none (fault 4) ≡ digits o negative s
  unfolding digits
  digits-missing z = rw (counted, z)

  module _ (some : run.count ≡ 0 → ⊥) where
    digits-indexed : (g : Checked ℕ) → g ≡ index o.first run.size → code_by negative run.count g ≡ digits o negative s
    unfolding digits
    digits-indexed g e =
        let f : index o.first (value (leading s)) ≡ g =
        sym (e ∙ ap (λ (r : Run). index o.first r.size) is ∙ capped-index o.first (value (leading s))) in
        rw (counted, ne_eqb run.count 0 some, f)

    pub digits-coded : (r : Option Lit) → said_lit r ≡ then_code negative (index o.first run.size)
        → literal_of run.count (said_lit r) ≡ digits o negative s
    digits-coded r e = ap (literal_of run.count) e ∙ by-code (index o.first run.size) ∙ digits-indexed (index o.first run.size) refl
      where
        by-code : (g : Checked ℕ) → literal_of run.count (then_code negative g) ≡ code_by negative run.count g
        by-code (refuse e) = refl
        by-code (accept v) = refl

-- ---- `x` and digits
module _ (o : Options) (negative : Bool) where
  pub variable-empty : (s : List ℕ) → length s ≡ 0 → none (fault 4) ≡ variable o negative s
  unfolding variable
  variable-empty [] e = refl
  variable-empty (b ∷ s) e = absurd (omega arith)

  pub variable-other : (s : List ℕ) → (length s ≡ 0 → ⊥) → (get_or s 0 0 ≡ letter_x → ⊥) → none (fault 4) ≡ variable o negative s
  unfolding variable
  variable-other [] h n = absurd (h refl)
  variable-other (b ∷ s) h n = rw (ne_eqb b letter_x n)

  pub variable-x : (s : List ℕ) → (length s ≡ 0 → ⊥) → get_or s 0 0 ≡ letter_x → more 1 (digits o negative (drop 1 s)) ≡ variable o negative s
  unfolding variable
  variable-x [] h e = absurd (h refl)
  variable-x (b ∷ s) h e = rw (eq-eqb b letter_x e)

-- ---- `~` or `-`, or neither
module _ (o : Options) where
  -- nothing is a variable as little as a literal
  pub literal-short : (s : List ℕ) → length s ≡ 0 → variable o false s ≡ literal o s
  unfolding literal variable
  literal-short [] e = refl
  literal-short (b ∷ s) e = absurd (omega arith)

  pub literal-plain : (s : List ℕ) → (length s ≡ 0 → ⊥) → (get_or s 0 0 ≡ tilde → ⊥) → (get_or s 0 0 ≡ minus → ⊥)
      → variable o false s ≡ literal o s
  unfolding literal
  literal-plain [] h n m = absurd (h refl)
  literal-plain (b ∷ s) h n m = rw (ne_eqb b tilde n, ne_eqb b minus m)

  pub literal-negated : (s : List ℕ) → (length s ≡ 0 → ⊥) → ((get_or s 0 0 ≡ tilde → ⊥) → get_or s 0 0 ≡ minus)
      → more 1 (variable o true (drop 1 s)) ≡ literal o s
  unfolding literal
  literal-negated [] h m = absurd (h refl)
  literal-negated (b ∷ s) h m = cases (eqb b tilde) refl
    where
      cases : (t : Bool) → eqb b tilde ≡ t → more 1 (variable o true s) ≡ literal o (b ∷ s)
      cases true e = rw (eqb-true b tilde e)
      cases false e = rw (m (eqb-false b tilde e))

  -- ---- how many bytes they take: a literal with them at its end takes no more than there are
  pub digits-within : (negative : Bool) (s : List ℕ) (c n : ℕ) → digits o negative s ≡ got c n → n ≤ length s
  unfolding literal variable
  digits-within true s c n e = omega (arith, (within-literal o).most (tilde ∷ letter_x ∷ s) c (1 + (1 + n)) (ap (more 1) (ap (more 1) e)))
  digits-within false s c n e = omega (arith, (within-literal o).most (letter_x ∷ s) c (1 + n) (ap (more 1) e))

  pub negated-within : (s : List ℕ) (c n : ℕ) → variable o true s ≡ got c n → n ≤ length s
  unfolding literal
  negated-within s c n e = omega (arith, (within-literal o).most (tilde ∷ s) c (1 + n) (ap (more 1) e))
