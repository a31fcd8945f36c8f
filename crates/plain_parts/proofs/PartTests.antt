-- What the tests of specs/PartForms.antt say where they are passed, and what a sign or a letter at the front makes of a
-- text.
use mathlib.Core.Path.{◌≡◌}
use mathlib.Core.Bool.{Bool, true, false, cond, ◌&&◌}
use mathlib.Core.List.{List}
use Prim.Native.Nat.{ℕ, ◌-◌, ◌≤◌, ◌<◌}
use native.Mathlib.Omega.{arith}
use borrow.Author.Tests.{leb-true, ltb-true, eqb-true, eq-eqb, ne_eqb}
use lib.Dec.{ltb, leb, eqb}
use Rattle.definitions.specs.Bytes.{space, minus, letter_x, tilde}
use Rattle.definitions.proofs.Truths.{both}
use Rattle.plain_parts.specs.PartForms.{byte_at, bytes_of, is_part, sign, letters, is_literal}

-- ---- the bytes before the digits

pub sign-minus : (s : List ℕ) → byte_at s 0 ≡ minus → sign s ≡ 1
unfolding sign
sign-minus s e = rw (eq-eqb (byte_at s 0) minus e)

pub sign-none : (s : List ℕ) → (byte_at s 0 ≡ minus → ⊥) → sign s ≡ 0
unfolding sign
sign-none s e = rw (ne_eqb (byte_at s 0) minus e)

pub sign-within : (s : List ℕ) → sign s ≤ 1
unfolding sign
sign-within s = by (eqb (byte_at s 0) minus)
  where
    by : (t : Bool) → cond t 1 0 ≤ 1
    by true = omega arith
    by false = omega arith

pub letters-tilde : (s : List ℕ) → byte_at s 0 ≡ tilde → letters s ≡ 2
unfolding letters
letters-tilde s e = rw (eq-eqb (byte_at s 0) tilde e)

pub letters-none : (s : List ℕ) → (byte_at s 0 ≡ tilde → ⊥) → letters s ≡ 1
unfolding letters
letters-none s e = rw (ne_eqb (byte_at s 0) tilde e)

pub letters-within : (s : List ℕ) → (1 ≤ letters s) × (letters s ≤ 2)
unfolding letters
letters-within s = by (eqb (byte_at s 0) tilde)
  where
    by : (t : Bool) → (1 ≤ cond t 2 1) × (cond t 2 1 ≤ 2)
    by true = (omega arith, omega arith)
    by false = (omega arith, omega arith)

-- ---- tests that are passed

pub record Part (k : ℕ) (s : List ℕ) : Type 0 where
  pub some : k < bytes_of k s
  pub short : bytes_of k s ≤ 7
  pub space : byte_at s (bytes_of k s) ≡ space

pub part_says : (k : ℕ) (s : List ℕ) → is_part k s ≡ true → Part k s
unfolding is_part
part_says k s e =
    let n = bytes_of k s in
    let t = both (ltb k n) (leb n 7 && eqb (byte_at s n) space) e in
    let u = both (leb n 7) (eqb (byte_at s n) space) t.1 in
    record { some = ltb-true k n t.0; short = leb-true n 7 u.0; space = eqb-true (byte_at s n) space u.1 }

pub record Literal (s : List ℕ) : Type 0 where
  pub letter : byte_at s (letters s - 1) ≡ letter_x
  pub part : Part (letters s) s

pub literal-says : (s : List ℕ) → is_literal s ≡ true → Literal s
unfolding is_literal
literal-says s e =
    let t = both (eqb (byte_at s (letters s - 1)) letter_x) (is_part (letters s) s) e in
    record { letter = eqb-true (byte_at s (letters s - 1)) letter_x t.0; part = part_says (letters s) s t.1 }
