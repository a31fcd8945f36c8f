-- `symbols::class_of` meets its contract: an arm of keys by computing the class of each, the others by where the byte
-- stands to the ranges of digits and operators. Assumes nothing.
use mathlib.Core.Path.{◌≡◌, sym, ◌∙◌}
use mathlib.Core.Logic.{◌⊎◌, inl, inr, ⊎_elim}
use mathlib.Core.Bool.{cond}
use native.Mathlib.Omega.{arith}
use Prim.Native.Nat.{ℕ, ◌≤◌, ◌<◌}
use borrow.Author.Tests.{le-leb, lt-leb, ne_eqb}
use Rattle.definitions.specs.Bytes.{tab, lf, cr, space, star, plus, minus, semicolon, letter_m, letter_x, tilde, class_of, is_digit, is_operator}
use Rattle.definitions.specs.declared.Class.TheVariants.{Digit, Operator, Other}
use Rattle.symbols.proofs.class_of.Goals as goal

pub returns-in-43 : goal.returns-in-43
unfolding class_of
returns-in-43 c = ⊎_elim (λ e. rw e) (λ e. rw e) c.in-43.is

pub returns-in-32 : goal.returns-in-32
unfolding class_of
returns-in-32 c = ⊎_elim (λ e. rw e) (λ e. rw e) c.in-32.is

pub returns-in-13 : goal.returns-in-13
unfolding class_of
returns-in-13 c = rw c.in-13.is

pub returns-in-10 : goal.returns-in-10
unfolding class_of
returns-in-10 c = rw c.in-10.is

pub returns-in-59 : goal.returns-in-59
unfolding class_of
returns-in-59 c = rw c.in-59.is

pub returns-in-42 : goal.returns-in-42
unfolding class_of
returns-in-42 c = rw c.in-42.is

pub returns-in-126 : goal.returns-in-126
unfolding class_of
returns-in-126 c = rw c.in-126.is

pub returns-in-120 : goal.returns-in-120
unfolding class_of
returns-in-120 c = rw c.in-120.is

pub returns-in-109 : goal.returns-in-109
unfolding class_of
returns-in-109 c = rw c.in-109.is

-- a byte that is none of the keys
abbrev NoKey : ℕ → Type 0
NoKey b =
    ((((((((Unit {0} × (((b ≡ 43) ⊎ (b ≡ 45)) → ⊥)) × (((b ≡ 9) ⊎ (b ≡ 32)) → ⊥)) × (b ≡ 13 → ⊥)) × (b ≡ 10 → ⊥)) × (b ≡ 59 → ⊥))
    × (b ≡ 42 → ⊥)) × (b ≡ 126 → ⊥)) × (b ≡ 120 → ⊥)) × (b ≡ 109 → ⊥)

-- what the ranges say of it
ranged : (b : ℕ) → NoKey b → class_of b ≡ cond (is_digit b) Digit (cond (is_operator b) Operator Other)
unfolding class_of
ranged b r =
    let signs = r.0.0.0.0.0.0.0.0.1 in
    let blanks = r.0.0.0.0.0.0.0.1 in
    rw (
      ne_eqb b plus (λ q. signs (inl q)),
      ne_eqb b minus (λ q. signs (inr q)),
      ne_eqb b space (λ q. blanks (inr q)),
      ne_eqb b tab (λ q. blanks (inl q)),
      ne_eqb b cr r.0.0.0.0.0.0.1,
      ne_eqb b lf r.0.0.0.0.0.1,
      ne_eqb b semicolon r.0.0.0.0.1,
      ne_eqb b star r.0.0.0.1,
      ne_eqb b tilde r.0.0.1,
      ne_eqb b letter_x r.0.1,
      ne_eqb b letter_m r.1,
    )

next : (n : ℕ) → 59 ≤ n → (n ≡ 59 → ⊥) → 60 ≤ n
next n h e = omega arith

-- the same, by where the byte stands to the ranges
module _ (byte : ℕ) (key : NoKey byte) where
  in-digits : 48 ≤ byte → byte < 58 → Digit ≡ class_of byte
  in-digits h g = sym (ranged byte key ∙ rw (le-leb 48 byte h, le-leb byte 57 (omega arith)))

  in-operators : 59 ≤ byte → byte < 63 → Operator ≡ class_of byte
  in-operators h g =
      let k : 60 ≤ byte = next byte h key.0.0.0.0.1 in
      sym (ranged byte key ∙ rw (le-leb 48 byte (omega arith), lt-leb byte 57 (omega arith), le-leb 60 byte k, le-leb byte 62 (omega arith)))

  below-digits : byte < 48 → Other ≡ class_of byte
  below-digits h = sym (ranged byte key ∙ rw (lt-leb 48 byte h, lt-leb 60 byte (omega arith)))

  between : 58 ≤ byte → byte < 59 → Other ≡ class_of byte
  between h g = sym (ranged byte key ∙ rw (le-leb 48 byte (omega arith), lt-leb byte 57 (omega arith), lt-leb 60 byte (omega arith)))

  above-operators : 63 ≤ byte → Other ≡ class_of byte
  above-operators h =
      sym (ranged byte key
      ∙ rw (le-leb 48 byte (omega arith), lt-leb byte 57 (omega arith), le-leb 60 byte (omega arith), lt-leb byte 62 (omega arith)))

pub returns-in-48-to-57 : goal.returns-in-48-to-57
returns-in-48-to-57 c = in-digits c.args.b c.in-48-to-57.in_default-own.rest c.in-48-to-57.if-b-lt48-own.false c.in-48-to-57.if-b-lt58-own.true

pub returns-in-60 : goal.returns-in-60
returns-in-60 c = in-operators c.args.b c.in-60.in_default-own.rest c.in-60.if-b-lt59-own.false c.in-60.if-b-lt63-own.true

pub returns-in_default : goal.returns-in_default
returns-in_default c = below-digits c.args.b c.in_default.in_default-own.rest c.in_default.if-b-lt48-own.true

pub returns-in_default-2 : goal.returns-in_default-2
returns-in_default-2 c = between c.args.b c.in_default.in_default-own.rest c.in_default.if-b-lt58-own.false c.in_default.if-b-lt59-own.true

pub returns-in_default-3 : goal.returns-in_default-3
returns-in_default-3 c = above-operators c.args.b c.in_default.in_default-own.rest c.in_default.if-b-lt63-own.false
