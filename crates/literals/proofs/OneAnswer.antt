-- Each public function has one possible answer for each input: two that its contract allows are equal.
use Prim.Native.Nat.{ℕ}
use mathlib.Core.Path.{◌≡◌, refl, sym, ap, ◌∙◌}
use Rattle.std.specs.Prelude.{Option, Some, None}
use Rattle.literals.specs.Said.{said_file_number, said_var, said_lit}
use Rattle.literals.specs.declared.FileNumber.{FileNumber}
use Rattle.literals.specs.declared.Lit.{Lit}
use Rattle.literals.specs.declared.Var.{Var}
use Rattle.literals.proofs.Conversions.{accepted, no-refusal}
use Rattle.literals.proofs.FileNumber.of_digits.Reads as file-number-of-digits
use Rattle.literals.proofs.FileNumber.of.Reads as file-number-of
use Rattle.literals.proofs.FileNumber.number.Reads as file-number-number
use Rattle.literals.proofs.Var.of_index.Reads as var-of-index
use Rattle.literals.proofs.Var.index.Reads as var-index
use Rattle.literals.proofs.Var.in_limit.Reads as var-in-limit
use Rattle.literals.proofs.Var.of_file.Reads as var-of-file
use Rattle.literals.proofs.Var.lit.Reads as var-lit
use Rattle.literals.proofs.Var.pos_lit.Reads as var-pos-lit
use Rattle.literals.proofs.Var.neg_lit.Reads as var-neg-lit
use Rattle.literals.proofs.Lit.of_digits.Reads as lit-of-digits
use Rattle.literals.proofs.Lit.of_code.Reads as lit-of-code
use Rattle.literals.proofs.Lit.code.Reads as lit-code
use Rattle.literals.proofs.Lit.var.Reads as lit-var
use Rattle.literals.proofs.Lit.negated.Reads as lit-negated
use Rattle.literals.proofs.Lit.is_neg.Reads as lit-is-neg
use Rattle.literals.proofs.Lit.is_pos.Reads as lit-is-pos

-- ---- an answer is known by what it says
pub said-file-number : (r r' : Option FileNumber) → said_file_number r ≡ said_file_number r' → r ≡ r'
said-file-number (Some x) (Some y) e = ap (λ (n : ℕ). Some (record { 0 = n })) (accepted x.0 y.0 e)
said-file-number (Some x) None e = absurd (no-refusal x.0 _ e)
said-file-number None (Some y) e = absurd (no-refusal y.0 _ (sym e))
said-file-number None None e = refl

pub said-var : (r r' : Option Var) → said_var r ≡ said_var r' → r ≡ r'
said-var (Some x) (Some y) e = ap (λ (n : ℕ). Some (record { 0 = n })) (accepted x.0 y.0 e)
said-var (Some x) None e = absurd (no-refusal x.0 _ e)
said-var None (Some y) e = absurd (no-refusal y.0 _ (sym e))
said-var None None e = refl

pub said-lit : (r r' : Option Lit) → said_lit r ≡ said_lit r' → r ≡ r'
said-lit (Some x) (Some y) e = ap (λ (n : ℕ). Some (record { 0 = n })) (accepted x.0 y.0 e)
said-lit (Some x) None e = absurd (no-refusal x.0 _ e)
said-lit None (Some y) e = absurd (no-refusal y.0 _ (sym e))
said-lit None None e = refl

same-var : (r r' : Var) → r.0 ≡ r'.0 → r ≡ r'
same-var r r' e = ap (λ (n : ℕ). record { 0 = n }) e

pub same-lit : (r r' : Lit) → r.0 ≡ r'.0 → r ≡ r'
same-lit r r' e = ap (λ (n : ℕ). record { 0 = n }) e

-- ---- the functions
pub file-number-of-digits-one : (κs : _) (a : _) (r r' : _) (s s' : _) → file-number-of-digits.Post κs a r s
    → file-number-of-digits.Post κs a r' s' → r ≡ r'
file-number-of-digits-one κs a r r' s s' p q = said-file-number r r' (p ∙ sym q)

pub file-number-of-one : (κs : _) (a : _) (r r' : _) (s s' : _) → file-number-of.Post κs a r s → file-number-of.Post κs a r' s' → r ≡ r'
file-number-of-one κs a r r' s s' p q = said-file-number r r' (p ∙ sym q)

pub file-number-number-one : (κs : _) (a : _) (r r' : _) (s s' : _) → file-number-number.Post κs a r s
    → file-number-number.Post κs a r' s' → r ≡ r'
file-number-number-one κs a r r' s s' p q = p ∙ sym q

pub var-of-index-one : (κs : _) (a : _) (r r' : _) (s s' : _) → var-of-index.Post κs a r s → var-of-index.Post κs a r' s' → r ≡ r'
var-of-index-one κs a r r' s s' p q = same-var r r' (p ∙ sym q)

pub var-index-one : (κs : _) (a : _) (r r' : _) (s s' : _) → var-index.Post κs a r s → var-index.Post κs a r' s' → r ≡ r'
var-index-one κs a r r' s s' p q = p ∙ sym q

pub var-in-limit-one : (κs : _) (a : _) (r r' : _) (s s' : _) → var-in-limit.Post κs a r s → var-in-limit.Post κs a r' s' → r ≡ r'
var-in-limit-one κs a r r' s s' p q = p ∙ sym q

pub var-of-file-one : (κs : _) (a : _) (r r' : _) (s s' : _) → var-of-file.Post κs a r s → var-of-file.Post κs a r' s' → r ≡ r'
var-of-file-one κs a r r' s s' p q = said-var r r' (p ∙ sym q)

pub var-lit-one : (κs : _) (a : _) (r r' : _) (s s' : _) → var-lit.Post κs a r s → var-lit.Post κs a r' s' → r ≡ r'
var-lit-one κs a r r' s s' p q = said-lit r r' (p ∙ sym q)

pub var-pos-lit-one : (κs : _) (a : _) (r r' : _) (s s' : _) → var-pos-lit.Post κs a r s → var-pos-lit.Post κs a r' s' → r ≡ r'
var-pos-lit-one κs a r r' s s' p q = said-lit r r' (p ∙ sym q)

pub var-neg-lit-one : (κs : _) (a : _) (r r' : _) (s s' : _) → var-neg-lit.Post κs a r s → var-neg-lit.Post κs a r' s' → r ≡ r'
var-neg-lit-one κs a r r' s s' p q = said-lit r r' (p ∙ sym q)

pub lit-of-digits-one : (κs : _) (a : _) (r r' : _) (s s' : _) → lit-of-digits.Post κs a r s → lit-of-digits.Post κs a r' s' → r ≡ r'
lit-of-digits-one κs a r r' s s' p q = said-lit r r' (p ∙ sym q)

pub lit-of-code-one : (κs : _) (a : _) (r r' : _) (s s' : _) → lit-of-code.Post κs a r s → lit-of-code.Post κs a r' s' → r ≡ r'
lit-of-code-one κs a r r' s s' p q = same-lit r r' (p ∙ sym q)

pub lit-code-one : (κs : _) (a : _) (r r' : _) (s s' : _) → lit-code.Post κs a r s → lit-code.Post κs a r' s' → r ≡ r'
lit-code-one κs a r r' s s' p q = p ∙ sym q

pub lit-var-one : (κs : _) (a : _) (r r' : _) (s s' : _) → lit-var.Post κs a r s → lit-var.Post κs a r' s' → r ≡ r'
lit-var-one κs a r r' s s' p q = same-var r r' (p ∙ sym q)

pub lit-negated-one : (κs : _) (a : _) (r r' : _) (s s' : _) → lit-negated.Post κs a r s → lit-negated.Post κs a r' s' → r ≡ r'
lit-negated-one κs a r r' s s' p q = same-lit r r' (p ∙ sym q)

pub lit-is-neg-one : (κs : _) (a : _) (r r' : _) (s s' : _) → lit-is-neg.Post κs a r s → lit-is-neg.Post κs a r' s' → r ≡ r'
lit-is-neg-one κs a r r' s s' p q = p ∙ sym q

pub lit-is-pos-one : (κs : _) (a : _) (r r' : _) (s s' : _) → lit-is-pos.Post κs a r s → lit-is-pos.Post κs a r' s' → r ≡ r'
lit-is-pos-one κs a r r' s s' p q = p ∙ sym q
