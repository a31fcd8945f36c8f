-- Each public function has one possible answer for each input: two that its contract allows are equal. None changes
-- what it is lent.
use mathlib.Core.Path.{◌≡◌, refl, sym, ap, ◌∙◌}
use Rattle.std.specs.Prelude.{Option, Some, None}
use Rattle.plain_parts.specs.PartForms.{said_weight, said_literal}
use Rattle.plain_parts.specs.declared.PlainWeight.{PlainWeight}
use Rattle.plain_parts.specs.declared.PlainLiteral.{PlainLiteral}
use Rattle.plain_parts.proofs.plain_weight.Reads as plain-weight
use Rattle.plain_parts.proofs.plain_literal.Reads as plain-literal

pub said-weight : (r r' : Option PlainWeight) → said_weight r ≡ said_weight r' → r ≡ r'
said-weight (Some w) (Some v) e =
    let n : w.negative ≡ v.negative = cc in
    let z : w.size ≡ v.size = cc in
    let t : w.taken ≡ v.taken = cc in
    ap Some (rw (n, z, t))
said-weight (Some w) None e = cc
said-weight None (Some v) e = cc
said-weight None None e = refl

pub plain-weight-one : (κs : _) (a : _) (r r' : _) (s s' : _) → plain-weight.Post κs a r s → plain-weight.Post κs a r' s' → r ≡ r'
plain-weight-one κs a r r' s s' p q = said-weight r r' (p ∙ sym q)

pub said-literal : (r r' : Option PlainLiteral) → said_literal r ≡ said_literal r' → r ≡ r'
said-literal (Some l) (Some k) e =
    let n : l.negated ≡ k.negated = cc in
    let z : l.number ≡ k.number = cc in
    let t : l.taken ≡ k.taken = cc in
    ap Some (rw (n, z, t))
said-literal (Some l) None e = cc
said-literal None (Some k) e = cc
said-literal None None e = refl

pub plain-literal-one : (κs : _) (a : _) (r r' : _) (s s' : _) → plain-literal.Post κs a r s → plain-literal.Post κs a r' s' → r ≡ r'
plain-literal-one κs a r r' s s' p q = said-literal r r' (p ∙ sym q)
