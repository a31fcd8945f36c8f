-- Each public function has one possible answer for each input: two that its contract allows are equal. None changes
-- what it is lent.
use mathlib.Core.Path.{◌≡◌, refl, sym, ◌∙◌}
use Rattle.plain.specs.Plain.{said_plain}
use Rattle.plain.specs.declared.PlainTerm.{PlainTerm}
use Rattle.std.specs.Prelude.{ℕ, Option, Some, None}
use Rattle.plain.proofs.plain_term.Reads as plain-term

pub said_plain_lem : (r r' : Option (PlainTerm × ℕ)) → said_plain r ≡ said_plain r' → r ≡ r'
said_plain_lem (Some (p, n)) (Some (q, m)) e = cc
said_plain_lem (Some (p, n)) None e = cc
said_plain_lem None (Some (q, m)) e = cc
said_plain_lem None None e = refl

pub plain-term-one : (κs : _) (a : _) (r r' : _) (s s' : _) → plain-term.Post κs a r s → plain-term.Post κs a r' s' → r ≡ r'
plain-term-one κs a r r' s s' p q = said_plain_lem r r' (p ∙ sym q)
