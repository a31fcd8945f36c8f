-- Two answers that the contract of a public function allows are equal.
use Rattle.std.specs.Prelude.{ℕ, Option, Some, None}
use mathlib.Core.Path.{◌≡◌, refl, sym, ◌∙◌}
use Rattle.definitions.proofs.Truths.{never}
use Rattle.house_lengths.specs.Lengths.{said_term_length}
use Rattle.house_lengths.proofs.terms.term_length.Reads as length-of-term
use Rattle.house_lengths.proofs.lines.line_length.Reads as line-length
use Rattle.house_lengths.proofs.lines.text_length.Reads as text-length

term-length-said : (r r' : Option ℕ) → said_term_length r ≡ said_term_length r' → r ≡ r'
term-length-said (Some n) (Some m) e = cc
term-length-said (Some n) None e = never (cc)
term-length-said None (Some m) e = never (cc)
term-length-said None None e = refl

pub term-length-one : (κs : _) (a : _) (r r' : _) (s s' : _) → length-of-term.Post κs a r s → length-of-term.Post κs a r' s' → r ≡ r'
term-length-one κs a r r' s s' p q = term-length-said r r' (p ∙ sym q)

pub line-length-one : (κs : _) (a : _) (r r' : _) (s s' : _) → line-length.Post κs a r s → line-length.Post κs a r' s' → r ≡ r'
line-length-one κs a r r' s s' p q = p ∙ sym q

pub text-length-one : (κs : _) (a : _) (r r' : _) (s s' : _) → text-length.Post κs a r s → text-length.Post κs a r' s' → r ≡ r'
text-length-one κs a r r' s s' p q = p ∙ sym q
