-- Each public function has one possible answer for each input: two that its contract allows are equal.
use mathlib.Core.Path.{◌≡◌, sym, ◌∙◌}
use Rattle.definitions.proofs.Truths.{never}
use Rattle.std.specs.Prelude.{ℤ, Option, Some, None}
use Rattle.printed.specs.Bounds.{said_bound}
use Rattle.printed.proofs.kinds.sort_of.Reads as sort-of
use Rattle.printed.proofs.kinds.style_of.Reads as style-of
use Rattle.printed.proofs.bounds.printed_bound.Reads as printed-bound

pub said-bound-one : (r r' : Option ℤ) → said_bound r ≡ said_bound r' → r ≡ r'
said-bound-one (Some x) (Some y) e = cc
said-bound-one (Some x) None e = never (cc)
said-bound-one None (Some y) e = never (cc)
said-bound-one None None e = cc

pub sort-of-one : (κs : _) (a : _) (r r' : _) (s s' : _) → sort-of.Post κs a r s → sort-of.Post κs a r' s' → r ≡ r'
sort-of-one κs a r r' s s' p q = p ∙ sym q

pub style-of-one : (κs : _) (a : _) (r r' : _) (s s' : _) → style-of.Post κs a r s → style-of.Post κs a r' s' → r ≡ r'
style-of-one κs a r r' s s' p q = p ∙ sym q

pub printed-bound-one : (κs : _) (a : _) (r r' : _) (s s' : _) → printed-bound.Post κs a r s → printed-bound.Post κs a r' s' → r ≡ r'
printed-bound-one κs a r r' s s' p q = said-bound-one r r' (p ∙ sym q)
