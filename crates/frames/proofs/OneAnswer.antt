-- Each public function has one possible answer for each input: two that its contract allows are equal. None changes
-- what it is lent.
use mathlib.Core.Path.{◌≡◌, refl, sym, ap, ◌∙◌}
use Rattle.definitions.specs.Text.{Comparison, comparison_of}
use Rattle.definitions.specs.declared.Fault.{Fault}
use Rattle.std.specs.Prelude.{ℕ, Bool, Option, Some, None, Result, Ok, Err}
use Rattle.frames.specs.declared.closing.Comparison.{Comparison as Compared}
use Rattle.frames.specs.Said.{said_ending, said_comparison}
use Rattle.frames.proofs.closing.read_ending.Reads as read_ending
use Rattle.frames.proofs.closing.read_comparison.Reads as read-comparison

-- ---- an answer is known by what it says

pub said-ending : (r r' : Option (Bool × ℕ)) → said_ending r ≡ said_ending r' → r ≡ r'
said-ending (Some (p, n)) (Some (q, m)) e = cc
said-ending (Some (p, n)) None e = cc
said-ending None (Some (q, m)) e = cc
said-ending None None e = refl

pub said-comparison : (r r' : Result Compared Fault) → said_comparison r ≡ said_comparison r' → r ≡ r'
said-comparison (Ok a) (Ok b) e =
    let c : comparison_of a.operator a.number a.semicolon ≡ comparison_of b.operator b.number b.semicolon = cc in
    let o : a.operator ≡ b.operator = ap (λ (x : Comparison). x.operator) c in
    let z : a.number ≡ b.number = ap (λ (x : Comparison). x.number) c in
    let s : a.semicolon ≡ b.semicolon = ap (λ (x : Comparison). x.semicolon) c in
    let n : a.taken ≡ b.taken = cc in
    ap Ok (rw (o, z, s, n))
said-comparison (Ok a) (Err j) e = cc
said-comparison (Err i) (Ok b) e = cc
said-comparison (Err i) (Err j) e = cc

-- ---- the functions

pub read-ending-one : (κs : _) (a : _) (r r' : _) (s s' : _) → read_ending.Post κs a r s → read_ending.Post κs a r' s' → r ≡ r'
read-ending-one κs a r r' s s' p q = said-ending r r' (p ∙ sym q)

pub read-comparison-one : (κs : _) (a : _) (r r' : _) (s s' : _) → read-comparison.Post κs a r s → read-comparison.Post κs a r' s' → r ≡ r'
read-comparison-one κs a r r' s s' p q = said-comparison r r' (p ∙ sym q)
