-- The public function has one possible answer for each input, and leaves one content in each column: two that its
-- contract allows are equal.
use mathlib.Core.Path.{◌≡◌, sym, ap, ◌∙◌}
use Rattle.std.specs.Prelude.{Result, Ok, Err}
use Rattle.definitions.specs.declared.Fault.{Fault}
use Rattle.sums.specs.Brief.{SumBrief, sum_brief, said_sum}
use Rattle.sums.specs.declared.Sum.{Sum}
use Rattle.sums.proofs.weighted_lit_sum.Reads as weighted-lit-sum

-- an answer is known by what it says
pub said-sum : (r r' : Result Sum Fault) → said_sum r ≡ said_sum r' → r ≡ r'
said-sum (Ok t) (Ok t') e =
    let b : sum_brief t.terms t.size ≡ sum_brief t'.terms t'.size = cc in
    let p : t.terms ≡ t'.terms = ap (λ (x : SumBrief). x.terms) b in
    let q : t.size ≡ t'.size = ap (λ (x : SumBrief). x.size) b in
    let l : t.taken ≡ t'.taken = cc in
    λ i. Ok (record { terms = p i; size = q i; taken = l i })
said-sum (Ok t) (Err k) e = cc
said-sum (Err k) (Ok t) e = cc
said-sum (Err k) (Err k') e = cc

pub weighted-lit-sum-one : (κs : _) (a : _) (r r' : _) (s s' : _) → weighted-lit-sum.Post κs a r s → weighted-lit-sum.Post κs a r' s'
    → (r ≡ r') × (s.1.1.0.now ≡ s'.1.1.0.now) × (s.1.1.1.0.now ≡ s'.1.1.1.0.now)
weighted-lit-sum-one κs a r r' s s' p q = (
  said-sum r r' (p.answer ∙ sym q.answer),
  p.filled.weights ∙ sym q.filled.weights,
  p.filled.literals ∙ sym q.filled.literals,
)
