-- Two answers that the contract of the public function allows are equal.
use mathlib.Core.Path.{◌≡◌, sym, ap, ◌∙◌}
use Prim.Native.Nat.{ℕ}
use Rattle.std.specs.Prelude.{Result, Ok, Err}
use Rattle.definitions.specs.Table.{totals_of}
use Rattle.definitions.specs.declared.Totals.{Totals}
use Rattle.definitions.proofs.Truths.{never}
use Rattle.foreseen.specs.Returning.{said_returned}
use Rattle.foreseen.specs.declared.Back.{Back}
use Rattle.foreseen.specs.declared.NotBack.{NotBack}
use Rattle.foreseen.specs.declared.NotBack.TheVariants.{NotWritten, NotRead}
use Rattle.foreseen.proofs.foresee.Reads as foresee

back-eq : {l l' n n' m m' : ℕ} → l ≡ l' → n ≡ n' → m ≡ m'
    → ◌≡◌ {A = Result Back NotBack} (Ok (record { length = l; rows = n; terms = m })) (Ok (record { length = l'; rows = n'; terms = m' }))
back-eq a b c = cc

pub said-one : (r r' : Result Back NotBack) → said_returned r ≡ said_returned r' → r ≡ r'
said-one (Err (NotWritten r)) (Err (NotWritten r')) e = cc
said-one (Err (NotWritten r)) (Err (NotRead r')) e = never (cc)
said-one (Err (NotWritten r)) (Ok b) e = never (cc)
said-one (Err (NotRead r)) (Err (NotWritten r')) e = never (cc)
said-one (Err (NotRead r)) (Err (NotRead r')) e = cc
said-one (Err (NotRead r)) (Ok b) e = never (cc)
said-one (Ok b) (Err (NotWritten r)) e = never (cc)
said-one (Ok b) (Err (NotRead r)) e = never (cc)
said-one (Ok b) (Ok b') e =
    let c : totals_of b.rows b.terms ≡ totals_of b'.rows b'.terms = cc in
    back-eq (cc) (ap (λ (x : Totals). x.rows) c) (ap (λ (x : Totals). x.terms) c)

pub foresee-one : (κs : _) (a : _) (r r' : _) (s s' : _) → foresee.Post κs a r s → foresee.Post κs a r' s' → r ≡ r'
foresee-one κs a r r' s s' p q = said-one r r' (p ∙ sym q)
