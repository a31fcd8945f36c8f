-- Two answers that the contract of a public function allows are equal, and so is what they leave in the output lent.
use mathlib.Core.Path.{◌≡◌, sym, ◌∙◌}
use mathlib.Core.List.{List}
use Prim.Native.Nat.{ℕ}
use Rattle.puts.specs.Lands.{Lands}
use Rattle.puts.proofs.put_number.Reads as put-number
use Rattle.puts.proofs.put_count.Reads as put_count
use Rattle.puts.proofs.put_text.Reads as put-text
use Rattle.puts.proofs.put_field.Reads as put-field

lands-one : {text : List ℕ} {at : ℕ} {o : List ℕ} {r r' : ℕ} {o' o'' : List ℕ} → Lands text at o r o'
    → Lands text at o r' o'' → (r ≡ r') × (o' ≡ o'')
lands-one p q = (p.place ∙ sym q.place, p.after ∙ sym q.after)

pub put-number-one : (κs : _) (a : _) (r r' : _) (s s' : _) → put-number.Post κs a r s → put-number.Post κs a r' s'
    → (r ≡ r') × (s.1.0.now ≡ s'.1.0.now)
put-number-one κs a r r' s s' p q = lands-one p q

pub put-count-one : (κs : _) (a : _) (r r' : _) (s s' : _) → put_count.Post κs a r s → put_count.Post κs a r' s'
    → (r ≡ r') × (s.1.0.now ≡ s'.1.0.now)
put-count-one κs a r r' s s' p q = lands-one p q

pub put-text-one : (κs : _) (a : _) (r r' : _) (s s' : _) → put-text.Post κs a r s → put-text.Post κs a r' s'
    → (r ≡ r') × (s.1.0.now ≡ s'.1.0.now)
put-text-one κs a r r' s s' p q = lands-one p q

pub put-field-one : (κs : _) (a : _) (r r' : _) (s s' : _) → put-field.Post κs a r s → put-field.Post κs a r' s'
    → (r ≡ r') × (s.1.0.now ≡ s'.1.0.now)
put-field-one κs a r r' s s' p q = lands-one p q
