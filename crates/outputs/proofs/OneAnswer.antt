-- Two answers that the contract of a public function allows are equal, and so is what they leave in the output lent.
use mathlib.Core.Path.{◌≡◌, refl, sym, ◌∙◌}
use mathlib.Core.List.{List}
use Prim.Native.Nat.{ℕ}
use Rattle.std.specs.Prelude.{Option, None, Some}
use Rattle.outputs.specs.Print.{put, Prints}
use Rattle.outputs.proofs.print_count.Reads as print-count
use Rattle.outputs.proofs.print_number.Reads as print-number
use Rattle.outputs.proofs.print_text.Reads as print-text

pub put_one : (r r' : Option ℕ) → put r ≡ put r' → r ≡ r'
put_one (Some n) (Some m) e = cc
put_one (Some n) None e = cc
put_one None (Some m) e = cc
put_one None None e = refl

-- what any of the three prints leaves
prints-one : {text : List ℕ} {at : ℕ} {o : List ℕ} (r r' : Option ℕ) (o' o'' : List ℕ) → Prints text at o r o'
    → Prints text at o r' o'' → (r ≡ r') × (o' ≡ o'')
prints-one r r' o' o'' p q = (put_one r r' (p.answer ∙ sym q.answer), p.after ∙ sym q.after)

pub print-count-one : (κs : _) (a : _) (r r' : _) (s s' : _) → print-count.Post κs a r s
    → print-count.Post κs a r' s' → (r ≡ r') × (s.1.0.now ≡ s'.1.0.now)
print-count-one κs a r r' s s' p q = prints-one r r' _ _ p q

pub print-number-one : (κs : _) (a : _) (r r' : _) (s s' : _) → print-number.Post κs a r s
    → print-number.Post κs a r' s' → (r ≡ r') × (s.1.0.now ≡ s'.1.0.now)
print-number-one κs a r r' s s' p q = prints-one r r' _ _ p q

pub print-text-one : (κs : _) (a : _) (r r' : _) (s s' : _) → print-text.Post κs a r s
    → print-text.Post κs a r' s' → (r ≡ r') × (s.1.0.now ≡ s'.1.0.now)
print-text-one κs a r r' s s' p q = prints-one r r' _ _ p q
