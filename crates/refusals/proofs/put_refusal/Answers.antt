-- `put_refusal` meets its contract: the word, two fields and an LF, one behind the other.
use native.Mathlib.Omega.{arith}
use mathlib.Core.Path.{◌≡◌, refl}
use mathlib.Core.List.{List, [], ◌∷◌, ◌++◌}
use Prim.Native.Nat.{ℕ, ◌+◌, ◌≤◌}
use lib.ListN.{length, set, length-set}
use Rattle.definitions.specs.Bytes.{lf}
use Rattle.definitions.specs.Number.{decimal}
use Rattle.definitions.specs.House.{field, refused_line}
use Rattle.laws.proofs.Puts.{Puts, front-room, rest-room, puts_then, puts-byte, puts-length}
use Rattle.puts.proofs.LandLaws.{lands}
use Rattle.puts.proofs.LandLaws.{lands}
use Rattle.refusals.proofs.put_refusal.Goals as goal
use Rattle.refusals.proofs.put_refusal.Goals.{After-put_field-b, After-put_field-end, After-put_text-a, Start}

-- `refused`
abbrev refused_word : List ℕ
refused_word = 114 ∷ 101 ∷ 102 ∷ 117 ∷ 115 ∷ 101 ∷ 100 ∷ []

-- what stands behind the word, and behind the number
abbrev tail₂ : Start → List ℕ
tail₂ s = field (decimal s.args.place) ++ (lf ∷ [])

abbrev tail₁ : Start → List ℕ
tail₁ s = field (decimal s.args.number) ++ tail₂ s

room : (s : Start) → 0 + length (refused_word ++ tail₁ s) ≤ length s.args.out.now
unfolding refused_line
room s = omega (arith, s.requires)

abbrev start : After-put_text-a → Start
start c = (goal.at.After-put_text-a c).Start

abbrev word : After-put_field-b → After-put_text-a
word c = (goal.at.After-put_field-b c).After-put_text-a

abbrev number : After-put_field-end → After-put_field-b
number c = (goal.at.After-put_field-end c).After-put_field-b

-- each fits, so it is put
text-put : (c : After-put_text-a) → Puts refused_word 0 (start c).args.out.now c.put_text-a.result c.put_text-a.new.out
text-put c = lands refused_word 0 _ c.put_text-a.ensures (front-room refused_word (tail₁ (start c)) 0 (room (start c)))

rest₁ : (c : After-put_text-a) → c.put_text-a.result + length (tail₁ (start c)) ≤ length c.put_text-a.new.out
rest₁ c = rest-room (text-put c) (tail₁ (start c)) (room (start c))

number_put : (c : After-put_field-b)
    → Puts (field (decimal (start (word c)).args.number)) (word c).put_text-a.result (word c).put_text-a.new.out
    c.put_field-b.result c.put_field-b.new.out
number_put c =
    let s = start (word c) in
    lands (field (decimal s.args.number)) _ _ c.put_field-b.ensures
    (front-room (field (decimal s.args.number)) (tail₂ s) _ (rest₁ (word c)))

rest₂ : (c : After-put_field-b) → c.put_field-b.result + length (tail₂ (start (word c))) ≤ length c.put_field-b.new.out
rest₂ c = rest-room (number_put c) (tail₂ (start (word c))) (rest₁ (word c))

place-put : (c : After-put_field-end)
    → Puts (field (decimal (start (word (number c))).args.place)) (number c).put_field-b.result
    (number c).put_field-b.new.out c.put_field-end.result c.put_field-end.new.out
place-put c =
    let s = start (word (number c)) in
    lands (field (decimal s.args.place)) _ _ c.put_field-end.ensures
    (front-room (field (decimal s.args.place)) (lf ∷ []) _ (rest₂ (number c)))

rest₃ : (c : After-put_field-end) → c.put_field-end.result + length (lf ∷ []) ≤ length c.put_field-end.new.out
rest₃ c = rest-room (place-put c) (lf ∷ []) (rest₂ (number c))

module _ (c : After-put_field-end) where
  abbrev s : Start
  s = start (word (number c))

  all-put : Puts (refused_word ++ tail₁ s) 0 s.args.out.now (c.put_field-end.result + 1)
      (set c.put_field-end.new.out c.put_field-end.result lf)
  all-put =
      puts_then (text-put (word (number c))) (front-room refused_word (tail₁ s) _ (room s))
      (puts_then (number_put (number c)) (front-room (field (decimal s.args.number)) (tail₂ s) _ (rest₁ (word (number c))))
      (puts_then (place-put c) (front-room (field (decimal s.args.place)) (lf ∷ []) _ (rest₂ (number c)))
      (puts-byte lf _ _ _ (omega (arith, rest₃ c)) refl)))

  all-long : length c.put_field-end.new.out ≡ length s.args.out.now
  all-long = rw length-set at (puts-length all-put (room s))

pub bounds-out-end : goal.bounds-out-end
bounds-out-end c = omega (arith, rest₃ (goal.at.bounds-out-end c).After-put_field-end)

pub overflow_add-result : goal.overflow_add-result
overflow_add-result c = omega (arith, rest₃ (goal.at.overflow_add-result c).After-put_field-end, all-long (goal.at.overflow_add-result c).After-put_field-end, (start (word (number (goal.at.overflow_add-result c).After-put_field-end))).well_formed)

pub shape_of-out : goal.shape_of-out
shape_of-out c = simp length-set (all-long (goal.at.shape_of-out c).After-put_field-end)

pub returns : goal.returns
returns c = unfold refused_line in all-put (goal.at.returns c).After-put_field-end
