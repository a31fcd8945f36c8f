-- `put_head` meets its contract: the word, three fields and an LF, one behind the other.
use native.Mathlib.Omega.{arith}
use mathlib.Core.Path.{◌≡◌, refl}
use mathlib.Core.List.{List, [], ◌∷◌, ◌++◌}
use Prim.Native.Nat.{ℕ, ◌+◌, ◌≤◌}
use lib.ListN.{length, set, length-set}
use Rattle.definitions.specs.Bytes.{lf}
use Rattle.definitions.specs.Number.{decimal}
use Rattle.definitions.specs.House.{field}
use Rattle.laws.proofs.Puts.{Puts, front-room, rest-room, puts_then, puts-byte, puts-length}
use Rattle.puts.proofs.LandLaws.{lands}
use Rattle.house.proofs.lines.put_head.Goals as goal
use Rattle.house.proofs.lines.put_head.Goals.{After-put_field-b, After-put_field-c, After-put_field-end, After-put_text-a, Start}

-- what stands behind the word, behind the rows, and behind the terms
abbrev tail₃ : Start → List ℕ
tail₃ s = field (decimal s.args.first) ++ (lf ∷ [])

abbrev tail₂ : Start → List ℕ
tail₂ s = field (decimal s.args.terms) ++ tail₃ s

abbrev tail₁ : Start → List ℕ
tail₁ s = field (decimal s.args.rows) ++ tail₂ s

room : (s : Start) → 0 + length ((111 ∷ 112 ∷ 98 ∷ []) ++ tail₁ s) ≤ length s.args.out.now
room s = omega (arith, s.requires)

abbrev start : After-put_text-a → Start
start c = (goal.at.After-put_text-a c).Start

abbrev word : After-put_field-b → After-put_text-a
word c = (goal.at.After-put_field-b c).After-put_text-a

abbrev rows : After-put_field-c → After-put_field-b
rows c = (goal.at.After-put_field-c c).After-put_field-b

abbrev terms : After-put_field-end → After-put_field-c
terms c = (goal.at.After-put_field-end c).After-put_field-c

-- each fits, so it is put
text-put : (c : After-put_text-a)
    → Puts (111 ∷ 112 ∷ 98 ∷ []) 0 (start c).args.out.now c.put_text-a.result c.put_text-a.new.out
text-put c = lands (111 ∷ 112 ∷ 98 ∷ []) 0 _ c.put_text-a.ensures (front-room (111 ∷ 112 ∷ 98 ∷ []) (tail₁ (start c)) 0 (room (start c)))

rest₁ : (c : After-put_text-a) → c.put_text-a.result + length (tail₁ (start c)) ≤ length c.put_text-a.new.out
rest₁ c = rest-room (text-put c) (tail₁ (start c)) (room (start c))

rows-put : (c : After-put_field-b)
    → Puts (field (decimal (start (word c)).args.rows)) (word c).put_text-a.result (word c).put_text-a.new.out
    c.put_field-b.result c.put_field-b.new.out
rows-put c =
    let s = start (word c) in
    lands (field (decimal s.args.rows)) _ _ c.put_field-b.ensures
    (front-room (field (decimal s.args.rows)) (tail₂ s) _ (rest₁ (word c)))

rest₂ : (c : After-put_field-b) → c.put_field-b.result + length (tail₂ (start (word c))) ≤ length c.put_field-b.new.out
rest₂ c = rest-room (rows-put c) (tail₂ (start (word c))) (rest₁ (word c))

terms-put : (c : After-put_field-c)
    → Puts (field (decimal (start (word (rows c))).args.terms)) (rows c).put_field-b.result (rows c).put_field-b.new.out
    c.put_field-c.result c.put_field-c.new.out
terms-put c =
    let s = start (word (rows c)) in
    lands (field (decimal s.args.terms)) _ _ c.put_field-c.ensures
    (front-room (field (decimal s.args.terms)) (tail₃ s) _ (rest₂ (rows c)))

rest₃ : (c : After-put_field-c) → c.put_field-c.result + length (tail₃ (start (word (rows c)))) ≤ length c.put_field-c.new.out
rest₃ c = rest-room (terms-put c) (tail₃ (start (word (rows c)))) (rest₂ (rows c))

first-put : (c : After-put_field-end)
    → Puts (field (decimal (start (word (rows (terms c)))).args.first)) (terms c).put_field-c.result
    (terms c).put_field-c.new.out c.put_field-end.result
    c.put_field-end.new.out
first-put c =
    let s = start (word (rows (terms c))) in
    lands (field (decimal s.args.first)) _ _ c.put_field-end.ensures
    (front-room (field (decimal s.args.first)) (lf ∷ []) _ (rest₃ (terms c)))

rest₄ : (c : After-put_field-end) → c.put_field-end.result + length (lf ∷ []) ≤ length c.put_field-end.new.out
rest₄ c = rest-room (first-put c) (lf ∷ []) (rest₃ (terms c))

module _ (c : After-put_field-end) where
  abbrev s : Start
  s = start (word (rows (terms c)))

  all-put : Puts ((111 ∷ 112 ∷ 98 ∷ []) ++ tail₁ s) 0 s.args.out.now (c.put_field-end.result + 1)
      (set c.put_field-end.new.out c.put_field-end.result 10)
  all-put =
      puts_then (text-put (word (rows (terms c)))) (front-room (111 ∷ 112 ∷ 98 ∷ []) (tail₁ s) _ (room s))
      (puts_then (rows-put (rows (terms c))) (front-room (field (decimal s.args.rows)) (tail₂ s) _ (rest₁ (word (rows (terms c)))))
      (puts_then (terms-put (terms c)) (front-room (field (decimal s.args.terms)) (tail₃ s) _ (rest₂ (rows (terms c))))
      (puts_then (first-put c) (front-room (field (decimal s.args.first)) (lf ∷ []) _ (rest₃ (terms c)))
      (puts-byte 10 _ _ _ (omega (arith, rest₄ c)) refl))))

  all-long : length c.put_field-end.new.out ≡ length s.args.out.now
  all-long = rw length-set at (puts-length all-put (room s))

pub bounds-out-end : goal.bounds-out-end
bounds-out-end c = omega (arith, rest₄ (goal.at.bounds-out-end c).After-put_field-end)

pub overflow_add-result : goal.overflow_add-result
overflow_add-result c =
    let d = (goal.at.overflow_add-result c).After-put_field-end in
    omega (arith, rest₄ d, all-long d, (start (word (rows (terms d)))).well_formed)

pub shape_of-out : goal.shape_of-out
shape_of-out c = simp length-set (all-long (goal.at.shape_of-out c).After-put_field-end)

pub returns : goal.returns
returns c = all-put (goal.at.returns c).After-put_field-end
