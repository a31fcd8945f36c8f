-- `put_line` meets its contract: the word with its tab, the bound, the terms and an LF, one behind the other.
use native.Mathlib.Omega.{arith}
use mathlib.Core.Path.{◌≡◌, refl, sym, ap, ◌∙◌}
use mathlib.Core.List.{List, [], ◌∷◌, ◌++◌}
use Prim.Native.Nat.{ℕ, ◌+◌, ◌-◌, ◌≤◌}
use lib.IntN.{ℤ}
use lib.ListN.{length, take, drop, set, length-set}
use mir.Syntax.{w64}
use mir.Val.{SFits}
use mir.Facts.{to_z-of_z}
use Rattle.definitions.specs.Lists.{joined}
use Rattle.definitions.specs.Bytes.{lf}
use Rattle.definitions.specs.Number.{integer_text}
use Rattle.definitions.specs.Refusal.{accept}
use Rattle.definitions.specs.Row.{Line}
use Rattle.definitions.specs.Table.{terms_on}
use Rattle.definitions.specs.House.{term_fields, house_line}
use Rattle.laws.proofs.Puts.{Puts, front-room, rest-room, puts-as, puts_then, puts-byte, puts-length}
use Rattle.columns.specs.Kinds.{read_kind}
use Rattle.puts.proofs.LandLaws.{lands}
use Rattle.house_lengths.specs.Words.{word_field}
use Rattle.house_lengths.proofs.WordLaws.{line-words}
use Rattle.house_measures.specs.Lines.{line_on}
use Rattle.house_measures.proofs.Entries.{ReadEntry, accepted-row}
use Rattle.house.specs.Ready.{RowReady}
use Rattle.std.proofs.Common.{rules}
use Rattle.house.proofs.lines.put_line.Goals as goal
use Rattle.house.proofs.lines.put_line.Goals.{After-put_number-b, After-put_terms-end, After-put_word-a, Start}

abbrev ready : (s : Start) → RowReady s.args.first s.args.t.weights.now s.args.t.literals.now s.args.entry s.args.at s.args.out.now
ready s = s.requires.2

-- an accepted entry of this kind is a row
abbrev read : (s : Start) (l : Line) (q : line_on s.args.first s.args.t.weights.now s.args.t.literals.now s.args.entry ≡ accept l)
    → ReadEntry s.args.first s.args.t.weights.now s.args.t.literals.now s.args.entry l q
read s l q = accepted-row _ _ _ s.args.entry l q (λ z. omega (arith, z, s.requires.0))

abbrev weights : Start → List ℤ
weights s = take s.args.entry.count (drop s.args.entry.first s.args.t.weights.now)

abbrev literals : Start → List ℕ
literals s = take s.args.entry.count (drop s.args.entry.first s.args.t.literals.now)

abbrev word : Start → List ℕ
word s = word_field (read_kind s.args.entry.kind)

abbrev bound : Start → List ℕ
bound s = integer_text s.args.entry.bound

abbrev terms : Start → List ℕ
terms s = joined (term_fields s.args.first) (terms_on (weights s) (literals s))

abbrev whole : Start → List ℕ
whole s = word s ++ (bound s ++ (terms s ++ (lf ∷ [])))

words : (s : Start) (l : Line) → line_on s.args.first s.args.t.weights.now s.args.t.literals.now s.args.entry ≡ accept l
    → house_line s.args.first l ≡ whole s
words s l q =
    ap (house_line s.args.first) (read s l q).is
    ∙ line-words s.args.first (read_kind s.args.entry.kind) s.args.entry.bound (terms_on (weights s) (literals s))

room : (s : Start) → s.args.at + length (whole s) ≤ length s.args.out.now
room s = rw (words s (ready s).line (ready s).is) at (ready s).room

-- the part that is lent of a column is the terms' part
part : (first count : ℕ) → first + count - first ≡ count
part first count = omega arith

fits : (s : Start) → SFits w64 s.args.entry.bound
fits s = search rules

module _ (c : After-put_word-a) where
  abbrev start : Start
  start = (goal.at.After-put_word-a c).Start

  rest₁ : c.put_word-a.result + length (bound start ++ (terms start ++ (lf ∷ []))) ≤ length c.put_word-a.new.out
  rest₁ = rest-room c.put_word-a.ensures (bound start ++ (terms start ++ (lf ∷ []))) (room start)

module _ (c : After-put_number-b) where
  abbrev word-put : After-put_word-a
  word-put = (goal.at.After-put_number-b c).After-put_word-a

  bound-put : Puts (bound (start word-put)) word-put.put_word-a.result word-put.put_word-a.new.out
      c.put_number-b.result c.put_number-b.new.out
  bound-put =
      let s = start word-put in
      lands (bound s) _ _ (rw (to_z-of_z (fits s)) at c.put_number-b.ensures)
      (front-room (bound s) (terms s ++ (lf ∷ [])) _ (rest₁ word-put))

  rest₂ : c.put_number-b.result + length (terms (start word-put) ++ (lf ∷ [])) ≤ length c.put_number-b.new.out
  rest₂ = rest-room bound-put (terms (start word-put) ++ (lf ∷ [])) (rest₁ word-put)

module _ (c : After-put_terms-end) where
  abbrev number_put : After-put_number-b
  number_put = (goal.at.After-put_terms-end c).After-put_number-b

  abbrev s : Start
  s = start (word-put number_put)

  terms-put : Puts (terms s) number_put.put_number-b.result number_put.put_number-b.new.out
      c.put_terms-end.result c.put_terms-end.new.out
  terms-put = rw (part s.args.entry.first s.args.entry.count) at c.put_terms-end.ensures

  rest₃ : c.put_terms-end.result + length (lf ∷ []) ≤ length c.put_terms-end.new.out
  rest₃ = rest-room terms-put (lf ∷ []) (rest₂ number_put)

  all-put : Puts (whole s) s.args.at s.args.out.now (c.put_terms-end.result + 1)
      (set c.put_terms-end.new.out c.put_terms-end.result lf)
  all-put =
      puts_then (word-put number_put).put_word-a.ensures (front-room (word s) (bound s ++ (terms s ++ (lf ∷ []))) _ (room s))
      (puts_then (bound-put number_put) (front-room (bound s) (terms s ++ (lf ∷ [])) _ (rest₁ (word-put number_put)))
      (puts_then terms-put (front-room (terms s) (lf ∷ []) _ (rest₂ number_put))
      (puts-byte lf _ _ _ (omega (arith, rest₃)) refl)))

  all-long : length c.put_terms-end.new.out ≡ length s.args.out.now
  all-long = rw length-set at (puts-length all-put (room s))

pub put_word-a-requires : goal.put_word-a-requires
put_word-a-requires c =
    let d = (goal.at.put_word-a-requires c).Start in
    front-room (word d) (bound d ++ (terms d ++ (lf ∷ []))) _ (room d)

pub put_terms-end-requires : goal.put_terms-end-requires
put_terms-end-requires c =
    let d = (goal.at.put_terms-end-requires c).After-put_number-b in
    let s = start (word-put d) in
    let r = read s (ready s).line (ready s).is in
    rw (part s.args.entry.first s.args.entry.count)
    (record { long = r.long; numbers = r.numbers; room = front-room (terms s) (lf ∷ []) _ (rest₂ d) })

pub bounds-out-end : goal.bounds-out-end
bounds-out-end c = omega (arith, rest₃ (goal.at.bounds-out-end c).After-put_terms-end)

pub overflow_add-result : goal.overflow_add-result
overflow_add-result c =
    let d = (goal.at.overflow_add-result c).After-put_terms-end in
    omega (arith, rest₃ d, all-long d, (s d).well_formed)

pub shape_of-out : goal.shape_of-out
shape_of-out c = simp length-set (all-long (goal.at.shape_of-out c).After-put_terms-end)

pub returns : goal.returns
returns c =
    let d = (goal.at.returns c).After-put_terms-end in
    λ l q. puts-as (all-put d) (sym (words (s d) l q))
