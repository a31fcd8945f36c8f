-- Two answers that the contract of `listing_length` allows are equal: there is a table with room for any rows and
-- terms.
use Prim.Native.Nat.{ℕ, zero, suc}
use mathlib.Core.Path.{◌≡◌, refl, sym, ap, ◌∙◌}
use mathlib.Core.List.{List, [], ◌∷◌}
use native.Mathlib.Omega.{arith}
use lib.ListN.{length}
use lib.IntN.{pos}
use Rattle.definitions.specs.Table.{Table, table, row_room, term_room}
use Rattle.listing_lengths.proofs.listing_length.Reads as listing-length

copies : {A : Type 0} → A → ℕ → List A
copies a zero = []
copies a (suc n) = a ∷ copies a n

copies_length : {A : Type 0} (a : A) (n : ℕ) → length (copies a n) ≡ n
unfolding copies
copies_length a zero = refl
copies_length a (suc n) = ap suc (copies_length a n)

abbrev roomy : ℕ → ℕ → Table
roomy rows terms = table (copies 0 rows) (copies 0 rows) (copies 0 rows) (copies (pos 0) rows) (copies (pos 0) terms) (copies 0 terms)

row-room : (rows terms : ℕ) → row_room (roomy rows terms) ≡ rows
row-room rows terms = omega (arith, copies_length {A = ℕ} 0 rows, copies_length (pos 0) rows)

term-room : (rows terms : ℕ) → term_room (roomy rows terms) ≡ terms
term-room rows terms = omega (arith, copies_length {A = ℕ} 0 terms, copies_length (pos 0) terms)

any-room : {rows terms : ℕ} {f : Table → ℕ} {r r' : ℕ} → ((t : Table) → row_room t ≡ rows → term_room t ≡ terms → r ≡ f t)
    → ((t : Table) → row_room t ≡ rows → term_room t ≡ terms → r' ≡ f t) → r ≡ r'
any-room {rows} {terms} p q =
    let t = roomy rows terms in
    p t (row-room rows terms) (term-room rows terms) ∙ sym (q t (row-room rows terms) (term-room rows terms))

pub listing-length-one : (κs : _) (a : _) (r r' : _) (s s' : _) → listing-length.Post κs a r s → listing-length.Post κs a r' s' → r ≡ r'
listing-length-one κs a r r' s s' p q = any-room p q
