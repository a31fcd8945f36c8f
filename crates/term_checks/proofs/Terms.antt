-- Terms in columns, in words of the columns themselves: what terms a row's entry names, and what is asked of them.
use mathlib.Core.Path.{◌≡◌, refl, sym, ap, ◌∙◌}
use mathlib.Core.Bool.{Bool, true, ◌&&◌}
use mathlib.Core.List.{List, [], ◌∷◌, ◌++◌}
use Prim.Native.Nat.{ℕ, zero, suc, ◌+◌, ◌≤◌, ◌<◌, min}
use native.Mathlib.Numerals.{add-one}
use native.Mathlib.Omega.{arith}
use borrow.Author.Tests.{leb-true}
use lib.ListN.{length, get_or, take, drop, length-take, length-drop, drop_of_length-le}
use lib.Seq.{drop-cons}
use lib.IntN.{ℤ, pos}
use Rattle.definitions.specs.Row.{Term, term, sizes}
use Rattle.definitions.specs.Literal.{index_of, is_index}
use Rattle.definitions.specs.Table.{Table, term_room, terms_on, terms_at, in_column, indexed}
use Rattle.definitions.specs.declared.Entry.{Entry}
use Rattle.term_checks.specs.TermTests.{every, codes_indexed, weight_sizes}

-- ---- terms of two lists

pub terms-count : (ws : List ℤ) (cs : List ℕ) → length (terms_on ws cs) ≡ min (length ws) (length cs)
unfolding terms_on
terms-count [] cs = omega arith
terms-count (w ∷ ws) [] = omega arith
terms-count (w ∷ ws) (c ∷ cs) = omega (arith, terms-count ws cs)

no-codes : (ws : List ℤ) → terms_on ws [] ≡ []
unfolding terms_on
no-codes [] = refl
no-codes (w ∷ ws) = refl

pub terms-drop : (n : ℕ) (ws : List ℤ) (cs : List ℕ) → drop n (terms_on ws cs) ≡ terms_on (drop n ws) (drop n cs)
unfolding terms_on
terms-drop zero ws cs = refl
terms-drop (suc n) [] cs = refl
terms-drop (suc n) (w ∷ ws) [] = rw (no-codes (drop n ws))
terms-drop (suc n) (w ∷ ws) (c ∷ cs) = terms-drop n ws cs

pub terms-take : (n : ℕ) (ws : List ℤ) (cs : List ℕ) → take n (terms_on ws cs) ≡ terms_on (take n ws) (take n cs)
unfolding terms_on
terms-take zero ws cs = refl
terms-take (suc n) [] cs = refl
terms-take (suc n) (w ∷ ws) [] = refl
terms-take (suc n) (w ∷ ws) (c ∷ cs) = ap (λ (ts : List Term). term w c ∷ ts) (terms-take n ws cs)

-- the term at i, and those behind it
pub terms-from : (ws : List ℤ) (cs : List ℕ) (i : ℕ) → i < length ws → i < length cs
    → terms_on (drop i ws) (drop i cs) ≡ term (get_or ws i (pos 0)) (get_or cs i 0) ∷ terms_on (drop (i + 1) ws) (drop (i + 1) cs)
unfolding terms_on
terms-from ws cs i h g = rw (drop-cons ws i (pos 0) h, drop-cons cs i 0 g, add-one)

pub terms-end : (ws : List ℤ) (cs : List ℕ) (i : ℕ) → min (length ws) (length cs) ≤ i → terms_on (drop i ws) (drop i cs) ≡ []
terms-end ws cs i h =
    let g : length (terms_on ws cs) ≤ i = omega (arith, terms-count ws cs) in rw (← terms-drop i ws cs) (drop_of_length-le (terms_on ws cs) g)

terms-suc : (ws : List ℤ) (cs : List ℕ) (i : ℕ) → i < length ws → i < length cs
    → terms_on (take (suc i) ws) (take (suc i) cs) ≡ terms_on (take i ws) (take i cs) ++ (term (get_or ws i (pos 0)) (get_or cs i 0) ∷ [])
unfolding terms_on
terms-suc [] cs i h g = absurd (omega arith)
terms-suc (w ∷ ws) [] i h g = absurd (omega arith)
terms-suc (w ∷ ws) (c ∷ cs) zero h g = refl
terms-suc (w ∷ ws) (c ∷ cs) (suc i) h g = ap (λ (ts : List Term). term w c ∷ ts) (terms-suc ws cs i (omega arith) (omega arith))

-- the terms before i, and the term at i
pub terms-to : (ws : List ℤ) (cs : List ℕ) (i : ℕ) → i < length ws → i < length cs
    → terms_on (take (i + 1) ws) (take (i + 1) cs) ≡ terms_on (take i ws) (take i cs) ++ (term (get_or ws i (pos 0)) (get_or cs i 0) ∷ [])
terms-to ws cs i h g = rw add-one (terms-suc ws cs i h g)

-- ---- the terms that an entry names

abbrev pub weights_at : Table → Entry → List ℤ
weights_at t e = take e.count (drop e.first t.weights)

abbrev pub literals_at : Table → Entry → List ℕ
literals_at t e = take e.count (drop e.first t.literals)

module _ (t : Table) (e : Entry) where
  pub terms-at : terms_at t e ≡ terms_on (weights_at t e) (literals_at t e)
  terms-at =
      rw (terms-drop e.first t.weights t.literals)
      (terms-take e.count (drop e.first t.weights) (drop e.first t.literals))

  -- in its column, as many as it counts
  module _ (h : in_column t e ≡ true) where
    within : e.first + e.count ≤ term_room t
    within = leb-true (e.first + e.count) (term_room t) h

    pub weights-at-count : length (weights_at t e) ≡ e.count
    weights-at-count = simp (length-take, length-drop) (omega (arith, within))

    pub literals-at-count : length (literals_at t e) ≡ e.count
    literals-at-count = simp (length-take, length-drop) (omega (arith, within))

    pub terms-at-count : length (terms_at t e) ≡ e.count
    terms-at-count = rw terms-at (omega (arith, terms-count (weights_at t e) (literals_at t e), weights-at-count, literals-at-count))

-- ---- what is asked of terms, of two lists of one length

pub indexed-on : (ws : List ℤ) (cs : List ℕ) → length ws ≡ length cs → indexed (terms_on ws cs) ≡ codes_indexed cs
unfolding terms_on indexed every
indexed-on [] [] h = refl
indexed-on [] (c ∷ cs) h = absurd (omega arith)
indexed-on (w ∷ ws) [] h = absurd (omega arith)
indexed-on (w ∷ ws) (c ∷ cs) h = ap (λ (b : Bool). is_index (index_of c) && b) (indexed-on ws cs (omega arith))

pub sizes-on : (ws : List ℤ) (cs : List ℕ) → length ws ≡ length cs → sizes (terms_on ws cs) ≡ weight_sizes ws
unfolding terms_on sizes weight_sizes
sizes-on [] cs h = refl
sizes-on (w ∷ ws) [] h = absurd (omega arith)
sizes-on (w ∷ ws) (c ∷ cs) h = omega (arith, sizes-on ws cs (omega arith))

-- ---- of an entry in its column

module _ (t : Table) (e : Entry) (h : in_column t e ≡ true) where
  one-length : length (weights_at t e) ≡ length (literals_at t e)
  one-length = weights-at-count t e h ∙ sym (literals-at-count t e h)

  pub indexed-at : indexed (terms_at t e) ≡ codes_indexed (literals_at t e)
  indexed-at = ap indexed (terms-at t e) ∙ indexed-on (weights_at t e) (literals_at t e) one-length

  pub sizes-at : sizes (terms_at t e) ≡ weight_sizes (weights_at t e)
  sizes-at = ap sizes (terms-at t e) ∙ sizes-on (weights_at t e) (literals_at t e) one-length
