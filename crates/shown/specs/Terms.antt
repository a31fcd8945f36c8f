-- The terms of a row as the code prints them, one by one, in words of the definitions.
use Rattle.std.specs.Prelude.{ℕ, ◌≡◌, Bool, true, false, cond, ◌&&◌, List, [], ◌∷◌, ◌++◌, map, ℤ, pos}
use Rattle.std.specs.Int.Signed.{non_neg}
use Rattle.definitions.specs.Lists.{joined}
use Rattle.definitions.specs.Bytes.{space, letter_x, tilde}
use Rattle.definitions.specs.Number.{decimal, integer_text}
use Rattle.definitions.specs.Literal.{index_of, negated, opposite}
use Rattle.definitions.specs.Row.{Term}
use Rattle.definitions.specs.Table.{terms_on}
use Rattle.definitions.specs.Write.{flip_term, plain_term, unit_term, term_text}
use Rattle.shown.specs.declared.terms.Style.{Style}
use Rattle.shown.specs.declared.terms.Shown.{Shown}

-- ---- the term that is printed for a term of the columns

abbrev pub flipped_code : Bool → ℕ → ℕ
flipped_code true c = opposite c
flipped_code false c = c

abbrev pub own_weight : Bool → ℤ → ℤ
own_weight true w = pos 1
own_weight false w = w

-- the term of the row
abbrev pub own_term : Bool → Term → Term
own_term true t = unit_term t
own_term false t = t

abbrev pub flipped_term : Bool → Term → Term
flipped_term true t = flip_term t
flipped_term false t = t

abbrev pub plained_term : Bool → Term → Term
plained_term true t = plain_term t
plained_term false t = t

-- of a term of the row
unfoldable pub shown_term : Style → Term → Term
shown_term s t = plained_term s.plain (flipped_term s.flip t)

-- whether the bound falls by the term's weight
unfoldable pub fallen : Style → Term → Bool
fallen s t = s.plain && negated (flipped_code s.flip t.code)

-- the code's answer says of a term of the row what its text needs; no row with a weight below 0 is written
pub record Shows (s : Style) (t : Term) (r : Shown) : Type 0 where
  pub own : r.own ≡ t.weight
  pub weight : r.weight ≡ cond (non_neg t.weight) (shown_term s t).weight t.weight
  pub tilde : r.tilde ≡ non_neg t.weight && negated (shown_term s t).code
  pub var : r.var.0 ≡ index_of t.code
  pub falls : r.falls ≡ non_neg t.weight && fallen s t

-- ---- its text

-- behind the weight: a space and the literal, of the file number n
abbrev pub literal_words : Bool → ℕ → List ℕ
literal_words true n = space ∷ tilde ∷ letter_x ∷ decimal n
literal_words false n = space ∷ letter_x ∷ decimal n

unfoldable pub term_words : Shown → ℕ → List ℕ
term_words t n = integer_text t.weight ++ literal_words t.tilde n

-- a space before each term, or behind it
abbrev pub spaced_by : Bool → List ℕ → List ℕ
spaced_by true s = space ∷ s
spaced_by false s = s ++ (space ∷ [])

-- of a term of the row
unfoldable pub shown_text : Style → Term → List ℕ
shown_text s t = spaced_by s.apart (term_text s.first (shown_term s t))

unfoldable pub terms_text : Style → List Term → List ℕ
terms_text s ts = joined (shown_text s) ts

-- the terms of the row, from its part of the two columns
abbrev pub own_terms : Bool → List ℤ → List ℕ → List Term
own_terms unit ws cs = map (own_term unit) (terms_on ws cs)
