-- Which lines are written (01, "The lines written")? Those of each row of a table, in both literal modes, with the
-- refusals in their order and the length needed.
use Rattle.std.specs.Prelude.{ℕ, zero, suc, ◌+◌, Bool, true, false, cond, not, ◌&&◌, List, [], ◌∷◌, ◌++◌, map, leb, eqb, length, take, drop, ℤ, pos, negsuc, neg_ℤ, ◌-ℤ◌}
use Rattle.std.specs.Int.Signed.{non_neg}
use Rattle.definitions.specs.Lists.{over, joined}
use Rattle.definitions.specs.Limits.{weight_limit, in_i64}
use Rattle.definitions.specs.Refusal.{refusal, needed, Checked, refuse, accept}
use Rattle.definitions.specs.Bytes.{bytes, min_text, lf, space, star, letter_x, tilde}
use Rattle.definitions.specs.Number.{integer_text, decimal}
use Rattle.definitions.specs.Literal.{index_of, negated, opposite, plain, file_number}
use Rattle.definitions.specs.Row.{Term, term, weight_of, Kind, at_least, at_most, equal, objective, Row, row_of, sizes}
use Rattle.definitions.specs.Table.{Table, Outcome, refused, accepted, Entry, entries, terms_at, in_column, indexed, Sort}
use Rattle.definitions.specs.Table.{remark, clause, unknown, weighted, cardinality, sort_of, and_then, row_by_row}
use Rattle.definitions.specs.declared.Mode.{Mode}
use Rattle.definitions.specs.Normal.{total_by, shifted}

-- ---- the row that is printed

-- "An 'at most' row is written with each literal negated, `>=`, and bound = weight sum less bound."
unfoldable pub flip_term : Term → Term
flip_term t = term t.weight (opposite t.code)

abbrev pub flipped_by : Kind → ℤ → List Term → Row
flipped_by at_least b ts = row_of at_least b ts
flipped_by at_most b ts = row_of at_least (total_by weight_of ts -ℤ b) (map flip_term ts)
flipped_by equal b ts = row_of equal b ts
flipped_by objective b ts = row_of objective b ts

unfoldable pub flipped : Row → Row
flipped r = flipped_by r.kind r.bound r.terms

-- "In no-negated mode a negated literal of weight w is written -w on the plain variable"
unfoldable pub plain_term : Term → Term
plain_term t = term (cond (negated t.code) (neg_ℤ t.weight) t.weight) (plain t.code)

-- "and the bound falls by w; an objective's offset grows by w": the sum grows by -w
unfoldable pub fall : Term → ℤ
fall t = cond (negated t.code) (neg_ℤ t.weight) (pos 0)

unfoldable pub unnegated : Row → Row
unnegated r = shifted plain_term fall r

unfoldable pub printed : Bool → Row → Row
printed no_negated r = cond no_negated (unnegated (flipped r)) (flipped r)

-- ---- its text, "Spaces as in the Rust"

-- the file number of the index v
unfoldable pub number_text : ℕ → ℕ → List ℕ
number_text first v = decimal (v + first)

unfoldable pub literal_text : ℕ → ℕ → List ℕ
literal_text first c =
    cond (negated c) (tilde ∷ letter_x ∷ number_text first (index_of c)) (letter_x ∷ number_text first (index_of c))

unfoldable pub term_text : ℕ → Term → List ℕ
term_text first t = integer_text t.weight ++ (space ∷ literal_text first t.code)

-- a space behind each term of a constraint, and before each of an objective
unfoldable pub spaced : ℕ → Term → List ℕ
spaced first t = term_text first t ++ (space ∷ [])

unfoldable pub apart : ℕ → Term → List ℕ
apart first t = space ∷ term_text first t

-- `;` and a line ending
abbrev pub closed : List ℕ
closed = bytes ";\n"

unfoldable pub remark_text : List ℕ → List ℕ
remark_text t = star ∷ space ∷ (t ++ (lf ∷ []))

abbrev pub offset_words : List ℕ
offset_words = bytes "objective offset for previous objective: "

abbrev pub is_zero : ℤ → Bool
is_zero (pos zero) = true
is_zero (pos (suc n)) = false
is_zero (negsuc n) = false

-- "If the final offset is not 0, a line `* objective offset for previous objective: N` follows, in either mode."
unfoldable pub offset_text : ℤ → List ℕ
offset_text z = cond (is_zero z) [] (remark_text (offset_words ++ integer_text z))

-- an operator, a space, the bound
unfoldable pub comparison_text : List ℕ → ℤ → List ℕ
comparison_text op b = op ++ (space ∷ (integer_text b ++ closed))

-- "An objective without terms is written `min:;`."
abbrev pub text_by : Kind → ℕ → ℤ → List Term → List ℕ
text_by at_least first b ts = joined (spaced first) ts ++ comparison_text (bytes ">=") b
text_by at_most first b ts = joined (spaced first) ts ++ comparison_text (bytes "<=") b
text_by equal first b ts = joined (spaced first) ts ++ comparison_text (bytes "=") b
text_by objective first b ts = min_text ++ (joined (apart first) ts ++ (closed ++ offset_text b))

unfoldable pub row_text : ℕ → Row → List ℕ
row_text first r = text_by r.kind first r.bound r.terms

-- ---- what an entry asks to be written: a comment's text, or a row

pub data Item : Type 0 where
  say : List ℕ → Item
  line : Row → Item

unfoldable pub item_text : Mode → Item → List ℕ
item_text m (say t) = remark_text t
item_text m (line r) = row_text m.first (printed m.plain r)

-- not "a negative weight"
unfoldable pub weighs : List Term → Bool
weighs [] = true
weighs (t ∷ ts) = non_neg t.weight && weighs ts

-- "Clause and cardinality rows have every weight 1, the weight column is not looked at"
unfoldable pub unit_term : Term → Term
unit_term t = term (pos 1) t.code

-- not 15: "comment text with an LF"
unfoldable pub one_line : List ℕ → Bool
one_line [] = true
one_line (b ∷ s) = not (eqb b lf) && one_line s

-- 11: "kind unknown ..., terms outside their column, an index above its limit, or, for writing, a comment outside its
-- lent text, a negative weight or a negative cardinality bound"
abbrev pub item_by : Sort → Table → List ℕ → Entry → Checked Item
item_by remark t text e =
    cond (leb (e.first + e.count) (length text))
    (cond (one_line (take e.count (drop e.first text))) (accept (say (take e.count (drop e.first text)))) (refuse 15))
    (refuse 11)
item_by clause t text e =
    cond (in_column t e && indexed (terms_at t e)) (accept (line (row_of at_least (pos 1) (map unit_term (terms_at t e))))) (refuse 11)
item_by unknown t text e = refuse 11
item_by (weighted k) t text e =
    cond (in_column t e && (indexed (terms_at t e) && weighs (terms_at t e))) (accept (line (row_of k e.bound (terms_at t e)))) (refuse 11)
item_by (cardinality k) t text e =
    cond (in_column t e && (indexed (terms_at t e) && non_neg e.bound))
    (accept (line (row_of k e.bound (map unit_term (terms_at t e))))) (refuse 11)

unfoldable pub item_in : Table → List ℕ → Entry → Checked Item
item_in t text e = item_by (sort_of e.kind) t text e

-- ---- the order of refusals: "Order per row: 11, 15, 13, 5 (file number), 8 (weight sum, then the bound before and
-- after the fall, or the offset)"

-- not 13: "constraint without terms, writing"
abbrev pub has_terms : Kind → List Term → Bool
has_terms at_least ts = leb 1 (length ts)
has_terms at_most ts = leb 1 (length ts)
has_terms equal ts = leb 1 (length ts)
has_terms objective ts = true

abbrev pub is_accepted : Checked ℕ → Bool
is_accepted (refuse n) = false
is_accepted (accept a) = true

-- not 5
unfoldable pub numbered : ℕ → List Term → Bool
numbered first [] = true
numbered first (t ∷ ts) = is_accepted (file_number first (index_of t.code)) && numbered first ts

-- not 8
unfoldable pub bounded : Mode → Row → Bool
bounded m r = leb (sizes r.terms) weight_limit && (in_i64 (flipped r).bound && in_i64 (printed m.plain r).bound)

unfoldable pub row_allowed : Mode → Row → Checked Item
row_allowed m r =
    cond (has_terms r.kind r.terms)
    (cond (numbered m.first r.terms) (cond (bounded m r) (accept (line r)) (refuse 8)) (refuse 5))
    (refuse 13)

abbrev pub allowed : Mode → Item → Checked Item
allowed m (say t) = accept (say t)
allowed m (line r) = row_allowed m r

unfoldable pub written_in : Mode → Table → List ℕ → Entry → Checked Item
written_in m t text e = and_then (item_in t text e) (allowed m)

-- ---- the whole: "14 after all rows", with the "length needed"

abbrev pub fitted_text : ℕ → List ℕ → Outcome (List ℕ)
fitted_text room s = cond (leb (length s) room) (accepted s) (refused (refusal 14 (needed (length s))))

abbrev pub text_of : Mode → ℕ → Outcome (List Item) → Outcome (List ℕ)
text_of m room (refused r) = refused r
text_of m room (accepted is) = fitted_text room (joined (item_text m) is)

-- the rows of the table t, with the lent comment text, into an output of so many bytes
unfoldable pub writing : Mode → Table → List ℕ → ℕ → Outcome (List ℕ)
writing m t text room = text_of m room (row_by_row (written_in m t text) 0 (entries t))

-- a text's length in place of the text
abbrev pub length_of : Outcome (List ℕ) → Outcome ℕ
length_of (refused r) = refused r
length_of (accepted s) = accepted (length s)

-- what the output holds after a call
unfoldable pub output_after : Outcome (List ℕ) → List ℕ → List ℕ
output_after (refused r) o = o
output_after (accepted s) o = over s o
