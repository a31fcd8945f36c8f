-- What do a solver's value lines say (02, A1)? "Bring over `extend_from_vline` of src/types.rs with its three line
-- forms: signed numbers, one string of zeros and ones, and `x` tokens with first index 1." A block of lines says
-- literals that become true; two rows of words hold the values and which of them are known.
use Rattle.std.specs.Prelude.{ℕ, ◌+◌, ◌-◌, ◌*◌, ◌/◌, ◌%◌, ◌^◌, min, max, Bool, true, false, cond, not, ◌&&◌, ◌||◌, List, [], ◌∷◌, ◌++◌, leb, eqb, length, get_or, drop, set}
use Rattle.definitions.specs.Limits.{index_limit}
use Rattle.definitions.specs.Refusal.{refusal, Checked, refuse, accept}
use Rattle.definitions.specs.Bytes.{lf, plus, minus, tilde, letter_x}
use Rattle.definitions.specs.Number.{leading, value}
use Rattle.definitions.specs.Literal.{code_of, index_of, negated, opposite, index}
use Rattle.definitions.specs.Table.{Outcome, refused, accepted, and_then}
use Rattle.definitions.specs.Meaning.{is_true, assigned, is_known}
use Rattle.definitions.specs.declared.Form.{Form}
use Rattle.definitions.specs.declared.Form.TheVariants.{SignedNumbers, ZerosAndOnes, XTokens}

abbrev pub letter_v : ℕ
letter_v = 118

abbrev pub zero_digit : ℕ
zero_digit = 48

abbrev pub one_digit : ℕ
one_digit = 49

-- "the six ASCII white space bytes only (9 to 13 and 32)"
abbrev pub is_white : ℕ → Bool
is_white b = (leb 9 b && leb b 13) || eqb b 32

abbrev pub is_solid : ℕ → Bool
is_solid b = not (is_white b)

abbrev pub is_bit : ℕ → Bool
is_bit b = eqb b zero_digit || eqb b one_digit

-- the bytes at the front that a test holds for, as many as there are
unfoldable pub front_of : (ℕ → Bool) → List ℕ → List ℕ
front_of t [] = []
front_of t (b ∷ s) = elim (t b) [ true ↦ b ∷ front_of t s | false ↦ [] ]

-- what stands behind them
abbrev pub behind : (ℕ → Bool) → List ℕ → List ℕ
behind t s = drop (length (front_of t s)) s

-- whether n is among the numbers
unfoldable pub among : ℕ → List ℕ → Bool
among n [] = false
among n (m ∷ s) = eqb m n || among n s

-- ---- "The source's test on the whole block picks the form."

-- white space, zeros and ones, white space, and nothing else
abbrev pub only_bits : List ℕ → Bool
only_bits s = eqb (length (behind is_white (behind is_bit (behind is_white s)))) 0

-- the one `0` that ends signed numbers
abbrev pub just_zero : List ℕ → Bool
just_zero (b ∷ []) = eqb b zero_digit
just_zero [] = false
just_zero (b ∷ c ∷ s) = false

-- an `x` anywhere; else all behind the first byte, trimmed: zeros and ones alone, but not just `0`; else signed numbers
unfoldable pub form_of : List ℕ → Form
form_of s =
    cond (among letter_x s) XTokens
    (cond (only_bits (drop 1 s) && not (just_zero (front_of is_bit (behind is_white (drop 1 s))))) ZerosAndOnes SignedNumbers)

-- ---- lines and tokens

-- what is met from the front on: a line that does not begin with `v`, or a token, each with the offset of its first
-- byte
pub data Item : Type 0 where
  untagged : ℕ → Item
  token : ℕ → List ℕ → Item

-- at a line's first byte; behind the `v` or white space; behind a token's byte
pub data Spot : Type 0 where
  front between inside : Spot

-- Lines are parted by LF, tokens by white space; behind a last LF no line follows. p is the offset. Nothing is met
-- behind a line without `v`.
unfoldable pub items_from : Spot → ℕ → List ℕ → List Item
items_from w p [] = []
items_from front p (b ∷ s) = elim (eqb b letter_v) [ true ↦ items_from between (p + 1) s | false ↦ untagged p ∷ [] ]
items_from between p (b ∷ s) =
    elim (eqb b lf) [
      | true ↦ items_from front (p + 1) s
      | false ↦
          elim (is_white b) [ true ↦ items_from between (p + 1) s | false ↦ token p (front_of is_solid (b ∷ s)) ∷ items_from inside (p + 1) s ]
    ]
items_from inside p (b ∷ s) =
    elim (eqb b lf) [
      | true ↦ items_from front (p + 1) s
      | false ↦
          elim (is_white b) [ true ↦ items_from between (p + 1) s | false ↦ items_from inside (p + 1) s ]
    ]

-- "20 empty block or line without `v`"
abbrev pub items_of : List ℕ → List Item
items_of [] = untagged 0 ∷ []
items_of (b ∷ s) = items_from front 0 (b ∷ s)

-- ---- what a token says: the literals that become true

-- digits, one or more, and nothing else: "21 bad token"
unfoldable pub whole_number : List ℕ → Checked ℕ
whole_number s = cond (eqb (length (leading s)) (length s) && not (eqb (length s) 0)) (accept (value (leading s))) (refuse 21)

-- the variable with that number, "first index 1", or 5
abbrev pub literal_for : Bool → ℕ → Checked (List ℕ)
literal_for negative n = and_then (index 1 n) (λ v. accept (code_of negative v ∷ []))

-- the 0 that ends signed numbers sets nothing
abbrev pub signed_for : Bool → ℕ → Checked (List ℕ)
signed_for negative n = cond (eqb n 0) (accept []) (literal_for negative n)

-- "signed numbers": optional `+` or `-`, digits
unfoldable pub signed_token : List ℕ → Checked (List ℕ)
signed_token [] = refuse 21
signed_token (b ∷ s) =
    cond (eqb b minus) (and_then (whole_number s) (signed_for true))
    (cond (eqb b plus) (and_then (whole_number s) (signed_for false))
    (and_then (whole_number (b ∷ s)) (signed_for false)))

-- `x` and digits; "A token such as `x1abc`, which the Rust takes, is refused."
unfoldable pub named_variable : Bool → List ℕ → Checked (List ℕ)
named_variable negative [] = refuse 21
named_variable negative (b ∷ s) = cond (eqb b letter_x) (and_then (whole_number s) (literal_for negative)) (refuse 21)

-- "`x` tokens": optional `~` or `-`, `x`, digits
unfoldable pub x_token : List ℕ → Checked (List ℕ)
x_token [] = refuse 21
x_token (b ∷ s) = cond (eqb b tilde || eqb b minus) (named_variable true s) (named_variable false (b ∷ s))

-- "zeros and ones append there", at the length n: `0` makes the negated literal true
unfoldable pub appended : ℕ → List ℕ → List ℕ
appended n [] = []
appended n (b ∷ s) = code_of (eqb b zero_digit) n ∷ appended (n + 1) s

-- 5 if its last index is above the limit
unfoldable pub bits_token : ℕ → List ℕ → Checked (List ℕ)
bits_token n s = cond (leb (n + length s) (index_limit + 1)) (accept (appended n s)) (refuse 5)

abbrev pub literals_of : Form → ℕ → List ℕ → Checked (List ℕ)
literals_of SignedNumbers n s = signed_token s
literals_of ZerosAndOnes n s = bits_token n s
literals_of XTokens n s = x_token s

-- ---- token by token

-- "22 conflicting value": the variable of the literal c is known with another value, or the opposite literal was heard
-- before
unfoldable pub conflicts : List ℕ → List ℕ → List ℕ → ℕ → Bool
conflicts ws ks heard c = (is_known ws ks (index_of c) && not (is_true (assigned ws) c)) || among (opposite c) heard

-- a token's literals one after the other
unfoldable pub any_conflict : List ℕ → List ℕ → List ℕ → List ℕ → Bool
any_conflict ws ks heard [] = false
any_conflict ws ks heard (c ∷ cs) = conflicts ws ks heard c || any_conflict ws ks (heard ++ (c ∷ [])) cs

-- "per line 20, then by token 21, 5, 22, each placed at its first byte"; or all the literals that were heard
unfoldable pub hear : Form → ℕ → List ℕ → List ℕ → List ℕ → List Item → Outcome (List ℕ)
hear f n ws ks heard [] = accepted heard
hear f n ws ks heard (untagged p ∷ is) = refused (refusal 20 p)
hear f n ws ks heard (token p s ∷ is) =
    elim (literals_of f n s) [
      | refuse e ↦ refused (refusal e p)
      | accept cs ↦
          elim (any_conflict ws ks heard cs) [ true ↦ refused (refusal 22 p) | false ↦ hear f n ws ks (heard ++ cs) is ]
    ]

-- ---- what is left

-- "the length, one past the highest variable met, is kept"
unfoldable pub length_after : ℕ → List ℕ → ℕ
length_after n [] = n
length_after n (c ∷ cs) = length_after (max n (index_of c + 1)) cs

-- the words that a length needs
abbrev pub words_for : ℕ → ℕ
words_for n = (n + 63) / 64

-- "then 12 with the words needed", where the shorter row has fewer
unfoldable pub held : ℕ → ℕ → Outcome (List ℕ) → Outcome (List ℕ)
held n room (refused r) = refused r
held n room (accepted cs) = cond (leb (words_for (length_after n cs)) room) (accepted cs) (refused (refusal 12 (words_for (length_after n cs))))

-- the block s on top of the length n, the values ws and the known words ks: the literals that become true
unfoldable pub valuing : List ℕ → ℕ → List ℕ → List ℕ → Outcome (List ℕ)
valuing s n ws ks = held n (min (length ws) (length ks)) (hear (form_of s) n ws ks [] (items_of s))

-- what the call answers: the new length
abbrev pub new_length : ℕ → Outcome (List ℕ) → Outcome ℕ
new_length n (refused r) = refused r
new_length n (accepted cs) = accepted (length_after n cs)

-- ---- what the words hold afterwards

-- the word w with bit k made b, every other bit as it was
abbrev pub word_with : Bool → ℕ → ℕ → ℕ
word_with b k w = w - w / 2 ^ k % 2 * 2 ^ k + cond b (2 ^ k) 0

-- "variable v is bit v mod 64 of word v/64" (01): that bit made b
unfoldable pub bit_made : Bool → ℕ → List ℕ → List ℕ
bit_made b v ws = set ws (v / 64) (word_with b (v % 64) (get_or ws (v / 64) 0))

-- each literal's variable with its value
unfoldable pub valued : List ℕ → List ℕ → List ℕ
valued [] ws = ws
valued (c ∷ cs) ws = valued cs (bit_made (not (negated c)) (index_of c) ws)

-- each literal's variable known
unfoldable pub marked : List ℕ → List ℕ → List ℕ
marked [] ks = ks
marked (c ∷ cs) ks = marked cs (bit_made true (index_of c) ks)

-- "what was lent to that call is then unchanged"
unfoldable pub values_after : Outcome (List ℕ) → List ℕ → List ℕ
values_after (refused r) ws = ws
values_after (accepted cs) ws = valued cs ws

unfoldable pub known_after : Outcome (List ℕ) → List ℕ → List ℕ
known_after (refused r) ks = ks
known_after (accepted cs) ks = marked cs ks
