-- What is found of one string of zeros and ones, and what the answers of src/string.rt say of it.
use Rattle.std.specs.Prelude.{ℕ, ◌+◌, ◌-◌, ◌≤◌, ◌<◌, cond, List, [], leb, length, take, drop, Option, Some, None, Result, Ok, Err}
use Rattle.definitions.specs.Limits.{index_limit}
use Rattle.definitions.specs.Refusal.{refusal}
use Rattle.definitions.specs.declared.Refusal.{Refusal}
use Rattle.definitions.specs.Table.{Outcome, refused, accepted}
use Rattle.definitions.specs.Values.{appended, any_conflict}
use Rattle.items.specs.Items.{Found, nothing, line, word, sought_of, text_at, end_at, on_from}
use Rattle.items.specs.declared.Token.{Token}

-- a string, and what stands behind it
abbrev pub behind_of : Token → Found → Result (Option Token) Refusal
behind_of t nothing = Ok (Some t)
behind_of t (line p) = Err (refusal 20 p)
behind_of t (word p) = Err (refusal 21 p)

-- the string at a place
abbrev pub string_at : List ℕ → ℕ → Token
string_at block place = record { place = place; end = end_at block place }

-- 5, then 22, on top of the length n, the values ws and the known words ks; then what stands behind it
unfoldable pub checked_at : ℕ → List ℕ → List ℕ → List ℕ → ℕ → Result (Option Token) Refusal
checked_at n ws ks block place =
    cond (leb (n + length (text_at block place)) (index_limit + 1))
    (cond (any_conflict ws ks [] (appended n (text_at block place))) (Err (refusal 22 place))
    (behind_of (string_at block place) (sought_of (on_from block (end_at block place)))))
    (Err (refusal 5 place))

-- the literals that a string in the block says, on top of the length n
abbrev pub said_checked : ℕ → List ℕ → Result (Option Token) Refusal → Outcome (List ℕ)
said_checked n block (Err r) = refused r
said_checked n block (Ok None) = accepted []
said_checked n block (Ok (Some t)) = accepted (appended n (take (t.end - t.place) (drop t.place block)))

-- a string lies in the block, and its last index is within the limit
abbrev pub Fitting : Result (Option Token) Refusal → ℕ → ℕ → Type 0
Fitting (Err r) n length = Unit {0}
Fitting (Ok None) n length = Unit {0}
Fitting (Ok (Some t)) n length = (t.place < t.end) × (t.end ≤ length) × (n + (t.end - t.place) ≤ index_limit + 1)
