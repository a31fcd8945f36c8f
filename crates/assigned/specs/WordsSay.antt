-- What the words ws say of variables, where everything that they hold is known (None) or what the known words ks say.
use Rattle.std.specs.Prelude.{ℕ, ◌^◌, ◌-◌, Bool, List, get_or, take, Option, Some, None}
use Rattle.definitions.specs.Limits.{word_limit}
use Rattle.definitions.specs.Literal.{index_of}
use Rattle.definitions.specs.Meaning.{ones_of, is_known}
use Rattle.definitions.specs.Evaluate.{within, known_ones}
use Rattle.term_checks.specs.TermTests.{every}

-- "Words after the first 16,777,216 are not looked at."
unfoldable pub looked : List ℕ → List ℕ
looked ws = take word_limit ws

-- the bits of word i that are known
abbrev pub known_word : Option (List ℕ) → ℕ → ℕ
known_word None i = 2 ^ 64 - 1
known_word (Some ks) i = get_or ks i 0

-- the variables that have a value
abbrev pub has_by : Option (List ℕ) → List ℕ → ℕ → Bool
has_by None ws v = within ws v
has_by (Some ks) ws v = is_known ws ks v

abbrev pub ones_by : Option (List ℕ) → List ℕ → ℕ
ones_by None ws = ones_of ws
ones_by (Some ks) ws = known_ones ws ks

-- not 12: every variable has a value
abbrev pub codes_covered : (ℕ → Bool) → List ℕ → Bool
codes_covered has cs = every (λ c. has (index_of c)) cs
