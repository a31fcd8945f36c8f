-- Where the first LF stands, for the parts of `until_ending_of`.
use Rattle.std.specs.Prelude.{ℕ, ◌≡◌, ◌<◌, ◌≤◌, List, length, get_or}
use Rattle.definitions.specs.Bytes.{lf}

-- none of the first i bytes is an LF
abbrev pub NoLf : List ℕ → ℕ → Type 0
NoLf s i = (k : ℕ) → k < i → get_or s k 0 ≡ lf → ⊥

-- i is the place of the first LF, or the length where none stands there
pub record IsFirstLf (s : List ℕ) (i : ℕ) : Type 0 where
  pub within : i ≤ length s
  pub none : NoLf s i
  pub is : i < length s → get_or s i 0 ≡ lf
