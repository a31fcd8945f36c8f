-- What reading a block promises: one answer, and one later content of both rows. The definitions are those of
-- definitions/specs/Values.antt.
use Rattle.std.specs.Prelude.{ℕ, ◌≡◌, cond, leb, List, Result, Ok, Err}
use Rattle.definitions.specs.Refusal.{refusal}
use Rattle.definitions.specs.declared.Refusal.{Refusal}
use Rattle.definitions.specs.Values.{words_for, valuing, new_length, values_after, known_after}
use Rattle.definitions.specs.Answers.{said_length}

-- a length whose words the rows have, or 12 with the words needed
abbrev pub in_words : ℕ → ℕ → Result ℕ Refusal
in_words n room = cond (leb (words_for n) room) (Ok n) (Err (refusal 12 (words_for n)))

-- the block s on top of the length n, the values ws and the known words ks, which are ws' and ks' after the call
pub record ReadsValues (s : List ℕ) (n : ℕ) (ws ks : List ℕ) (r : Result ℕ Refusal) (ws' ks' : List ℕ) : Type 0 where
  pub answer : said_length r ≡ new_length n (valuing s n ws ks)
  pub values : ws' ≡ values_after (valuing s n ws ks) ws
  pub known : ks' ≡ known_after (valuing s n ws ks) ks
