-- What the first walk counts of a row's terms, term by term: the sums of weights up to a cap, whether each has a file
-- number, and the length of their text.
use Rattle.std.specs.Prelude.{ℕ, ◌+◌, Bool, true, false, cond, ◌&&◌, List, [], ◌∷◌, length, Option, Some, None}
use Rattle.std.specs.Int.Signed.{non_neg}
use Rattle.definitions.specs.Refusal.{Checked, refuse, accept, needed}
use Rattle.definitions.specs.Literal.{index_of, is_index, file_number}
use Rattle.definitions.specs.Row.{Term}
use Rattle.definitions.specs.Write.{is_accepted}
use Rattle.shown.specs.declared.terms.Style.{Style}
use Rattle.shown.specs.declared.terms.Shown.{Shown}
use Rattle.shown.specs.Terms.{fallen, term_words, shown_text}
use Rattle.shown.specs.Sums.{no_sums, sums_with}
use Rattle.measures.specs.declared.terms.Tally.{Tally}

abbrev pub no_tally : Tally
no_tally = record { sums = no_sums; numbered = true; length = 0 }

-- a term without a file number has no text
abbrev pub length_with : Bool → ℕ → ℕ → ℕ
length_with true n m = needed (n + m)
length_with false n m = n

-- ---- of a term as it is printed

abbrev pub shown_number : Style → Shown → Bool
shown_number s x = is_accepted (file_number s.first x.var.0)

unfoldable pub tally_shown : Style → Tally → Shown → Tally
tally_shown s a x = record {
  sums = sums_with a.sums x.own x.falls;
  numbered = a.numbered && shown_number s x;
  length = length_with (shown_number s x) a.length (length (term_words x (x.var.0 + s.first)) + 1);
}

abbrev pub lawful_shown : Shown → Bool
lawful_shown x = is_index x.var.0 && non_neg x.own

-- ---- of a term of the row

abbrev pub has_number : Style → Term → Bool
has_number s t = is_accepted (file_number s.first (index_of t.code))

unfoldable pub tally_with : Style → Tally → Term → Tally
tally_with s a t = record {
  sums = sums_with a.sums t.weight (fallen s t);
  numbered = a.numbered && has_number s t;
  length = length_with (has_number s t) a.length (length (shown_text s t));
}

-- neither "an index above its limit" nor "a negative weight"
abbrev pub lawful : Term → Bool
lawful t = is_index (index_of t.code) && non_neg t.weight

unfoldable pub tallied : Style → Tally → List Term → Checked Tally
tallied s a [] = accept a
tallied s a (t ∷ ts) = cond (lawful t) (tallied s (tally_with s a t) ts) (refuse 11)

abbrev pub said_tally : Option Tally → Checked Tally
said_tally (Some t) = accept t
said_tally None = refuse 11
