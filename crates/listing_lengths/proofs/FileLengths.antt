-- A file's walk that measures: where it stands, with what is counted of the lines before it; and the length of the
-- whole text.
use Prim.Native.Nat.{ℕ, ◌+◌, ◌≤◌, ◌<◌, ◌^◌}
use mathlib.Core.Path.{◌≡◌, refl, sym, ap, ◌∙◌}
use mathlib.Core.List.{List, [], ◌∷◌, ◌++◌}
use native.Mathlib.Omega.{arith}
use borrow.Author.Tests.{le-leb, lt-leb}
use lib.ListN.{length, drop, length-append, length-drop}
use Rattle.definitions.specs.Lists.{joined}
use Rattle.definitions.specs.Limits.{file_limit}
use Rattle.definitions.specs.Refusal.{refusal, needed, further}
use Rattle.definitions.specs.declared.Refusal.{Refusal}
use Rattle.definitions.specs.Walk.{stop, bad, item, Walked, all}
use Rattle.definitions.specs.Row.{Line, comment, row, terms_of}
use Rattle.definitions.specs.Table.{Table, row_room, term_room, Outcome, refused, accepted, all_terms, fitted}
use Rattle.definitions.specs.Text.{statement, in_file}
use Rattle.definitions.specs.File.{lines_of, statements, file, reading}
use Rattle.definitions.specs.House.{house_line, refused_line, listing}
use Rattle.definitions.specs.declared.Options.{Options}
use Rattle.definitions.proofs.Walks.{At, at-start, at-stop, at-bad, at_item}
use Rattle.definitions.proofs.Statements.{LineTaken, statement-moves, statement-taken}
use Rattle.definitions.proofs.Columns.{joined_snoc}
use Rattle.laws.proofs.Digits.{count-length-most}
use Rattle.laws.proofs.Puts.{needed-add, needed-word}
use Rattle.definitions.proofs.Truths.{never}
use Rattle.definitions.specs.declared.Entry.{Entry}
use Rattle.columns.specs.Kinds.{terms_of_kind}
use Rattle.columns.proofs.EntryLaws.{line-terms}
use Rattle.statements.specs.Brief.{brief_step}
use Rattle.statements.specs.Met.{statement_met}
use Rattle.statements.proofs.Briefs.{LineTold, line-told, terms-in-file, bad-within}
use Rattle.house_lengths.specs.Words.{head_text}
use Rattle.refusals.proofs.Lines.{refused-length}
use Rattle.house_lengths.proofs.Fields.{needed-more-yet}
use Rattle.house_lengths.specs.Lengths.{line_length}
use Rattle.house_lengths.proofs.WordLaws.{text, is-listing, text-length}
use Rattle.listing_lengths.specs.declared.Sizes.{Sizes}
use Rattle.listing_lengths.specs.Measure.{fields_length, sizes_of, file_sizes}
use Rattle.listing_lengths.proofs.LineLengths.{line-sized}

-- a comment's offset is not listed
line-in-file : (first at : ℕ) (l : Line) → house_line first (in_file at l) ≡ house_line first l
unfolding house_line
line-in-file first at (comment f n b) = refl
line-in-file first at (row r) = refl

-- ---- the walk

-- at an offset: the lines before it, how many they are, how many terms they have, and their length
pub record FileSized (o : Options) (s : List ℕ) (at rows terms lines : ℕ) : Type 0 where
  pub found : List Line
  pub stands : At (statement o) in_file s at found
  pub counted : rows ≡ length found
  pub termed : terms ≡ length (all_terms found)
  pub sized : lines ≡ needed (length (joined (house_line o.first) found))
  pub fewer-rows : rows ≤ at
  pub fewer-terms : terms ≤ at

sizes-eq : {a b c d e f : ℕ} → a ≡ b → c ≡ d → e ≡ f
    → ◌≡◌ {A = Outcome Sizes} (accepted (record { rows = a; terms = c; lines = e })) (accepted (record { rows = b; terms = d; lines = f }))
sizes-eq p q r = cc

module _ (o : Options) (s : List ℕ) where
  pub file-start : FileSized o s 0 0 0 0
  unfolding needed joined
  file-start =
      record {
        found = [];
        stands = at-start (statement o) in_file s;
        counted = refl;
        termed = refl;
        sized = refl;
        fewer-rows = omega arith;
        fewer-terms = omega arith;
      }

  statements-by : (w : Walked Line) → all (statement o) in_file s ≡ w → statements o s ≡ w
  unfolding statements
  statements-by w e = e

  module _ (at rows terms lines : ℕ) (w : FileSized o s at rows terms lines) where
    pub file-stop : statement o (drop at s) ≡ stop
        → accepted (record { rows = rows; terms = terms; lines = lines }) ≡ file_sizes o.first (lines_of (statements o s))
    file-stop e =
        rw (statements-by _ (at-stop (statement o) in_file (statement-moves o) s at w.found w.stands e))
        (sizes-eq w.counted w.termed w.sized)

    module _ (r : Refusal) (e : statement o (drop at s) ≡ bad r) where
      pub bad-fits : at + r.place ≤ length s
      bad-fits = omega (arith, bad-within o (drop at s) r e, length-drop at s, w.stands.within)

      pub file-bad : refused (further at r) ≡ file_sizes o.first (lines_of (statements o s))
      file-bad = rw (statements-by _ (at-bad (statement o) in_file (statement-moves o) s at w.found w.stands r e))

    -- a line of n bytes
    module _ (x : Entry) (n : ℕ) (e : item x n ≡ brief_step (statement o (drop at s))) where
      told : LineTold (statement o (drop at s)) x n
      told = line-told (statement o (drop at s)) x n e

      taken : LineTaken o (drop at s) told.line n
      taken = statement-taken o (drop at s) told.line n told.is

      terms-are : terms_of_kind x.kind x.count ≡ length (terms_of told.line)
      terms-are = ap (λ (y : Entry). terms_of_kind y.kind y.count) told.told ∙ line-terms told.line

      pub record Moved : Type 0 where
        pub byte : 0 < n
        pub within : at + n ≤ length s
        pub few-rows : rows + 1 ≤ length s
        pub few-terms : terms + terms_of_kind x.kind x.count ≤ length s

      pub file-moved : Moved
      file-moved =
          let t = taken in
          let q = terms-are in
          let d = length-drop at s in
          let h = w.stands.within in
          let x = w.fewer-rows in
          let y = w.fewer-terms in
          record {
            byte = t.least;
            within = omega (arith, t.within);
            few-rows = omega (arith, t.least, t.within);
            few-terms = omega (arith, t.terms, t.within);
          }

      pub file-line : (m r : ℕ)
          → m ≡ line_length x.kind x.count x.bound (fields_length o.first (statement_met o (drop at s))) → r ≡ needed (lines + m)
          → FileSized o s (at + n) (rows + 1) (terms + terms_of_kind x.kind x.count) r
      file-line m r g q =
          let l = told.line in
          let p = in_file at l in
          let t = taken in
          let j : m ≡ needed (length (house_line o.first p)) =
          g ∙ line-sized o (drop at s) x l n told.is told.told
          ∙ ap (λ (y : List ℕ). needed (length y)) (sym (line-in-file o.first at l)) in
          record {
            found = w.found ++ (p ∷ []);
            stands = at_item (statement o) in_file (statement-moves o) s at w.found w.stands l n told.is;
            counted = omega (arith, length-append w.found (p ∷ []), w.counted);
            termed =
                omega (
                  arith,
                  ap length (joined_snoc terms_of w.found p),
                  length-append (all_terms w.found) (terms_of p),
                  ap
                      length (terms-in-file at l),
                  w.termed,
                  terms-are,
                );
            sized =
                needed-more-yet (joined (house_line o.first) w.found) (house_line o.first p) w.sized j q
                ∙ ap (λ (x : List ℕ). needed (length x)) (sym (joined_snoc (house_line o.first) w.found p));
            fewer-rows = omega (arith, t.least, w.fewer-rows);
            fewer-terms = omega (arith, t.terms, terms-are, w.fewer-terms);
          }

  -- ---- 1: "file above the limit"
  pub file-long : file_limit < length s → refused (refusal 1 0) ≡ file_sizes o.first (file o s)
  unfolding file
  file-long h = rw (lt-leb (length s) file_limit h)

  pub file-short : length s ≤ file_limit → lines_of (statements o s) ≡ file o s
  unfolding file
  file-short h = rw (le-leb (length s) file_limit h)

-- ---- the length of the whole text

-- what was measured
refused-sizes : (first : ℕ) (e : Refusal) (x : Outcome (List Line)) → refused e ≡ file_sizes first x → x ≡ refused e
refused-sizes first e (refused r) q = cc
refused-sizes first e (accepted ls) q = never (cc)

record SizesOf (first : ℕ) (x : Outcome (List Line)) (z : Sizes) : Type 0 where
  found : List Line
  are : x ≡ accepted found
  sizes : z ≡ sizes_of first found

accepted-sizes : (first : ℕ) (x : Outcome (List Line)) (z : Sizes) → accepted z ≡ file_sizes first x → SizesOf first x z
accepted-sizes first (refused r) z e = never (cc)
accepted-sizes first (accepted ls) z e = record { found = ls; are = refl; sizes = cc }

-- the line of a refusal is short
refusal-needed : (n p : ℕ) → n < 2 ^ 64 → p < 2 ^ 64 → length (refused_line (refusal n p)) ≡ needed (length (refused_line (refusal n p)))
unfolding needed
refusal-needed n p h g = omega (arith, refused-length n p, count-length-most n h, count-length-most p g)

module _ (o : Options) (s : List ℕ) (t : Table) where
  -- its number and place are machine numbers
  pub refusal-listed : (e : Refusal) (w : ℕ) → e.number < 2 ^ 64 → e.place < 2 ^ 64 → refused e ≡ file_sizes o.first (file o s)
      → w ≡ length (refused_line (refusal e.number e.place)) → w ≡ needed (length (listing o.first (reading o s t)))
  unfolding listing reading fitted
  refusal-listed e w h g f q = q ∙ refusal-needed e.number e.place h g ∙ rw (refused-sizes o.first e (file o s) f)

  module _ (z : Sizes) (e : accepted z ≡ file_sizes o.first (file o s)) (w : ℕ) where
    abbrev was : SizesOf o.first (file o s) z
    was = accepted-sizes o.first (file o s) z e

    rows-found : z.rows ≡ length was.found
    rows-found = ap (λ (x : Sizes). x.rows) was.sizes

    terms-found : z.terms ≡ length (all_terms was.found)
    terms-found = ap (λ (x : Sizes). x.terms) was.sizes

    -- 9, then 10
    pub rows-listed : z.rows < 2 ^ 64 → row_room t < z.rows → w ≡ length (refused_line (refusal 9 z.rows))
        → w ≡ needed (length (listing o.first (reading o s t)))
    unfolding listing reading fitted
    rows-listed f h q =
        q ∙ refusal-needed 9 z.rows (omega arith) f
        ∙ rw (was.are, lt-leb (length was.found) (row_room t) (omega (arith, rows-found)), ← rows-found, needed-word z.rows f)

    pub terms-listed : z.terms < 2 ^ 64 → z.rows ≤ row_room t → term_room t < z.terms → w ≡ length (refused_line (refusal 10 z.terms))
        → w ≡ needed (length (listing o.first (reading o s t)))
    unfolding listing reading fitted
    terms-listed f g h q =
        q ∙ refusal-needed 10 z.terms (omega arith) f
        ∙ rw (
          was.are,
          le-leb (length was.found) (row_room t) (omega (arith, rows-found)),
          lt-leb (length (all_terms was.found)) (term_room t) (omega (arith, terms-found)),
          ← terms-found,
          needed-word z.terms f,
        )

    pub text-listed : z.rows ≤ row_room t → z.terms ≤ term_room t
        → w ≡ needed (z.lines + length (head_text z.rows z.terms o.first))
        → w ≡ needed (length (listing o.first (reading o s t)))
    text-listed g h q =
        q ∙ ap (λ (x : Sizes). needed (x.lines + length (head_text x.rows x.terms o.first))) was.sizes ∙ head was.found
        ∙ ap (λ (x : List ℕ). needed (length x)) (sym (is-text was.found was.are (omega (arith, rows-found))
        (omega (arith, terms-found))))
      where
        is-text : (ls : List Line) → file o s ≡ accepted ls → length ls ≤ row_room t → length (all_terms ls) ≤ term_room t
            → listing o.first (reading o s t) ≡ text o.first ls
        is-text ls e a b =
            unfold reading fitted in
            rw (e, le-leb (length ls) (row_room t) a, le-leb (length (all_terms ls)) (term_room t) b) (is-listing o.first ls)

        head : (ls : List Line)
            → needed (needed (length (joined (house_line o.first) ls)) + length (head_text (length ls) (length (all_terms ls)) o.first))
            ≡ needed (length (text o.first ls))
        head ls = rw needed-add (ap needed (omega (arith, text-length o.first ls)))
