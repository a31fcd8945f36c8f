-- Which lines does a file have that is written item by item? Each item's own, at its offset.
use Prim.Native.Nat.{ℕ, suc, ◌+◌, ◌/◌, ◌%◌, ◌≤◌}
use mathlib.Core.Path.{◌≡◌, refl, sym, ap, ◌∙◌}
use mathlib.Core.Bool.{Bool, true, false, cond, ◌&&◌}
use mathlib.Core.List.{List, [], ◌∷◌, ◌++◌, append_assoc, append-nil}
use native.Mathlib.Omega.{arith}
use borrow.Author.Tests.{le-leb, leb-true, ne_eqb}
use lib.Dec.{leb}
use lib.ListN.{length}
use lib.IntN.{ℤ, pos, negsuc}
use Rattle.definitions.specs.Lists.{joined, AllOf}
use Rattle.definitions.specs.Limits.{file_limit, weight_limit}
use Rattle.definitions.specs.Bytes.{bytes, min_text, lf, cr, blanks}
use Rattle.definitions.specs.Number.{decimal, integer_text}
use Rattle.definitions.specs.Walk.{items, all}
use Rattle.definitions.specs.Row.{Term, Kind, at_least, at_most, equal, objective, Row, row_of, Line, comment, row, sizes}
use Rattle.definitions.specs.Text.{begins_term, constraint, statement, in_file}
use Rattle.definitions.specs.Table.{accepted}
use Rattle.definitions.specs.File.{lines_of, statements, file}
use Rattle.definitions.specs.Write.{printed, spaced, apart, closed, comparison_text, remark_text, offset_words, is_zero}
use Rattle.definitions.specs.Write.{offset_text, text_by, row_text, Item, say, line, item_text, has_terms, one_line}
use Rattle.definitions.specs.Back.{options_of, without_cr}
use Rattle.definitions.specs.declared.Mode.{Mode}
use Rattle.definitions.specs.declared.Options.{Options}
use Rattle.definitions.specs.declared.OpbOperator.TheVariants.{LE, GE, EQ}
use Rattle.definitions.proofs.Truths.{one_truth, both}
use Rattle.definitions.proofs.Numbers.{decimal-ind, decimal-small, decimal-big}
use Rattle.definitions.proofs.Statements.{statement-moves}
use Rattle.definitions.proofs.KnownTexts.{Taken, found_from, taken-one, taken_none, taken-both, taken-all, taken-list}
use Rattle.definitions.proofs.Readback.{Reads, GoodTerm, reads-at-least, reads-at-most, reads-equal}
use Rattle.definitions.proofs.RowsBack.{reads-written, reads-written-goal, spaced-begins}
use Rattle.definitions.proofs.StatementsBack.{constraint-statement, goal-statement, remark-statement}
use Rattle.definitions.proofs.Accepted.{GoodRow, WritableItem, printed-good}

-- ---- the lines of an item at an offset

-- the text of an objective up to its ending
abbrev pub goal_text : ℕ → List Term → List ℕ
goal_text first ts = min_text ++ (joined (apart first) ts ++ closed)

-- what is said of an offset
abbrev pub offset_said : ℤ → List ℕ
offset_said z = offset_words ++ integer_text z

abbrev pub remark_line : ℕ → List ℕ → Line
remark_line at t = comment (at + 2) (length (without_cr t)) (pos 0)

abbrev pub offset_lines : ℕ → ℤ → List Line
offset_lines at z = cond (is_zero z) [] (remark_line at (offset_said z) ∷ [])

abbrev pub lines_by : Kind → ℕ → ℕ → ℤ → List Term → List Line
lines_by at_least first at b ts = row (row_of at_least b ts) ∷ []
lines_by at_most first at b ts = row (row_of at_most b ts) ∷ []
lines_by equal first at b ts = row (row_of equal b ts) ∷ []
lines_by objective first at b ts = row (row_of objective (pos 0) ts) ∷ offset_lines (at + length (goal_text first ts)) b

abbrev pub row_lines : ℕ → ℕ → Row → List Line
row_lines first at r = lines_by r.kind first at r.bound r.terms

abbrev pub item_lines : Mode → ℕ → Item → List Line
item_lines m at (say t) = remark_line at t ∷ []
item_lines m at (line r) = row_lines m.first at (printed m.plain r)

-- ---- what is said of an offset is one line, with no CR at its end

calm : List ℕ → Bool
calm [] = true
calm (b ∷ s) = leb 32 b && calm s

calm-both : (s t : List ℕ) → calm s ≡ true → calm t ≡ true → calm (s ++ t) ≡ true
unfolding calm
calm-both [] t e g = g
calm-both (b ∷ s) t e g = let h = both (leb 32 b) (calm s) e in rw h.0 (calm-both s t h.1 g)

calm-decimal : (n : ℕ) → calm (decimal n) ≡ true
unfolding calm
calm-decimal =
    decimal-ind (λ n. calm (decimal n) ≡ true)
    (λ n h. rw (decimal-small n h, le-leb 32 (48 + n) (omega arith)))
    (λ n h e. rw (decimal-big n h) (calm-both (decimal (n / 10)) _ e (rw (le-leb 32 (48 + n % 10) (omega arith)))))

calm-number : (z : ℤ) → calm (integer_text z) ≡ true
unfolding calm
calm-number (pos n) = calm-decimal n
calm-number (negsuc n) = calm-decimal (suc n)

calm-offset : (z : ℤ) → calm (offset_said z) ≡ true
unfolding calm
calm-offset z = calm-both offset_words (integer_text z) refl (calm-number z)

calm-line : (s : List ℕ) → calm s ≡ true → one_line s ≡ true
unfolding calm one_line
calm-line [] e = refl
calm-line (b ∷ s) e =
    let q = both (leb 32 b) (calm s) e in
    let h : 32 ≤ b = leb-true 32 b q.0 in
    rw (ne_eqb b lf (λ p. omega arith)) (calm-line s q.1)

calm-whole : (s : List ℕ) → calm s ≡ true → without_cr s ≡ s
unfolding calm without_cr
calm-whole [] e = refl
calm-whole (b ∷ []) e =
    let h : 32 ≤ b = leb-true 32 b (both (leb 32 b) true e).0 in
    rw (ne_eqb b cr (λ p. omega arith))
calm-whole (b ∷ c ∷ s) e = ap (λ (l : List ℕ). b ∷ l) (calm-whole (c ∷ s) (both (leb 32 b) (calm (c ∷ s)) e).1)

pub offset-line : (z : ℤ) → one_line (offset_said z) ≡ true
offset-line z = calm-line (offset_said z) (calm-offset z)

pub offset-whole : (z : ℤ) → without_cr (offset_said z) ≡ offset_said z
offset-whole z = calm-whole (offset_said z) (calm-offset z)

-- ---- an item is taken as its lines

module _ (o : Options) where
  taken-remark : (t rest : List ℕ) → one_line t ≡ true → Taken (statement o) in_file (remark_text t) (λ at. remark_line at t ∷ []) rest
  taken-remark t rest e =
      taken-one (statement o) in_file (statement-moves o) (remark_text t) rest (comment 2 (length (without_cr t)) (pos 0))
      (remark-statement o t rest e)

  taken-offset : (z : ℤ) (rest : List ℕ) → Taken (statement o) in_file (offset_text z) (λ at. offset_lines at z) rest
  unfolding offset_text
  taken-offset z rest = by (is_zero z)
    where
      by : (n : Bool)
          → Taken (statement o) in_file (cond n [] (remark_text (offset_said z))) (λ at. cond n [] (remark_line at (offset_said z) ∷ [])) rest
      by true = taken_none (statement o) in_file (statement-moves o) rest
      by false = taken-remark (offset_said z) rest (offset-line z)

  constraint-begins : (ts : List Term) (y rest : List ℕ) → leb 1 (length ts) ≡ true
      → begins_term ((joined (spaced o.first) ts ++ y) ++ rest) ≡ true
  unfolding joined
  constraint-begins [] y rest h = absurd (one_truth false h refl)
  constraint-begins (t ∷ ts) y rest h = rw (append_assoc _ y rest, append_assoc (spaced o.first t) _ _) (spaced-begins o t _)

  module _ (ts : List Term) (b : ℤ) (rest : List ℕ) where
    taken-constraint : (k : Kind) (x : List ℕ) → leb 1 (length ts) ≡ true
        → Reads (constraint o) (joined (spaced o.first) ts ++ comparison_text x b) rest (row_of k b ts)
        → Taken (statement o) in_file (joined (spaced o.first) ts ++ comparison_text x b) (λ at. row (row_of k b ts) ∷ []) rest
    taken-constraint k x h c =
        let y = joined (spaced o.first) ts ++ comparison_text x b in
        taken-one (statement o) in_file (statement-moves o) y rest (row (row_of k b ts))
        (constraint-statement o y rest (row_of k b ts) (constraint-begins ts (comparison_text x b) rest h) c)

    taken-goal : AllOf (GoodTerm o.first) ts → sizes ts ≤ weight_limit
        → Taken (statement o) in_file (text_by objective o.first b ts) (λ at. lines_by objective o.first at b ts) rest
    taken-goal g h =
        let x = goal_text o.first ts in
        let q = row_of objective (pos 0) ts in
        rw (append_assoc (joined (apart o.first) ts) closed (offset_text b)) at
        (taken-both (statement o) in_file (statement-moves o) x (offset_text b) rest (λ at. row q ∷ []) (λ at. offset_lines at b)
        (taken-one (statement o) in_file (statement-moves o) x (offset_text b ++ rest) (row q)
        (goal-statement o (bytes "in:" ++ (joined (apart o.first) ts ++ closed)) (offset_text b ++ rest) q
        (reads-written-goal o ts (offset_text b ++ rest) g h)))
        (taken-offset b rest))

  taken-row : (r : Row) (rest : List ℕ) → GoodRow o r
      → Taken (statement o) in_file (row_text o.first r) (λ at. row_lines o.first at r) rest
  unfolding row_text begins_term blanks
  taken-row r rest g = by r.kind g.some
    where
      ts : List Term
      ts = r.terms

      by : (k : Kind) → has_terms k ts ≡ true
          → Taken (statement o) in_file (text_by k o.first r.bound ts) (λ at. lines_by k o.first at r.bound ts) rest
      by at_least h =
          taken-constraint ts r.bound rest at_least (bytes ">=") h
          (reads-written o GE (bytes ">=") reads-at-least (λ y. refl) (λ y. refl) ts r.bound rest refl g.each
          g.total g.fits)
      by at_most h =
          taken-constraint ts r.bound rest at_most (bytes "<=") h
          (reads-written o LE (bytes "<=") reads-at-most (λ y. refl) (λ y. refl) ts r.bound rest refl g.each g.total
          g.fits)
      by equal h =
          taken-constraint ts r.bound rest equal (bytes "=") h
          (reads-written o EQ (bytes "=") reads-equal (λ y. refl) (λ y. refl) ts r.bound rest refl g.each g.total g.fits)
      by objective h = taken-goal ts r.bound rest g.each g.total

-- ---- all items, one after the other

module _ (m : Mode) where
  taken_item : (i : Item) (rest : List ℕ) → WritableItem m i
      → Taken (statement (options_of m)) in_file (item_text m i) (λ at. item_lines m at i) rest
  unfolding item_text
  taken_item (say t) rest w = taken-remark (options_of m) t rest w
  taken_item (line r) rest w = taken-row (options_of m) (printed m.plain r) rest (printed-good m r w)

  abbrev pub lines_from : ℕ → List Item → List Line
  lines_from at is = found_from (item_text m) (item_lines m) at is

  pub written-statements : (is : List Item) → AllOf (WritableItem m) is
      → statements (options_of m) (joined (item_text m) is) ≡ items (lines_from 0 is) (length (joined (item_text m) is))
  unfolding statements
  written-statements is w =
      ap (all (statement (options_of m)) in_file) (sym (append-nil (joined (item_text m) is)))
      ∙ taken-all (statement (options_of m)) in_file (statement-moves (options_of m)) (joined (item_text m) is) [] (λ at. lines_from at is)
      (taken-list (statement (options_of m)) in_file (statement-moves (options_of m)) (item_text m) (item_lines m) (WritableItem m)
      (λ s. Unit {0})
      (λ i rest w q. taken_item i rest w) (λ i rest w q. tt) is [] w tt)
      (statement-moves (options_of m)).none

  pub written-file : (is : List Item) → AllOf (WritableItem m) is → (s : List ℕ) → s ≡ joined (item_text m) is → length s ≤ file_limit
      → file (options_of m) s ≡ accepted (lines_from 0 is)
  unfolding file
  written-file is g s w h = rw (le-leb (length s) file_limit h) (rw w (ap lines_of (written-statements is g)))
