-- Has every refusal one of 01's numbers, 1 to 15 ("What each number says"), or of 02's, 20 to 22 (A1)? Reading,
-- normalising, evaluating, value lines, writing, listing, from the smallest step up.
use Prim.Native.Nat.{ℕ, zero, suc, pred, ◌+◌, min}
use mathlib.Core.Path.{◌≡◌, refl, ◌∙◌}
use mathlib.Core.Bool.{Bool, true, false, cond, ◌&&◌, ◌||◌}
use mathlib.Core.List.{List, [], ◌∷◌, ◌++◌}
use lib.Dec.{leb}
use lib.IntN.{ℤ}
use lib.ListN.{length, take, drop}
use Rattle.definitions.specs.Lists.{joined}
use Rattle.definitions.specs.Limits.{word_limit}
use Rattle.definitions.specs.Refusal.{refusal, Checked, refuse, accept, fault, further}
use Rattle.definitions.specs.Reader.{Got, none, got, Reader, more, then_at, chain, done, fail}
use Rattle.definitions.specs.Number.{ended, number}
use Rattle.definitions.specs.Literal.{code_of, index}
use Rattle.definitions.specs.Walk.{Step, stop, bad, item, Walked, broken, items, before, walk, all, anywhere}
use Rattle.definitions.specs.Row.{Term, Row, Line, comment, row}
use Rattle.definitions.specs.declared.Kind.{Kind}
use Rattle.definitions.specs.declared.Kind.TheVariants.{AtLeast as at_least, AtMost as at_most, Equal as equal, Objective as objective}
use Rattle.definitions.specs.Bytes.{blanks, line_ending, begins, class_of}
use Rattle.definitions.specs.Text as text
use Rattle.definitions.specs.Table.{Table, Outcome, refused, accepted, fitted, entries, on_row, row_by_row, and_then, line_by, line_in}
use Rattle.definitions.specs.Table.{Sort, remark, clause, unknown, weighted, cardinality, sort_of}
use Rattle.definitions.specs.declared.Entry.{Entry}
use Rattle.definitions.specs.File.{lines_of, statements, file, reading}
use Rattle.definitions.specs.Normal.{normal_line, normal_in, normalising}
use Rattle.definitions.specs.Meaning.{Assignment, assigned, ones_of, is_known}
use Rattle.definitions.specs.Evaluate.{found_by, found, found_in, front_by, on_place, evaluating_by, within, evaluating}
use Rattle.definitions.specs.Evaluate.{known_ones, evaluating_known, without_ones, judging, Evaluated, constraint, goal}
use Rattle.definitions.specs.Write.{Item, say, line, item_text, item_by, item_in, row_allowed, allowed}
use Rattle.definitions.specs.Write.{written_in, fitted_text, text_of, writing}
use Rattle.definitions.specs.House.{listing, listed_line, listed_entry, listed_in, listing_table}
use Rattle.definitions.specs.Values as values
use Rattle.definitions.specs.declared.Options.{Options}
use Rattle.definitions.specs.declared.Mode.{Mode}
use Rattle.definitions.specs.declared.Beginning.{Beginning}
use Rattle.definitions.specs.declared.Beginning.TheVariants.{Comment, Objective, Constraint, Nothing}
use Rattle.definitions.specs.declared.Form.{Form}
use Rattle.definitions.specs.declared.Form.TheVariants.{SignedNumbers, ZerosAndOnes, XTokens}
use Rattle.definitions.proofs.Truths.{cond_same, cond-pushed}

-- ---- whether a refusal, if it is one, has one of the numbers

abbrev pub is_number : ℕ → Bool
is_number n = leb 1 n && (leb n 15 || (leb 20 n && leb n 22))

unfoldable pub in_checked : {A : Type 0} → Checked A → Bool
in_checked (refuse n) = is_number n
in_checked (accept a) = true

unfoldable pub in_got : {A : Type 0} → Got A → Bool
in_got (none e) = is_number e.number
in_got (got a k) = true

unfoldable pub in_step : {A : Type 0} → Step A → Bool
in_step stop = true
in_step (bad r) = is_number r.number
in_step (item a k) = true

unfoldable pub in_walked : {A : Type 0} → Walked A → Bool
in_walked (broken r) = is_number r.number
in_walked (items l k) = true

unfoldable pub in_outcome : {A : Type 0} → Outcome A → Bool
in_outcome (refused r) = is_number r.number
in_outcome (accepted a) = true

-- ---- a test with an answer for each side

got-cond : {A : Type 0} (t : Bool) (x y : Got A) → in_got (cond t x y) ≡ cond t (in_got x) (in_got y)
got-cond = cond-pushed in_got

checked-cond : {A : Type 0} (t : Bool) (x y : Checked A) → in_checked (cond t x y) ≡ cond t (in_checked x) (in_checked y)
checked-cond = cond-pushed in_checked

outcome-cond : {A : Type 0} (t : Bool) (x y : Outcome A) → in_outcome (cond t x y) ≡ cond t (in_outcome x) (in_outcome y)
outcome-cond = cond-pushed in_outcome

-- ---- one link after another

more-in : {A : Type 0} (n : ℕ) (g : Got A) → in_got (more n g) ≡ in_got g
unfolding in_got
more-in n (none e) = refl
more-in n (got a m) = refl

module _ {A B : Type 0} (p : Reader A) (k : A → Reader B) (here : (s : List ℕ) → in_got (p s) ≡ true)
    (there : (a : A) (s : List ℕ) → in_got (k a s) ≡ true) where
  then-in : (g : Got A) (s : List ℕ) → in_got g ≡ true → in_got (then_at g k s) ≡ true
  unfolding in_got
  then-in (none e) s h = h
  then-in (got a n) s h = more-in n (k a (drop n s)) ∙ there a (drop n s)

  chain-in : (s : List ℕ) → in_got (chain p k s) ≡ true
  unfolding chain
  chain-in s = then-in (p s) s (here s)

done-in : {A : Type 0} (a : A) (s : List ℕ) → in_got (done a s) ≡ true
unfolding done in_got
done-in a s = refl

-- ---- items one after the other

before-in : {A : Type 0} (a : A) (w : Walked A) → in_walked (before a w) ≡ in_walked w
unfolding in_walked
before-in a (broken r) = refl
before-in a (items l k) = refl

module _ {A : Type 0} (step : List ℕ → Step A) (place : ℕ → A → A) (each : (s : List ℕ) → in_step (step s) ≡ true) where
  walk-in : (s : List ℕ) (k at : ℕ) → in_walked (walk step place s k at) ≡ true
  unfolding walk in_walked in_step
  walk-in [] k at = refl
  walk-in (b ∷ s) (suc k) at = walk-in s k (at + 1)
  walk-in (b ∷ s) zero at = by (step (b ∷ s)) (each (b ∷ s)) (λ n. walk-in s n (at + 1))
    where
      by : (x : Step A) → in_step x ≡ true → ((n : ℕ) → in_walked (walk step place s n (at + 1)) ≡ true)
          → in_walked {A = A} (elim x [
            | stop ↦ items [] at
            | bad r ↦ broken (further at r)
            | item a n ↦ before (place at a) (walk step place s (pred n) (at + 1))
          ]) ≡ true
      by stop h rest = refl
      by (bad r) h rest = h
      by (item a n) h rest = before-in (place at a) (walk step place s (pred n) (at + 1)) ∙ rest (pred n)

  all_in : (s : List ℕ) → in_walked (all step place s) ≡ true
  unfolding all
  all_in s = walk-in s 0 0

-- ---- numbers, literals, terms

ended-in : (negative : Bool) (k : ℕ) (ds : List ℕ) → in_got (ended negative k ds) ≡ true
unfolding ended in_got
ended-in negative k ds = simp (got-cond, cond_same)

number_in : (s : List ℕ) → in_got (number s) ≡ true
unfolding number in_got
number_in [] = refl
number_in (b ∷ s) = simp (got-cond, ended-in, cond_same)

gap-in : (s : List ℕ) → in_got (text.gap s) ≡ true
unfolding text.gap in_got
gap-in s = refl

some_in : (n : ℕ) → in_got (text.some_blanks n) ≡ true
unfolding in_got
some_in zero = refl
some_in (suc n) = refl

gap1-in : (s : List ℕ) → in_got (text.gap1 s) ≡ true
unfolding text.gap1
gap1-in s = some_in (blanks s)

index_in : (first n : ℕ) → in_checked (index first n) ≡ true
unfolding index in_checked
index_in first n = simp (checked-cond, cond_same)

code_in : (negative : Bool) (n : ℕ) (c : Checked ℕ) → in_got (text.code_by negative n c) ≡ in_checked c
unfolding in_got in_checked
code_in negative n (refuse e) = refl
code_in negative n (accept v) = refl

module _ (o : Options) where
  digits_in : (negative : Bool) (s : List ℕ) → in_got (text.digits o negative s) ≡ true
  unfolding text.digits in_got
  digits_in negative s = simp (got-cond, code_in, index_in, cond_same)

  variable-in : (negative : Bool) (s : List ℕ) → in_got (text.variable o negative s) ≡ true
  unfolding text.variable in_got
  variable-in negative [] = refl
  variable-in negative (b ∷ s) = simp (got-cond, more-in, digits_in, cond_same)

  literal-in : (s : List ℕ) → in_got (text.literal o s) ≡ true
  unfolding text.literal in_got
  literal-in [] = refl
  literal-in (b ∷ s) = simp (got-cond, more-in, variable-in, cond_same)

  weight-in : (w : ℤ) (s : List ℕ) → in_got (text.after_weight o w s) ≡ true
  unfolding text.after_weight
  weight-in w = chain-in _ _ gap1-in (λ _. chain-in _ _ literal-in (λ c. chain-in _ _ gap-in (λ _. done-in _)))

  weighted-in : (s : List ℕ) → in_got (text.weighted o s) ≡ true
  unfolding text.weighted
  weighted-in = chain-in _ _ number_in weight-in

  as-step-in : {A : Type 0} (g : Got A) → in_step (text.as_step g) ≡ in_got g
  unfolding in_step in_got
  as-step-in (none e) = refl
  as-step-in (got a n) = refl

  term_in : (s : List ℕ) → in_step (text.term_step o s) ≡ true
  unfolding text.term_step in_step
  term_in s = by (text.begins_term s)
    where
      by : (b : Bool) → in_step {A = Term} (elim b [ true ↦ text.as_step (text.weighted o s) | false ↦ stop ]) ≡ true
      by true = as-step-in (text.weighted o s) ∙ weighted-in s
      by false = refl

  as-got-in : {A : Type 0} (w : Walked A) → in_got (text.as_got w) ≡ in_walked w
  unfolding in_got in_walked
  as-got-in (broken r) = refl
  as-got-in (items l n) = refl

  sum-in : (s : List ℕ) → in_got (text.sum o s) ≡ true
  unfolding text.sum
  sum-in s = as-got-in (all (text.term_step o) anywhere s) ∙ all_in (text.term_step o) anywhere term_in s

-- ---- operator, ending

operator-in : (s : List ℕ) → in_got (text.operator s) ≡ true
unfolding text.operator in_got
operator-in [] = refl
operator-in (b ∷ s) = simp (got-cond, cond_same)

closing-in : (s : List ℕ) → in_got (text.closing s) ≡ true
unfolding text.closing in_got
closing-in [] = refl
closing-in (b ∷ s) = simp (got-cond, by (line_ending (b ∷ s)), cond_same)
  where
    by : (n : ℕ) → in_got {A = Bool} (elim n [ zero ↦ none (fault 7) | suc k ↦ got false (suc k) ]) ≡ true
    by zero = refl
    by (suc k) = refl

ending-in : (s : List ℕ) → in_got (text.ending s) ≡ true
unfolding text.ending
ending-in = chain-in _ _ gap-in (λ _. closing-in)

comparison-in : (s : List ℕ) → in_got (text.comparison s) ≡ true
unfolding text.comparison
comparison-in =
    chain-in _ _ operator-in (λ _. chain-in _ _ gap-in (λ _. chain-in _ _ number_in (λ _. chain-in _ _ ending-in (λ _. done-in _))))

-- ---- statements, a file

finished-in : (o : Options) (c : Bool) (k : Kind) (b : ℤ) (ts : List Term) (s : List ℕ) → in_got (text.finished o c k b ts s) ≡ true
unfolding text.finished in_got
finished-in o c k b ts s = simp (got-cond, cond_same)

min-in : (s : List ℕ) → in_got (text.min_word s) ≡ true
unfolding text.min_word in_got
min-in s = simp (got-cond, cond_same)

min-blanks-in : (s : List ℕ) → in_got (text.min_blanks s) ≡ true
unfolding text.min_blanks
min-blanks-in = chain-in _ _ min-in (λ _. gap-in)

remark-in : (s : List ℕ) → in_got (text.remark s) ≡ true
unfolding text.remark in_got
remark-in [] = refl
remark-in (b ∷ s) = refl

-- 2
fail-in : (s : List ℕ) → in_got {A = Line} (fail (fault 2) s) ≡ true
unfolding fail in_got
fail-in s = refl

module _ (o : Options) where
  constraint-in : (s : List ℕ) → in_got (text.constraint o s) ≡ true
  unfolding text.constraint
  constraint-in = chain-in _ _ (sum-in o) (λ _. chain-in _ _ comparison-in (λ _. finished-in o _ _ _ _))

  goal-in : (s : List ℕ) → in_got (text.goal o s) ≡ true
  unfolding text.goal
  goal-in = chain-in _ _ min-blanks-in (λ _. chain-in _ _ (sum-in o) (λ _. chain-in _ _ ending-in (λ _. finished-in o _ _ _ _)))

  begun-in : (b : Beginning) (s : List ℕ) → in_got (text.statement_by b o s) ≡ true
  begun-in Comment = remark-in
  begun-in Objective = chain-in _ _ goal-in (λ _. done-in _)
  begun-in Constraint = chain-in _ _ constraint-in (λ _. done-in _)
  begun-in Nothing = fail-in

  blanks-in : (k : ℕ) (g : Got Line) → in_step (text.after_blanks k g) ≡ in_got g
  unfolding in_step in_got
  blanks-in k (none e) = refl
  blanks-in k (got (comment f n b) m) = refl
  blanks-in k (got (row r) m) = refl

  statement-at-in : (k : ℕ) (s : List ℕ) → in_step (text.statement_at o k s) ≡ true
  unfolding text.statement_at in_step
  statement-at-in k [] = refl
  statement-at-in k (b ∷ s) = blanks-in k (text.statement_by (begins (class_of b)) o (b ∷ s)) ∙ begun-in (begins (class_of b)) (b ∷ s)

  statement-in : (s : List ℕ) → in_step (text.statement o s) ≡ true
  unfolding text.statement
  statement-in s = statement-at-in (blanks s) (drop (blanks s) s)

  lines-in : (w : Walked Line) → in_outcome (lines_of w) ≡ in_walked w
  unfolding in_outcome in_walked
  lines-in (broken r) = refl
  lines-in (items ls n) = refl

  statements-in : (s : List ℕ) → in_walked (statements o s) ≡ true
  unfolding statements
  statements-in = all_in (text.statement o) text.in_file statement-in

  pub file-in : (s : List ℕ) → in_outcome (file o s) ≡ true
  unfolding file in_outcome
  file-in s = simp (outcome-cond, lines-in, statements-in, cond_same)

-- ---- into columns: 9, 10

fitted-in : (t : Table) (x : Outcome (List Line)) → in_outcome x ≡ true → in_outcome (fitted t x) ≡ true
unfolding fitted in_outcome
fitted-in t (refused r) h = h
fitted-in t (accepted ls) h = simp (outcome-cond, cond_same)

pub reading-in : (o : Options) (s : List ℕ) (t : Table) → in_outcome (reading o s t) ≡ true
unfolding reading
reading-in o s t = fitted-in t (file o s) (file-in o s)

-- ---- row by row

module _ {A B : Type 0} (f : A → Checked B) (each : (a : A) → in_checked (f a) ≡ true) where
  on-row-in : (i : ℕ) (c : Checked B) (x : Outcome (List B)) → in_checked c ≡ true → in_outcome x ≡ true → in_outcome (on_row i c x) ≡ true
  unfolding in_checked in_outcome
  on-row-in i (refuse n) x h rest = h
  on-row-in i (accept b) (refused r) h rest = rest
  on-row-in i (accept b) (accepted bs) h rest = refl

  rows_in_lem : (i : ℕ) (l : List A) → in_outcome (row_by_row f i l) ≡ true
  unfolding row_by_row in_outcome
  rows_in_lem i [] = refl
  rows_in_lem i (a ∷ l) = on-row-in i (f a) (row_by_row f (i + 1) l) (each a) (rows_in_lem (i + 1) l)

  then-checked-in : (c : Checked A) → in_checked c ≡ true → in_checked (and_then c f) ≡ true
  unfolding in_checked
  then-checked-in (refuse n) h = h
  then-checked-in (accept a) h = each a

-- 11
sort-in : (k : Sort) (t : Table) (e : Entry) → in_checked (line_by k t e) ≡ true
unfolding in_checked
sort-in remark t e = refl
sort-in clause t e = refl
sort-in unknown t e = refl
sort-in (weighted k) t e = simp (checked-cond, cond_same)
sort-in (cardinality k) t e = refl

line-in : (t : Table) (e : Entry) → in_checked (line_in t e) ≡ true
unfolding line_in
line-in t e = sort-in (sort_of e.kind) t e

-- ---- normalising

normal-line-in : (l : Line) → in_checked (normal_line l) ≡ true
unfolding in_checked
normal-line-in (comment f n b) = refl
normal-line-in (row r) = simp (checked-cond, cond_same)

normal-in : (t : Table) (e : Entry) → in_checked (normal_in t e) ≡ true
unfolding normal_in
normal-in t e = then-checked-in normal_line normal-line-in (line_in t e) (line-in t e)

pub normalising-in : (t o : Table) → in_outcome (normalising t o) ≡ true
unfolding normalising
normalising-in t o = fitted-in o (row_by_row (normal_in t) 0 (entries t)) (rows_in_lem (normal_in t) (normal-in t) 0 (entries t))

-- ---- evaluating

module _ (has : ℕ → Bool) (a : Assignment) (ones : ℕ) where
  found-by-in : (k : Kind) (r : Row) → in_checked (found_by k a ones r) ≡ true
  unfolding in_checked
  found-by-in at_least r = refl
  found-by-in at_most r = refl
  found-by-in equal r = refl
  found-by-in objective r = simp (checked-cond, cond_same)

  found_in_lem : (l : Line) → in_checked (found_in has a ones l) ≡ true
  unfolding found in_checked
  found_in_lem (comment f n b) = refl
  found_in_lem (row r) = simp (checked-cond, found-by-in, cond_same)

  front-in : (es : List Entry) (t : Table) → in_checked (front_by es t (found_in has a ones)) ≡ true
  unfolding in_checked
  front-in [] t = refl
  front-in (e ∷ es) t = then-checked-in (found_in has a ones) found_in_lem (line_in t e) (line-in t e)

place_in : {A : Type 0} (i : ℕ) (c : Checked A) → in_outcome (on_place i c) ≡ in_checked c
unfolding in_outcome in_checked
place_in i (refuse n) = refl
place_in i (accept a) = refl

evaluating-by-in : (has : ℕ → Bool) (a : Assignment) (ones : ℕ) (t : Table) (i : ℕ) → in_outcome (evaluating_by has a ones t i) ≡ true
unfolding evaluating_by
evaluating-by-in has a ones t i = let es = drop i (entries t) in place_in i (front_by es t (found_in has a ones)) ∙ front-in has a ones es t

pub evaluating-in : (t : Table) (i : ℕ) (ws : List ℕ) → in_outcome (evaluating t i ws) ≡ true
unfolding evaluating
evaluating-in t i ws = let w = take word_limit ws in evaluating-by-in (within w) (assigned w) (ones_of w) t i

pub evaluating-known-in : (t : Table) (i : ℕ) (ws ks : List ℕ) → in_outcome (evaluating_known t i ws ks) ≡ true
unfolding evaluating_known
evaluating-known-in t i ws ks =
    let w = take word_limit ws in
    let k = take word_limit ks in
    evaluating-by-in (is_known w k) (assigned w) (known_ones w k) t i

without-ones-in : (o : Outcome Evaluated) → in_outcome (without_ones o) ≡ in_outcome o
unfolding in_outcome
without-ones-in (refused r) = refl
without-ones-in (accepted (constraint sum h ones)) = refl
without-ones-in (accepted (goal value ones)) = refl

pub judging-in : (t : Table) (i : ℕ) (ws ks : List ℕ) → in_outcome (judging t i ws ks) ≡ true
unfolding judging
judging-in t i ws ks = without-ones-in (evaluating_known t i ws ks) ∙ evaluating-known-in t i ws ks

-- ---- value lines

-- 21
whole_in : (s : List ℕ) → in_checked (values.whole_number s) ≡ true
unfolding values.whole_number in_checked
whole_in s = simp (checked-cond, cond_same)

-- 5
literal-for-in : (negative : Bool) (n : ℕ) → in_checked (values.literal_for negative n) ≡ true
unfolding in_checked
literal-for-in negative n = then-checked-in (λ v. accept (code_of negative v ∷ [])) (λ v. refl) (index 1 n) (index_in 1 n)

signed-for-in : (negative : Bool) (n : ℕ) → in_checked (values.signed_for negative n) ≡ true
unfolding in_checked
signed-for-in negative n = simp (checked-cond, literal-for-in negative n, cond_same)

signed-whole-in : (negative : Bool) (s : List ℕ) → in_checked (and_then (values.whole_number s) (values.signed_for negative)) ≡ true
signed-whole-in negative s = then-checked-in (values.signed_for negative) (signed-for-in negative) (values.whole_number s) (whole_in s)

signed-token-in : (s : List ℕ) → in_checked (values.signed_token s) ≡ true
unfolding values.signed_token in_checked
signed-token-in [] = refl
signed-token-in (b ∷ s) = simp (checked-cond, signed-whole-in, cond_same)

named_in : (negative : Bool) (s : List ℕ) → in_checked (values.named_variable negative s) ≡ true
unfolding values.named_variable in_checked
named_in negative [] = refl
named_in negative (b ∷ s) = simp (checked-cond, whole-literal-in, cond_same)
  where
    whole-literal-in : in_checked (and_then (values.whole_number s) (values.literal_for negative)) ≡ true
    whole-literal-in = then-checked-in (values.literal_for negative) (literal-for-in negative) (values.whole_number s) (whole_in s)

x-token-in : (s : List ℕ) → in_checked (values.x_token s) ≡ true
unfolding values.x_token in_checked
x-token-in [] = refl
x-token-in (b ∷ s) = simp (checked-cond, named_in, cond_same)

bits_in : (n : ℕ) (s : List ℕ) → in_checked (values.bits_token n s) ≡ true
unfolding values.bits_token in_checked
bits_in n s = simp (checked-cond, cond_same)

literals-in : (f : Form) (n : ℕ) (s : List ℕ) → in_checked (values.literals_of f n s) ≡ true
literals-in SignedNumbers n s = signed-token-in s
literals-in ZerosAndOnes n s = bits_in n s
literals-in XTokens n s = x-token-in s

-- 20, 22
module _ (f : Form) (n : ℕ) (ws ks : List ℕ) where
  hear-in : (heard : List ℕ) (is : List values.Item) → in_outcome (values.hear f n ws ks heard is) ≡ true
  unfolding values.hear in_outcome in_checked
  hear-in heard [] = refl
  hear-in heard (values.untagged p ∷ is) = refl
  hear-in heard (values.token p s ∷ is) = by (values.literals_of f n s) (literals-in f n s) (λ more. hear-in more is)
    where
      free : (cs : List ℕ) (b : Bool) → ((more : List ℕ) → in_outcome (values.hear f n ws ks more is) ≡ true)
          → in_outcome {A = List ℕ} (elim b [ true ↦ refused (refusal 22 p) | false ↦ values.hear f n ws ks (heard ++ cs) is ]) ≡ true
      free cs true rest = refl
      free cs false rest = rest (heard ++ cs)

      by : (x : Checked (List ℕ)) → in_checked x ≡ true → ((more : List ℕ) → in_outcome (values.hear f n ws ks more is) ≡ true)
          → in_outcome {A = List ℕ} (elim x [
            | refuse e ↦ refused (refusal e p)
            | accept cs ↦ elim (values.any_conflict ws ks heard cs)
                [ true ↦ refused (refusal 22 p) | false ↦ values.hear f n ws ks (heard ++ cs) is ]
          ]) ≡ true
      by (refuse e) h rest = h
      by (accept cs) h rest = free cs (values.any_conflict ws ks heard cs) rest

-- 12
held_in : (n room : ℕ) (x : Outcome (List ℕ)) → in_outcome x ≡ true → in_outcome (values.held n room x) ≡ true
unfolding values.held in_outcome
held_in n room (refused r) h = h
held_in n room (accepted cs) h = simp (outcome-cond, cond_same)

pub valuing-in : (s : List ℕ) (n : ℕ) (ws ks : List ℕ) → in_outcome (values.valuing s n ws ks) ≡ true
unfolding values.valuing
valuing-in s n ws ks =
    let f = values.form_of s in
    let is = values.items_of s in
    held_in n (min (length ws) (length ks)) (values.hear f n ws ks [] is) (hear-in f n ws ks [] is)

-- ---- writing, listing

item-by-in : (k : Sort) (t : Table) (s : List ℕ) (e : Entry) → in_checked (item_by k t s e) ≡ true
unfolding in_checked
item-by-in remark t s e = simp (checked-cond, cond_same)
item-by-in clause t s e = simp (checked-cond, cond_same)
item-by-in unknown t s e = refl
item-by-in (weighted k) t s e = simp (checked-cond, cond_same)
item-by-in (cardinality k) t s e = simp (checked-cond, cond_same)

item_in_lem : (t : Table) (s : List ℕ) (e : Entry) → in_checked (item_in t s e) ≡ true
unfolding item_in
item_in_lem t s e = item-by-in (sort_of e.kind) t s e

allowed-in : (m : Mode) (i : Item) → in_checked (allowed m i) ≡ true
unfolding row_allowed in_checked
allowed-in m (say t) = refl
allowed-in m (line r) = simp (checked-cond, cond_same)

written_in_lem : (m : Mode) (t : Table) (s : List ℕ) (e : Entry) → in_checked (written_in m t s e) ≡ true
unfolding written_in
written_in_lem m t s e = then-checked-in (allowed m) (allowed-in m) (item_in t s e) (item_in_lem t s e)

-- 14
fitted-text-in : (room : ℕ) (s : List ℕ) → in_outcome (fitted_text room s) ≡ true
unfolding in_outcome
fitted-text-in room s = simp (outcome-cond, cond_same)

text_in : (m : Mode) (room : ℕ) (x : Outcome (List Item)) → in_outcome x ≡ true → in_outcome (text_of m room x) ≡ true
unfolding in_outcome
text_in m room (refused r) h = h
text_in m room (accepted is) h = fitted-text-in room (joined (item_text m) is)

pub writing-in : (m : Mode) (t : Table) (s : List ℕ) (room : ℕ) → in_outcome (writing m t s room) ≡ true
unfolding writing
writing-in m t s room =
    text_in m room (row_by_row (written_in m t s) 0 (entries t)) (rows_in_lem (written_in m t s) (written_in_lem m t s) 0 (entries t))

-- 5
listed-line-in : (first : ℕ) (l : Line) → in_checked (listed_line first l) ≡ true
unfolding in_checked
listed-line-in first (comment f n b) = refl
listed-line-in first (row r) = simp (checked-cond, cond_same)

listed-entry-in : (first : ℕ) (t : Table) (e : Entry) → in_checked (listed_entry first t e) ≡ true
unfolding listed_entry
listed-entry-in first t e = then-checked-in (listed_line first) (listed-line-in first) (line_in t e) (line-in t e)

listed_in_lem : (first room : ℕ) (x : Outcome (List Line)) → in_outcome x ≡ true → in_outcome (listed_in first room x) ≡ true
unfolding in_outcome
listed_in_lem first room (refused r) h = h
listed_in_lem first room (accepted ls) h = fitted-text-in room (listing first (accepted ls))

pub listing-in : (first n : ℕ) (t : Table) (room : ℕ) → in_outcome (listing_table first n t room) ≡ true
unfolding listing_table
listing-in first n t room =
    let es = take n (entries t) in
    listed_in_lem first room (row_by_row (listed_entry first t) 0 es) (rows_in_lem (listed_entry first t) (listed-entry-in first t) 0 es)
