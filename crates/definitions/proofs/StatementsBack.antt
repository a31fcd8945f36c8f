-- Is a statement's text read as the statement? Rows and comments, whatever stands behind them.
use Prim.Native.Nat.{ℕ, suc, ◌+◌, ◌-◌}
use mathlib.Core.Path.{◌≡◌, refl, ap, ◌∙◌}
use mathlib.Core.Bool.{Bool, true, false, cond, not, ◌&&◌}
use mathlib.Core.List.{List, [], ◌∷◌, ◌++◌, append_assoc}
use native.Mathlib.Omega.{arith}
use native.Mathlib.Nat.{zero-add}
use borrow.Author.Tests.{not-true}
use lib.Dec.{eqb}
use lib.ListN.{length, drop, length-append}
use lib.IntN.{pos}
use Rattle.definitions.specs.Bytes.{is_at, blanks, line_ending, until_ending, class_of, lf, cr, space, star, letter_m}
use Rattle.definitions.specs.Reader.{chain}
use Rattle.definitions.specs.Walk.{item}
use Rattle.definitions.specs.Row.{Row, comment, row}
use Rattle.definitions.specs.Text.{begins_term, constraint, goal, space_after, remark, as_line, after_blanks, statement_at, statement}
use Rattle.definitions.specs.Write.{one_line, remark_text}
use Rattle.definitions.specs.Back.{without_cr}
use Rattle.definitions.specs.declared.Options.{Options}
use Rattle.definitions.proofs.Truths.{one_truth, both}
use Rattle.definitions.proofs.Texts.{digit-or-sign-begins}
use Rattle.definitions.proofs.Readback.{Reads, reads_end, reads-done, begun-no-blank}

module _ (o : Options) where
  -- ---- rows

  begun-is-constraint : (s : List ℕ) → begins_term s ≡ true → statement o s ≡ after_blanks 0 (chain (constraint o) as_line s)
  unfolding statement statement_at begins_term
  begun-is-constraint [] e = absurd (one_truth false e refl)
  begun-is-constraint (b ∷ s) e = rw (begun-no-blank (b ∷ s) e) (rw (digit-or-sign-begins b e))

  pub constraint-statement : (x rest : List ℕ) (r : Row) → begins_term (x ++ rest) ≡ true → Reads (constraint o) x rest r
      → statement o (x ++ rest) ≡ item (row r) (length x)
  constraint-statement x rest r e c =
      begun-is-constraint (x ++ rest) e ∙ ap (after_blanks 0) (reads_end as_line x c (reads-done (row r) rest)).reads
      ∙ ap (item (row r)) (zero-add (length x))

  pub goal-statement : (x rest : List ℕ) (r : Row) → Reads (goal o) (letter_m ∷ x) rest r
      → statement o ((letter_m ∷ x) ++ rest) ≡ item (row r) (length (letter_m ∷ x))
  unfolding statement statement_at blanks class_of
  goal-statement x rest r c =
      ap (after_blanks 0) (reads_end as_line (letter_m ∷ x) c (reads-done (row r) rest)).reads
      ∙ ap (item (row r)) (zero-add (length (letter_m ∷ x)))

-- ---- comments: where a line without an LF in it ends

-- a byte that begins no line ending is passed
until-past : (b : ℕ) (s : List ℕ) → line_ending (b ∷ s) ≡ 0 → until_ending (b ∷ s) ≡ suc (until_ending s)
unfolding until_ending
until-past b s e = rw (e, until_ending)

no-ending : (b c : ℕ) (s : List ℕ) → eqb b lf ≡ false → eqb c lf ≡ false → line_ending (b ∷ c ∷ s) ≡ 0
unfolding line_ending is_at
no-ending b c s e f = rw (e, f) (by (eqb b cr))
  where
    by : (t : Bool) → ◌≡◌ {A = ℕ} (cond (t && false) 2 0) 0
    by true = refl
    by false = refl

-- all of y and the LF
record Ends (y rest : List ℕ) : Type 0 where
  until : until_ending (y ++ (lf ∷ rest)) ≡ length (without_cr y)
  all : until_ending (y ++ (lf ∷ rest)) + line_ending (drop (until_ending (y ++ (lf ∷ rest))) (y ++ (lf ∷ rest))) ≡ length y + 1

ends_more : (b c : ℕ) (y rest : List ℕ) → eqb b lf ≡ false → eqb c lf ≡ false → Ends (c ∷ y) rest → Ends (b ∷ c ∷ y) rest
unfolding without_cr
ends_more b c y rest n k t =
    let p = until-past b (c ∷ (y ++ (lf ∷ rest))) (no-ending b c (y ++ (lf ∷ rest)) n k) in
    record { until = p ∙ ap suc t.until; all = rw p (omega (arith, t.all)) }

line-ends : (y rest : List ℕ) → one_line y ≡ true → Ends y rest
unfolding one_line
line-ends [] rest e = unfold until_ending line_ending without_cr in record { until = refl; all = refl }
line-ends (b ∷ []) rest e = unfold until_ending line_ending without_cr is_at in by (eqb b cr) refl
  where
    clear : eqb b lf ≡ false
    clear = not-true (eqb b lf) (both (not (eqb b lf)) true e).0

    by : (t : Bool) → eqb b cr ≡ t → Ends (b ∷ []) rest
    by true q = unfold until_ending line_ending without_cr is_at in record {
      until = rw (clear, q, until_ending);
      all = rw (clear, q, until_ending, clear, q);
    }
    by false q = unfold until_ending line_ending without_cr is_at in record {
      until = rw (clear, q, until_ending);
      all = rw (clear, q, until_ending);
    }
line-ends (b ∷ c ∷ y) rest e =
    let h = both (not (eqb b lf)) (one_line (c ∷ y)) e in
    ends_more b c y rest (not-true (eqb b lf) h.0) (not-true (eqb c lf) (both (not (eqb c lf)) (one_line y) h.1).0)
    (line-ends (c ∷ y) rest h.1)

-- `*`, a text and an LF
pub reads-comment : (y rest : List ℕ) → one_line y ≡ true
    → Reads remark (star ∷ (y ++ (lf ∷ []))) rest
    (comment (1 + space_after (y ++ (lf ∷ rest))) (length (without_cr y) - space_after (y ++ (lf ∷ rest))) (pos 0))
unfolding remark
reads-comment y rest e =
    let t = line-ends y rest e in
    let n : 1 + length (without_cr y) + line_ending (drop (length (without_cr y)) (y ++ (lf ∷ rest))) ≡ length (star ∷ (y ++ (lf ∷ [])))
    = omega (arith, rw t.until at t.all, length-append y (lf ∷ [])) in
    record { reads = rw (append_assoc y (lf ∷ []) rest, t.until, n) }

pub comment-statement : (o : Options) (y rest : List ℕ) → one_line y ≡ true
    → statement o ((star ∷ (y ++ (lf ∷ []))) ++ rest)
    ≡ item (comment (1 + space_after (y ++ (lf ∷ rest))) (length (without_cr y) - space_after (y ++ (lf ∷ rest))) (pos 0))
    (length (star ∷ (y ++ (lf ∷ []))))
unfolding statement statement_at blanks class_of
comment-statement o y rest e =
    let k = 1 + space_after (y ++ (lf ∷ rest)) in
    let n = length (without_cr y) - space_after (y ++ (lf ∷ rest)) in
    ap (after_blanks 0) (reads-comment y rest e).reads ∙ rw (zero-add k, zero-add (length (star ∷ (y ++ (lf ∷ [])))))

-- a space in front is a byte of the line more
pub space-longer : (t : List ℕ) → length (without_cr (space ∷ t)) - 1 ≡ length (without_cr t)
unfolding without_cr
space-longer [] = refl
space-longer (b ∷ t) = omega arith

-- a comment as it is written, with a space behind the `*`
pub remark-statement : (o : Options) (t rest : List ℕ) → one_line t ≡ true
    → statement o (remark_text t ++ rest) ≡ item (comment 2 (length (without_cr t)) (pos 0)) (length (remark_text t))
unfolding remark_text is_at one_line
remark-statement o t rest e =
    comment-statement o (space ∷ t) rest e ∙ ap (λ (n : ℕ). item (comment 2 n (pos 0)) (length (remark_text t))) (space-longer t)
