-- What the public entry answers and leaves: what the first walk counted, held against the room, is what `reading` says.
use Rattle.std.specs.Prelude.{Result, Err}
use Prim.Native.Nat.{ℕ, ◌≤◌}
use mathlib.Core.Path.{◌≡◌, refl, sym, ap, ◌∙◌}
use mathlib.Core.Bool.{Bool, true, false, cond}
use mathlib.Core.List.{List, [], ◌∷◌}
use native.Mathlib.Omega.{arith}
use lib.Dec.{leb}
use lib.ListN.{length, length-append}
use Rattle.definitions.specs.Answers.{said_counted}
use Rattle.definitions.specs.Limits.{file_limit}
use Rattle.definitions.specs.Lists.{joined, total}
use Rattle.definitions.specs.Refusal.{refusal, needed}
use Rattle.definitions.specs.Walk.{items, all}
use Rattle.definitions.specs.Row.{Line, terms_of}
use Rattle.definitions.specs.Table.{Table, row_room, term_room, Outcome, refused, accepted, all_terms, fitted, totals_of, counted, after}
use Rattle.definitions.specs.Text.{statement, in_file}
use Rattle.definitions.specs.File.{statements, file, reading}
use Rattle.definitions.specs.declared.Options.{Options}
use Rattle.definitions.specs.declared.Refusal.{Refusal}
use Rattle.definitions.specs.declared.Totals.{Totals}
use Rattle.definitions.proofs.FileAnswers.{file-accepted}
use Rattle.definitions.proofs.Truths.{never}
use Rattle.definitions.proofs.Walks.{all-ended, all-summed, total-one}
use Rattle.definitions.proofs.Statements.{statement-moves, statement-taken}
use Rattle.counts.specs.Fitted.{fitted_totals}
use Rattle.reader.specs.Reads.{Ready, Reads}
use Rattle.statements.proofs.Briefs.{terms-in-file}

-- ---- a file has no more rows, and no more terms, than bytes

total-terms : (ls : List Line) → total (λ (l : Line). length (terms_of l)) ls ≡ length (all_terms ls)
unfolding total joined
total-terms [] = refl
total-terms (l ∷ ls) = let e = total-terms ls in omega (arith, length-append (terms_of l) (all_terms ls))

module _ (o : Options) (s : List ℕ) (ls : List Line) (n : ℕ) (e : statements o s ≡ items ls n) where
  all-is : all (statement o) in_file s ≡ items ls n
  unfolding statements
  all-is = e

  ends-within : n ≤ length s
  ends-within = (all-ended (statement o) in_file (λ _. Unit {0}) (λ _ _ _ _ _. tt) s ls n all-is).0

  few-rows : length ls ≤ length s
  few-rows =
      omega (
        arith,
        ends-within,
        total-one ls,
        all-summed (statement o) in_file (statement-moves o) (λ _. 1) (λ t l m at i. (statement-moves o).least t l m i) s ls n all-is,
      )

  few-terms : length (all_terms ls) ≤ length s
  few-terms =
      omega (
        arith,
        ends-within,
        total-terms ls,
        all-summed (statement o) in_file (statement-moves o) (λ (l : Line). length (terms_of l))
            (λ t l m at i. omega (arith, (statement-taken o t l m i).terms, ap length (terms-in-file at l))) s ls n all-is,
      )

needed-small : (n : ℕ) → n ≤ file_limit → needed n ≡ n
unfolding needed
needed-small n h = omega arith

-- ---- held against the room

needed-counts : (rows terms : Bool) (ls : List Line) (n m : ℕ) → n ≡ length ls → m ≡ length (all_terms ls)
    → cond rows (cond terms (accepted (totals_of (length ls) (length (all_terms ls)))) (refused (refusal 10 (length (all_terms ls)))))
    (refused (refusal 9 (length ls)))
    ≡ counted (cond rows (cond terms (accepted ls) (refused (refusal 10 m))) (refused (refusal 9 n)))
needed-counts true true ls n m p q = refl
needed-counts true false ls n m p q = ap (λ (k : ℕ). refused (refusal 10 k)) (sym q)
needed-counts false terms ls n m p q = ap (λ (k : ℕ). refused (refusal 9 k)) (sym p)

module _ (o : Options) (s : List ℕ) (t : Table) where
  fitted-is : fitted_totals (row_room t) (term_room t) (counted (file o s)) ≡ counted (reading o s t)
  unfolding reading fitted
  fitted-is = by (file o s) refl
    where
      by : (x : Outcome (List Line)) → file o s ≡ x → fitted_totals (row_room t) (term_room t) (counted x) ≡ counted (fitted t x)
      by (refused r) e = refl
      by (accepted ls) e =
          let f = file-accepted o s ls e in
          needed-counts (leb (length ls) (row_room t)) (leb (length (all_terms ls)) (term_room t)) ls (needed (length ls))
          (needed (length (all_terms ls)))
          (needed-small (length ls) (omega (arith, f.within, few-rows o s ls f.end f.found)))
          (needed-small (length (all_terms ls)) (omega (arith, f.within, few-terms o s ls f.end f.found)))

  pub reading-said : (x y : Result Totals Refusal) → said_counted y ≡ fitted_totals (row_room t) (term_room t) (said_counted x)
      → said_counted x ≡ counted (file o s)
      → said_counted y ≡ counted (reading o s t)
  reading-said x y e q = e ∙ ap (fitted_totals (row_room t) (term_room t)) q ∙ fitted-is

  -- a refusal leaves the table as it was
  pub read-refused : (r : Refusal) → refused r ≡ counted (reading o s t) → Reads o s t (Err r) t
  unfolding after
  read-refused r e = record { answer = e; after = by (reading o s t) refl }
    where
      by : (x : Outcome (List Line)) → reading o s t ≡ x → t ≡ after (reading o s t) t
      by (refused z) q = ap (λ (x : Outcome (List Line)). after x t) (sym q)
      by (accepted ls) q = let z : refused r ≡ accepted _ = e ∙ ap counted q in never (cc)

  pub ready : (n : Totals) → accepted n ≡ counted (reading o s t) → Ready o s t
  ready n e = by (reading o s t) refl
    where
      by : (x : Outcome (List Line)) → reading o s t ≡ x → Ready o s t
      by (refused z) q = let y : accepted n ≡ refused z = e ∙ ap counted q in never (cc)
      by (accepted ls) q = record { given = ls; reads = q }

  -- a file that is refused is refused before any room is looked at, and leaves the table as it was
  pub refused-first : (r : Refusal) → counted (file o s) ≡ refused r → reading o s t ≡ refused r
  unfolding reading fitted
  refused-first r e = by (file o s) refl
    where
      by : (x : Outcome (List Line)) → file o s ≡ x → fitted t (file o s) ≡ refused r
      by (refused z) q = rw (q) cc
      by (accepted ls) q = let y : accepted _ ≡ refused r = sym (ap counted q) ∙ e in never (cc)

  pub refused-after : (r : Refusal) → after (refused r) t ≡ t
  unfolding after
  refused-after r = refl

-- what a refused file comes to
pub ruleset by_file = (refused-first, refused-after)
