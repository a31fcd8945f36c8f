-- What the second walk has filled of the six columns where it stands in the file, and what a statement adds: the loop
-- invariant of `fill_file` as a record.
use Rattle.std.specs.Prelude.{Option, Some, None, Result, Ok, Err}
use Prim.Native.Nat.{ℕ, ◌+◌, ◌-◌, ◌≤◌, ◌<◌}
use mathlib.Core.Path.{◌≡◌, refl, sym, ap, subst, ◌∙◌}
use mathlib.Core.List.{List, [], ◌∷◌, ◌++◌, map}
use native.Mathlib.Omega.{arith}
use borrow.Rule.Slice.PartMut.{put_mid}
use lib.ListN.{length, take, drop, set, length-append, length-drop, take-append-drop}
use lib.Seq.{take_all}
use lib.IntN.{ℤ}
use Rattle.definitions.specs.Lists.{over, joined}
use Rattle.definitions.specs.Walk.{Step, stop, bad, item, Walked, broken, items, walk, all}
use Rattle.definitions.specs.Row.{Term, weight_of, literal_of, Line, comment, row, terms_of}
use Rattle.definitions.specs.Stepping.{columns_room}
use Rattle.definitions.specs.Table.{Table, table, row_room, term_room, Outcome, accepted, kind_in, first_in, count_in, bound_in}
use Rattle.definitions.specs.Table.{firsts_from, all_terms, filled, after}
use Rattle.definitions.specs.Text.{statement, in_file}
use Rattle.definitions.specs.File.{statements, file, reading}
use Rattle.definitions.specs.declared.Entry.{Entry}
use Rattle.definitions.specs.declared.Options.{Options}
use Rattle.definitions.specs.declared.Refusal.{Refusal}
use Rattle.definitions.proofs.Columns.{rest_of, part-back, terms-snoc, Lengths, filled-lengths, filled_more, Begins, begins-length}
use Rattle.definitions.proofs.Columns.{begins-terms, fitted-accepted}
use Rattle.definitions.proofs.FileAnswers.{file-accepted}
use Rattle.definitions.proofs.Statements.{statement-moves}
use Rattle.definitions.proofs.Truths.{never}
use Rattle.definitions.proofs.Walks.{At, onto, at-start, at-stop, at-bad, at_item}
use Rattle.columns.specs.Entries.{entry_alone}
use Rattle.columns.specs.Kinds.{terms_of_kind, first_of_kind}
use Rattle.columns.proofs.EntryLaws.{kind-first, line-terms}
use Rattle.sums.specs.Walked.{TermsFilled}
use Rattle.statements.specs.Brief.{brief_step}
use Rattle.statements.specs.Met.{statement_met}
use Rattle.statements.specs.Said.{said_statement}
use Rattle.statements.specs.Walked.{StatementWalked}
use Rattle.statements.specs.declared.row.Line as code
use Rattle.statements.proofs.Briefs.{LineTold, line-told, terms-in-file}
use Rattle.statements.proofs.MetTerms.{statement-met, stop-met}
use Rattle.statements.proofs.Rows.{statement-first}

-- ---- the items before a place of a walk that reads well are the first of all
begins-by : {A : Type 0} (pre xs : List A) (n : ℕ) (o : Walked A) → items xs n ≡ onto pre o → Begins pre xs
begins-by pre xs n (broken r) e = never (cc)
begins-by pre xs n (items ys m) e = record { rest = ys; is = cc }

at-begins : {A : Type 0} (step : List ℕ → Step A) (place : ℕ → A → A) (s : List ℕ) (at : ℕ) (pre xs : List A) (n : ℕ)
    → At step place s at pre → all step place s ≡ items xs n → Begins pre xs
at-begins step place s at pre xs n w e = begins-by pre xs n (walk step place (drop at s) 0 at) (sym e ∙ w.split)

never-broken : {A : Type 0} {x : Walked A} {r : _} {xs : List A} {n : ℕ} → x ≡ broken r → x ≡ items xs n → ⊥
never-broken p q = never (cc)

-- ---- a file that reads well into a table has its lines, and the table room for them
pub record Good (o : Options) (s : List ℕ) (t : Table) : Type 0 where
  pub given : List Line
  pub taken : ℕ
  pub reads : statements o s ≡ items given taken
  pub rows : length given ≤ row_room t
  pub terms : length (all_terms given) ≤ term_room t
  pub read : reading o s t ≡ accepted given

pub good_of : (o : Options) (s : List ℕ) (t : Table) (ls : List Line) → reading o s t ≡ accepted ls → Good o s t
unfolding reading
good_of o s t ls e =
    let f = fitted-accepted t (file o s) ls e in
    let w = file-accepted o s ls f.accepts in
    record { given = ls; taken = w.end; reads = w.found; rows = f.rows; terms = f.terms; read = e }

-- ---- what stands in the columns for one line

-- a line at an offset of the file, behind so many terms, and the entry that the code was told of it
pub record Cells (at before : ℕ) (l : Line) (x : Entry) : Type 0 where
  pub kind : x.kind ≡ kind_in (in_file at l)
  pub first : first_of_kind x.kind (at + x.first) before ≡ first_in before (in_file at l)
  pub count : x.count ≡ count_in (in_file at l)
  pub bound : x.bound ≡ bound_in (in_file at l)
  pub terms : terms_of_kind x.kind x.count ≡ length (terms_of l)

line-cells : (at before : ℕ) (l : Line) → Cells at before l (entry_alone l)
line-cells at before (comment f n b) = record { kind = refl; first = refl; count = refl; bound = refl; terms = refl }
line-cells at before (row r) =
    record { kind = refl; first = kind-first r.kind (at + 0) before; count = refl; bound = refl; terms = line-terms (row r) }

told-cells : (at before : ℕ) (x : Step Line) (y : Entry) (m : ℕ) (t : LineTold x y m) → Cells at before t.line y
told-cells at before x y m t = subst (λ (z : Entry). Cells at before t.line z) (sym t.told) (line-cells at before t.line)

-- put into the four columns of rows
set-cells : (t : Table) (nth at term : ℕ) (l : Line) (y : Entry) (w : List ℤ) (c : List ℕ) → Cells at term l y
    → table (set t.kinds nth y.kind) (set t.firsts nth (first_of_kind y.kind (at + y.first) term))
    (set t.counts nth y.count) (set t.bounds nth y.bound) w c
    ≡ table (set t.kinds nth (kind_in (in_file at l))) (set t.firsts nth (first_in term (in_file at l)))
    (set t.counts nth (count_in (in_file at l))) (set t.bounds nth (bound_in (in_file at l))) w c
set-cells t nth at term l y w c e =
    λ x. table (set t.kinds nth (e.kind x)) (set t.firsts nth (e.first x)) (set t.counts nth (e.count x))
    (set t.bounds nth (e.bound x)) w c

-- ---- where the walk stands

-- an answer that is no line
no_line : (r : Result (Option code.Line) Refusal) → ((x : code.Line) → r ≡ Ok (Some x) → ⊥) → (l : Entry) (m : ℕ) → said_statement r ≡ item l m → ⊥
no_line (Ok None) k l m e = never (cc)
no_line (Ok (Some x)) k l m e = k x refl
no_line (Err r) k l m e = never (cc)

-- the terms of a statement that is a line
abbrev step_terms : Step Line → List Term
step_terms stop = []
step_terms (bad r) = []
step_terms (item l n) = terms_of l

module _ (o : Options) (s : List ℕ) (t₀ : Table) where
  -- at an offset: the lines before it, how many they and their terms are, and that just these are filled
  pub record Fills (at nth term : ℕ) (t : Table) : Type 0 where
    pub pre : List Line
    pub stands : At (statement o) in_file s at pre
    pub rows : nth ≡ length pre
    pub terms : term ≡ length (all_terms pre)
    pub is : t ≡ filled pre t₀

  pub fills-start : Fills 0 0 0 t₀
  unfolding joined firsts_from filled
  fills-start = record { pre = []; stands = at-start (statement o) in_file s; rows = refl; terms = refl; is = refl }

  module _ (ready : Good o s t₀) (at nth term : ℕ) (t : Table) (i : Fills at nth term t) where
    reads : all (statement o) in_file s ≡ items ready.given ready.taken
    unfolding statements
    reads = ready.reads

    begins : Begins i.pre ready.given
    begins = at-begins (statement o) in_file s at i.pre ready.given ready.taken i.stands reads

    rows-room : length i.pre ≤ row_room t₀
    rows-room = omega (arith, begins-length i.pre ready.given begins, ready.rows)

    terms-room : length (all_terms i.pre) ≤ term_room t₀
    terms-room = omega (arith, begins-terms i.pre ready.given begins, ready.terms)

    -- the columns are as long as they were, and have room for what was filled
    pub fills-lengths : Lengths t t₀
    fills-lengths = rw i.is (filled-lengths i.pre t₀ rows-room terms-room)

    pub fills-heavy : term ≤ length t₀.weights
    fills-heavy = omega (arith, i.terms, terms-room)

    pub fills-known : term ≤ length t₀.literals
    fills-known = omega (arith, i.terms, terms-room)

    -- a statement of m bytes
    module _ (l : Line) (m : ℕ) (e : statement o (drop at s) ≡ item l m) where
      moved : At (statement o) in_file s (at + m) (i.pre ++ (in_file at l ∷ []))
      moved = at_item (statement o) in_file (statement-moves o) s at i.pre i.stands l m e

      terms-moved : length (all_terms (i.pre ++ (in_file at l ∷ []))) ≡ term + length (terms_of l)
      terms-moved =
          omega (
            arith,
            terms-snoc i.pre (in_file at l),
            ap length (terms-in-file at l),
            i.terms,
          )

      pub record Room : Type 0 where
        pub rows : nth < row_room t₀
        pub terms : term + length (terms_of l) ≤ term_room t₀

      pub fills-room : Room
      fills-room =
          let p : Begins (i.pre ++ (in_file at l ∷ [])) ready.given =
          at-begins (statement o) in_file s (at + m) (i.pre ++ (in_file at l ∷ [])) ready.given ready.taken moved reads in
          record {
            rows =
                omega (
                  arith,
                  begins-length (i.pre ++ (in_file at l ∷ [])) ready.given p,
                  length-append i.pre (in_file at l ∷ []),
                  i.rows,
                  ready.rows,
                );
            terms = omega (arith, begins-terms (i.pre ++ (in_file at l ∷ [])) ready.given p, terms-moved, ready.terms);
          }

    -- none is refused
    good : (r : Refusal) → statement o (drop at s) ≡ bad r → ⊥
    good r e = never-broken (at-bad (statement o) in_file (statement-moves o) s at i.pre i.stands r e) reads

    -- the next statement has filled the parts from `term` on
    module _ (r : Result (Option code.Line) Refusal) (w : List ℤ) (c : List ℕ)
        (left : StatementWalked o (drop at s) (drop term t.weights) (drop term t.literals) r w c) where
      -- its terms, all of them: there is room
      left-filled : TermsFilled (step_terms (statement o (drop at s))) (drop term t.weights) (drop term t.literals) w c
      left-filled =
          subst (λ (ts : List Term). TermsFilled ts (drop term t.weights) (drop term t.literals) w c)
          (by (statement o (drop at s)) refl) left.filled
        where
          met : (ts : List Term) → statement_met o (drop at s) ≡ ts
              → length ts ≤ columns_room (drop term t.weights) (drop term t.literals)
              → take (columns_room (drop term t.weights) (drop term t.literals)) (statement_met o (drop at s)) ≡ ts
          met ts e h = rw e (take_all (columns_room (drop term t.weights) (drop term t.literals)) ts h)

          by : (x : Step Line) → statement o (drop at s) ≡ x
              → take (columns_room (drop term t.weights) (drop term t.literals)) (statement_met o (drop at s)) ≡ step_terms x
          by stop e = met [] (stop-met o (drop at s) e) (omega arith)
          by (bad r) e = absurd (good r e)
          by (item l m) e =
              let q = fills-room l m e in
              let n = fills-lengths in
              met (terms_of l) (statement-met o (drop at s) l m e)
              (omega (arith, length-drop term t.weights, length-drop term t.literals))

      abbrev pub weights' : List ℤ
      weights' = put_mid term (length t.weights - term) t.weights w

      abbrev pub literals' : List ℕ
      literals' = put_mid term (length t.literals - term) t.literals c

      -- the two columns as they come back
      back : {A : Type 0} (f : Term → A) (ts : List Term) (l v : List A) → step_terms (statement o (drop at s)) ≡ ts
          → v ≡ over (map f (step_terms (statement o (drop at s)))) (drop term l)
          → put_mid term (length l - term) l v ≡ take term l ++ over (map f ts) (drop term l)
      back f ts l v e q =
          part-back l (map f ts) v term
          (q ∙ ap (λ (x : List Term). over (map f x) (drop term l)) e ∙ ap (over (map f ts)) (sym (rest_of l term)))

      -- no line follows
      pub fills-done : ((x : code.Line) → r ≡ Ok (Some x) → ⊥)
          → table t.kinds t.firsts t.counts t.bounds weights' literals' ≡ after (reading o s t₀) t₀
      unfolding filled statements after
      fills-done k = by (statement o (drop at s)) refl
        where
          by : (x : Step Line) → statement o (drop at s) ≡ x
              → table t.kinds t.firsts t.counts t.bounds weights' literals' ≡ after (reading o s t₀) t₀
          by stop e =
              let p : weights' ≡ t.weights =
              back weight_of [] t.weights w (ap step_terms e) left-filled.weights ∙ take-append-drop term t.weights in
              let q : literals' ≡ t.literals =
              back literal_of [] t.literals c (ap step_terms e) left-filled.literals ∙ take-append-drop term t.literals in
              ap (λ (v : List ℤ). table t.kinds t.firsts t.counts t.bounds v literals') p
              ∙ ap (λ (v : List ℕ). table t.kinds t.firsts t.counts t.bounds t.weights v) q ∙ i.is
              ∙ ap (λ (l : List Line). filled l t₀) whole ∙ ap (λ (x : Outcome (List Line)). after x t₀) (sym ready.read)
            where
              whole : i.pre ≡ ready.given
              whole =
                  let z : items i.pre at ≡ items ready.given ready.taken =
                  sym (at-stop (statement o) in_file (statement-moves o) s at i.pre i.stands e) ∙ reads in
                  cc
          by (bad r) e = absurd (good r e)
          by (item l m) e = absurd (no_line r k (entry_alone l) m (left.answer ∙ ap brief_step e))

      -- a line of m bytes
      module _ (y : Entry) (m : ℕ) (e : item y m ≡ said_statement r) where
        told : LineTold (statement o (drop at s)) y m
        told = line-told (statement o (drop at s)) y m (e ∙ left.answer)

        cells : Cells at term told.line y
        cells = told-cells at term (statement o (drop at s)) y m told

        room : Room told.line m told.is
        room = fills-room told.line m told.is

        pub record LineMoves : Type 0 where
          pub least : 0 < m
          pub most : at + m ≤ length s
          pub first : at + y.first ≤ length s
          pub rows : nth < row_room t₀
          pub terms : term + terms_of_kind y.kind y.count ≤ term_room t₀

        pub fills-moves : LineMoves
        fills-moves =
            record {
              least = (statement-moves o).least (drop at s) told.line m told.is;
              most = (moved told.line m told.is).within;
              first =
                  omega (
                    arith,
                    ap (λ (x : Entry). x.first) told.told,
                    statement-first o (drop at s) told.line m told.is,
                    length-drop at s,
                    i.stands.within,
                  );
              rows = room.rows;
              terms = omega (arith, room.terms, cells.terms);
            }

        pub fills-more : Fills (at + m) (nth + 1) (term + terms_of_kind y.kind y.count)
            (table (set t.kinds nth y.kind) (set t.firsts nth (first_of_kind y.kind (at + y.first) term))
            (set t.counts nth y.count)
            (set t.bounds nth y.bound) weights' literals')
        fills-more =
            let l = told.line in
            let p = in_file at l in
            let ts : step_terms (statement o (drop at s)) ≡ terms_of p = ap step_terms told.is ∙ sym (terms-in-file at l) in
            record {
              pre = i.pre ++ (p ∷ []);
              stands = moved l m told.is;
              rows = omega (arith, length-append i.pre (p ∷ []), i.rows);
              terms = omega (arith, terms-moved l m told.is, cells.terms);
              is = set-cells t nth at term l y weights' literals' cells
                  ∙ filled_more i.pre p t₀ nth term i.rows i.terms room.rows t weights' literals' i.is
                  (back weight_of (terms_of p) t.weights w ts left-filled.weights)
                  (back literal_of (terms_of p) t.literals c ts left-filled.literals);
            }
