-- The second walk: what a row that is accepted asks for and leaves, and rows filled one after the other.
use mathlib.Core.Path.{◌≡◌, refl, sym, ap, ◌∙◌}
use mathlib.Core.List.{List, [], ◌∷◌, ◌++◌, map}
use Prim.Native.Nat.{ℕ, ◌+◌, ◌-◌, ◌≤◌, ◌<◌, min}
use native.Mathlib.Omega.{arith}
use borrow.Author.Tests.{leb-true}
use borrow.Rule.Slice.PartMut.{put_mid}
use Rattle.std.specs.Prelude.{Some, slice_get}
use lib.IntN.{ℤ, ◌+ℤ◌}
use mir.Syntax.{w64}
use mir.Val.{SFits}
use lib.ListN.{length, take, drop, set, length-map, length-drop}
use Rattle.definitions.specs.Lists.{joined}
use Rattle.definitions.specs.Refusal.{accept}
use Rattle.definitions.specs.Row.{weight_of, literal_of, Line, terms_of}
use Rattle.definitions.specs.Table.{Table, table, row_room, term_room, Outcome, accepted, entries, terms_on, terms_at, all_terms, filled}
use Rattle.definitions.specs.Table.{kind_in, first_in, count_in, bound_in}
use Rattle.definitions.specs.declared.Entry.{Entry}
use Rattle.definitions.specs.Normal.{normal_term, normal, normal_in}
use Rattle.definitions.specs.declared.Kind.{Kind}
use Rattle.definitions.proofs.Whole.{true-in}
use Rattle.columns.proofs.EntryLaws.{entries_from, entries-end}
use Rattle.tables.proofs.Entries.{entry-taken}
use Rattle.term_checks.proofs.Terms.{weights_at, literals_at, terms-at, weights-at-count, literals-at-count, terms-at-count}
use Rattle.columns.specs.Kinds.{read_kind}
use Rattle.shifts.specs.Shifts.{weight_rises, shift_by, shift_of}
use Rattle.shifts.proofs.Rises.{shift-whole}
use Rattle.normal_checks.specs.FirstWalk.{normal_of, normal_rows}
use Rattle.normal_checks.proofs.Checks.{normal-of}
use Rattle.normal_checks.proofs.Entries.{on, normal-bound, accepted-comment, ReadRow, accepted-row, kind-kept, count_kept}
use Rattle.normaliser.specs.Fill.{TermsFilled, TermsReady, RowReady, LineFilled, RowFilled, Ready}
use Rattle.normaliser.specs.declared.fill.Filled.{Filled}
use Rattle.definitions.proofs.Columns.{terms-snoc, rest_of, part-back, filled_none, Lengths, filled-lengths, filled_more}
use Rattle.definitions.proofs.Columns.{begins-length, begins-terms, Passed, passed_none, passed-all, passed-more, Next, passed-next}
use Rattle.definitions.proofs.Columns.{passed-begins}

-- ---- one row

module _ (ws : List ℤ) (cs : List ℕ) (e : Entry) (w₀ : List ℤ) (l₀ : List ℕ) where
  -- what is asked for a row of a read kind
  module _ (h : e.kind ≡ 0 → ⊥) (r : RowReady (normal_of e ws cs) w₀ l₀) where
    given : ReadRow ws cs e r.given r.accepts
    given = accepted-row ws cs e r.given r.accepts h

    pub row_within : e.first + e.count ≤ min (length ws) (length cs)
    row_within = leb-true (e.first + e.count) (min (length ws) (length cs)) given.inside

    pub row-ready : TermsReady (weights_at (on ws cs e) e) (literals_at (on ws cs e) e) w₀ l₀
    unfolding normal
    row-ready =
        let i = given.inside in
        let t = on ws cs e in
        let n : length (weights_at t e) ≡ e.count = weights-at-count t e i in
        let m : length (literals_at t e) ≡ e.count = literals-at-count t e i in
        let k : length (terms_of r.given) ≡ e.count =
        ap (λ (y : Line). length (terms_of y)) given.is ∙ length-map (terms_at t e) normal_term ∙ terms-at-count t e i in
        record {
          even = n ∙ sym m;
          small = given.small;
          weights = omega (arith, r.fits.weights);
          literals = omega (arith, r.fits.literals);
        }

    -- what the code adds to the bound is what the definition adds, and the sum is a bound
    pub bound-moved : (κ : Kind) (z : ℤ) → κ ≡ read_kind e.kind → z ≡ shift_of κ (weights_at (on ws cs e) e)
        → (z ≡ shift_by (read_kind e.kind) (weight_rises (weights_at (on ws cs e) e))) × SFits w64 (e.bound +ℤ z)
    bound-moved κ z p q =
        let m : z ≡ shift_by (read_kind e.kind) (weight_rises (weights_at (on ws cs e) e)) =
        q ∙ ap (λ (k : Kind). shift_of k (weights_at (on ws cs e) e)) p
        ∙ shift-whole (read_kind e.kind) (weights_at (on ws cs e) e) given.small in
        (m, rw m (true-in _ given.bounded))

  -- what is left
  module _ (m : ℕ) where
    pub filled-comment : e.kind ≡ 0 → RowFilled (normal_of e ws cs) m w₀ l₀ (record { first = e.first; bound = e.bound; terms = 0 }) w₀ l₀
    filled-comment k y a =
        rw (accepted-comment ws cs e y a k) (record {
          first = refl;
          bound = refl;
          terms = refl;
          filled = record { weights = refl; literals = refl };
        })

    pub filled_row : (e.kind ≡ 0 → ⊥) → (w : List ℤ) (l : List ℕ)
        → TermsFilled (map normal_term (terms_on (weights_at (on ws cs e) e) (literals_at (on ws cs e) e))) w₀ l₀ w l
        → RowFilled (normal_of e ws cs) m w₀ l₀ (record {
          first = m;
          bound = e.bound +ℤ shift_by (read_kind e.kind) (weight_rises (weights_at (on ws cs e) e));
          terms = e.count;
        }) w l
    unfolding normal
    filled_row h w l f y a =
        let g = accepted-row ws cs e y a h in
        let t = on ws cs e in
        rw g.is
        (record {
          first = refl;
          bound = sym (normal-bound ws cs e h g.known g.inside);
          terms = sym (length-map (terms_at t e) normal_term ∙ terms-at-count t e g.inside);
          filled = rw (terms-at t e) f;
        })

-- ---- rows one after the other

module _ (t o : Table) where
  -- i rows of t filled, with so many terms, into a table that was o
  pub record Filling (i term : ℕ) (x : Table) : Type 0 where
    pub pre : List Line
    pub passed : Passed (normal_in t) (entries t) i pre
    pub terms-are : term ≡ length (all_terms pre)
    pub now-is : x ≡ filled pre o

  pub filling-none : Filling 0 0 o
  unfolding joined
  filling-none = record { pre = []; passed = passed_none (normal_in t) (entries t); terms-are = refl; now-is = sym (filled_none o) }

  module _ (ready : Ready t o) (i term : ℕ) (x : Table) (f : Filling i term x) where
    pub filling-lengths : Lengths x o
    filling-lengths =
        let p = passed-begins (normal_in t) (entries t) i f.pre f.passed ready.given ready.accepts in
        rw f.now-is
        (filled-lengths f.pre o (omega (arith, begins-length f.pre ready.given p, ready.rows))
        (omega (arith, begins-terms f.pre ready.given p, ready.terms)))

    pub filling-all : row_room t ≤ i → (ls : List Line) → normal_rows t ≡ accepted ls → x ≡ filled ls o
    filling-all h ls e =
        f.now-is ∙ ap (λ (ys : List Line). filled ys o)
        (same (passed-all (normal_in t) (entries t) i f.pre f.passed (entries-end t i h)) e)
      where
        same : {q : Outcome (List Line)} {ys zs : List Line} → q ≡ accepted ys → q ≡ accepted zs → ys ≡ zs
        same a b = cc

    -- the row at i, with the entry e
    module _ (e : Entry) (g : slice_get (entries t) i ≡ Some e) where
      pub from : drop i (entries t) ≡ e ∷ drop (i + 1) (entries t)
      from = let k = entry-taken t i e g in rw k.1 (entries_from t i k.0)

      pub next : Next (normal_in t) (entries t) i f.pre f.passed e from ready.given ready.accepts
      next = passed-next (normal_in t) (entries t) i f.pre f.passed e from ready.given ready.accepts

      abbrev pub line : Line
      line = next.value

      pub line-accepted : normal_of e t.weights t.literals ≡ accept line
      line-accepted = sym (normal-of t e) ∙ next.accepts

      more : Passed (normal_in t) (entries t) (i + 1) (f.pre ++ (line ∷ []))
      more = passed-more (normal_in t) (entries t) i f.pre f.passed e from line next.accepts

      pub record Fit : Type 0 where
        pub rows : i < row_room o
        pub terms : term + length (terms_of line) ≤ term_room o

      pub filling-fit : Fit
      filling-fit =
          let p = passed-begins (normal_in t) (entries t) (i + 1) (f.pre ++ (line ∷ [])) more ready.given ready.accepts in
          record {
            rows = omega (arith, begins-length (f.pre ++ (line ∷ [])) ready.given p, more.count, ready.rows);
            terms =
                omega (arith, begins-terms (f.pre ++ (line ∷ [])) ready.given p, terms-snoc f.pre line, f.terms-are, ready.terms);
          }

      pub filling-ready : RowReady (normal_of e t.weights t.literals)
          (take (length x.weights - term) (drop term x.weights)) (take (length x.literals - term) (drop term x.literals))
      filling-ready =
          record {
            given = line;
            accepts = line-accepted;
            fits = rw (rest_of x.weights term, rest_of x.literals term)
                (record {
                  weights = omega (arith, length-drop term x.weights, filling-lengths.weights, filling-fit.terms);
                  literals = omega (arith, length-drop term x.literals, filling-lengths.literals, filling-fit.terms);
                });
          }

      pub filling-more : (r : Filled) (w : List ℤ) (l : List ℕ)
          → LineFilled line term (take (length x.weights - term) (drop term x.weights))
          (take (length x.literals - term) (drop term x.literals)) r w l
          → Filling (i + 1) (term + r.terms)
          (table (set x.kinds i e.kind) (set x.firsts i r.first) (set x.counts i e.count)
          (set x.bounds i r.bound) (put_mid term (length x.weights - term) x.weights w)
          (put_mid term (length x.literals - term) x.literals l))
      filling-more r w l d =
          rw (d.first, d.bound, d.terms)
          (by e.kind e.count (kind-kept t.weights t.literals e line line-accepted) (count_kept t.weights t.literals e line line-accepted))
        where
          by : (k n : ℕ) → kind_in line ≡ k → count_in line ≡ n
              → Filling (i + 1) (term + length (terms_of line))
              (table (set x.kinds i k) (set x.firsts i (first_in term line)) (set x.counts i n) (set x.bounds i (bound_in line))
              (put_mid term (length x.weights - term) x.weights w) (put_mid term (length x.literals - term) x.literals l))
          by k n p q =
              rw (← p, ← q)
              (record {
                pre = f.pre ++ (line ∷ []);
                passed = more;
                terms-are = omega (arith, terms-snoc f.pre line, f.terms-are);
                now-is = filled_more f.pre line o i term (sym f.passed.count) f.terms-are filling-fit.rows x _ _ f.now-is
                    (part-back x.weights (map weight_of (terms_of line)) w term d.filled.weights)
                    (part-back x.literals (map literal_of (terms_of line)) l term d.filled.literals);
              })
