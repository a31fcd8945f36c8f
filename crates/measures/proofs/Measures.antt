-- What the first walk says of a row is what the definitions say: its refusals in their order, or what its line comes
-- to.
use mathlib.Core.Path.{◌≡◌, refl, sym, ap, ap₂, ◌∙◌}
use mathlib.Core.Bool.{Bool, true, false, cond, not, ◌&&◌}
use mathlib.Core.List.{List}
use Prim.Native.Nat.{ℕ, zero, suc, ◌+◌}
use native.Mathlib.Omega.{arith}
use borrow.Author.Tests.{ne_eqb, le-leb}
use lib.Dec.{leb, eqb}
use lib.IntN.{ℤ}
use lib.ListN.{length, length-map}
use Rattle.std.specs.Prelude.{Option, Some, None, Err}
use Rattle.std.specs.Option.{ok_or}
use Rattle.definitions.specs.Refusal.{Checked, refuse, accept, needed}
use Rattle.definitions.specs.Row.{Term, Row}
use Rattle.definitions.specs.Table.{indexed, terms_on}
use Rattle.definitions.specs.Write.{row_text, printed, line, item_text, weighs, has_terms, numbered, bounded, row_allowed}
use Rattle.definitions.specs.Back.{lines_back}
use Rattle.definitions.specs.declared.Mode.{Mode}
use Rattle.definitions.specs.declared.Kind.{Kind}
use Rattle.definitions.specs.declared.Kind.TheVariants.{AtLeast as at_least, AtMost as at_most, Equal as equal, Objective as objective}
use Rattle.definitions.proofs.Truths.{both, never}
use Rattle.term_checks.proofs.Terms.{terms-count}
use Rattle.shown.specs.declared.terms.Style.{Style}
use Rattle.measures.specs.declared.terms.Tally.{Tally}
use Rattle.printed.specs.declared.kinds.Shape.{Shape}
use Rattle.printed.specs.Kinds.{style_of}
use Rattle.shown.specs.Terms.{own_term, own_terms, terms_text}
use Rattle.shown.specs.Sums.{no_sums, summed}
use Rattle.measures.specs.Tallies.{no_tally, tallied}
use Rattle.printed.specs.Bounds.{printed_bound}
use Rattle.printed.specs.Rows.{row_on}
use Rattle.measures.specs.Rows.{measured, row_measured, frame_text, lacks_terms, framed, counted_length}
use Rattle.measures.proofs.TallyLaws.{counted, tallied-is, counted-sums, counted-numbered, counted-length}
use Rattle.printed.proofs.PrintedRows.{bound-by-sums}
use Rattle.measures.proofs.Frames.{row-text-length}

-- an error that stands for None
pub refused-by : {A E : Type 0} (o : Option A) (e f : E) → Err f ≡ ok_or o e → (o ≡ None) × (f ≡ e)
refused-by None e f h = (refl, cc)
refused-by (Some x) e f h = never cc

-- ---- the order of refusals, as the code asks

module _ (s : Shape) (n : ℕ) (t : Tally) where
  pub counted-lacking : lacks_terms s.kind n ≡ true → refuse 13 ≡ counted_length s n t
  unfolding counted_length
  counted-lacking l = rw l

  module _ (l : lacks_terms s.kind n ≡ false) where
    pub counted-unnumbered : t.numbered ≡ false → refuse 5 ≡ counted_length s n t
    unfolding counted_length
    counted-unnumbered b = rw (l, b)

    pub counted-framed : (r : Checked ℤ) → t.numbered ≡ true → r ≡ printed_bound s.kind s.bound t.sums.total t.sums.fall
        → framed s.kind t.length n r ≡ counted_length s n t
    unfolding counted_length
    counted-framed r b e = rw (l, b, e)

-- ---- the row

own-count : (unit : Bool) (ws : List ℤ) (cs : List ℕ) → length ws ≡ length cs → length (own_terms unit ws cs) ≡ length cs
own-count unit ws cs h = omega (arith, length-map (terms_on ws cs) (own_term unit), terms-count ws cs)

-- both sides of a test
cond-accepted : {A : Type 0} (b : Bool) (x y : A) → cond b (accept x) (refuse 11) ≡ accept y → (b ≡ true) × (x ≡ y)
cond-accepted true x y e = (refl, cc)
cond-accepted false x y e = let z : ◌≡◌ {A = ℕ} 0 1 = cc in absurd (omega arith)

cond-refused : {A : Type 0} (b : Bool) (x : A) → cond b (accept x) (refuse 11) ≡ refuse 11 → b ≡ false
cond-refused true x e = let z : ◌≡◌ {A = ℕ} 0 1 = cc in absurd (omega arith)
cond-refused false x e = refl

none_is : (n : ℕ) → eqb n 0 ≡ not (leb 1 n)
none_is zero = refl
none_is (suc n) = rw (ne_eqb (suc n) 0 (λ e. omega arith), le-leb 1 (suc n) (omega arith))

lacks-is : (k : Kind) (ts : List Term) (n : ℕ) → length ts ≡ n → lacks_terms k n ≡ not (has_terms k ts)
lacks-is at_least ts n e = rw (← e) (none_is (length ts))
lacks-is at_most ts n e = rw (← e) (none_is (length ts))
lacks-is equal ts n e = rw (← e) (none_is (length ts))
lacks-is objective ts n e = refl

module _ (shape : Shape) (ws : List ℤ) (cs : List ℕ) (long : length ws ≡ length cs) (m : Mode) where
  abbrev style : Style
  style = style_of shape m

  abbrev terms : List Term
  terms = own_terms shape.unit ws cs

  abbrev whole : Row
  whole = row_on shape ws cs

  pub measured-refused : refuse 11 ≡ tallied style no_tally terms → refuse 11 ≡ row_measured m whole
  unfolding row_measured
  measured-refused e =
      rw (cond-refused (indexed terms && weighs terms) (counted style no_tally terms) (sym (tallied-is style no_tally terms) ∙ sym e))

  module _ (t : Tally) (e : accept t ≡ tallied style no_tally terms) where
    lawful-all : (indexed terms && weighs terms ≡ true) × (counted style no_tally terms ≡ t)
    lawful-all =
        cond-accepted (indexed terms && weighs terms) (counted style no_tally terms) t (sym (tallied-is style no_tally terms) ∙ sym e)

    sums-are : t.sums ≡ summed style no_sums terms
    sums-are = ap (λ (x : Tally). x.sums) (sym lawful-all.1) ∙ counted-sums style no_tally terms

    numbered_is : t.numbered ≡ numbered m.first terms
    numbered_is = ap (λ (x : Tally). x.numbered) (sym lawful-all.1) ∙ counted-numbered style no_tally terms

    length-is : numbered m.first terms ≡ true → t.length ≡ needed (0 + length (terms_text style terms))
    length-is n = ap (λ (x : Tally). x.length) (sym lawful-all.1) ∙ counted-length style no_tally terms (omega arith) n

    within-line : numbered m.first terms ≡ true → (b : Bool)
        → framed shape.kind t.length (length cs) (cond b (accept (printed m.plain whole).bound) (refuse 8))
        ≡ measured m (cond b (accept (line whole)) (refuse 8))
    unfolding item_text needed
    within-line n true =
        let k : t.length ≡ needed (0 + length (terms_text style terms)) = length-is n in
        let l = row-text-length shape.kind shape.bound terms style refl refl in
        let q : needed (t.length + length (frame_text shape.kind (printed m.plain whole).bound))
        ≡ needed (length (row_text m.first (printed m.plain whole))) = omega (arith, k, l) in
        ap₂ (λ (x y : ℕ). accept (record { length = x; lines = lines_back m (line whole); terms = y })) q
        (sym (own-count shape.unit ws cs long))
    within-line n false = refl

    pub measured-counted : counted_length shape (length cs) t ≡ row_measured m whole
    unfolding counted_length row_measured row_allowed
    measured-counted =
        let w = (both (indexed terms) (weighs terms) lawful-all.0).1 in
        rw (
          lawful-all.0,
          lacks-is shape.kind terms (length cs) (own-count shape.unit ws cs long),
          numbered_is,
          sums-are,
          bound-by-sums shape.kind shape.bound terms style refl m refl w,
        )
        (by (has_terms shape.kind terms) (numbered m.first terms) refl)
      where
        by : (h n : Bool) → numbered m.first terms ≡ n
            → cond (not h) (refuse 13)
            (cond n (framed shape.kind t.length (length cs)
            (cond (bounded m whole) (accept (printed m.plain whole).bound) (refuse 8)))
            (refuse 5))
            ≡ measured m (cond h (cond n (cond (bounded m whole) (accept (line whole)) (refuse 8)) (refuse 5)) (refuse 13))
        by true true e = within-line e (bounded m whole)
        by true false e = refl
        by false n e = refl
