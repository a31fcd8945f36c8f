-- Laws of one row: its pieces behind one another, by what the walk over its terms leaves.
use Prim.Native.Nat.{ℕ}
use mathlib.Core.Path.{◌≡◌, ap, ◌∙◌}
use mathlib.Core.Bool.{Bool, true, false}
use mathlib.Core.List.{List}
use lib.IntN.{ℤ}
use Rattle.definitions.specs.Back.{is_goal}
use Rattle.definitions.specs.declared.Kind.{Kind}
use Rattle.definitions.specs.declared.Mode.{Mode}
use Rattle.puts.specs.SeveralPuts.{LandsEach}
use Rattle.puts.proofs.SeveralLaws.{each-then, each-as}
use Rattle.printed.specs.declared.kinds.Shape.{Shape}
use Rattle.shown.specs.declared.terms.Style.{Style}
use Rattle.printed.specs.Kinds.{style_of}
use Rattle.shown.specs.Terms.{own_terms}
use Rattle.lines.specs.declared.terms.Ended.{Ended}
use Rattle.lines.specs.LinePieces.{comparison_pieces, ending_pieces, bound_by, head_pieces, tail_pieces, row_pieces}
use Rattle.lines.specs.Ended.{PutsTerms}

-- by the style e, which is the row's
module _ (m : Mode) (s : Shape) (ws : List ℤ) (cs : List ℕ) {e : Style} (is : e ≡ style_of s m) where
  pub row-lands : {at p : ℕ} {o o₁ : List ℕ} {r : Ended} {o₂ : List ℕ} (z : ℤ) {q : ℕ} {o₃ : List ℕ}
      → LandsEach (head_pieces e.apart) at o p o₁ → PutsTerms e (own_terms e.unit ws cs) p o₁ r o₂ → z ≡ bound_by s r.sums
      → LandsEach (tail_pieces e.apart s.kind z) r.at o₂ q o₃
      → LandsEach (row_pieces m s (own_terms s.unit ws cs)) at o q o₃
  unfolding row_pieces
  row-lands z f p b g =
      let t = rw is at p in
      each-then (rw is at f)
      (each-then t.text (each-as (rw is at g) (ap (tail_pieces (is_goal s.kind) s.kind) (b ∙ ap (bound_by s) t.sums))))

module _ (k : Kind) (z : ℤ) {b : Bool} {at : ℕ} {o : List ℕ} {r : ℕ} {o' : List ℕ} where
  pub tail-objective : b ≡ true → LandsEach (ending_pieces z) at o r o' → LandsEach (tail_pieces b k z) at o r o'
  tail-objective h l = rw h l

  pub tail-constraint : b ≡ false → LandsEach (comparison_pieces k z) at o r o' → LandsEach (tail_pieces b k z) at o r o'
  tail-constraint h l = rw h l
