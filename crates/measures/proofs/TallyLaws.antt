-- What the first walk counts is what the definitions ask of the row: 11 of its terms, their file numbers, the sums of
-- their weights, the length of their text.
use mathlib.Core.Path.{◌≡◌, refl, sym, ◌∙◌}
use mathlib.Core.Bool.{Bool, true, false, cond, ◌&&◌, and-true, and_assoc}
use mathlib.Core.List.{List, [], ◌∷◌}
use Prim.Native.Nat.{◌+◌, ◌≤◌}
use native.Mathlib.Omega.{arith}
use lib.Signed.{non_neg}
use lib.ListN.{length, length-append}
use Rattle.definitions.specs.Lists.{joined}
use Rattle.definitions.specs.Limits.{needed_limit}
use Rattle.definitions.specs.Refusal.{Checked, refuse, accept, needed}
use Rattle.definitions.specs.Literal.{index_of, is_index}
use Rattle.definitions.specs.Row.{Term}
use Rattle.definitions.specs.Table.{indexed}
use Rattle.definitions.specs.Write.{weighs, numbered}
use Rattle.definitions.proofs.Truths.{both}
use Rattle.shown.specs.declared.terms.Style.{Style}
use Rattle.measures.specs.declared.terms.Tally.{Tally}
use Rattle.shown.specs.Terms.{shown_text, terms_text}
use Rattle.shown.specs.Sums.{summed}
use Rattle.measures.specs.Tallies.{has_number, tally_with, tallied}

-- ---- 11, or all terms counted

unfoldable pub counted : Style → Tally → List Term → Tally
counted s a [] = a
counted s a (t ∷ ts) = counted s (tally_with s a t) ts

pub tallied-is : (s : Style) (a : Tally) (ts : List Term)
    → tallied s a ts ≡ cond (indexed ts && weighs ts) (accept (counted s a ts)) (refuse 11)
unfolding tallied counted indexed weighs
tallied-is s a [] = refl
tallied-is s a (t ∷ ts) =
    rw (tallied-is s (tally_with s a t) ts) (by _ (is_index (index_of t.code)) (non_neg t.weight) (indexed ts) (weighs ts))
  where
    by : (x : Checked Tally) (i w is ws : Bool)
        → cond (i && w) (cond (is && ws) x (refuse 11)) (refuse 11) ≡ cond ((i && is) && (w && ws)) x (refuse 11)
    by x true true is ws = refl
    by x true false true ws = refl
    by x true false false ws = refl
    by x false w is ws = refl

-- ---- of all terms

module _ (s : Style) where
  pub counted-sums : (a : Tally) (ts : List Term) → (counted s a ts).sums ≡ summed s a.sums ts
  unfolding counted summed tally_with
  counted-sums a [] = refl
  counted-sums a (t ∷ ts) = counted-sums (tally_with s a t) ts

  pub counted-numbered : (a : Tally) (ts : List Term) → (counted s a ts).numbered ≡ a.numbered && numbered s.first ts
  unfolding counted numbered tally_with
  counted-numbered a [] = sym (and-true a.numbered)
  counted-numbered a (t ∷ ts) = counted-numbered (tally_with s a t) ts ∙ and_assoc a.numbered (has_number s t) (numbered s.first ts)

  pub counted-length : (a : Tally) (ts : List Term) → a.length ≤ needed_limit → numbered s.first ts ≡ true
      → (counted s a ts).length ≡ needed (a.length + length (terms_text s ts))
  unfolding counted numbered tally_with terms_text joined needed
  counted-length a [] h e = omega arith
  counted-length a (t ∷ ts) h e =
      let n = (both (has_number s t) (numbered s.first ts) e).0 in
      let l : (tally_with s a t).length ≡ needed (a.length + length (shown_text s t)) = rw n in
      counted-length (tally_with s a t) ts (omega (arith, l)) (both (has_number s t) (numbered s.first ts) e).1
      ∙ omega (arith, l, length-append (shown_text s t) (terms_text s ts))
