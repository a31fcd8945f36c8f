-- Laws of pieces: of one term, of what stands behind the terms, and of the terms one by one.
use Prim.Native.Nat.{ℕ, ◌+◌, ◌≤◌, ◌<◌, min}
use mathlib.Core.Path.{◌≡◌, refl, ◌∙◌}
use mathlib.Core.Bool.{true, false}
use mathlib.Core.List.{List, [], ◌∷◌, ◌++◌}
use native.Mathlib.Omega.{arith}
use lib.IntN.{ℤ, pos}
use lib.ListN.{length, get_or, drop}
use Rattle.definitions.specs.Lists.{joined}
use Rattle.definitions.specs.Literal.{file_number}
use Rattle.definitions.specs.Row.{Term, term}
use Rattle.definitions.specs.Write.{is_accepted}
use Rattle.puts.specs.SeveralPuts.{place_behind, put_each, LandsEach}
use Rattle.puts.proofs.SeveralLaws.{place-then, put_then}
use Rattle.shown.specs.declared.terms.Style.{Style}
use Rattle.shown.specs.declared.terms.Shown.{Shown}
use Rattle.shown.specs.declared.sums.Sums.{Sums}
use Rattle.shown.specs.Terms.{own_term, own_terms, Shows}
use Rattle.shown.specs.Sums.{no_sums, sums_with}
use Rattle.shown.proofs.AllTerms.{own-from, own-end}
use Rattle.shown.proofs.OneAnswer.{shows-one}
use Rattle.lines.specs.LinePieces.{term_pieces, shown_pieces, shown_of, terms_pieces, sums_of}
use Rattle.lines.specs.Ended.{PutsTerms}

-- ---- one term

module _ (s : Style) (x : Shown) where
  pub numbered-pieces : (n : ℕ) → n ≡ x.var.0 + s.first → is_accepted (file_number s.first x.var.0) ≡ true
      → term_pieces s.apart x n ≡ shown_pieces s x
  numbered-pieces n e h = rw (e, h)

  pub no_pieces : is_accepted (file_number s.first x.var.0) ≡ false → [] ≡ shown_pieces s x
  no_pieces h = rw h

-- what the code shows of a term is one thing
pub shown-is : {s : Style} {t : Term} {x : Shown} → Shows s t x → x ≡ shown_of s t
shown-is {s} {t} {x} h = shows-one x (shown_of s t) h (record { own = refl; weight = refl; tilde = refl; var = refl; falls = refl })

-- ---- the terms of a row, one by one

-- the pieces of i terms are put: with those of the others the whole is done
pub record Putting (s : Style) (ws : List ℤ) (cs : List ℕ) (at : ℕ) (o : List ℕ) (i end : ℕ) (sums : Sums) (out : List ℕ) : Type 0 where
  pub place : place_behind (terms_pieces s (own_terms s.unit (drop i ws) (drop i cs))) end out
      ≡ place_behind (terms_pieces s (own_terms s.unit ws cs)) at o
  pub text : put_each (terms_pieces s (own_terms s.unit (drop i ws) (drop i cs))) end out
      ≡ put_each (terms_pieces s (own_terms s.unit ws cs)) at o
  pub total : sums_of s sums (own_terms s.unit (drop i ws) (drop i cs)) ≡ sums_of s no_sums (own_terms s.unit ws cs)
  pub long : length out ≡ length o

module _ {s : Style} {ws : List ℤ} {cs : List ℕ} {at : ℕ} {o : List ℕ} where
  pub putting-none : Putting s ws cs at o 0 at no_sums o
  putting-none = record { place = refl; text = refl; total = refl; long = refl }

  module _ {i end : ℕ} {sums : Sums} {out : List ℕ} (g : Putting s ws cs at o i end sums out) where
    module _ (h : i < min (length ws) (length cs)) where
      abbrev here : Term
      here = own_term s.unit (term (get_or ws i (pos 0)) (get_or cs i 0))

      abbrev behind : List Term
      behind = own_terms s.unit (drop (i + 1) ws) (drop (i + 1) cs)

      from : own_terms s.unit (drop i ws) (drop i cs) ≡ here ∷ behind
      from = own-from s.unit ws cs i (omega arith) (omega arith)

      split : terms_pieces s (own_terms s.unit (drop i ws) (drop i cs)) ≡ shown_pieces s (shown_of s here) ++ terms_pieces s behind
      unfolding terms_pieces joined
      split = rw from

      pub putting-more : {end' : ℕ} {sums' : Sums} {out' : List ℕ} → LandsEach (shown_pieces s (shown_of s here)) end out end' out'
          → sums' ≡ sums_with sums (shown_of s here).own (shown_of s here).falls
          → length out' ≡ length out
          → Putting s ws cs at o (i + 1) end' sums' out'
      putting-more p e l =
          record {
            place = place-then p (terms_pieces s behind) ∙ rw split at g.place;
            text = put_then p (terms_pieces s behind) ∙ rw split at g.text;
            total = rw e more;
            long = l ∙ g.long;
          }
        where
          more : sums_of s (sums_with sums (shown_of s here).own (shown_of s here).falls) behind ≡ sums_of s no_sums (own_terms s.unit ws cs)
          more = unfold sums_of in rw from at g.total

    pub putting-all : min (length ws) (length cs) ≤ i → PutsTerms s (own_terms s.unit ws cs) at o (record { at = end; sums = sums }) out
    unfolding terms_pieces joined sums_of place_behind put_each
    putting-all h =
        let none = own-end s.unit ws cs i h in
        record { text = record { place = rw none at g.place; after = rw none at g.text }; sums = rw none at g.total }
