-- The first walk over a row's terms: one term more, and the end.
use mathlib.Core.Path.{◌≡◌, refl, sym, ap, ap₂, ◌∙◌}
use mathlib.Core.Bool.{Bool, true, false, ◌&&◌, and-false, and-true}
use mathlib.Core.List.{List, ◌∷◌}
use Prim.Native.Nat.{ℕ, ◌+◌, ◌≤◌, ◌<◌}
use native.Mathlib.Omega.{arith}
use borrow.Author.Tests.{ltb-true}
use lib.IntN.{ℤ, pos, negsuc}
use lib.Signed.{lt_z, non_neg}
use lib.ListN.{length, get_or, drop}
use Rattle.definitions.specs.Refusal.{refuse, accept, needed}
use Rattle.definitions.specs.Literal.{index_of, is_index, file_number}
use Rattle.definitions.specs.Row.{Term, term}
use Rattle.definitions.specs.Write.{is_accepted}
use Rattle.definitions.proofs.Truths.{both}
use Rattle.shown.specs.declared.terms.Style.{Style}
use Rattle.shown.specs.declared.terms.Shown.{Shown}
use Rattle.shown.specs.declared.sums.Sums.{Sums}
use Rattle.shown.specs.Terms.{own_term, own_terms, Shows, term_words, shown_text}
use Rattle.shown.specs.Sums.{sums_with}
use Rattle.shown.proofs.OneTerm.{spaced-words, spaced-length, shown-falls}
use Rattle.shown.proofs.AllTerms.{own-from, own-end}
use Rattle.measures.specs.declared.terms.Tally.{Tally}
use Rattle.measures.specs.Tallies.{no_tally, length_with, shown_number, tally_shown, lawful_shown, has_number, tally_with, lawful, tallied}

-- ---- what is asked of a term

pub negative-unlawful : (b : Bool) (w : ℤ) → lt_z w (pos 0) ≡ true → b && non_neg w ≡ false
negative-unlawful b (pos n) t = let h : n < 0 = ltb-true n 0 t in absurd (omega arith)
negative-unlawful b (negsuc n) t = and-false b

pub others-lawful : (b : Bool) (w : ℤ) → lt_z w (pos 0) ≡ false → b && non_neg w ≡ b
others-lawful b (pos n) t = and-true b
others-lawful b (negsuc n) t = let z : ◌≡◌ {A = ℕ} 0 1 = cc in absurd (omega arith)

lawful-weighs : (t : Term) → lawful t ≡ true → non_neg t.weight ≡ true
lawful-weighs t e = (both (is_index (index_of t.code)) (non_neg t.weight) e).1

-- ---- what is counted of a term

tally-eq : {s s' : Sums} {b b' : Bool} {n n' : ℕ} → s ≡ s' → b ≡ b' → n ≡ n'
    → ◌≡◌ {A = Tally} (record { sums = s; numbered = b; length = n }) (record { sums = s'; numbered = b'; length = n' })
tally-eq p q r = cc

-- as the code counts it
module _ (s : Style) (a : Tally) (x : Shown) {sums : Sums} (e : sums ≡ sums_with a.sums x.own x.falls) where
  pub tally-numbered : (n m : ℕ) → n ≡ x.var.0 + s.first → shown_number s x ≡ true → m ≡ needed (a.length + (length (term_words x n) + 1))
      → ◌≡◌ {A = Tally} (record { sums = sums; numbered = a.numbered; length = m }) (tally_shown s a x)
  unfolding tally_shown
  tally-numbered n m v b l = tally-eq e (rw b (sym (and-true a.numbered))) (l ∙ rw (b, v))

  pub tally-unnumbered : shown_number s x ≡ false
      → ◌≡◌ {A = Tally} (record { sums = sums; numbered = false; length = a.length }) (tally_shown s a x)
  unfolding tally_shown
  tally-unnumbered b = tally-eq e (rw b (sym (and-false a.numbered))) (rw b)

-- a term of the row, by what is shown of it
module _ {s : Style} {t : Term} {x : Shown} (h : Shows s t x) where
  lawful-is : lawful_shown x ≡ lawful t
  lawful-is = ap₂ (λ (v : ℕ) (w : ℤ). is_index v && non_neg w) h.var h.own

  number_same : shown_number s x ≡ has_number s t
  number_same = ap (λ (v : ℕ). is_accepted (file_number s.first v)) h.var

  tally-is : (a : Tally) → non_neg t.weight ≡ true → tally_shown s a x ≡ tally_with s a t
  unfolding tally_shown tally_with
  tally-is a w =
      let k : length (term_words x (x.var.0 + s.first)) + 1 ≡ length (shown_text s t) =
      sym (spaced-length s.apart (term_words x (x.var.0 + s.first)))
      ∙ ap length (spaced-words h (x.var.0 + s.first) w (ap (λ (v : ℕ). v + s.first) h.var)) in
      tally-eq (ap₂ (sums_with a.sums) h.own (shown-falls h w)) (ap (λ (b : Bool). a.numbered && b) number_same)
      (ap₂ (λ (b : Bool) (m : ℕ). length_with b a.length m) number_same k)

-- i terms are counted
pub record Tallying (s : Style) (ws : List ℤ) (cs : List ℕ) (i : ℕ) (a : Tally) : Type 0 where
  pub within : i ≤ length cs
  pub left : tallied s a (own_terms s.unit (drop i ws) (drop i cs)) ≡ tallied s no_tally (own_terms s.unit ws cs)

pub tallying-none : (s : Style) (ws : List ℤ) (cs : List ℕ) → Tallying s ws cs 0 no_tally
tallying-none s ws cs = record { within = omega arith; left = refl }

module _ {s : Style} {ws : List ℤ} {cs : List ℕ} {i : ℕ} {a : Tally} (g : Tallying s ws cs i a) (long : length ws ≡ length cs) where
  module _ (h : i < length cs) where
    abbrev here : Term
    here = own_term s.unit (term (get_or ws i (pos 0)) (get_or cs i 0))

    next : own_terms s.unit (drop i ws) (drop i cs) ≡ here ∷ own_terms s.unit (drop (i + 1) ws) (drop (i + 1) cs)
    next = own-from s.unit ws cs i (omega (arith, long)) h

    module _ {x : Shown} (x-is : Shows s here x) where
      pub tallying-refused : lawful_shown x ≡ false → refuse 11 ≡ tallied s no_tally (own_terms s.unit ws cs)
      unfolding tallied
      tallying-refused l = rw (next, sym (lawful-is x-is) ∙ l) at g.left

      pub tallying-more : {b : Tally} → lawful_shown x ≡ true → b ≡ tally_shown s a x → Tallying s ws cs (i + 1) b
      unfolding tallied
      tallying-more l e =
          let k = sym (lawful-is x-is) ∙ l in
          record { within = omega arith; left = rw (e ∙ tally-is x-is a (lawful-weighs here k)) (rw (next, k) at g.left) }

  pub tallying-all : length cs ≤ i → accept a ≡ tallied s no_tally (own_terms s.unit ws cs)
  unfolding tallied
  tallying-all h = rw (own-end s.unit ws cs i (omega (arith, long))) at g.left
