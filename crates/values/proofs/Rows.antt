-- What literals leave in one row of words, and the length they reach: a bit that they agree on is made that, every
-- other bit stays, and making what stands there already changes nothing.
use Prim.Native.Nat.{ℕ, ◌+◌, ◌/◌, ◌≤◌, ◌<◌, max}
use mathlib.Core.Path.{◌≡◌, refl, sym, ap, ◌∙◌}
use mathlib.Core.Bool.{Bool, true, false, cond, not, ◌||◌, or-true}
use mathlib.Core.List.{List, [], ◌∷◌, ◌++◌}
use native.Mathlib.Omega.{arith}
use borrow.Author.Tests.{eq-eqb, eqb-true}
use lib.Dec.{eqb}
use lib.ListN.{length}
use Rattle.definitions.specs.Literal.{index_of, negated}
use Rattle.definitions.specs.Meaning.{assigned}
use Rattle.definitions.specs.Values.{among, length_after, bit_made, valued, marked}
use Rattle.bits.proofs.Bits.{bit-made, length-made, made_again}
use Rattle.heard.proofs.Split.{never}

-- ---- among

pub among-here : (c : ℕ) (cs : List ℕ) → among c (c ∷ cs) ≡ true
unfolding among
among-here c cs = rw (eq-eqb c c refl)

pub among_later : (d c : ℕ) (cs : List ℕ) → among d cs ≡ true → among d (c ∷ cs) ≡ true
unfolding among
among_later d c cs h = rw h (or-true (eqb c d))

pub among-left : (c : ℕ) (xs ys : List ℕ) → among c xs ≡ true → among c (xs ++ ys) ≡ true
unfolding among
among-left c [] ys h = never (sym h)
among-left c (x ∷ xs) ys h = cases (eqb x c) h (among-left c xs ys)
  where
    cases : (t : Bool) → t || among c xs ≡ true → (among c xs ≡ true → among c (xs ++ ys) ≡ true) → t || among c (xs ++ ys) ≡ true
    cases true k rest = refl
    cases false k rest = rest k

pub among-right : (c : ℕ) (xs ys : List ℕ) → among c ys ≡ true → among c (xs ++ ys) ≡ true
among-right c [] ys h = h
among-right c (x ∷ xs) ys h = among_later c x (xs ++ ys) (among-right c xs ys h)

-- ---- one row

-- each literal's variable with the bit that f says of it
unfoldable pub written : (ℕ → Bool) → List ℕ → List ℕ → List ℕ
written f [] ws = ws
written f (c ∷ cs) ws = written f cs (bit_made (f c) (index_of c) ws)

pub valued-written : (cs ws : List ℕ) → valued cs ws ≡ written (λ (c : ℕ). not (negated c)) cs ws
unfolding valued written
valued-written [] ws = refl
valued-written (c ∷ cs) ws = valued-written cs (bit_made (not (negated c)) (index_of c) ws)

pub marked-written : (cs ks : List ℕ) → marked cs ks ≡ written (λ (c : ℕ). true) cs ks
unfolding marked written
marked-written [] ks = refl
marked-written (c ∷ cs) ks = marked-written cs (bit_made true (index_of c) ks)

-- every literal's variable has its word in a row of m words
abbrev pub Within : ℕ → List ℕ → Type 0
Within m cs = (c : ℕ) → among c cs ≡ true → index_of c / 64 < m

-- every literal of the variable v says the bit b
abbrev pub Saying : (ℕ → Bool) → ℕ → Bool → List ℕ → Type 0
Saying f v b cs = (c : ℕ) → among c cs ≡ true → index_of c ≡ v → f c ≡ b

module _ (f : ℕ → Bool) (v : ℕ) (b : Bool) where
  one-stays : (c : ℕ) (ws : List ℕ) → index_of c / 64 < length ws → (index_of c ≡ v → f c ≡ b) → assigned ws v ≡ b
      → assigned (bit_made (f c) (index_of c) ws) v ≡ b
  one-stays c ws l s h = bit-made (f c) (index_of c) v ws l ∙ cases (eqb v (index_of c)) refl
    where
      cases : (t : Bool) → eqb v (index_of c) ≡ t → cond t (f c) (assigned ws v) ≡ b
      cases true e = s (sym (eqb-true v (index_of c) e))
      cases false e = h

  one-met : (c : ℕ) (ws : List ℕ) → index_of c / 64 < length ws → f c ≡ b → index_of c ≡ v → assigned (bit_made (f c) (index_of c) ws) v ≡ b
  one-met c ws l s e = bit-made (f c) (index_of c) v ws l ∙ rw (eq-eqb v (index_of c) (sym e)) s

  module _ (d : ℕ) (cs ws : List ℕ) (l : Within (length ws) (d ∷ cs)) where
    within-later : Within (length (bit_made (f d) (index_of d) ws)) cs
    within-later c m = rw (length-made (f d) (index_of d) ws) (l c (among_later c d cs m))

  saying-later : (d : ℕ) (cs : List ℕ) → Saying f v b (d ∷ cs) → Saying f v b cs
  saying-later d cs s c m e = s c (among_later c d cs m) e

  -- a bit that every literal of the variable says stays
  pub stays : (cs ws : List ℕ) → Within (length ws) cs → Saying f v b cs → assigned ws v ≡ b → assigned (written f cs ws) v ≡ b
  unfolding written
  stays [] ws l s h = h
  stays (c ∷ cs) ws l s h =
      stays cs (bit_made (f c) (index_of c) ws) (within-later c cs ws l) (saying-later c cs s)
      (one-stays c ws (l c (among-here c cs)) (s c (among-here c cs)) h)

  -- and is there where one does
  pub met : (cs ws : List ℕ) → Within (length ws) cs → Saying f v b cs → (c : ℕ) → among c cs ≡ true → index_of c ≡ v
      → assigned (written f cs ws) v ≡ b
  unfolding written among
  met [] ws l s c m e = never (sym m)
  met (d ∷ cs) ws l s c m e =
      cases (eqb d c) refl m (λ k. met cs (bit_made (f d) (index_of d) ws) (within-later d cs ws l) (saying-later d cs s) c k e)
    where
      cases :
          (t : Bool) → eqb d c ≡ t → t || among c cs ≡ true →
          (among c cs ≡ true → assigned (written f cs (bit_made (f d) (index_of d) ws)) v ≡ b) →
          assigned (written f cs (bit_made (f d) (index_of d) ws)) v ≡ b
      cases true q k rest =
          let h : index_of d ≡ v = ap index_of (eqb-true d c q) ∙ e in
          let a = among-here d cs in
          stays cs (bit_made (f d) (index_of d) ws) (within-later d cs ws l) (saying-later d cs s) (one-met d ws (l d a) (s d a h) h)
      cases false q k rest = rest k

-- what stands there already
pub written-again : (f : ℕ → Bool) (cs ws : List ℕ) → ((c : ℕ) → among c cs ≡ true → assigned ws (index_of c) ≡ f c) → written f cs ws ≡ ws
unfolding written
written-again f [] ws h = refl
written-again f (c ∷ cs) ws h =
    ap (written f cs) (made_again (f c) (index_of c) ws (h c (among-here c cs))) ∙ written-again f cs ws (λ d m. h d (among_later d c cs m))

-- ---- the length

pub at-least-kept : (n : ℕ) (cs : List ℕ) → n ≤ length_after n cs
unfolding length_after
at-least-kept n [] = omega arith
at-least-kept n (c ∷ cs) = omega (arith, at-least-kept (max n (index_of c + 1)) cs)

pub one-past : (n : ℕ) (cs : List ℕ) (c : ℕ) → among c cs ≡ true → index_of c + 1 ≤ length_after n cs
unfolding length_after among
one-past n [] c m = never (sym m)
one-past n (d ∷ cs) c m = cases (eqb d c) refl m (λ k. one-past (max n (index_of d + 1)) cs c k)
  where
    cases :
        (t : Bool) → eqb d c ≡ t → t || among c cs ≡ true →
        (among c cs ≡ true → index_of c + 1 ≤ length_after (max n (index_of d + 1)) cs) →
        index_of c + 1 ≤ length_after (max n (index_of d + 1)) cs
    cases true q k rest = omega (arith, ap index_of (eqb-true d c q), at-least-kept (max n (index_of d + 1)) cs)
    cases false q k rest = rest k

pub no_more : (n : ℕ) (cs : List ℕ) (m : ℕ) → n ≤ m → ((c : ℕ) → among c cs ≡ true → index_of c + 1 ≤ m) → length_after n cs ≤ m
unfolding length_after
no_more n [] m h g = h
no_more n (c ∷ cs) m h g = no_more (max n (index_of c + 1)) cs m (omega (arith, g c (among-here c cs))) (λ d k. g d (among_later d c cs k))

pub length-again : (n : ℕ) (cs : List ℕ) → length_after (length_after n cs) cs ≡ length_after n cs
length-again n cs =
    omega (arith, at-least-kept (length_after n cs) cs, no_more (length_after n cs) cs (length_after n cs) (omega arith) (one-past n cs))
