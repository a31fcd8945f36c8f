-- One string of zeros and ones: its variables are all different, so that only the known words conflict with it; and in
-- a block of that form nothing else is met but a line without `v`.
use Prim.Native.Nat.{ℕ, suc, ◌+◌, ◌-◌, ◌≤◌, ◌<◌}
use mathlib.Core.Path.{◌≡◌, refl, sym, ap, ◌∙◌}
use mathlib.Core.Bool.{Bool, true, false, not, ◌&&◌, ◌||◌}
use mathlib.Core.List.{List, [], ◌∷◌, ◌++◌}
use native.Mathlib.Omega.{arith}
use native.Mathlib.Decide.{dec_le}
use native.Mathlib.Numerals.{add-one}
use borrow.Author.Tests.{le-leb, lt-leb, ne_eqb}
use lib.Dec.{eqb, leb}
use lib.ListN.{length, get_or, take, drop, drop_of_length-le}
use lib.Seq.{drop-cons, take_all, length-take-le}
use Rattle.definitions.specs.Literal.{code_of, index_of, opposite}
use Rattle.definitions.specs.Meaning.{is_true, assigned, is_known}
use Rattle.definitions.specs.Values.{zero_digit, among, appended, conflicts, any_conflict, valued, marked}
use Rattle.heard.proofs.Split.{opposite-index}
use Rattle.bits.proofs.JoinedLiterals.{valued-append, marked_append, length-valued, length_marked}
use Rattle.laws.proofs.ReadRows.{index-of-code}
use Rattle.values.proofs.Appended.{appended-next}

-- ---- the room that is left
pub leb-less : (most n m : ℕ) → n ≤ most → leb m (most - n) ≡ leb (n + m) most
leb-less most n m h = cases (dec_le (n + m) most)
  where
    cases : Dec (n + m ≤ most) → leb m (most - n) ≡ leb (n + m) most
    cases (yes k) = le-leb m (most - n) (omega arith) ∙ sym (le-leb (n + m) most k)
    cases (no k) = lt-leb m (most - n) (omega arith) ∙ sym (lt-leb (n + m) most (omega arith))

-- ---- what the first i digits leave in the rows ws and ks
pub record Appended (ws ks : List ℕ) (n : ℕ) (s : List ℕ) (ws' ks' : List ℕ) (i : ℕ) : Type 0 where
  pub within : i ≤ length s
  pub values : ws' ≡ valued (appended n (take i s)) ws
  pub known : ks' ≡ marked (appended n (take i s)) ks

module _ (ws ks : List ℕ) (n : ℕ) (s : List ℕ) where
  pub appended-none : Appended ws ks n s ws ks 0
  unfolding appended valued marked
  appended-none = record { within = omega arith; values = refl; known = refl }

  module _ (ws' ks' : List ℕ) (i : ℕ) (p : Appended ws ks n s ws' ks' i) where
    pub appended-all : length s ≤ i → (ws' ≡ valued (appended n s) ws) × (ks' ≡ marked (appended n s) ks)
    appended-all h =
        let e = take_all i s h in
        (p.values ∙ ap (λ (l : List ℕ). valued (appended n l) ws) e, p.known ∙ ap (λ (l : List ℕ). marked (appended n l) ks) e)

    pub appended-lengths : (length ws' ≡ length ws) × (length ks' ≡ length ks)
    appended-lengths =
        (ap length p.values ∙ length-valued (appended n (take i s)) ws, ap length p.known ∙ length_marked (appended n (take i s)) ks)

    pub appended-more :
        i < length s → (c : ℕ) → c ≡ code_of (eqb (get_or s i 0) zero_digit) (n + i) →
        (ws'' ks'' : List ℕ) → ws'' ≡ valued (c ∷ []) ws' → ks'' ≡ marked (c ∷ []) ks' →
        Appended ws ks n s ws'' ks'' (i + 1)
    appended-more h c e ws'' ks'' f g =
        let x = appended n (take i s) in
        let j : x ++ (c ∷ []) ≡ appended n (take (i + 1) s) = ap (λ (d : ℕ). x ++ (d ∷ [])) e ∙ sym (appended-next n s i h) in
        record {
          within = omega arith;
          values = f ∙ ap (valued (c ∷ [])) p.values ∙ sym (valued-append x (c ∷ []) ws) ∙ ap (λ (l : List ℕ). valued l ws) j;
          known = g ∙ ap (marked (c ∷ [])) p.known ∙ sym (marked_append x (c ∷ []) ks) ∙ ap (λ (l : List ℕ). marked l ks) j;
        }

-- ---- no literal of a string is the opposite of one before it

pub among-appended : (n : ℕ) (s : List ℕ) (c : ℕ) → n + length s ≤ index_of c → among c (appended n s) ≡ false
unfolding among appended
among-appended n [] c h = refl
among-appended n (b ∷ s) c h =
    let x = code_of (eqb b zero_digit) n in
    let e : eqb x c ≡ false = ne_eqb x c (λ f. omega (arith, index-of-code (eqb b zero_digit) n, ap index_of f)) in
    ap (λ (t : Bool). t || among c (appended (n + 1) s)) e ∙ among-appended (n + 1) s c (omega arith)

-- the variable of the literal c is known with another value
abbrev pub otherwise : List ℕ → List ℕ → ℕ → Bool
otherwise ws ks c = is_known ws ks (index_of c) && not (is_true (assigned ws) c)

module _ (ws ks heard : List ℕ) (c : ℕ) (cs : List ℕ) where
  conflict-found : otherwise ws ks c ≡ true → true ≡ any_conflict ws ks heard (c ∷ cs)
  unfolding any_conflict conflicts
  conflict-found e = rw e

  conflict-passed : otherwise ws ks c ≡ false → among (opposite c) heard ≡ false
      → any_conflict ws ks heard (c ∷ cs) ≡ any_conflict ws ks (heard ++ (c ∷ [])) cs
  unfolding any_conflict conflicts
  conflict-passed e f = rw (e, f)

-- the first i digits conflict with nothing
pub record Clear (ws ks : List ℕ) (n : ℕ) (s : List ℕ) (i : ℕ) : Type 0 where
  pub within : i ≤ length s
  pub left : any_conflict ws ks [] (appended n s) ≡ any_conflict ws ks (appended n (take i s)) (appended (n + i) (drop i s))

module _ (ws ks : List ℕ) (n : ℕ) (s : List ℕ) where
  pub clear_none : Clear ws ks n s 0
  unfolding appended
  clear_none = record { within = omega arith; left = ap (λ (m : ℕ). any_conflict ws ks [] (appended m s)) (omega arith) }

  pub clear-all : (i : ℕ) → Clear ws ks n s i → length s ≤ i → false ≡ any_conflict ws ks [] (appended n s)
  unfolding appended any_conflict
  clear-all i p h =
      sym (p.left ∙ ap (λ (l : List ℕ). any_conflict ws ks (appended n (take i s)) (appended (n + i) l)) (drop_of_length-le s h))

  module _ (i : ℕ) (p : Clear ws ks n s i) (h : i < length s) (c : ℕ) (e : c ≡ code_of (eqb (get_or s i 0) zero_digit) (n + i)) where
    next : any_conflict ws ks [] (appended n s) ≡ any_conflict ws ks (appended n (take i s)) (c ∷ appended (n + i + 1) (drop (suc i) s))
    unfolding appended
    next =
        p.left ∙ ap (λ (l : List ℕ). any_conflict ws ks (appended n (take i s)) (appended (n + i) l)) (drop-cons s i 0 h)
        ∙ ap (λ (x : ℕ). any_conflict ws ks (appended n (take i s)) (x ∷ appended (n + i + 1) (drop (suc i) s))) (sym e)

    pub clear-found : (r : Bool) → r ≡ otherwise ws ks c → r ≡ true → true ≡ any_conflict ws ks [] (appended n s)
    clear-found r o t =
        let f = sym o ∙ t in
        conflict-found ws ks (appended n (take i s)) c (appended (n + i + 1) (drop (suc i) s)) f ∙ sym next

    heard-next : appended n (take (i + 1) s) ≡ appended n (take i s) ++ (c ∷ [])
    heard-next = appended-next n s i h ∙ ap (λ (x : ℕ). appended n (take i s) ++ (x ∷ [])) (sym e)

    none-opposite : among (opposite c) (appended n (take i s)) ≡ false
    none-opposite =
        let b = eqb (get_or s i 0) zero_digit in
        among-appended n (take i s) (opposite c)
        (omega (arith, opposite-index c, ap index_of e, index-of-code b (n + i), length-take-le i s p.within))

    pub clear-more : (r : Bool) → r ≡ otherwise ws ks c → r ≡ false → Clear ws ks n s (i + 1)
    clear-more r o t =
        let f = sym o ∙ t in
        let l = appended (n + i + 1) (drop (suc i) s) in
        let q : any_conflict ws ks (appended n (take i s)) (c ∷ l) ≡ any_conflict ws ks (appended n (take i s) ++ (c ∷ [])) l =
        conflict-passed ws ks (appended n (take i s)) c l f none-opposite in
        let r : l ≡ appended (n + (i + 1)) (drop (i + 1) s) = rw (add-one i) (ap (λ (m : ℕ). appended m (drop (suc i) s)) (omega arith)) in
        record {
          within = omega arith;
          left =
              next ∙ q ∙ ap (λ (x : List ℕ). any_conflict ws ks x l) (sym heard-next)
              ∙ ap (any_conflict ws ks (appended n (take (i + 1) s))) r;
        }
