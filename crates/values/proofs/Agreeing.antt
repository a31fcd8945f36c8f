-- The literals that a block says, where none conflicts: no two are opposite, and none is against what was known. Read
-- again where they are true, they conflict with nothing.
use Prim.Native.Nat.{ℕ, ◌≤◌}
use mathlib.Core.Path.{◌≡◌, refl, sym, ap, ◌∙◌}
use mathlib.Core.Logic.{◌⊎◌, inl, inr}
use mathlib.Core.Bool.{Bool, true, false, cond, not, ◌&&◌, ◌||◌, and-false}
use mathlib.Core.List.{List, [], ◌∷◌, ◌++◌, append-nil}
use native.Mathlib.Omega.{arith}
use borrow.Author.Tests.{eqb-true, not-false, leb-true, le-leb}
use lib.Dec.{eqb, leb}
use lib.Seq.{append_snoc}
use Rattle.definitions.specs.Refusal.{refusal, Checked, refuse, accept}
use Rattle.definitions.specs.declared.Refusal.{Refusal}
use Rattle.definitions.specs.Literal.{index_of, opposite}
use Rattle.definitions.specs.Meaning.{is_true, assigned, is_known}
use Rattle.definitions.specs.Table.{Outcome, refused, accepted}
use Rattle.definitions.specs.Values.{Item, untagged, token, among, conflicts, any_conflict, hear, literals_of, held, length_after, words_for}
use Rattle.definitions.specs.declared.Form.{Form}
use Rattle.definitions.proofs.Truths.{either}
use Rattle.heard.proofs.Split.{never, among-snoc}
use Rattle.values.proofs.Rows.{among-here, among_later, among-left, among-right}

-- ---- one literal more

or-none : (a b : Bool) → a || b ≡ false → (a ≡ false) × (b ≡ false)
or-none true b h = never h
or-none false b h = (refl, h)

implied : (a b : Bool) → a && not b ≡ false → a ≡ true → b ≡ true
implied true b h e = not-false b h
implied false b h e = never (sym e)

-- two literals of one variable are the same or opposite
opposite-or-same : (c d : ℕ) → index_of d ≡ index_of c → (d ≡ opposite c → ⊥) → d ≡ c
unfolding opposite
opposite-or-same c d e n = omega (arith, n)

among_cases : (c : ℕ) (heard : List ℕ) (d : ℕ) → among c (heard ++ (d ∷ [])) ≡ true → (among c heard ≡ true) ⊎ (d ≡ c)
among_cases c heard d h = pick (either (among c heard) (eqb d c) (sym (among-snoc c heard d) ∙ h))
  where
    pick : (among c heard ≡ true) ⊎ (eqb d c ≡ true) → (among c heard ≡ true) ⊎ (d ≡ c)
    pick (inl a) = inl a
    pick (inr a) = inr (eqb-true d c a)

module _ (ws ks : List ℕ) where
  pub record Agree (cs : List ℕ) : Type 0 where
    -- one variable, one literal
    pub same : (c d : ℕ) → among c cs ≡ true → among d cs ≡ true → index_of c ≡ index_of d → c ≡ d
    -- true where the variable was known
    pub fit : (c : ℕ) → among c cs ≡ true → is_known ws ks (index_of c) ≡ true → is_true (assigned ws) c ≡ true

  pub agree-none : Agree []
  unfolding among
  agree-none = record { same = λ c d a b e. never (sym a); fit = λ c a k. never (sym a) }

  module _ (heard : List ℕ) (c : ℕ) (h : conflicts ws ks heard c ≡ false) where
    not-against : is_known ws ks (index_of c) ≡ true → is_true (assigned ws) c ≡ true
    unfolding conflicts
    not-against =
        implied (is_known ws ks (index_of c)) (is_true (assigned ws) c)
        (or-none (is_known ws ks (index_of c) && not (is_true (assigned ws) c)) (among (opposite c) heard) h).0

    pub not-opposite : among (opposite c) heard ≡ false
    unfolding conflicts
    not-opposite = (or-none (is_known ws ks (index_of c) && not (is_true (assigned ws) c)) (among (opposite c) heard) h).1

    same-as-heard : (d : ℕ) → among d heard ≡ true → index_of d ≡ index_of c → d ≡ c
    same-as-heard d a e = opposite-or-same c d e (λ q. never (sym a ∙ ap (λ (x : ℕ). among x heard) q ∙ not-opposite))

    agree-next : Agree heard → Agree (heard ++ (c ∷ []))
    agree-next g =
        record {
          same = λ x y a b e. two x y (among_cases x heard c a) (among_cases y heard c b) e;
          fit = λ x a k. one x (among_cases x heard c a) k;
        }
      where
        two : (x y : ℕ) → (among x heard ≡ true) ⊎ (c ≡ x) → (among y heard ≡ true) ⊎ (c ≡ y) → index_of x ≡ index_of y → x ≡ y
        two x y (inl a) (inl b) e = g.same x y a b e
        two x y (inl a) (inr b) e = same-as-heard x a (e ∙ ap index_of (sym b)) ∙ b
        two x y (inr a) (inl b) e = sym (same-as-heard y b (sym e ∙ ap index_of (sym a)) ∙ a)
        two x y (inr a) (inr b) e = sym a ∙ b

        one : (x : ℕ) → (among x heard ≡ true) ⊎ (c ≡ x) → is_known ws ks (index_of x) ≡ true → is_true (assigned ws) x ≡ true
        one x (inl a) k = g.fit x a k
        one x (inr a) k = ap (is_true (assigned ws)) (sym a) ∙ not-against (ap (λ (y : ℕ). is_known ws ks (index_of y)) a ∙ k)

  -- ---- a token's literals

  any_none : (heard : List ℕ) (c : ℕ) (cs : List ℕ) → any_conflict ws ks heard (c ∷ cs) ≡ false
      → (conflicts ws ks heard c ≡ false) × (any_conflict ws ks (heard ++ (c ∷ [])) cs ≡ false)
  unfolding any_conflict
  any_none heard c cs h = or-none (conflicts ws ks heard c) (any_conflict ws ks (heard ++ (c ∷ [])) cs) h

  agree-more : (cs heard : List ℕ) → any_conflict ws ks heard cs ≡ false → Agree heard → Agree (heard ++ cs)
  agree-more [] heard h g = rw (append-nil heard) g
  agree-more (c ∷ cs) heard h g =
      let q = any_none heard c cs h in
      rw (append_snoc heard c cs) at (agree-more cs (heard ++ (c ∷ [])) q.1 (agree-next heard c q.0 g))

  -- where they are true, they conflict with nothing in other rows either
  still-none :
      (vs js : List ℕ) (cs heard : List ℕ) → any_conflict ws ks heard cs ≡ false
      → ((c : ℕ) → among c cs ≡ true → is_true (assigned vs) c ≡ true) →
      any_conflict vs js heard cs ≡ false
  unfolding any_conflict conflicts
  still-none vs js [] heard h t = refl
  still-none vs js (c ∷ cs) heard h t =
      let q = any_none heard c cs h in
      let n = still-none vs js cs (heard ++ (c ∷ [])) q.1 (λ d a. t d (among_later d c cs a)) in
      rw (t c (among-here c cs), not-opposite heard c q.0, n) (rw (and-false (is_known vs js (index_of c))))

-- ---- token by token

-- a token of a block that is accepted
pub record Taken (f : Form) (n : ℕ) (ws ks heard : List ℕ) (s : List ℕ) (is : List Item) (cs : List ℕ) : Type 0 where
  pub said : List ℕ
  pub says : literals_of f n s ≡ accept said
  pub none : any_conflict ws ks heard said ≡ false
  pub rest : hear f n ws ks (heard ++ said) is ≡ accepted cs

not-refused {ℓ} : {A : Type ℓ} {r : Refusal} {cs : List ℕ} → ◌≡◌ {A = Outcome (List ℕ)} (refused r) (accepted cs) → A
not-refused e = let z : ◌≡◌ {A = ℕ} 0 1 = cc in absurd (omega arith)

accepted-same : (xs ys : List ℕ) → accepted xs ≡ accepted ys → xs ≡ ys
accepted-same xs ys e = cc

module _ (f : Form) (n : ℕ) (ws ks heard : List ℕ) (p : ℕ) (s : List ℕ) (is : List Item) where
  taken : (cs : List ℕ) → hear f n ws ks heard (token p s ∷ is) ≡ accepted cs → Taken f n ws ks heard s is cs
  unfolding hear
  taken cs e = pick (literals_of f n s) refl e
    where
      clear : (ds : List ℕ) → literals_of f n s ≡ accept ds → (b : Bool) → any_conflict ws ks heard ds ≡ b
          → elim b [ true ↦ refused (refusal 22 p) | false ↦ hear f n ws ks (heard ++ ds) is ] ≡ accepted cs → Taken f n ws ks heard s is cs
      clear ds q true a h = not-refused h
      clear ds q false a h = record { said = ds; says = q; none = a; rest = h }

      pick : (x : Checked (List ℕ)) → literals_of f n s ≡ x
          → elim x [
            | refuse k ↦ refused (refusal k p)
            | accept ds ↦ elim (any_conflict ws ks heard ds) [ true ↦ refused (refusal 22 p) | false ↦ hear f n ws ks (heard ++ ds) is ]
          ] ≡ accepted cs → Taken f n ws ks heard s is cs
      pick (refuse k) q h = not-refused h
      pick (accept ds) q h = clear ds q (any_conflict ws ks heard ds) refl h

  takes : (ds : List ℕ) → literals_of f n s ≡ accept ds → any_conflict ws ks heard ds ≡ false
      → hear f n ws ks heard (token p s ∷ is) ≡ hear f n ws ks (heard ++ ds) is
  unfolding hear
  takes ds q a = rw (q, a, hear)

module _ (f : Form) (n : ℕ) (ws ks : List ℕ) where
  -- what was heard stays among them
  heard-stays : (is : List Item) (heard cs : List ℕ) → hear f n ws ks heard is ≡ accepted cs → (c : ℕ) → among c heard ≡ true
      → among c cs ≡ true
  unfolding hear
  heard-stays [] heard cs e c a = sym (ap (among c) (accepted-same heard cs e)) ∙ a
  heard-stays (untagged p ∷ is) heard cs e c a = not-refused e
  heard-stays (token p s ∷ is) heard cs e c a =
      let k = taken f n ws ks heard p s is cs e in
      heard-stays is (heard ++ k.said) cs k.rest c (among-left c heard k.said a)

  heard-agree : (is : List Item) (heard cs : List ℕ) → hear f n ws ks heard is ≡ accepted cs → Agree ws ks heard → Agree ws ks cs
  unfolding hear
  heard-agree [] heard cs e g = rw (accepted-same heard cs e) at g
  heard-agree (untagged p ∷ is) heard cs e g = not-refused e
  heard-agree (token p s ∷ is) heard cs e g =
      let k = taken f n ws ks heard p s is cs e in
      heard-agree is (heard ++ k.said) cs k.rest (agree-more ws ks k.said heard k.none g)

  -- all that a block says agrees
  pub all-agree : (is : List Item) (cs : List ℕ) → hear f n ws ks [] is ≡ accepted cs → Agree ws ks cs
  all-agree is cs e = heard-agree is [] cs e (agree-none ws ks)

  -- read again, where it is true and where tokens say the same
  pub heard-again :
      (m : ℕ) (vs js : List ℕ) → ((s : List ℕ) → literals_of f m s ≡ literals_of f n s) →
      (is : List Item) (heard cs : List ℕ) → hear f n ws ks heard is ≡ accepted cs
      → ((c : ℕ) → among c cs ≡ true → is_true (assigned vs) c ≡ true) →
      hear f m vs js heard is ≡ accepted cs
  unfolding hear
  heard-again m vs js l [] heard cs e t = e
  heard-again m vs js l (untagged p ∷ is) heard cs e t = not-refused e
  heard-again m vs js l (token p s ∷ is) heard cs e t =
      let k = taken f n ws ks heard p s is cs e in
      let stay = heard-stays is (heard ++ k.said) cs k.rest in
      let none = still-none ws ks vs js k.said heard k.none (λ c a. t c (stay c (among-right c heard k.said a))) in
      takes f m vs js heard p s is k.said (l s ∙ k.says) none ∙ heard-again m vs js l is (heard ++ k.said) cs k.rest t

-- ---- and the rows have room for it

pub record Held (n room : ℕ) (x : Outcome (List ℕ)) (cs : List ℕ) : Type 0 where
  pub heard : x ≡ accepted cs
  pub fits : words_for (length_after n cs) ≤ room

pub is_held : (n room : ℕ) (x : Outcome (List ℕ)) (cs : List ℕ) → held n room x ≡ accepted cs → Held n room x cs
unfolding held
is_held n room (refused r) cs e = not-refused e
is_held n room (accepted ds) cs e = pick (leb (words_for (length_after n ds)) room) refl e
  where
    pick : (b : Bool) → leb (words_for (length_after n ds)) room ≡ b
        → cond b (accepted ds) (refused (refusal 12 (words_for (length_after n ds)))) ≡ accepted cs → Held n room (accepted ds) cs
    pick true q h = let l = leb-true (words_for (length_after n ds)) room q in record { heard = h; fits = rw (accepted-same ds cs h) at l }
    pick false q h = not-refused h

pub held-so : (n room : ℕ) (cs : List ℕ) → words_for (length_after n cs) ≤ room → held n room (accepted cs) ≡ accepted cs
unfolding held
held-so n room cs h = rw (le-leb (words_for (length_after n cs)) room h)
