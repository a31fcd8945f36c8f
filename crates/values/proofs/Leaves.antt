-- What an accepted block leaves in the two rows, over the literals cs that it says: what Kept.antt says, with its
-- proofs.
use Prim.Native.Nat.{ℕ, ◌*◌, ◌≤◌, ◌<◌, min}
use mathlib.Core.Path.{◌≡◌, refl, sym, ap, ◌∙◌}
use mathlib.Core.Logic.{◌⊎◌, inl, inr}
use mathlib.Core.Bool.{Bool, true, false, cond, not}
use mathlib.Core.List.{List, []}
use native.Mathlib.Omega.{arith}
use borrow.Author.Tests.{lt-ltb}
use lib.Dec.{ltb}
use lib.ListN.{length}
use Rattle.definitions.specs.Literal.{index_of, negated}
use Rattle.definitions.specs.Meaning.{Assignment, is_true, assigned, is_known}
use Rattle.definitions.specs.Table.{accepted}
use Rattle.definitions.specs.Values.{among, form_of, items_of, literals_of, hear, held, length_after, words_for, valuing, valued, marked}
use Rattle.definitions.specs.declared.Form.{Form}
use Rattle.definitions.specs.declared.Form.TheVariants.{SignedNumbers, XTokens}
use Rattle.definitions.proofs.Truths.{both}
use Rattle.bits.proofs.JoinedLiterals.{length-valued, length_marked}
use Rattle.values.proofs.Rows.{Within, Saying, valued-written, marked-written, stays, met, written-again, one-past, length-again}
use Rattle.values.proofs.Agreeing.{Agree, all-agree, heard-again, Held, is_held, held-so}

-- ---- a literal is true where its variable has the value it says

true-where : (a : Assignment) (c : ℕ) → a (index_of c) ≡ not (negated c) → is_true a c ≡ true
unfolding is_true
true-where a c h = rw h (cases (negated c))
  where
    cases : (b : Bool) → cond b (not (not b)) (not b) ≡ true
    cases true = refl
    cases false = refl

where-true : (a : Assignment) (c : ℕ) → is_true a c ≡ true → not (negated c) ≡ a (index_of c)
unfolding is_true
where-true a c h = cases (negated c) (a (index_of c)) h
  where
    cases : (n b : Bool) → cond n (not b) b ≡ true → not n ≡ b
    cases true true e = e
    cases true false e = refl
    cases false b e = sym e

-- tokens of signed numbers and `x` tokens say the same at any length
pub same-said : (f : Form) → (f ≡ SignedNumbers) ⊎ (f ≡ XTokens) → (m n : ℕ) (t : List ℕ) → literals_of f m t ≡ literals_of f n t
same-said f (inl h) m n t = rw h
same-said f (inr h) m n t = rw h

-- ---- the literals cs of an accepted block

module _ (s : List ℕ) (n : ℕ) (ws ks cs : List ℕ) (e : valuing s n ws ks ≡ accepted cs) where
  block_held : Held n (min (length ws) (length ks)) (hear (form_of s) n ws ks [] (items_of s)) cs
  unfolding valuing
  block_held = is_held n (min (length ws) (length ks)) (hear (form_of s) n ws ks [] (items_of s)) cs e

  agreed : Agree ws ks cs
  agreed = all-agree (form_of s) n ws ks (items_of s) cs block_held.heard

  within : (m : ℕ) → min (length ws) (length ks) ≤ m → Within m cs
  within m h c a = omega (arith, one-past n cs c a, block_held.fits)

  pub value-met : (c : ℕ) → among c cs ≡ true → assigned (valued cs ws) (index_of c) ≡ not (negated c)
  value-met c a =
      ap (λ (l : List ℕ). assigned l (index_of c)) (valued-written cs ws)
      ∙ met (λ (d : ℕ). not (negated d)) (index_of c) (not (negated c)) cs ws (within (length ws) (omega arith))
      (λ d b q. ap (λ (x : ℕ). not (negated x)) (agreed.same d c b a q)) c a refl

  mark-met : (c : ℕ) → among c cs ≡ true → assigned (marked cs ks) (index_of c) ≡ true
  mark-met c a =
      ap (λ (l : List ℕ). assigned l (index_of c)) (marked-written cs ks)
      ∙ met (λ (d : ℕ). true) (index_of c) true cs ks (within (length ks) (omega arith)) (λ d b q. refl) c a refl

  pub value_stays : (v : ℕ) → Saying (λ (c : ℕ). not (negated c)) v (assigned ws v) cs → assigned (valued cs ws) v ≡ assigned ws v
  value_stays v h =
      ap (λ (l : List ℕ). assigned l v) (valued-written cs ws)
      ∙ stays (λ (d : ℕ). not (negated d)) v (assigned ws v) cs ws (within (length ws) (omega arith)) h refl

  pub mark-stays : (v : ℕ) → Saying (λ (c : ℕ). true) v (assigned ks v) cs → assigned (marked cs ks) v ≡ assigned ks v
  mark-stays v h =
      ap (λ (l : List ℕ). assigned l v) (marked-written cs ks)
      ∙ stays (λ (d : ℕ). true) v (assigned ks v) cs ks (within (length ks) (omega arith)) h refl

  pub true-met : (c : ℕ) → among c cs ≡ true → is_true (assigned (valued cs ws)) c ≡ true
  true-met c a = true-where (assigned (valued cs ws)) c (value-met c a)

  pub known-met : (c : ℕ) → among c cs ≡ true → is_known (valued cs ws) (marked cs ks) (index_of c) ≡ true
  unfolding is_known
  known-met c a =
      let l : index_of c < 64 * length (valued cs ws) = omega (arith, within (length ws) (omega arith) c a, length-valued cs ws) in
      rw (lt-ltb (index_of c) (64 * length (valued cs ws)) l) (mark-met c a)

  -- ---- a variable that was known
  module _ (v : ℕ) (h : is_known ws ks v ≡ true) where
    was-known : (ltb v (64 * length ws) ≡ true) × (assigned ks v ≡ true)
    unfolding is_known
    was-known = both (ltb v (64 * length ws)) (assigned ks v) h

    pub known_kept : is_known (valued cs ws) (marked cs ks) v ≡ true
    unfolding is_known
    known_kept = rw (length-valued cs ws, was-known.0) (mark-stays v (λ c a q. sym was-known.1) ∙ was-known.1)

    pub value-kept : assigned (valued cs ws) v ≡ assigned ws v
    value-kept =
        value_stays v (λ c a q. where-true (assigned ws) c (agreed.fit c a (ap (is_known ws ks) q ∙ h)) ∙ ap (assigned ws) q)

  -- ---- read again
  pub values-again : valued cs (valued cs ws) ≡ valued cs ws
  values-again = valued-written cs (valued cs ws) ∙ written-again (λ (c : ℕ). not (negated c)) cs (valued cs ws) value-met

  pub marks-again : marked cs (marked cs ks) ≡ marked cs ks
  marks-again = marked-written cs (marked cs ks) ∙ written-again (λ (c : ℕ). true) cs (marked cs ks) mark-met

  module _ (m : ℕ) (j : m ≡ length_after n cs) where
    fits-again : words_for (length_after m cs) ≤ min (length (valued cs ws)) (length (marked cs ks))
    fits-again = rw (j, length-again n cs, length-valued cs ws, length_marked cs ks) block_held.fits

    pub valuing-again : (form_of s ≡ SignedNumbers) ⊎ (form_of s ≡ XTokens) → valuing s m (valued cs ws) (marked cs ks) ≡ accepted cs
    unfolding valuing
    valuing-again f =
        let room = min (length (valued cs ws)) (length (marked cs ks)) in
        let said = same-said (form_of s) f m n in
        ap (held m room) (heard-again (form_of s) n ws ks m (valued cs ws) (marked cs ks) said (items_of s) [] cs
        block_held.heard true-met)
        ∙ held-so m room cs fits-again
