-- What does a chain of readers answer? A link at a time, as code takes it; and how many bytes a chain takes.
use Prim.Native.Nat.{ℕ, ◌+◌, ◌≤◌}
use mathlib.Core.Path.{◌≡◌, refl, sym, ap, ◌∙◌}
use mathlib.Core.List.{List}
use native.Mathlib.Omega.{arith}
use lib.ListN.{length, drop, length-drop}
use Rattle.definitions.specs.Refusal.{Fault}
use Rattle.definitions.specs.Reader.{Got, none, got, Reader, more, chain, done}
use Rattle.definitions.proofs.Truths.{never}

module _ {A B : Type 0} (p : Reader A) (k : A → Reader B) (s : List ℕ) where
  pub chain-none : (e : Fault) → p s ≡ none e → chain p k s ≡ none e
  unfolding chain
  chain-none e q = rw q

  pub chain-got : (a : A) (n : ℕ) → p s ≡ got a n → chain p k s ≡ more n (k a (drop n s))
  unfolding chain
  chain-got a n q = rw q

-- what a chain got came from both links
pub record Linked {A B : Type 0} (p : Reader A) (k : A → Reader B) (s : List ℕ) (b : B) (m : ℕ) : Type 0 where
  pub given : A
  pub taken : ℕ
  pub behind : ℕ
  pub here : p s ≡ got given taken
  pub there : k given (drop taken s) ≡ got b behind
  pub total : m ≡ taken + behind

pub chain-linked : {A B : Type 0} (p : Reader A) (k : A → Reader B) (s : List ℕ) (b : B) (m : ℕ) → chain p k s ≡ got b m → Linked p k s b m
unfolding chain
chain-linked {A} {B} p k s b m e = first (p s) refl
  where
    second : (a : A) (n : ℕ) → p s ≡ got a n → (g : Got B) → k a (drop n s) ≡ g → Linked p k s b m
    second a n q (none x) f = let c : none x ≡ got b m = ap (more n) (sym f) ∙ sym (chain-got p k s a n q) ∙ e in never cc
    second a n q (got b' j) f =
        let c : got b' (n + j) ≡ got b m = ap (more n) (sym f) ∙ sym (chain-got p k s a n q) ∙ e in
        let same : b' ≡ b = cc in
        record { given = a; taken = n; behind = j; here = q; there = f ∙ ap (λ x. got x j) same; total = cc }

    first : (g : Got A) → p s ≡ g → Linked p k s b m
    first (none x) q = let c : none x ≡ got b m = sym (chain-none p k s x q) ∙ e in never cc
    first (got a n) q = second a n q (k a (drop n s)) refl

-- ---- a reader that takes no more than there is
pub record Within {A : Type 0} (p : Reader A) : Type 0 where
  pub most : (s : List ℕ) (a : A) (n : ℕ) → p s ≡ got a n → n ≤ length s

pub within-chain : {A B : Type 0} (p : Reader A) (k : A → Reader B) → Within p → ((a : A) → Within (k a)) → Within (chain p k)
within-chain p k u v = record {
  most = λ s b m e. let l = chain-linked p k s b m e in
      omega (
        arith,
        u.most s l.given l.taken l.here,
        (v l.given).most (drop l.taken s) b l.behind l.there,
        length-drop l.taken s,
        l.total,
      );
}

pub within-done : {A : Type 0} (a : A) → Within (done a)
unfolding done
within-done a = record { most = λ s b n e. let z : 0 ≡ n = cc in omega arith }
