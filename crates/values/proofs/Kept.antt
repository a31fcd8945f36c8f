-- What a block of value lines leaves, where it is accepted: "each variable met is known, with its value; every other
-- bit stays; the length is the greater of the kept one and one past each variable met" (02, A1); "what was known stays
-- known, with its value; a signed or x block read twice changes nothing more". Laws over the definitions.
use Prim.Native.Nat.{ℕ, ◌+◌, ◌≤◌}
use mathlib.Core.Path.{◌≡◌, sym, ap, ◌∙◌}
use mathlib.Core.Logic.{◌⊎◌}
use mathlib.Core.Bool.{true}
use mathlib.Core.List.{List}
use Rattle.definitions.specs.Literal.{index_of}
use Rattle.definitions.specs.Meaning.{is_true, assigned, is_known}
use Rattle.definitions.specs.Table.{accepted}
use Rattle.definitions.specs.Values.{among, form_of, length_after, valuing, new_length, valued, marked, values_after, known_after}
use Rattle.definitions.specs.declared.Form.TheVariants.{SignedNumbers, XTokens}
use Rattle.values.proofs.Rows.{at-least-kept, one-past, no_more, length-again}
use Rattle.values.proofs.Leaves.{known-met, true-met, value_stays, mark-stays, known_kept, value-kept, values-again}
use Rattle.values.proofs.Leaves.{marks-again, valuing-again}

-- m is the greater of n and one past each variable of cs: none of them is greater, and every number of which that holds
-- is at least m
pub record Greatest (n : ℕ) (cs : List ℕ) (m : ℕ) : Type 0 where
  pub kept : n ≤ m
  pub past : (c : ℕ) → among c cs ≡ true → index_of c + 1 ≤ m
  pub least : (k : ℕ) → n ≤ k → ((c : ℕ) → among c cs ≡ true → index_of c + 1 ≤ k) → m ≤ k

-- the block s says the literals cs on top of the length m, the values vs and the known words js, and changes none of
-- the three
pub record Unchanged (s : List ℕ) (m : ℕ) (vs js cs : List ℕ) : Type 0 where
  pub says : valuing s m vs js ≡ accepted cs
  pub reaches : new_length m (valuing s m vs js) ≡ accepted m
  pub values : values_after (valuing s m vs js) vs ≡ vs
  pub known : known_after (valuing s m vs js) js ≡ js

same_number : (m n : ℕ) → accepted m ≡ accepted n → m ≡ n
same_number m n e = cc

unchanged : (s : List ℕ) (m : ℕ) (vs js cs : List ℕ) → valuing s m vs js ≡ accepted cs → length_after m cs ≡ m → valued cs vs ≡ vs
    → marked cs js ≡ js → Unchanged s m vs js cs
unfolding values_after known_after
unchanged s m vs js cs e l v k =
    record {
      says = e;
      reaches = ap (new_length m) e ∙ ap accepted l;
      values = ap (λ x. values_after x vs) e ∙ v;
      known = ap (λ x. known_after x js) e ∙ k;
    }

-- the block s on top of the length n, the values ws and the known words ks, accepted with the literals cs
module _ (s : List ℕ) (n : ℕ) (ws ks cs : List ℕ) (e : valuing s n ws ks ≡ accepted cs) where
  -- the values and the known words afterwards
  abbrev ws' : List ℕ
  ws' = values_after (valuing s n ws ks) ws

  abbrev ks' : List ℕ
  ks' = known_after (valuing s n ws ks) ks

  values-are : ws' ≡ valued cs ws
  unfolding values_after
  values-are = ap (λ x. values_after x ws) e

  known-are : ks' ≡ marked cs ks
  unfolding known_after
  known-are = ap (λ x. known_after x ks) e

  -- "each variable met is known, with its value": the one with which the literal is true
  pub met-known : (c : ℕ) → among c cs ≡ true → (is_known ws' ks' (index_of c) ≡ true) × (is_true (assigned ws') c ≡ true)
  met-known c a = rw (values-are, known-are) (known-met s n ws ks cs e c a, true-met s n ws ks cs e c a)

  -- "every other bit stays", in both rows
  pub others-stay : (v : ℕ) → ((c : ℕ) → among c cs ≡ true → index_of c ≡ v → ⊥)
      → (assigned ws' v ≡ assigned ws v) × (assigned ks' v ≡ assigned ks v)
  others-stay v h =
      rw (values-are, known-are)
      (value_stays s n ws ks cs e v (λ c a q. absurd (h c a q)), mark-stays s n ws ks cs e v (λ c a q. absurd (h c a q)))

  -- "what was known stays known, with its value"
  pub known-stays : (v : ℕ) → is_known ws ks v ≡ true → (is_known ws' ks' v ≡ true) × (assigned ws' v ≡ assigned ws v)
  known-stays v h = rw (values-are, known-are) (known_kept s n ws ks cs e v h, value-kept s n ws ks cs e v h)

  -- the length m that the call answers
  module _ (m : ℕ) (g : new_length n (valuing s n ws ks) ≡ accepted m) where
    length-is : m ≡ length_after n cs
    length-is = same_number m (length_after n cs) (sym g ∙ ap (new_length n) e)

    -- "the length is the greater of the kept one and one past each variable met"
    pub length-grows : Greatest n cs m
    length-grows = rw length-is (record { kept = at-least-kept n cs; past = one-past n cs; least = no_more n cs })

    -- "a signed or x block read twice changes nothing more"
    pub read_again : (form_of s ≡ SignedNumbers) ⊎ (form_of s ≡ XTokens) → Unchanged s m ws' ks' cs
    read_again f =
        rw (values-are, known-are) (unchanged s m (valued cs ws) (marked cs ks) cs (valuing-again s n ws ks cs e m length-is f)
        (rw length-is (length-again n cs)) (values-again s n ws ks cs e) (marks-again s n ws ks cs e))
