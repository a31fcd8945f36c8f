-- What a block that was heard makes of a call: refused as it was heard; 12, where the shorter row has too few words; or
-- both rows with their bits. And what is heard of signed numbers and `x` tokens, by the answer of `heard::hear`.
use Rattle.std.specs.Prelude.{Result, Ok, Err}
use Prim.Native.Nat.{ℕ, ◌<◌, min}
use mathlib.Core.Path.{◌≡◌, refl, sym, ap, ◌∙◌}
use mathlib.Core.Bool.{Bool, true, false, cond}
use mathlib.Core.List.{List, [], ◌∷◌, map}
use native.Mathlib.Omega.{arith}
use lib.Dec.{leb}
use lib.ListN.{length}
use Rattle.definitions.specs.Refusal.{refusal}
use Rattle.definitions.specs.declared.Refusal.{Refusal}
use Rattle.definitions.specs.Table.{Outcome, refused, accepted}
use Rattle.definitions.specs.Values.{Item, front, items_from, items_of, form_of, hear, length_after, words_for, held, valuing, new_length}
use Rattle.definitions.specs.Values.{valued, marked, values_after, known_after}
use Rattle.definitions.proofs.Truths.{never}
use Rattle.tokens.specs.Said.{form_by}
use Rattle.settling.specs.Flat.{code_in, said_by}
use Rattle.heard.proofs.Hearing.{said-heard}
use Rattle.values.specs.Reads.{in_words, ReadsValues}

-- ---- from what was heard to the call

-- an empty block
pub read-empty : (s : List ℕ) (n : ℕ) (ws ks : List ℕ) → length s ≡ 0 → ReadsValues s n ws ks (Err (refusal 20 0)) ws ks
unfolding valuing held hear values_after known_after
read-empty [] n ws ks e = record { answer = refl; values = refl; known = refl }
read-empty (b ∷ s) n ws ks e = absurd (omega arith)

module _ (s : List ℕ) (n : ℕ) (ws ks : List ℕ) where
  abbrev pub Heard : Outcome (List ℕ)
  Heard = hear (form_of s) n ws ks [] (items_from front 0 s)

  -- what is refused changes nothing
  leaves : (r : Refusal) → valuing s n ws ks ≡ refused r → ReadsValues s n ws ks (Err r) ws ks
  unfolding values_after known_after
  leaves r v =
      record {
        answer = sym (ap (new_length n) v);
        values = sym (ap (λ (o : Outcome (List ℕ)). values_after o ws) v);
        known = sym (ap (λ (o : Outcome (List ℕ)). known_after o ks) v);
      }

  module _ (some : 0 < length s) where
    whole : valuing s n ws ks ≡ held n (min (length ws) (length ks)) Heard
    unfolding valuing
    whole = by s some
      where
        by : (s : List ℕ) → 0 < length s → held n (min (length ws) (length ks)) (hear (form_of s) n ws ks [] (items_of s))
            ≡ held n (min (length ws) (length ks)) (hear (form_of s) n ws ks [] (items_from front 0 s))
        by [] h = absurd (omega arith)
        by (b ∷ s) h = refl

    -- refused as it was heard
    pub read-refused : (r : Refusal) → Heard ≡ refused r → ReadsValues s n ws ks (Err r) ws ks
    unfolding held values_after known_after
    read-refused r h = leaves r (whole ∙ ap (held n (min (length ws) (length ks))) h)

    module _ (cs : List ℕ) (h : Heard ≡ accepted cs) (m : ℕ) (long : m ≡ length_after n cs) where
      by-words : valuing s n ws ks ≡ cond (leb (words_for m) (min (length ws) (length ks))) (accepted cs) (refused (refusal 12 (words_for m)))
      unfolding held
      by-words = rw long (whole ∙ ap (held n (min (length ws) (length ks))) h)

      -- too few words
      pub read_short : (r : Refusal) → Err r ≡ in_words m (min (length ws) (length ks)) → ReadsValues s n ws ks (Err r) ws ks
      read_short r e = by (leb (words_for m) (min (length ws) (length ks))) refl
        where
          by : (b : Bool) → leb (words_for m) (min (length ws) (length ks)) ≡ b → ReadsValues s n ws ks (Err r) ws ks
          by true f = never (cc (rw f at e))
          by false f = let z : r ≡ refusal 12 (words_for m) = cc (rw f at e) in leaves r (by-words ∙ rw (f, z))

      -- both rows with their bits
      pub read-fine : (k : ℕ) (ws' ks' : List ℕ) → Ok k ≡ in_words m (min (length ws) (length ks)) → ws' ≡ valued cs ws → ks' ≡ marked cs ks
          → ReadsValues s n ws ks (Ok k) ws' ks'
      unfolding values_after known_after
      read-fine k ws' ks' e x y = by (leb (words_for m) (min (length ws) (length ks))) refl
        where
          by : (b : Bool) → leb (words_for m) (min (length ws) (length ks)) ≡ b → ReadsValues s n ws ks (Ok k) ws' ks'
          by true f =
              let z : k ≡ m = cc (rw f at e) in
              let v : valuing s n ws ks ≡ accepted cs = by-words ∙ rw f in
              record {
                answer = ap accepted (z ∙ long) ∙ sym (ap (new_length n) v);
                values = x ∙ sym (ap (λ (o : Outcome (List ℕ)). values_after o ws) v);
                known = y ∙ sym (ap (λ (o : Outcome (List ℕ)). known_after o ks) v);
              }
          by false f = never (cc (rw f at e))

    -- nothing was said: the length stays
    pub read-nothing : Heard ≡ accepted [] → (r : Result ℕ Refusal) → r ≡ in_words n (min (length ws) (length ks)) → ReadsValues s n ws ks r ws ks
    unfolding length_after valued marked
    read-nothing h (Ok k) e = read-fine [] h n refl k ws ks e refl refl
    read-nothing h (Err r) e = read_short [] h n refl r e

-- ---- signed numbers and `x` tokens
was-refused : (n : ℕ) (x : Outcome (List ℕ)) (i : Refusal) → refused i ≡ new_length n x → x ≡ refused i
was-refused n (refused j) i e = let z : i ≡ j = cc in ap refused (sym z)
was-refused n (accepted cs) i e = never (cc)

record Accepts (n m : ℕ) (x : Outcome (List ℕ)) : Type 0 where
  codes : List ℕ
  heard : x ≡ accepted codes
  long : m ≡ length_after n codes

was-accepted : (n m : ℕ) (x : Outcome (List ℕ)) → accepted m ≡ new_length n x → Accepts n m x
was-accepted n m (refused i) e = never (cc)
was-accepted n m (accepted cs) e = record { codes = cs; heard = refl; long = cc }

module _ (s : List ℕ) (named : Bool) (n : ℕ) (ws ks : List ℕ) (form : form_of s ≡ form_by named) where
  abbrev items : List Item
  items = items_from front 0 s

  abbrev said : List ℕ
  said = map code_in (said_by named items)

  by_form : Heard s n ws ks ≡ hear (form_by named) n ws ks [] items
  by_form = ap (λ f. hear f n ws ks [] items) form

  pub literals-refused : (i : Refusal) → refused i ≡ new_length n (hear (form_by named) n ws ks [] items) → Heard s n ws ks ≡ refused i
  literals-refused i e = by_form ∙ was-refused n (hear (form_by named) n ws ks [] items) i e

  pub literals-said : (m : ℕ) → accepted m ≡ new_length n (hear (form_by named) n ws ks [] items)
      → (Heard s n ws ks ≡ accepted said) × (m ≡ length_after n said)
  literals-said m e =
      let a = was-accepted n m (hear (form_by named) n ws ks [] items) e in
      let q = sym (said-heard s named n ws ks a.codes a.heard) in
      (by_form ∙ a.heard ∙ ap accepted q, a.long ∙ ap (length_after n) q)
