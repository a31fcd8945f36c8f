-- Token by token, as the definition hears a block, and all at once, as the code does: the literals said before the
-- first 20, 21 or 5, the first conflict among them, and that refusal.
use mathlib.Core.Path.{◌≡◌, refl, sym, ap, ◌∙◌}
use mathlib.Core.Bool.{Bool, true, false, cond}
use mathlib.Core.List.{List, [], ◌∷◌, ◌++◌, map, append-nil}
use Prim.Native.Nat.{ℕ, ◌≤◌, ◌<◌}
use native.Mathlib.Omega.{arith}
use Rattle.std.specs.Prelude.{Option, Some, None}
use lib.Seq.{append_snoc}
use Rattle.definitions.proofs.Truths.{never}
use Rattle.definitions.specs.Refusal.{refusal, Checked, refuse, accept}
use Rattle.definitions.specs.declared.Refusal.{Refusal}
use Rattle.definitions.specs.Table.{Outcome, refused, accepted}
use Rattle.definitions.specs.Values.{Item, untagged, token}
use Rattle.definitions.specs.Values.{conflicts, any_conflict, hear, literals_of}
use Rattle.tokens.specs.Said.{token_says, form_by}
use Rattle.settling.specs.Flat.{Placed, placed, code_in, said_by, stop_of}
use Rattle.heard.specs.Windows.{conflict_at, PlacesBelow}
use Rattle.heard.proofs.Split.{conflict-here, conflict-later}

-- ---- all at once

-- nothing more is said: the refusal, if there is one, or all that was heard
abbrev pub stopped : List ℕ → Option Refusal → Outcome (List ℕ)
stopped heard None = accepted heard
stopped heard (Some r) = refused r

unfoldable pub flatly : List ℕ → List ℕ → List ℕ → List Placed → Option Refusal → Outcome (List ℕ)
flatly ws ks heard [] stop = stopped heard stop
flatly ws ks heard (x ∷ xs) stop =
    cond (conflicts ws ks heard x.code) (refused (refusal 22 x.place)) (flatly ws ks (heard ++ (x.code ∷ [])) xs stop)

module _ (ws ks : List ℕ) where
  -- the literals of one token
  abbrev token_heard : ℕ → List ℕ → List ℕ → List Placed → Option Refusal → Bool → Outcome (List ℕ)
  token_heard p cs heard xs stop true = refused (refusal 22 p)
  token_heard p cs heard xs stop false = flatly ws ks (heard ++ cs) xs stop

  flatly-token : (p : ℕ) (cs : List ℕ) (heard : List ℕ) (xs : List Placed) (stop : Option Refusal)
      → flatly ws ks heard (map (placed p) cs ++ xs) stop ≡ token_heard p cs heard xs stop (any_conflict ws ks heard cs)
  unfolding flatly any_conflict
  flatly-token p [] heard xs stop = rw (append-nil heard)
  flatly-token p (c ∷ cs) heard xs stop = by (conflicts ws ks heard c) refl (flatly-token p cs (heard ++ (c ∷ [])) xs stop)
    where
      by : (b : Bool) → conflicts ws ks heard c ≡ b
          → flatly ws ks (heard ++ (c ∷ [])) (map (placed p) cs ++ xs) stop
          ≡ token_heard p cs (heard ++ (c ∷ [])) xs stop (any_conflict ws ks (heard ++ (c ∷ [])) cs)
          → flatly ws ks heard (map (placed p) (c ∷ cs) ++ xs) stop ≡ token_heard p (c ∷ cs) heard xs stop (any_conflict ws ks heard (c ∷ cs))
      by true e h = rw e
      by false e h = rw e (h ∙ same (any_conflict ws ks (heard ++ (c ∷ [])) cs))
        where
          same : (b : Bool) → token_heard p cs (heard ++ (c ∷ [])) xs stop b ≡ token_heard p (c ∷ cs) heard xs stop b
          same true = refl
          same false = ap (λ (l : List ℕ). flatly ws ks l xs stop) (append_snoc heard c cs)

  says-named : (named : Bool) (n : ℕ) (t : List ℕ) → literals_of (form_by named) n t ≡ token_says named t
  says-named true n t = refl
  says-named false n t = refl

  module _ (named : Bool) (n p : ℕ) (t : List ℕ) (is : List Item) (heard : List ℕ) where
    hear-refused : (e : ℕ) → token_says named t ≡ refuse e → hear (form_by named) n ws ks heard (token p t ∷ is) ≡ refused (refusal e p)
    unfolding hear
    hear-refused e q = rw (says-named named n t ∙ q, hear)

    hear-accepted : (cs : List ℕ) → token_says named t ≡ accept cs
        → hear (form_by named) n ws ks heard (token p t ∷ is)
        ≡ elim (any_conflict ws ks heard cs) [ true ↦ refused (refusal 22 p) | false ↦ hear (form_by named) n ws ks (heard ++ cs) is ]
    unfolding hear
    hear-accepted cs q = rw (says-named named n t ∙ q, hear)

    flatly-refused : (e : ℕ) → token_says named t ≡ refuse e
        → flatly ws ks heard (said_by named (token p t ∷ is)) (stop_of named (token p t ∷ is)) ≡ refused (refusal e p)
    unfolding said_by stop_of flatly
    flatly-refused e q = rw (q, said_by, stop_of)

    flatly-accepted : (cs : List ℕ) → token_says named t ≡ accept cs
        → flatly ws ks heard (said_by named (token p t ∷ is)) (stop_of named (token p t ∷ is))
        ≡ flatly ws ks heard (map (placed p) cs ++ said_by named is) (stop_of named is)
    unfolding said_by stop_of
    flatly-accepted cs q = rw (q, said_by, stop_of)

  -- token by token is all at once
  pub hear-flatly : (named : Bool) (n : ℕ) (is : List Item) (heard : List ℕ)
      → hear (form_by named) n ws ks heard is ≡ flatly ws ks heard (said_by named is) (stop_of named is)
  unfolding hear flatly said_by stop_of
  hear-flatly named n [] heard = refl
  hear-flatly named n (untagged p ∷ is) heard = refl
  hear-flatly named n (token p t ∷ is) heard = by (token_says named t) refl (λ (cs : List ℕ). hear-flatly named n is (heard ++ cs))
    where
      by : (c : Checked (List ℕ)) → token_says named t ≡ c
          → ((cs : List ℕ) → hear (form_by named) n ws ks (heard ++ cs) is
          ≡ flatly ws ks (heard ++ cs) (said_by named is) (stop_of named is))
          → hear (form_by named) n ws ks heard (token p t ∷ is)
          ≡ flatly ws ks heard (said_by named (token p t ∷ is)) (stop_of named (token p t ∷ is))
      by (refuse e) q h =
          hear-refused named n p t is heard e q ∙ sym (flatly-refused named n p t is heard e q)
      by (accept cs) q h =
          hear-accepted named n p t is heard cs q
          ∙ same (any_conflict ws ks heard cs)
          ∙ sym (flatly-token p cs heard (said_by named is) (stop_of named is))
          ∙ sym (flatly-accepted named n p t is heard cs q)
        where
          same : (b : Bool)
              → elim b [ true ↦ refused (refusal 22 p) | false ↦ hear (form_by named) n ws ks (heard ++ cs) is ]
              ≡ token_heard p cs heard (said_by named is) (stop_of named is) b
          same true = refl
          same false = h cs

  -- ---- the first conflict, and what is left without one

  -- one literal of the list
  flatly-here : (x : Placed) (xs : List Placed) (heard : List ℕ) (stop : Option Refusal) → conflicts ws ks heard x.code ≡ true
      → flatly ws ks heard (x ∷ xs) stop ≡ refused (refusal 22 x.place)
  unfolding flatly
  flatly-here x xs heard stop e = rw e

  flatly-later : (x : Placed) (xs : List Placed) (heard : List ℕ) (stop : Option Refusal) → conflicts ws ks heard x.code ≡ false
      → flatly ws ks heard (x ∷ xs) stop ≡ flatly ws ks (heard ++ (x.code ∷ [])) xs stop
  unfolding flatly
  flatly-later x xs heard stop e = rw e

  pub flatly-conflict : (end : ℕ) (stop : Option Refusal) (xs : List Placed) (heard : List ℕ)
      → conflict_at ws ks heard end xs < end
      → flatly ws ks heard xs stop ≡ refused (refusal 22 (conflict_at ws ks heard end xs))
  unfolding flatly conflict_at
  flatly-conflict end stop [] heard h = absurd (omega arith)
  flatly-conflict end stop (x ∷ xs) heard h =
      by (conflicts ws ks heard x.code) refl (λ k. flatly-conflict end stop xs (heard ++ (x.code ∷ [])) k)
    where
      by : (b : Bool) → conflicts ws ks heard x.code ≡ b
          → (conflict_at ws ks (heard ++ (x.code ∷ [])) end xs < end
          → flatly ws ks (heard ++ (x.code ∷ [])) xs stop
          ≡ refused (refusal 22 (conflict_at ws ks (heard ++ (x.code ∷ [])) end xs)))
          → flatly ws ks heard (x ∷ xs) stop ≡ refused (refusal 22 (conflict_at ws ks heard end (x ∷ xs)))
      by true e f =
          flatly-here x xs heard stop e ∙ ap (λ (p : ℕ). refused (refusal 22 p)) (sym (conflict-here ws ks heard end x xs e))
      by false e f =
          let q = conflict-later ws ks heard end x xs e in
          flatly-later x xs heard stop e ∙ f (rw q at h) ∙ ap (λ (p : ℕ). refused (refusal 22 p)) (sym q)

  pub flatly-fine : (end : ℕ) (stop : Option Refusal) (xs : List Placed) (heard : List ℕ) → PlacesBelow end xs
      → end ≤ conflict_at ws ks heard end xs → flatly ws ks heard xs stop ≡ stopped (heard ++ map code_in xs) stop
  unfolding flatly conflict_at
  flatly-fine end stop [] heard a h = rw (append-nil heard)
  flatly-fine end stop (x ∷ xs) heard a h =
      by (conflicts ws ks heard x.code) refl (λ k. flatly-fine end stop xs (heard ++ (x.code ∷ [])) a.1 k)
    where
      by : (b : Bool) → conflicts ws ks heard x.code ≡ b
          → (end ≤ conflict_at ws ks (heard ++ (x.code ∷ [])) end xs
          → flatly ws ks (heard ++ (x.code ∷ [])) xs stop ≡ stopped ((heard ++ (x.code ∷ [])) ++ map code_in xs) stop)
          → flatly ws ks heard (x ∷ xs) stop ≡ stopped (heard ++ map code_in (x ∷ xs)) stop
      by true e f = let q = conflict-here ws ks heard end x xs e in let u : x.place < end = a.0 in absurd (omega arith)
      by false e f =
          let q = conflict-later ws ks heard end x xs e in
          flatly-later x xs heard stop e ∙ f (rw q at h) ∙ ap (λ (l : List ℕ). stopped l stop) (append_snoc heard x.code (map code_in xs))

  -- what is accepted is all that was said
  pub flatly-accepts : (stop : Option Refusal) (xs : List Placed) (heard cs : List ℕ) → flatly ws ks heard xs stop ≡ accepted cs
      → cs ≡ heard ++ map code_in xs
  unfolding flatly
  flatly-accepts None [] heard cs e = let q : cs ≡ heard = cc in q ∙ sym (append-nil heard)
  flatly-accepts (Some r) [] heard cs e = never (cc)
  flatly-accepts stop (x ∷ xs) heard cs e =
      by (conflicts ws ks heard x.code) refl (λ f. flatly-accepts stop xs (heard ++ (x.code ∷ [])) cs f)
    where
      by : (b : Bool) → conflicts ws ks heard x.code ≡ b
          → (flatly ws ks (heard ++ (x.code ∷ [])) xs stop ≡ accepted cs → cs ≡ (heard ++ (x.code ∷ [])) ++ map code_in xs)
          → cs ≡ heard ++ map code_in (x ∷ xs)
      by true q f = let z = sym (flatly-here x xs heard stop q) ∙ e in never (cc)
      by false q f = f (sym (flatly-later x xs heard stop q) ∙ e) ∙ append_snoc heard x.code (map code_in xs)
