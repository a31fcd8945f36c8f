-- One step of a walk over a block of signed numbers or `x` tokens: what the next token leaves of the literals said, of
-- the refusal behind them, and of the words.
use mathlib.Core.Path.{◌≡◌, refl, sym, ap, subst, ◌∙◌}
use mathlib.Core.Bool.{Bool}
use mathlib.Core.List.{List, [], ◌∷◌, ◌++◌, map}
use Prim.Native.Nat.{ℕ, ◌≤◌, ◌<◌}
use native.Mathlib.Omega.{arith}
use lib.ListN.{length, drop}
use Rattle.std.specs.Prelude.{Option, Some, None, Result}
use Rattle.definitions.specs.Refusal.{refusal, Checked, refuse, accept}
use Rattle.definitions.specs.declared.Refusal.{Refusal}
use Rattle.definitions.specs.Values.{Item, untagged, token, items_from, valued, marked}
use Rattle.tokens.specs.Said.{token_says}
use Rattle.items.specs.Items.{Found, nothing, line, word, spot_of, found_from, text_at, end_at, on_from}
use Rattle.tokens.specs.NextTokens as tokens
use Rattle.tokens.specs.declared.next.Said.{Said}
use Rattle.items.proofs.Spots.{token-met, line-met, end-met}
use Rattle.settling.specs.Flat.{placed, code_in, said_by, stop_of}

-- ---- the first of a list of items: nothing more; a refusal; or a token at p that says these literals, with the items
-- behind it
pub data Step : Type 0 where
  ends : Step
  refuses : ℕ → ℕ → Step
  says : ℕ → List ℕ → List Item → Step

abbrev pub step_by : ℕ → List Item → Checked (List ℕ) → Step
step_by p is (refuse e) = refuses e p
step_by p is (accept cs) = says p cs is

abbrev pub step_of : Bool → List Item → Step
step_of named [] = ends
step_of named (untagged p ∷ is) = refuses 20 p
step_of named (token p s ∷ is) = step_by p is (token_says named s)

-- the step that `next_token` answers, with the items behind its end
abbrev pub step_in : List ℕ → tokens.Step → Step
step_in block tokens.ends = ends
step_in block (tokens.refuses n p) = refuses n p
step_in block (tokens.says p e cs) = says p cs (on_from block e)

abbrev pub said_next : List ℕ → Result (Option Said) Refusal → Step
said_next block r = step_in block (tokens.said_next r)

-- a token lies ahead, and within the block
abbrev pub Lies : tokens.Step → ℕ → ℕ → Type 0
Lies tokens.ends from length = Unit {0}
Lies (tokens.refuses n p) from length = Unit {0}
Lies (tokens.says p e cs) from length = (from ≤ p) × (p < e) × (e ≤ length)

abbrev pub Ahead : Result (Option Said) Refusal → ℕ → ℕ → Type 0
Ahead r from length = Lies (tokens.said_next r) from length

step_in_lem : (block : List ℕ) (p e : ℕ) (x : Checked (List ℕ)) → step_in block (tokens.step_by p e x) ≡ step_by p (on_from block e) x
step_in_lem block p e (refuse n) = refl
step_in_lem block p e (accept cs) = refl

lies-by : (p e from n : ℕ) (x : Checked (List ℕ)) → from ≤ p → p < e → e ≤ n → Lies (tokens.step_by p e x) from n
lies-by p e from n (refuse m) f g h = tt
lies-by p e from n (accept cs) f g h = (f, g, h)

module _ (named : Bool) (block : List ℕ) (opens : Bool) (from : ℕ) where
  abbrev items : List Item
  items = items_from (spot_of opens) from (drop from block)

  step-found : (f : Found) → found_from opens from block ≡ f
      → (step_in block (tokens.step_at named block f) ≡ step_of named items) × Lies (tokens.step_at named block f) from (length block)
  step-found nothing q = (sym (ap (step_of named) (end-met (spot_of opens) block from q)), tt)
  step-found (line p) q = (sym (ap (step_of named) (line-met (spot_of opens) block from p q).items), tt)
  step-found (word p) q =
      let m = token-met (spot_of opens) block from p q in
      let x = token_says named (text_at block p) in (
        step_in_lem block p (end_at block p) x ∙ sym (ap (step_of named) m.items),
        lies-by p (end_at block p) from (length block) x m.ahead (omega (arith, m.some)) m.fits,
      )

  pub next-step : (r : Result (Option Said) Refusal) → tokens.said_next r ≡ tokens.step_at named block (found_from opens from block)
      → (said_next block r ≡ step_of named items) × Ahead r from (length block)
  next-step r e =
      let s = step-found (found_from opens from block) refl in
      (ap (step_in block) e ∙ s.0, subst (λ (t : tokens.Step). Lies t from (length block)) (sym e) s.1)

-- ---- what it leaves

module _ (named : Bool) where
  -- a token that is refused, and one that says literals
  said-refused : (p : ℕ) (t : List ℕ) (is : List Item) (e : ℕ) → token_says named t ≡ refuse e
      → (said_by named (token p t ∷ is) ≡ []) × (stop_of named (token p t ∷ is) ≡ Some (refusal e p))
  unfolding said_by stop_of
  said-refused p t is e q = (rw (q, said_by), rw (q, stop_of))

  said-accepted : (p : ℕ) (t : List ℕ) (is : List Item) (cs : List ℕ) → token_says named t ≡ accept cs
      → (said_by named (token p t ∷ is) ≡ map (placed p) cs ++ said_by named is) × (stop_of named (token p t ∷ is) ≡ stop_of named is)
  unfolding said_by stop_of
  said-accepted p t is cs q = (rw (q, said_by), rw (q, stop_of))

  -- nothing more is met
  pub ends-step : (is : List Item) → step_of named is ≡ ends → (said_by named is ≡ []) × (stop_of named is ≡ None)
  unfolding said_by stop_of
  ends-step [] e = (refl, refl)
  ends-step (untagged p ∷ is) e = let z : ◌≡◌ {A = ℕ} 0 1 = cc in absurd (omega arith)
  ends-step (token p t ∷ is) e = by (token_says named t) e
    where
      by : (c : Checked (List ℕ)) → step_by p is c ≡ ends
          → (said_by named (token p t ∷ is) ≡ []) × (stop_of named (token p t ∷ is) ≡ None)
      by (refuse n) e = let z : ◌≡◌ {A = ℕ} 0 1 = cc in absurd (omega arith)
      by (accept cs) e = let z : ◌≡◌ {A = ℕ} 0 1 = cc in absurd (omega arith)

  -- 20, 21 or 5
  pub refuses-step : (is : List Item) (n p : ℕ) → step_of named is ≡ refuses n p
      → (said_by named is ≡ []) × (stop_of named is ≡ Some (refusal n p))
  unfolding said_by stop_of
  refuses-step [] n p e = let z : ◌≡◌ {A = ℕ} 0 1 = cc in absurd (omega arith)
  refuses-step (untagged k ∷ is) n p e = (refl, cc)
  refuses-step (token k t ∷ is) n p e = by (token_says named t) refl e
    where
      by : (c : Checked (List ℕ)) → token_says named t ≡ c → step_by k is c ≡ refuses n p
          → (said_by named (token k t ∷ is) ≡ []) × (stop_of named (token k t ∷ is) ≡ Some (refusal n p))
      by (refuse m) q e = let s = said-refused k t is m q in (s.0, s.1 ∙ cc)
      by (accept cs) q e = let z : ◌≡◌ {A = ℕ} 0 1 = cc in absurd (omega arith)

  -- a token that says these literals
  pub says-step : (is : List Item) (p : ℕ) (cs : List ℕ) (rest : List Item) → step_of named is ≡ says p cs rest
      → (said_by named is ≡ map (placed p) cs ++ said_by named rest) × (stop_of named is ≡ stop_of named rest)
  says-step [] p cs rest e = let z : ◌≡◌ {A = ℕ} 0 1 = cc in absurd (omega arith)
  says-step (untagged k ∷ is) p cs rest e = let z : ◌≡◌ {A = ℕ} 0 1 = cc in absurd (omega arith)
  says-step (token k t ∷ is) p cs rest e = by (token_says named t) refl e
    where
      by : (c : Checked (List ℕ)) → token_says named t ≡ c → step_by k is c ≡ says p cs rest
          → (said_by named (token k t ∷ is) ≡ map (placed p) cs ++ said_by named rest)
          × (stop_of named (token k t ∷ is) ≡ stop_of named rest)
      by (refuse m) q e = let z : ◌≡◌ {A = ℕ} 0 1 = cc in absurd (omega arith)
      by (accept ds) q e = let s = said-accepted k t is ds q in (s.0 ∙ cc, s.1 ∙ cc)

-- ---- the walk that settles

module _ (named : Bool) (is : List Item) (ws : List ℕ) where
  pub settle-ends : step_of named is ≡ ends
      → (valued (map code_in (said_by named is)) ws ≡ ws) × (marked (map code_in (said_by named is)) ws ≡ ws)
  unfolding valued marked
  settle-ends e = let s = (ends-step named is e).0 in (rw s, rw s)

  pub settle-refuses : (number place : ℕ) → step_of named is ≡ refuses number place
      → (valued (map code_in (said_by named is)) ws ≡ ws) × (marked (map code_in (said_by named is)) ws ≡ ws)
  unfolding valued marked
  settle-refuses number place e = let s = (refuses-step named is number place e).0 in (rw s, rw s)

  pub settle-nothing : (p : ℕ) (rest : List Item) → step_of named is ≡ says p [] rest
      → map code_in (said_by named is) ≡ map code_in (said_by named rest)
  settle-nothing p rest e = ap (map code_in) (says-step named is p [] rest e).0

  pub settle-says : (p c : ℕ) (rest : List Item) → step_of named is ≡ says p (c ∷ []) rest
      → (valued (map code_in (said_by named is)) ws ≡ valued (map code_in (said_by named rest)) (valued (c ∷ []) ws))
      × (marked (map code_in (said_by named is)) ws ≡ marked (map code_in (said_by named rest)) (marked (c ∷ []) ws))
  unfolding valued marked
  settle-says p c rest e = let s = (says-step named is p (c ∷ []) rest e).0 in (rw s, rw s)
