-- Does a walk leave a byte out? Whatever it finds, the text is the pieces that its step took, and a rest where it
-- stopped.
use Prim.Native.Nat.{ℕ, zero, suc, ◌+◌, ◌<◌}
use mathlib.Core.Path.{◌≡◌, refl, sym, ap, ◌∙◌}
use mathlib.Core.List.{List, [], ◌∷◌, ◌++◌, append_assoc}
use native.Mathlib.Omega.{arith}
use lib.ListN.{length, take, drop, length-append, length-drop, take-append-drop}
use lib.Seq.{length-take-le}
use Rattle.definitions.specs.Lists.{joined}
use Rattle.definitions.specs.Refusal.{Refusal, further}
use Rattle.definitions.specs.Walk.{Step, stop, bad, item, Walked, broken, items, before, walk, all}
use Rattle.definitions.specs.Pieces.{together, Pieces, none, next}
use Rattle.definitions.proofs.Truths.{never}
use Rattle.definitions.proofs.Walks.{Moves, walk-stop, walk-bad, walk-item}

module _ {A : Type 0} (step : List ℕ → Step A) (place : ℕ → A → A) (moves : Moves step) where
  -- how a walk ends: no item, or a refusal
  pub data Ended (rest : List ℕ) (e : ℕ) (l : List A) : Walked A → Type 0 where
    stopped : step rest ≡ stop → Ended rest e l (items l e)
    refused : {r : Refusal} → step rest ≡ bad r → Ended rest e l (broken (further e r))

  -- from what was found to how it ended
  pub ended-items : {rest : List ℕ} {e : ℕ} {l : List A} {w : Walked A} (ls : List A) (n : ℕ) → Ended rest e l w → w ≡ items ls n
      → (l ≡ ls) × (e ≡ n) × (step rest ≡ stop)
  ended-items ls n (stopped p) q = (cc, cc, p)
  ended-items ls n (refused p) q = never cc

  pub record Refused (rest : List ℕ) (e : ℕ) (r : Refusal) : Type 0 where
    pub behind : Refusal
    pub answer : step rest ≡ bad behind
    pub whole : further e behind ≡ r

  pub ended-broken : {rest : List ℕ} {e : ℕ} {l : List A} {w : Walked A} (r : Refusal) → Ended rest e l w → w ≡ broken r → Refused rest e r
  ended-broken r (stopped p) q = never cc
  ended-broken r (refused {r = b} p) q = record { behind = b; answer = p; whole = cc }

  pub record Through (at : ℕ) (s : List ℕ) (w : Walked A) : Type 0 where
    pub pieces : List (List ℕ)
    pub rest : List ℕ
    pub found : List A
    pub whole : s ≡ together pieces ++ rest
    pub each : Pieces step place at pieces rest found
    pub ended : Ended rest (at + length (together pieces)) found w

  ended-before : (rest : List ℕ) (e : ℕ) (l : List A) (a : A) {w : Walked A} → Ended rest e l w → Ended rest e (a ∷ l) (before a w)
  ended-before rest e l a (stopped p) = stopped p
  ended-before rest e l a (refused p) = refused p

  through-next : (at : ℕ) (s : List ℕ) (a : A) (n : ℕ) (w : Walked A) → step s ≡ item a n → Through (at + n) (drop n s) w
      → Through at s (before (place at a) w)
  unfolding joined
  through-next at s a n w e t =
      let x = take n s in
      let size : length x ≡ n = length-take-le n s (moves.most s a n e) in
      let seam : x ++ (together t.pieces ++ t.rest) ≡ s = ap (λ (l : List ℕ). x ++ l) (sym t.whole) ∙ take-append-drop n s in
      let here : step (x ++ (together t.pieces ++ t.rest)) ≡ item a (length x) = rw (seam, size) e in
      let behind : Pieces step place (at + length x) t.pieces t.rest t.found = rw size t.each in
      let end : at + n + length (together t.pieces) ≡ at + length (x ++ together t.pieces) =
      omega (arith, length-append x (together t.pieces)) in
      record {
        pieces = x ∷ t.pieces;
        rest = t.rest;
        found = place at a ∷ t.found;
        whole = sym seam ∙ sym (append_assoc x (together t.pieces) t.rest);
        each = next here behind;
        ended = rw end at (ended-before t.rest (at + n + length (together t.pieces)) t.found (place at a) t.ended);
      }

  through-none : (at : ℕ) (s : List ℕ) (w : Walked A) → Ended s at [] w → Through at s w
  unfolding joined
  through-none at s w e =
      let end : at ≡ at + 0 = omega arith in
      record { pieces = []; rest = s; found = []; whole = refl; each = none; ended = rw end at e }

  through : (fuel at : ℕ) (s : List ℕ) → length s < fuel → Through at s (walk step place s 0 at)
  through zero at s h = absurd (omega arith)
  through (suc fuel) at s h = by (step s) refl (λ n p. through fuel (at + n) (drop n s) p)
    where
      by : (x : Step A) → step s ≡ x
          → ((n : ℕ) → length (drop n s) < fuel → Through (at + n) (drop n s) (walk step place (drop n s) 0 (at + n)))
          → Through at s (walk step place s 0 at)
      by stop e ih = rw (walk-stop step place moves at s e) (through-none at s (items [] at) (stopped e))
      by (bad r) e ih = rw (walk-bad step place moves at s r e) (through-none at s (broken (further at r)) (refused e))
      by (item a n) e ih =
          rw (walk-item step place moves at s a n e)
          (through-next at s a n (walk step place (drop n s) 0 (at + n)) e
          (ih n (omega (arith, moves.least s a n e, moves.most s a n e, length-drop n s))))

  pub all-through : (s : List ℕ) → Through 0 s (all step place s)
  unfolding all
  all-through s = through (suc (length s)) 0 s (omega arith)
