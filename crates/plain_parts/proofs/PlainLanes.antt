-- Laws of the lanes of a word: its first bytes, and those of the word shifted by a lane or two.
use mathlib.Core.Path.{◌≡◌, sym, ap, ◌∙◌}
use mathlib.Core.List.{List, [], ◌∷◌}
use Prim.Native.Nat.{ℕ, zero, suc, ◌+◌, ◌-◌, ◌*◌, ◌/◌, ◌%◌, ◌^◌, ◌≤◌, ◌<◌}
use native.Mathlib.Nat.{div-one, mul-suc, add_comm}
use native.Mathlib.Numerals.{one-add}
use native.Mathlib.Omega.{arith}
use lib.ListN.{take, drop, get_or}
use lib.Pow.{shr-shr}
use lib.Seq.{take-take, get_or-drop}
use Rattle.plain_parts.specs.Lanes.{lanes, InLanes}
use Rattle.plain_parts.proofs.Gaps.{AtLane}
use Rattle.plain_parts.proofs.LaneLaws.{lanes-take}

-- a text that begins with the lanes of w: its first byte, and what is behind that
pub head-lane : (n w : ℕ) (s : List ℕ) → lanes (suc n) w ≡ take (suc n) s → get_or s 0 0 ≡ w % 256
unfolding lanes
head-lane n w [] e = absurd (let z : ◌≡◌ {A = ℕ} 0 1 = cc in omega arith)
head-lane n w (b ∷ s) e = cc

pub tail-lanes : (n w : ℕ) (s : List ℕ) → lanes (suc n) w ≡ take (suc n) s → lanes n (w / 256) ≡ take n (drop 1 s)
unfolding lanes
tail-lanes n w [] e = absurd (let z : ◌≡◌ {A = ℕ} 0 1 = cc in omega arith)
tail-lanes n w (b ∷ s) e = cc

-- the byte of the text at a lane
pub lane-at : (p n w : ℕ) (s : List ℕ) → p < n → lanes n w ≡ take n s → get_or s p 0 ≡ w / 2 ^ (8 * p) % 256
lane-at p zero w s h e = absurd (omega arith)
lane-at zero (suc n) w s h e = rw div-one (head-lane n w s e)
lane-at (suc p) (suc n) w s h e =
    ap (λ (i : ℕ). get_or s i 0) (sym (one-add p)) ∙ sym (get_or-drop 1 s p 0)
    ∙ lane-at p n (w / 256) (drop 1 s) (omega arith) (tail-lanes n w s e)
    ∙ rw (shr-shr w 8 (8 * p), mul-suc 8 p, add_comm 8 (8 * p))

-- the first m of them, out of any number of lanes
pub take-lanes : (m n k w : ℕ) (s : List ℕ) → m ≤ n → m ≤ k → lanes n w ≡ take n s → take m (lanes k w) ≡ take m s
take-lanes m n k w s h g e = lanes-take m k w g ∙ sym (lanes-take m n w h) ∙ ap (take m) e ∙ take-take m n s h

-- ---- the lanes before one, without the first k

pub lanes-between : (k : ℕ) {first gap : ℕ} → AtLane first gap → 8 * k + 12 ≤ gap → InLanes (gap - (8 * k + 4))
lanes-between k at g = record {
  count = at.place - k;
  is = omega (arith, at.is);
  least = omega (arith, at.is);
  most = omega (arith, at.most);
}
