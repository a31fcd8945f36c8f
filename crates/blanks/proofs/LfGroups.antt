-- The first LF of a text, byte by byte and by groups, for the functions that `until_ending_of` calls; and the line ending
-- that it belongs to.
use Prim.Native.Nat.{ℕ, zero, suc, ◌+◌, ◌-◌, ◌≤◌, ◌<◌}
use mathlib.Core.Path.{◌≡◌, sym, ap, ◌∙◌}
use mathlib.Core.Bool.{Bool, not, true≢false}
use mathlib.Core.Logic.{⊎_elim}
use mathlib.Core.List.{List, ◌++◌}
use native.Mathlib.Omega.{arith}
use native.Mathlib.Numerals.{add-one}
use borrow.Author.Tests.{eqb-true}
use lib.Dec.{eqb}
use lib.Lanes.{chunk}
use lib.ListN.{length, get_or, take, drop, length-drop, length-append, get_or-append}
use lib.Seq.{drop-drop, drop-append_seam, get_or-drop}
use Rattle.std.specs.List.{prefix_len}
use Rattle.std.proofs.lemmas.Bool.{cases_lt}
use Rattle.std.proofs.lemmas.Simd.{run_in_chunk_le, run_in_chunk_fails, run_in_chunk_stops}
use Rattle.definitions.specs.Bytes.{lf, cr, until_ending}
use Rattle.definitions.proofs.Parts.{part-is}
use Rattle.blanks.specs.FirstLf.{NoLf, IsFirstLf}
use Rattle.blanks.proofs.Endings.{Sought, sought-more, sought-all, sought-front, sought-cr, sought-lf}

-- ---- one byte more that is none
pub none-more : (s : List ℕ) (i : ℕ) → NoLf s i → (get_or s i 0 ≡ lf → ⊥) → NoLf s (i + 1)
none-more s i n h k l b = ⊎_elim (λ a. n k a b) (λ a. h (ap (λ j. get_or s j 0) (omega arith) ∙ b)) (cases_lt k i)

-- ---- k bytes more that have none, as they stand in a part t of the text
none-both : (s t : List ℕ) (i k : ℕ) → NoLf s i → ((m : ℕ) → i ≤ m → m < i + k → get_or s m 0 ≡ get_or t (m - i) 0) → NoLf t k
    → NoLf s (i + k)
none-both s t i k n at f m l b = ⊎_elim (λ a. n m a b) (λ a. f (m - i) (omega arith) (sym (at m a l) ∙ b)) (cases_lt m i)

-- ---- a group of n bytes, r of which come before its first LF
module _ (group : List ℕ) (n r : ℕ) (g : length group ≡ n) (counted : r ≡ prefix_len (λ b. not (eqb b lf)) (chunk 0 n group)) where
  abbrev is_lf : ℕ → Bool
  is_lf b = eqb b lf

  room : 0 + n ≤ length group
  room = omega (arith, g)

  pub first-among : IsFirstLf group r
  first-among =
      record {
        within = omega (arith, g, run_in_chunk_le is_lf group 0 n r 0 room counted);
        none = λ k l b. true≢false (sym (ap is_lf b) ∙ run_in_chunk_fails is_lf group 0 n r 0 room counted k (omega arith) (omega arith));
        is = λ h. eqb-true _ lf (ap (λ m. is_lf (get_or group m 0)) (omega arith) ∙ run_in_chunk_stops is_lf group 0 n r 0 room counted (omega (arith, g)));
      }

-- ---- group by group: i bytes are passed and none is an LF; `rest` stands behind them
pub record Clear (s rest : List ℕ) (i : ℕ) : Type 0 where
  pub within : i ≤ length s
  pub behind : drop i s ≡ rest
  pub none : NoLf s i

pub clear-start : (s rest : List ℕ) → rest ≡ s → Clear s rest 0
clear-start s rest e = record { within = omega arith; behind = sym e; none = λ k h. absurd (omega arith) }

-- a group of n bytes stands at the front of what is left
module _ (s left group rest : List ℕ) (i n : ℕ) (p : Clear s left i) (e : left ≡ group ++ rest) (g : length group ≡ n) where
  here : drop i s ≡ group ++ rest
  here = p.behind ∙ e

  pub clear-within : i + n ≤ length s
  clear-within =
      let h : length s - i ≡ length group + length rest = sym (length-drop i s) ∙ ap length here ∙ length-append group rest in
      omega (arith, h, g, p.within)

  clear-behind : drop (i + n) s ≡ rest
  clear-behind = sym (drop-drop n i s) ∙ ap (drop n) here ∙ ap (λ m. drop m (group ++ rest)) (sym g) ∙ drop-append_seam group rest

  -- the byte at place k is one of the group's
  in-group : (k : ℕ) → i ≤ k → k < i + n → get_or s k 0 ≡ get_or group (k - i) 0
  in-group k h l =
      let f : get_or (drop i s) (k - i) 0 ≡ get_or s k 0 = get_or-drop i s (k - i) 0 ∙ ap (λ m. get_or s m 0) (omega arith) in
      sym f ∙ ap (λ (t : List ℕ). get_or t (k - i) 0) here ∙ get_or-append group rest 0 (k - i) (omega (arith, g))

  -- the group's first LF is the first
  pub found-in : (k : ℕ) → k < n → IsFirstLf group k → IsFirstLf s (i + k)
  found-in k h f =
      record {
        within = omega (arith, clear-within);
        none = none-both s group i k p.none (λ m a l. in-group m a (omega arith)) f.none;
        is = λ l. in-group (i + k) (omega arith) (omega arith) ∙ ap (λ m. get_or group m 0) (omega arith) ∙ f.is (omega (arith, g));
      }

  pub clear-more : (k : ℕ) → n ≤ k → IsFirstLf group k → Clear s rest (i + n)
  clear-more k h f =
      record {
        within = clear-within;
        behind = clear-behind;
        none = none-both s group i n p.none in-group (λ m l. f.none m (omega arith));
      }

-- ---- what is left behind p bytes without an LF
module _ (s : List ℕ) (p : ℕ) where
  abbrev left : List ℕ
  left = take (length s - p) (drop p s)

  length-left : length left ≡ length s - p
  length-left = ap length (part-is s p) ∙ length-drop p s

  -- the byte at its place k
  left-at : (k : ℕ) → get_or left k 0 ≡ get_or s (p + k) 0
  left-at k = ap (λ (t : List ℕ). get_or t k 0) (part-is s p) ∙ get_or-drop p s k 0

  pub first-behind : (k : ℕ) → p ≤ length s → NoLf s p → IsFirstLf left k → IsFirstLf s (p + k)
  first-behind k h n f =
      record {
        within = omega (arith, f.within, length-left);
        none = none-both s left p k n (λ m a l. sym (left-at (m - p) ∙ ap (λ j. get_or s j 0) (omega arith))) f.none;
        is = λ l. sym (left-at k) ∙ f.is (omega (arith, length-left));
      }

-- ---- the line ending

-- where no LF is passed the walk over endings has sought
clear-sought : (s : List ℕ) (i : ℕ) → i ≤ length s → NoLf s i → Sought s i
clear-sought s zero h n = tt
clear-sought s (suc i) h n =
    let e : Sought s (i + 1) = sought-more s i (clear-sought s i (omega arith) (λ k l. n k (omega arith))) (omega arith) (n i (omega arith)) in
    rw (add-one i) at e

-- the first LF is found, or there is none
module _ (s : List ℕ) (i : ℕ) (f : IsFirstLf s i) where
  sought : Sought s i
  sought = clear-sought s i f.within f.none

  pub first-cr : i < length s → 0 < i → get_or s (i - 1) 0 ≡ cr → i - 1 ≡ until_ending s
  first-cr h z e = sought-cr s i sought h (f.is h) z e

  pub first-alone : i < length s → 0 < i → (get_or s (i - 1) 0 ≡ cr → ⊥) → i ≡ until_ending s
  first-alone h z e = sought-lf s i sought h (f.is h) z e

  pub first-none : length s ≤ i → i ≡ until_ending s
  first-none h = let e : i ≡ length s = omega (arith, f.within) in e ∙ sought-all s i sought e

  pub first-at-front : i ≤ 0 → i ≡ until_ending s
  first-at-front z =
      ⊎_elim
      (λ h. sought-front s i h (f.is h) z)
      first-none
      (cases_lt i (length s))
