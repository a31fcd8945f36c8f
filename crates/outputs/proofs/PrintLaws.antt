-- Laws of printing: any text that fits or does not, the digits of a number from the last ones on, a sign before them,
-- and a text byte by byte.
use mathlib.Core.Path.{◌≡◌, refl, sym, ap, ◌∙◌}
use mathlib.Core.Bool.{Bool, true, false, cond}
use mathlib.Core.List.{List, [], ◌∷◌, ◌++◌, append_assoc, append-nil}
use Rattle.std.specs.Prelude.{None, Some}
use Prim.Native.Nat.{ℕ, suc, ◌+◌, ◌-◌, ◌%◌, ◌/◌, ◌≤◌, ◌<◌}
use native.Mathlib.Omega.{arith}
use native.Mathlib.Numerals.{add-one}
use lib.Dec.{leb}
use borrow.Author.Tests.{le-leb, le-ltb, leb-true}
use lib.ListN.{length, get_or, take, drop, set, length-set, take-append-drop}
use lib.IntN.{ℤ, pos, negsuc, nat_abs}
use lib.Signed.{lt_z}
use lib.Seq.{length-take-le, take-append-le, take-take, drop_at, drop-length, take-length, take-suc-set, take-set-le, drop-set-lt}
use lib.Seq.{paste, paste-zero, paste-suc}
use Rattle.definitions.specs.Bytes.{minus}
use Rattle.definitions.specs.Number.{decimal, integer_text}
use Rattle.definitions.specs.Output.{put_at, put_in}
use Rattle.definitions.proofs.Numbers.{decimal-some}
use Rattle.lengths.specs.Places.{four_digits}
use Rattle.outputs.specs.Print.{Prints, signed_text}
use Rattle.outputs.proofs.Four.{decimal-fours, decimal-length-fours}

-- ---- any text

module _ (text : List ℕ) (at : ℕ) (o : List ℕ) (n : ℕ) (e : n ≡ length text) where
  -- r is the code's test whether the text, n bytes, has room
  module _ (r : Bool) (t : r ≡ leb (at + n) (length o)) where
    pub refused : r ≡ false → Prints text at o None o
    unfolding put_at put_in
    refused f =
        let l : leb (at + length text) (length o) ≡ false = rw (t, e) at f in
        record { answer = rw l; after = rw l }

    pub has_room : r ≡ true → at + n ≤ length o
    has_room f = leb-true _ _ (rw t at f)

  pub done : (p : ℕ) (o' : List ℕ) → at + n ≤ length o → p ≡ at + n
      → o' ≡ take at o ++ (text ++ drop (at + n) o) → Prints text at o (Some p) o'
  unfolding put_at put_in
  done p o' h d q =
      let l : leb (at + length text) (length o) ≡ true = rw e at (le-leb (at + n) (length o) h) in
      record { answer = rw (l, d, e); after = rw l (rw e at q) }

-- ---- the digits of m, from the last ones on

-- what the walk has done when x is left, and k digits are still to be written
pub record Writing (o : List ℕ) (m at n : ℕ) (out : List ℕ) (x k : ℕ) : Type 0 where
  pub left : k ≡ length (decimal x)
  pub most : k ≤ n
  pub room : at + n ≤ length o
  pub split : decimal m ≡ decimal x ++ drop k (decimal m)
  pub text : out ≡ take (at + k) o ++ (drop k (decimal m) ++ drop (at + n) o)
  pub long : length out ≡ length o

pub writing-none : (o : List ℕ) (m at n : ℕ) → n ≡ length (decimal m) → at + n ≤ length o → Writing o m at n o m n
writing-none o m at n e h =
    let d : drop n (decimal m) ≡ [] = rw e (drop-length (decimal m)) in
    record {
      left = e;
      most = omega arith;
      room = h;
      split = rw d (sym (append-nil (decimal m)));
      text = rw d (sym (take-append-drop (at + n) o));
      long = refl;
    }

module _ (o : List ℕ) (m at n : ℕ) (out : List ℕ) (x k : ℕ) (w : Writing o m at n out x k) where
  -- what stands before the digits that are written
  written-before : (j : ℕ) → j ≤ at + k → take j out ≡ take j o
  written-before j h =
      let l : length (take (at + k) o) ≡ at + k = length-take-le (at + k) o (omega (arith, w.most, w.room)) in
      rw w.text (take-append-le j (take (at + k) o) _ (omega arith) ∙ take-take j (at + k) o h)

  -- and from them on
  written-rest : drop (at + k) out ≡ drop k (decimal m) ++ drop (at + n) o
  written-rest =
      rw w.text
      (drop_at (take (at + k) o) _ (at + k) (length-take-le (at + k) o (omega (arith, w.most, w.room))))

  module _ (h : 10_000 ≤ x) where
    pub writing-some : (4 ≤ k) × (at + (k - 4) + 4 ≤ length out)
    writing-some =
        (omega (arith, w.left, decimal-length-fours x h), omega (arith, w.left, w.most, w.room, w.long, decimal-length-fours x h))

    pub writing_more : (out' : List ℕ)
        → out' ≡ take (at + (k - 4)) out ++ (four_digits (x % 10_000) ++ drop (at + (k - 4) + 4) out) → length out' ≡ length out
        → Writing o m at n out' (x / 10_000) (k - 4)
    writing_more out' e g =
        let t = drop k (decimal m) in
        let ds = four_digits (x % 10_000) in
        let j : k - 4 ≡ length (decimal (x / 10_000)) = omega (arith, w.left, decimal-length-fours x h) in
        let s : decimal m ≡ decimal (x / 10_000) ++ (ds ++ t) = w.split ∙ rw (decimal-fours x h, append_assoc) in
        let u : drop (k - 4) (decimal m) ≡ ds ++ t = ap (drop (k - 4)) s ∙ drop_at (decimal (x / 10_000)) (ds ++ t) (k - 4) (sym j) in
        let i : at + (k - 4) + 4 ≡ at + k = omega (arith, writing-some.0) in
        record {
          left = j;
          most = omega (arith, w.most);
          room = w.room;
          split = rw u s;
          text = e ∙ rw (i, written-before (at + (k - 4)) (omega arith), written-rest, u);
          long = g ∙ w.long;
        }

  pub writing-room : at + length (decimal x) ≤ length out
  writing-room = omega (arith, w.left, w.most, w.room, w.long)

  pub writing-last : (out' : List ℕ) → out' ≡ take at out ++ (decimal x ++ drop (at + length (decimal x)) out)
      → out' ≡ take at o ++ (decimal m ++ drop (at + n) o)
  writing-last out' e =
      let r = drop (at + n) o in
      let s : decimal x ++ (drop k (decimal m) ++ r) ≡ decimal m ++ r
      = sym (append_assoc (decimal x) _ r) ∙ ap (λ (l : List ℕ). l ++ r) (sym w.split) in
      e ∙ rw (← w.left, written-before at (omega arith), written-rest, s)

-- ---- a sign or none, and then the digits behind it

-- the sign's place holds the sign
behind-sign : (o : List ℕ) (at n : ℕ) (ds : List ℕ) → at < length o
    → take (at + 1) (set o at minus) ++ (ds ++ drop (at + 1 + n) (set o at minus)) ≡ take at o ++ ((minus ∷ ds) ++ drop (at + suc n) o)
behind-sign o at n ds h =
    let e : at + 1 + n ≡ at + suc n = omega arith in
    rw (drop-set-lt (at + 1 + n) o at minus (omega arith), e, add-one at, take-suc-set o at minus h) (simp append_assoc)

-- the sign's place holds the first digit
over-sign : (o : List ℕ) (at n : ℕ) (ds : List ℕ) → 0 < n
    → take (at + 0) (set o at minus) ++ (ds ++ drop (at + 0 + n) (set o at minus)) ≡ take at o ++ (ds ++ drop (at + n) o)
over-sign o at n ds h =
    let e : at + 0 ≡ at = omega arith in
    rw (e, take-set-le at o at minus (omega arith), drop-set-lt (at + n) o at minus (omega arith))

pub signed-counted : (b : Bool) (m k n : ℕ) → k ≡ cond b 1 0 → n ≡ length (decimal m) → n + k ≡ length (signed_text b m)
signed-counted true m k n e c = rw e (add-one n ∙ ap suc c)
signed-counted false m k n e c = omega arith

pub signed-done : (b : Bool) (m at : ℕ) (o : List ℕ) (k n : ℕ) (out : List ℕ) → k ≡ cond b 1 0 → n ≡ length (decimal m)
    → at + (n + k) ≤ length o
    → out ≡ take (at + k) (set o at minus) ++ (decimal m ++ drop (at + k + n) (set o at minus))
    → Prints (signed_text b m) at o (Some (at + k + n)) out
signed-done true m at o k n out e c h q =
    done (minus ∷ decimal m) at o (suc n) (ap suc c) (at + k + n) out (omega arith) (omega arith)
    ((rw e at q) ∙ behind-sign o at n (decimal m) (omega arith))
signed-done false m at o k n out e c h q =
    done (decimal m) at o n c (at + k + n) out (omega arith) (omega arith)
    ((rw e at q) ∙ over-sign o at n (decimal m) (omega (arith, decimal-some m)))

-- what an integer's sign and size print
pub integer-is : (z : ℤ) → signed_text (lt_z z (pos 0)) (nat_abs z) ≡ integer_text z
integer-is (pos n) = rw (le-ltb n 0 (omega arith))
integer-is (negsuc n) = refl

-- ---- a text byte by byte, from the first one on

-- what the walk has done after i of the bytes
pub record Copying (text : List ℕ) (at : ℕ) (o out : List ℕ) (i : ℕ) : Type 0 where
  pub room : at + length text ≤ length o
  pub most : i ≤ length text
  pub so_far : out ≡ paste o at text i
  pub long : length out ≡ length o

pub copying-none : (text : List ℕ) (at : ℕ) (o : List ℕ) → at + length text ≤ length o → Copying text at o o 0
copying-none text at o h = record { room = h; most = omega arith; so_far = paste-zero o at text; long = refl }

module _ (text : List ℕ) (at : ℕ) (o out : List ℕ) (i : ℕ) (w : Copying text at o out i) where
  pub copying-more : i < length text → Copying text at o (set out (at + i) (get_or text i 0)) (i + 1)
  copying-more h =
      record {
        room = w.room;
        most = omega arith;
        so_far = rw (w.so_far, add-one i) (paste-suc o at text i 0 (omega (arith, w.room)) h);
        long = rw length-set w.long;
      }

  pub copying-all : length text ≤ i → Prints text at o (Some (at + length text)) out
  copying-all h =
      let e : i ≡ length text = omega (arith, w.most) in
      done text at o (length text) refl _ out w.room refl (w.so_far ∙ rw (e, take-length text) (simp append_assoc))
