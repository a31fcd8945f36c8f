-- Laws of puts: what a print comes to, where there is room and where there is none; and a byte before what was printed.
use Prim.Native.Nat.{ℕ, suc, ◌+◌, ◌≤◌, ◌<◌}
use mathlib.Core.Path.{◌≡◌, refl, sym, ap, ◌∙◌}
use mathlib.Core.Bool.{Bool, true, false, cond}
use mathlib.Core.List.{List, ◌∷◌, ◌++◌}
use Rattle.std.specs.Prelude.{Option, None, Some, unwrap_or}
use native.Mathlib.Omega.{arith}
use native.Mathlib.Decide.{dec_le}
use native.Mathlib.Numerals.{add-one}
use borrow.Author.Tests.{le-leb, lt-leb}
use lib.ListN.{length, take, drop, set}
use lib.Seq.{length-take-le, take-append-le, take-take, drop_at, set_split}
use Rattle.definitions.specs.Output.{fits_at, put_at}
use Rattle.definitions.specs.Refusal.{refuse, accept}
use Rattle.laws.proofs.Puts.{Puts, placed, placed-length, put-in-fits, put-in-full, put-done, put_full, put-at-full}
use Rattle.definitions.proofs.Truths.{never}
use Rattle.outputs.specs.Print.{put, Prints}
use Rattle.puts.specs.Lands.{place_after, Lands}

module _ (text : List ℕ) (at : ℕ) (o : List ℕ) where
  -- where there is room
  pub lands : {r : ℕ} {o' : List ℕ} → Lands text at o r o' → at + length text ≤ length o → Puts text at o r o'
  lands l h = record { place = l.place ∙ rw (le-leb (at + length text) (length o) h); after = l.after ∙ put-in-fits text at o h }

  -- and back
  pub puts-land : {r : ℕ} {o' : List ℕ} → at + length text ≤ length o → Puts text at o r o' → Lands text at o r o'
  puts-land h p =
      record { place = p.place ∙ rw (le-leb (at + length text) (length o) h); after = p.after ∙ sym (put-in-fits text at o h) }

  -- where there is none
  pub stays : length o < at + length text → Lands text at o at o
  stays h = record { place = rw (lt-leb (at + length text) (length o) h); after = sym (put-in-full text at o h) }

  -- what a print comes to
  ends : (p : Option ℕ) → put p ≡ put_at text at o → unwrap_or p at ≡ place_after text at o
  unfolding put_at
  ends p e = by p (fits_at text at o) e
    where
      by : (p : Option ℕ) (b : Bool) → put p ≡ cond b (accept (at + length text)) (refuse 14) → unwrap_or p at ≡ cond b (at + length text) at
      by (Some n) true q = cc
      by (Some n) false q = never (cc)
      by None true q = never (cc)
      by None false q = refl

  pub print-lands : {r : ℕ} {o' : List ℕ} (p : Option ℕ) → Prints text at o p o' → r ≡ unwrap_or p at → Lands text at o r o'
  print-lands p f e = record { place = e ∙ ends p f.answer; after = f.after }

-- ---- a byte b at `at`, before a text that was printed behind it

module _ (b : ℕ) (text : List ℕ) (at : ℕ) (o : List ℕ) where
  pub byte-before : at + 1 + length text ≤ length o → set (placed text (at + 1) o) at b ≡ placed (b ∷ text) at o
  byte-before h =
      let front = take (at + 1) o in
      let rest = text ++ drop (at + 1 + length text) o in
      let l : length front ≡ suc at = length-take-le (at + 1) o (omega arith) ∙ add-one at in
      let t : take at (front ++ rest) ≡ take at o = take-append-le at front rest (omega (arith, l))
      ∙ take-take at (at + 1) o (omega arith) in
      let d : drop (suc at) (front ++ rest) ≡ rest = drop_at front rest (suc at) l in
      let n : at + 1 + length text ≡ at + suc (length text) = omega arith in
      set_split (front ++ rest) at b (omega (arith, placed-length text (at + 1) o h)) ∙ rw (t, d, n)

  module _ (o₁ : List ℕ) (p : Option ℕ) (f : Prints text (at + 1) o p o₁) where
    pub byte_put : (e : ℕ) → p ≡ Some e → Lands (b ∷ text) at o e (set o₁ at b)
    byte_put e q = by (dec_le (at + 1 + length text) (length o))
      where
        answer : accept e ≡ put_at text (at + 1) o
        answer = sym (ap put q) ∙ f.answer

        by : Dec (at + 1 + length text ≤ length o) → Lands (b ∷ text) at o e (set o₁ at b)
        by (yes h) =
            let g = put-done text (at + 1) o h answer f.after in
            puts-land (b ∷ text) at o (omega arith) (record {
              place = omega (arith, g.place);
              after = ap
                  (λ (x : List ℕ). set x at b) g.after ∙ byte-before h;
            })
        by (no h) =
            let z : accept e ≡ refuse 14 = answer ∙ put-at-full text (at + 1) o (omega arith) in
            never (cc)

    pub byte-stays : p ≡ None → Lands (b ∷ text) at o at o₁
    byte-stays q = by (dec_le (at + 1 + length text) (length o))
      where
        by : Dec (at + 1 + length text ≤ length o) → Lands (b ∷ text) at o at o₁
        by (yes h) = put_full text (at + 1) o h (sym (ap put q) ∙ f.answer)
        by (no h) =
            let s = stays (b ∷ text) at o (omega arith) in
            record { place = s.place; after = f.after ∙ put-in-full text (at + 1) o (omega arith) ∙ s.after }
