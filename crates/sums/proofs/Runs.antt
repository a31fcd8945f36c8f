-- Laws of a run of plain terms (specs/Run.antt): a term's weight and code as the code computes them, what a run keeps,
-- one plain term more, and a walk over a sum that goes on by a run.
use Prim.Native.Nat.{ℕ, zero, suc, ◌+◌, ◌-◌, ◌≤◌, ◌<◌, ◌^◌}
use mathlib.Core.Path.{◌≡◌, refl, sym, ap, ◌∙◌}
use mathlib.Core.Bool.{Bool, true, false}
use mathlib.Core.List.{List}
use native.Mathlib.Omega.{arith}
use lib.ListN.{length, take, drop, length-drop}
use lib.Seq.{drop-drop}
use lib.IntN.{ℤ, pos, nat_abs, ◌-ℤ◌}
use mir.Syntax.{w64}
use mir.Val.{SFits, to_z, of_z}
use mir.Facts.{to_z-of_z, to_z_pos}
use Rattle.definitions.specs.Number.{signed}
use Rattle.definitions.specs.Refusal.{Checked, accept}
use Rattle.definitions.specs.Literal.{index}
use Rattle.definitions.specs.Text.{term_step}
use Rattle.definitions.specs.declared.Options.{Options}
use Rattle.definitions.proofs.Parts.{part-is}
use Rattle.definitions.proofs.Statements.{term-moves}
use Rattle.term_checks.specs.Sizes.{size_cap, capped}
use Rattle.plain.proofs.PlainTerms.{plain-is-term}
use Rattle.literals.specs.FileDigits.{then_code}
use Rattle.literals.proofs.Conversions.{index-within}
use Rattle.numbers.proofs.Signed.{neg-sfits, neg_is}
use Rattle.sums.specs.Walked.{TermPut}
use Rattle.plain.specs.Plain.{said_plain, plain_at, plain_term, PlainFits, PlainIs}
use Rattle.sums.specs.Run.{Ran, begun, further, RunSays}
use Rattle.plain.specs.declared.PlainTerm.{PlainTerm}
use Rattle.std.specs.Prelude.{Option, Some}
use Rattle.sums.specs.declared.run.PlainRun.{PlainRun}
use Rattle.sums.proofs.Walking.{put-lengths, Walking, walking-term}

-- ---- a weight from its sign and its size
pub signed-size : (negative : Bool) (n : ℕ) → nat_abs (signed negative n) ≡ n
signed-size false n = refl
signed-size true zero = refl
signed-size true (suc n) = refl

module _ (n : ℕ) (h : n < 100_000_000) where
  pub minus-fits : SFits w64 (pos 0 -ℤ to_z w64 n)
  minus-fits = rw (neg_is n (omega arith)) (neg-sfits n (omega arith))

  pub weight-negative : {b : Bool} {x : ℕ} → b ≡ true → x ≡ of_z w64 (pos 0 -ℤ to_z w64 n) → to_z w64 x ≡ signed b n
  weight-negative t e = rw (t, e) (to_z-of_z minus-fits ∙ neg_is n (omega arith))

  pub weight-plain : {b : Bool} {x : ℕ} → b ≡ false → x ≡ n → to_z w64 x ≡ signed b n
  weight-plain t e = rw (t, e) (to_z_pos w64 (omega arith))

-- ---- a literal's code by its file number, which is not out of range
module _ {first : ℕ} {p : PlainTerm} (h : PlainFits first p) where
  indexed : accept (p.number - first) ≡ index first p.number
  indexed = index-within first p.number (omega (arith, h.most)) h.least (omega (arith, h.most))

  pub plain-coded : {x : Checked ℕ} → x ≡ then_code p.negated (index first p.number) → x ≡ accept (plain_term first p).code
  plain-coded e = e ∙ ap (then_code p.negated) (sym indexed)

-- ---- what a run keeps: it ends within the text, has no more terms than bytes, and no column is longer or shorter than
-- it was
pub record Kept (s : List ℕ) (count₀ : ℕ) (w₀ : List ℤ) (l₀ : List ℕ) (at count : ℕ) (w : List ℤ) (l : List ℕ) : Type 0 where
  pub within : at ≤ length s
  pub fewer : count ≤ count₀ + at
  pub weights : length w ≡ length w₀
  pub literals : length l ≡ length l₀

module _ {o : Options} {s : List ℕ} {count₀ size₀ : ℕ} {w₀ : List ℤ} {l₀ : List ℕ} where
  pub ran-kept : {at count size : ℕ} {w : List ℤ} {l : List ℕ} → Ran o s count₀ size₀ w₀ l₀ at count size w l
      → Kept s count₀ w₀ l₀ at count w l
  ran-kept begun = record { within = omega arith; fewer = omega arith; weights = refl; literals = refl }
  ran-kept (further {at} {count} {size} {w} {w'} {l} {l'} t n r e p) =
      let k = ran-kept r in
      let q = put-lengths count t.weight t.code w l w' l' p in
      record {
        within = omega (arith, k.within, (term-moves o).most (drop at s) t n e, length-drop at s);
        fewer = omega (arith, k.fewer, (term-moves o).least (drop at s) t n e);
        weights = q.0 ∙ k.weights;
        literals = q.1 ∙ k.literals;
      }

  -- a size up to the cap stays there
  pub ran-under : size₀ ≤ size_cap → {at count size : ℕ} {w : List ℤ} {l : List ℕ} → Ran o s count₀ size₀ w₀ l₀ at count size w l
      → size ≤ size_cap
  ran-under h begun = h
  ran-under h (further t n r e p) = omega arith

  -- ---- one plain term more, its size added as the code does
  module _ {at count size : ℕ} {w : List ℤ} {l : List ℕ} (r : Ran o s count₀ size₀ w₀ l₀ at count size w l) {p : PlainTerm} {n : ℕ}
      (is : PlainIs o (drop at s) p n) where
    pub plain-has-byte : 0 < n
    plain-has-byte = (term-moves o).least (drop at s) (plain_term o.first p) n is.step

    pub ran-plain : {size' : ℕ} {w' : List ℤ} {l' : List ℕ} → size' ≡ capped (size + p.size)
        → TermPut count (plain_term o.first p).weight (plain_term o.first p).code w l w' l'
        → Ran o s count₀ size₀ w₀ l₀ (at + n) (count + 1) size' w' l'
    ran-plain e put =
        let a : p.size ≡ nat_abs (plain_term o.first p).weight = sym (signed-size p.negative p.size) in
        rw (e, a) (further (plain_term o.first p) n r is.step put)

-- ---- the rest of a text

-- how much of a text stands before its rest
abbrev pub passed : List ℕ → List ℕ → ℕ
passed s rest = length s - length rest

-- nothing is passed of the whole
pub none_passed : (s : List ℕ) → passed s s ≡ 0
none_passed s = omega arith

-- from an offset on: an answer that is a plain term there, and what is left behind it
module _ (s : List ℕ) (at n : ℕ) {rest : List ℕ} (is : rest ≡ drop at s) where
  pub plain-there : (o : Options) (r : Option (PlainTerm × ℕ)) (p : PlainTerm) → said_plain r ≡ plain_at o rest → r ≡ Some (p, n)
      → PlainIs o (drop at s) p n
  plain-there o r p h e = plain-is-term o (drop at s) p n (ap (plain_at o) (sym is) ∙ sym h ∙ ap said_plain e)

  pub rest-behind : take (length rest - n) (drop n rest) ≡ drop (at + n) s
  rest-behind = part-is rest n ∙ rw is (drop-drop n at s)

  pub rest-holds : at + n ≤ length s → n ≤ length rest
  rest-holds h = rw (is, length-drop at s) (omega arith)

-- a rest is as long as what was passed of the text leaves, so what was passed is known from it
module _ (s : List ℕ) {rest : List ℕ} (is : rest ≡ drop (passed s rest) s) where
  left-long : length rest ≡ length s - passed s rest
  left-long = ap length is ∙ length-drop (passed s rest) s

  pub left-within : length rest ≤ length s
  left-within = omega (arith, left-long)

  -- n bytes further on, where as many are left
  module _ (n : ℕ) (held : n ≤ length rest) where
    left_behind : length (take (length rest - n) (drop n rest)) ≡ length s - (passed s rest + n)
    left_behind = ap length (rest-behind s (passed s rest) n is) ∙ length-drop (passed s rest + n) s

    pub passed-more : passed s (take (length rest - n) (drop n rest)) ≡ passed s rest + n
    passed-more = omega (arith, left-long, left_behind, held)

    pub left_less : 0 < n → length (take (length rest - n) (drop n rest)) < length rest
    left_less h = omega (arith, left-long, left_behind, held, h)

-- ---- a walk over a sum that goes on by a run
module _ {o : Options} {s : List ℕ} {w₀ : List ℤ} {l₀ : List ℕ} {at₀ count₀ size₀ : ℕ} {w₁ : List ℤ} {l₁ : List ℕ}
    (i : Walking o s w₀ l₀ at₀ count₀ size₀ w₁ l₁) where
  pub walking-ran : {at count size : ℕ} {w : List ℤ} {l : List ℕ} → Ran o (drop at₀ s) count₀ size₀ w₁ l₁ at count size w l
      → Walking o s w₀ l₀ (at₀ + at) count size w l
  walking-ran begun = let e : at₀ + 0 ≡ at₀ = omega arith in rw e i
  walking-ran (further {at} {count} {size} {w} {w'} {l} {l'} t n r e p) =
      let a : at₀ + (at + n) ≡ at₀ + at + n = omega arith in
      let q = sym (ap (term_step o) (drop-drop at at₀ s)) ∙ e in
      rw a (walking-term o s w₀ l₀ (at₀ + at) count size w l (walking-ran r) t n q w' l' p)

  -- the run is asked on a part of the text
  pub run_room : length s < 2 ^ 64 → count₀ + length (take (length s - at₀) (drop at₀ s)) < 2 ^ 64
  run_room h = rw (part-is s at₀, length-drop at₀ s) (omega (arith, i.summing.fewer, i.summing.stands.within))

  pub walking_run : (r : PlainRun) {w : List ℤ} {l : List ℕ} → RunSays o (take (length s - at₀) (drop at₀ s)) count₀ size₀ w₁ l₁ r w l
      → Walking o s w₀ l₀ (at₀ + r.taken) r.terms r.size w l
  walking_run r h = walking-ran (rw (part-is s at₀) at h)
