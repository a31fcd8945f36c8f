-- Where does `statement` find nothing, or refuse? Behind the blanks: at the end of the text, or before it.
use Prim.Native.Nat.{ℕ, ◌<◌}
use mathlib.Core.Path.{◌≡◌, refl, sym, ap}
use mathlib.Core.Bool.{Bool, true, false}
use mathlib.Core.List.{List, [], ◌∷◌, ◌++◌}
use native.Mathlib.Omega.{arith}
use lib.ListN.{length, take, drop, length-drop, take-append-drop}
use lib.Seq.{take_all, length-take-le}
use Rattle.definitions.specs.Refusal.{Refusal, fault_at}
use Rattle.definitions.specs.Lists.{AllOf}
use Rattle.definitions.specs.Bytes.{is_blank, blanks, begins, class_of}
use Rattle.definitions.specs.Reader.{Got, none, got}
use Rattle.definitions.specs.Walk.{stop, bad}
use Rattle.definitions.specs.Row.{Line, comment, row}
use Rattle.definitions.specs.Text.{statement_by, after_blanks, statement_at, statement}
use Rattle.definitions.specs.Pieces.{Blank}
use Rattle.definitions.specs.declared.Options.{Options}
use Rattle.definitions.proofs.Texts.{blanks-within}
use Rattle.definitions.proofs.Truths.{never}

pub all-blank : (s : List ℕ) → AllOf Blank (take (blanks s) s)
unfolding blanks
all-blank [] = tt
all-blank (b ∷ s) = by (is_blank b) refl (all-blank s)
  where
    by : (t : Bool) → is_blank b ≡ t → AllOf Blank (take (blanks s) s) → AllOf Blank (take (blanks (b ∷ s)) (b ∷ s))
    by true e h = rw (e, blanks) (e, h)
    by false e h = rw (e, blanks) tt

pub after-is-no-stop : (k : ℕ) (g : Got Line) → after_blanks k g ≡ stop → ⊥
after-is-no-stop k (none e) q = never cc
after-is-no-stop k (got (comment f n b) m) q = never cc
after-is-no-stop k (got (row r) m) q = never cc

after-is-bad : (k : ℕ) (g : Got Line) (r : Refusal) → after_blanks k g ≡ bad r → r.place ≡ k
after-is-bad k (none e) r q = let p : fault_at k e ≡ r = cc in sym (ap (λ (x : Refusal). x.place) p)
after-is-bad k (got (comment f i b) m) r q = never cc
after-is-bad k (got (row x) m) r q = never cc

module _ (o : Options) where
  nothing_left : (k : ℕ) (s : List ℕ) → statement_at o k s ≡ stop → length s ≡ 0
  unfolding statement_at
  nothing_left k [] e = refl
  nothing_left k (b ∷ s) e = absurd (after-is-no-stop k (statement_by (begins (class_of b)) o (b ∷ s)) e)

  something-left : (k : ℕ) (s : List ℕ) (r : Refusal) → statement_at o k s ≡ bad r → (0 < length s) × (r.place ≡ k)
  unfolding statement_at
  something-left k [] r e = never cc
  something-left k (b ∷ s) r e = (omega arith, after-is-bad k (statement_by (begins (class_of b)) o (b ∷ s)) r e)

  -- where nothing is found, there are blanks alone
  pub stop-is-blank : (s : List ℕ) → statement o s ≡ stop → AllOf Blank s
  unfolding statement
  stop-is-blank s e =
      let n = nothing_left (blanks s) (drop (blanks s) s) e in
      rw (take_all (blanks s) s (omega (arith, length-drop (blanks s) s))) at (all-blank s)

  -- a refusal is behind the blanks, and some text is left there
  pub bad-is-behind : (s : List ℕ) (r : Refusal) → statement o s ≡ bad r → (r.place ≡ blanks s) × (blanks s < length s)
  unfolding statement
  bad-is-behind s r e =
      let h = something-left (blanks s) (drop (blanks s) s) r e in
      (h.1, omega (arith, h.0, length-drop (blanks s) s))

  -- the text there: blanks, and what is refused behind them
  pub record Parted (s : List ℕ) (k : ℕ) : Type 0 where
    pub gap : List ℕ
    pub behind : List ℕ
    pub seam : gap ++ behind ≡ s
    pub blank : AllOf Blank gap
    pub size : length gap ≡ k
    pub short : k < length s

  pub bad-parted : (s : List ℕ) (r : Refusal) → statement o s ≡ bad r → Parted s r.place
  bad-parted s r e =
      let b = bad-is-behind s r e in
      record {
        gap = take (blanks s) s;
        behind = drop (blanks s) s;
        seam = take-append-drop (blanks s) s;
        blank = all-blank s;
        size = omega (arith, b.0, length-take-le (blanks s) s (blanks-within s));
        short = omega (arith, b.0, b.1);
      }
