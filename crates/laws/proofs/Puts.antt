-- What is left in an output that texts are put into? What the two walks of a writer of lines go by: a text is put
-- behind another, byte by byte or whole; a needed length is added up; and one more of a list's first n.
use mathlib.Core.Path.{◌≡◌, sym, ap, ◌∙◌}
use mathlib.Core.List.{List, [], ◌∷◌, ◌++◌, append_assoc}
use Prim.Native.Nat.{ℕ, zero, suc, ◌+◌, ◌≤◌, ◌<◌, ◌^◌}
use native.Mathlib.Nat.{add-zero}
use native.Mathlib.Omega.{arith}
use native.Mathlib.Numerals.{add-one}
use borrow.Author.Tests.{le-leb, lt-leb}
use lib.ListN.{length, take, drop, set, length-append, length-drop, take-append-drop}
use lib.Seq.{length-take-le, take_at, drop_at, drop-drop, set_split}
use Rattle.definitions.specs.Refusal.{refuse, accept, needed}
use Rattle.definitions.specs.Output.{put_at, put_in}
use Rattle.definitions.proofs.Truths.{never}

abbrev pub placed : List ℕ → ℕ → List ℕ → List ℕ
placed text at o = take at o ++ (text ++ drop (at + length text) o)

-- what a print into an output that has room leaves: the place behind the text, and the output with the text in it
pub record Puts (text : List ℕ) (at : ℕ) (o : List ℕ) (r : ℕ) (o' : List ℕ) : Type 0 where
  pub place : r ≡ at + length text
  pub after : o' ≡ placed text at o

-- ---- what is asked of any output, where there is room and where there is none
module _ (text : List ℕ) (at : ℕ) (o : List ℕ) (h : at + length text ≤ length o) where
  pub put-at-fits : put_at text at o ≡ accept (at + length text)
  unfolding put_at
  put-at-fits = rw (le-leb (at + length text) (length o) h)

  pub put-in-fits : put_in text at o ≡ placed text at o
  unfolding put_in
  put-in-fits = rw (le-leb (at + length text) (length o) h)

  -- a print that answers its end, and one that finds no room
  pub put-done : {e : ℕ} {o' : List ℕ} → accept e ≡ put_at text at o → o' ≡ put_in text at o → Puts text at o e o'
  put-done {e} a q =
      let f = put-at-fits in
      let d : e ≡ at + length text = cc in
      record { place = d; after = q ∙ put-in-fits }

  pub put_full {ℓ} : {X : Type ℓ} → refuse 14 ≡ put_at text at o → X
  put_full a = let f = put-at-fits in never cc

module _ (text : List ℕ) (at : ℕ) (o : List ℕ) (h : length o < at + length text) where
  pub put-at-full : put_at text at o ≡ refuse 14
  unfolding put_at
  put-at-full = rw (lt-leb (at + length text) (length o) h)

  pub put-in-full : put_in text at o ≡ o
  unfolding put_in
  put-in-full = rw (lt-leb (at + length text) (length o) h)

-- ---- one text behind another
module _ (text : List ℕ) (at : ℕ) (o : List ℕ) (h : at + length text ≤ length o) where
  front : length (take at o ++ text) ≡ at + length text
  front = length-append (take at o) text ∙ rw (length-take-le at o (omega arith))

  pub placed-length : length (placed text at o) ≡ length o
  placed-length =
      omega (
        arith,
        length-append (take at o) (text ++ drop (at + length text) o),
        length-append text (drop (at + length text) o),
        length-drop (at + length text) o,
        length-take-le at o (omega arith),
      )

  pub placed-append : (more : List ℕ) → placed more (at + length text) (placed text at o) ≡ placed (text ++ more) at o
  placed-append more =
      let a = take at o in
      let n = at + length text in
      let b = drop n o in
      let t : take n (a ++ (text ++ b)) ≡ a ++ text = ap (take n) (sym (append_assoc a text b)) ∙ take_at (a ++ text) b n front in
      let d : drop n (a ++ (text ++ b)) ≡ b = ap (drop n) (sym (append_assoc a text b)) ∙ drop_at (a ++ text) b n front in
      let e : drop (n + length more) (a ++ (text ++ b)) ≡ drop (n + length more) o =
      sym (drop-drop (length more) n (a ++ (text ++ b))) ∙ ap (drop (length more)) d ∙ drop-drop (length more) n o in
      let l : at + length (text ++ more) ≡ n + length more = omega (arith, length-append text more) in
      rw (t, e, l) (simp append_assoc)

-- a text that fits with what follows it
pub front-room : (a b : List ℕ) (at : ℕ) {n : ℕ} → at + length (a ++ b) ≤ n → at + length a ≤ n
front-room a b at h = omega (arith, length-append a b)

module _ {a : List ℕ} {at : ℕ} {o : List ℕ} {p : ℕ} {o₁ : List ℕ} (f : Puts a at o p o₁) where
  pub puts-length : at + length a ≤ length o → length o₁ ≡ length o
  puts-length h = ap length f.after ∙ placed-length a at o h

  -- what follows it then fits behind it
  pub rest-room : (b : List ℕ) → at + length (a ++ b) ≤ length o → p + length b ≤ length o₁
  rest-room b h = omega (arith, f.place, length-append a b, puts-length (front-room a b at h))

  pub puts_then : {b : List ℕ} {q : ℕ} {o₂ : List ℕ} → at + length a ≤ length o → Puts b p o₁ q o₂ → Puts (a ++ b) at o q o₂
  puts_then {b} {q} {o₂} h g =
      record {
        place = omega (arith, f.place, g.place, length-append a b);
        after = g.after ∙ rw (f.place, f.after) (placed-append a at o h b);
      }

-- a text that is said in other words
pub puts-as : {a b : List ℕ} {at : ℕ} {o : List ℕ} {p : ℕ} {o₁ : List ℕ} → Puts a at o p o₁ → a ≡ b → Puts b at o p o₁
puts-as f e = rw e at f

-- ---- bytes
pub puts_none : (at : ℕ) (o : List ℕ) → Puts [] at o at o
puts_none at o = record { place = omega arith; after = rw add-zero (sym (take-append-drop at o)) }

pub puts-byte : (b at q : ℕ) (o : List ℕ) → at < length o → q ≡ at + 1 → Puts (b ∷ []) at o q (set o at b)
puts-byte b at q o h e = record { place = e; after = set_split o at b h ∙ rw add-one }

-- ---- needed lengths

-- what a word holds is not cut
pub needed-word : (n : ℕ) → n < 2 ^ 64 → needed n ≡ n
unfolding needed
needed-word n h = omega arith

-- what was cut at the limit may be added to
pub needed-add : (n m : ℕ) → needed (needed n + m) ≡ needed (n + m)
unfolding needed
needed-add n m = omega arith

pub needed-both : (n m : ℕ) → needed (needed n + needed m) ≡ needed (n + m)
unfolding needed
needed-both n m = omega arith

-- ---- the first n of a list

first_of : {A : Type 0} (l : List A) (n i : ℕ) (a : A) → i < n → drop i l ≡ a ∷ drop (suc i) l
    → drop i (take n l) ≡ a ∷ drop (suc i) (take n l)
first_of l zero i a h e = absurd (omega arith)
first_of [] (suc n) zero a h e = never cc
first_of [] (suc n) (suc i) a h e = never cc
first_of (x ∷ l) (suc n) zero a h e = let q : x ≡ a = cc in rw q
first_of (x ∷ l) (suc n) (suc i) a h e = first_of l n i a (omega arith) e

pub drop-in-take : {A : Type 0} (l : List A) (n i : ℕ) (a : A) → i < n → drop i l ≡ a ∷ drop (i + 1) l
    → drop i (take n l) ≡ a ∷ drop (i + 1) (take n l)
drop-in-take l n i a h e = rw add-one (first_of l n i a h (rw add-one at e))
