-- What does a walk find in a text whose parts are known? Each part is taken as its items, whatever stands behind it.
use Prim.Native.Nat.{ℕ, ◌+◌}
use mathlib.Core.Path.{◌≡◌, refl, sym, ap, ◌∙◌}
use mathlib.Core.List.{List, [], ◌∷◌, ◌++◌, append_assoc, append-nil}
use native.Mathlib.Omega.{arith}
use lib.ListN.{length, length-append}
use lib.Seq.{drop-append_seam}
use Rattle.definitions.specs.Lists.{joined, AllOf}
use Rattle.definitions.specs.Walk.{Step, stop, item, Walked, broken, items, before, walk, all}
use Rattle.definitions.proofs.Walks.{Moves, onto, onto-none, walk-item, walk-stop}

onto-one : {A : Type 0} (a : A) (o : Walked A) → before a o ≡ onto (a ∷ []) o
onto-one a (broken r) = refl
onto-one a (items xs e) = refl

onto-onto : {A : Type 0} (p q : List A) (o : Walked A) → onto p (onto q o) ≡ onto (p ++ q) o
onto-onto p q (broken r) = refl
onto-onto p q (items xs e) = ap (λ (l : List _). items l e) (sym (append_assoc p q xs))

-- x, with rest behind it, is taken as the items that `found` gives for x's offset
pub record Taken {A : Type 0} (step : List ℕ → Step A) (place : ℕ → A → A) (x : List ℕ) (found : ℕ → List A) (rest : List ℕ) : Type 0 where
  pub taken : (at : ℕ) → walk step place (x ++ rest) 0 at ≡ onto (found at) (walk step place rest 0 (at + length x))

-- the items of parts one after the other, each at its offset
unfoldable pub found_from : {A B : Type 0} → (B → List ℕ) → (ℕ → B → List A) → ℕ → List B → List A
found_from text found at [] = []
found_from text found at (b ∷ bs) = found at b ++ found_from text found (at + length (text b)) bs

module _ {A : Type 0} (step : List ℕ → Step A) (place : ℕ → A → A) (moves : Moves step) where
  pub taken-one : (x rest : List ℕ) (a : A) → step (x ++ rest) ≡ item a (length x) → Taken step place x (λ at. place at a ∷ []) rest
  taken-one x rest a e = record {
    taken = λ at.
        walk-item step place moves at (x ++ rest) a (length x) e
        ∙ ap (λ (s : List ℕ). before (place at a) (walk step place s 0 (at + length x))) (drop-append_seam x rest)
        ∙ onto-one (place at a) (walk step place rest 0 (at + length x));
  }

  pub taken_none : (rest : List ℕ) → Taken step place [] (λ at. []) rest
  taken_none rest = record {
    taken = λ at.
        let n : at ≡ at + 0 = omega arith in
        onto-none (walk step place rest 0 at) ∙ ap (λ (k : ℕ). onto [] (walk step place rest 0 k)) n;
  }

  pub taken-both : (x y rest : List ℕ) (f g : ℕ → List A) → Taken step place x f (y ++ rest) → Taken step place y g rest
      → Taken step place (x ++ y) (λ at. f at ++ g (at + length x)) rest
  taken-both x y rest f g p q = record {
    taken = λ at.
        let n : at + length x + length y ≡ at + length (x ++ y) = omega (arith, length-append x y) in
        ap (λ (s : List ℕ). walk step place s 0 at) (append_assoc x y rest) ∙ p.taken at
        ∙ ap (onto (f at)) (q.taken (at + length x))
        ∙ onto-onto (f at) (g (at + length x)) (walk step place rest 0 (at + length x + length y))
        ∙ ap (λ (k : ℕ). onto (f at ++ g (at + length x)) (walk step place rest 0 k)) n;
  }

  -- no item stands behind it
  pub taken-all : (x rest : List ℕ) (f : ℕ → List A) → Taken step place x f rest → step rest ≡ stop
      → all step place (x ++ rest) ≡ items (f 0) (length x)
  unfolding all
  taken-all x rest f p e =
      let n : 0 + length x ≡ length x = omega arith in
      p.taken 0 ∙ ap (onto (f 0)) (walk-stop step place moves (0 + length x) rest e)
      ∙ ap (λ (l : List A). items l (0 + length x)) (append-nil (f 0)) ∙ ap (items (f 0)) n

  -- a list of parts, where `Front` holds of what may stand behind each
  module _ {B : Type 0} (text : B → List ℕ) (found : ℕ → B → List A) (Good : B → Type 0) (Front : List ℕ → Type 0)
      (each : (b : B) (rest : List ℕ) → Good b → Front rest → Taken step place (text b) (λ at. found at b) rest)
      (front : (b : B) (rest : List ℕ) → Good b → Front rest → Front (text b ++ rest)) where
    pub front-list : (bs : List B) (rest : List ℕ) → AllOf Good bs → Front rest → Front (joined text bs ++ rest)
    unfolding joined
    front-list [] rest g h = h
    front-list (b ∷ bs) rest g h =
        rw (append_assoc (text b) (joined text bs) rest) (front b (joined text bs ++ rest) g.0 (front-list bs rest g.1 h))

    pub taken-list : (bs : List B) (rest : List ℕ) → AllOf Good bs → Front rest
        → Taken step place (joined text bs) (λ at. found_from text found at bs) rest
    unfolding joined found_from
    taken-list [] rest g h = taken_none rest
    taken-list (b ∷ bs) rest g h =
        taken-both (text b) (joined text bs) rest (λ at. found at b) (λ at. found_from text found at bs)
        (each b (joined text bs ++ rest) g.0 (front-list bs rest g.1 h)) (taken-list bs rest g.1 h)
