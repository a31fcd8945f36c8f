-- Laws of several puts: none, one, one list of texts behind another; and where all of them fit, what is put is one
-- text.
use Prim.Native.Nat.{ℕ, ◌+◌, ◌≤◌}
use mathlib.Core.Path.{◌≡◌, refl, ◌∙◌}
use mathlib.Core.List.{List, [], ◌∷◌, ◌++◌}
use lib.ListN.{length}
use Rattle.definitions.specs.Lists.{joined}
use Rattle.definitions.specs.Output.{put_in}
use Rattle.laws.proofs.Puts.{Puts, front-room, rest-room, puts_then, puts_none}
use Rattle.puts.specs.Lands.{place_after, Lands}
use Rattle.puts.specs.SeveralPuts.{place_behind, put_each, LandsEach}
use Rattle.puts.proofs.LandLaws.{lands}

-- all the texts as one
abbrev pub all_of : List (List ℕ) → List ℕ
all_of ts = joined (λ (t : List ℕ). t) ts

pub each_none : (at : ℕ) (o : List ℕ) → LandsEach [] at o at o
unfolding place_behind put_each
each_none at o = record { place = refl; after = refl }

pub each-one : {t : List ℕ} {at : ℕ} {o : List ℕ} {r : ℕ} {o' : List ℕ} → Lands t at o r o' → LandsEach (t ∷ []) at o r o'
unfolding place_behind put_each
each-one l = record { place = l.place; after = l.after }

place-append : (xs ys : List (List ℕ)) (at : ℕ) (o : List ℕ)
    → place_behind ys (place_behind xs at o) (put_each xs at o) ≡ place_behind (xs ++ ys) at o
unfolding place_behind put_each
place-append [] ys at o = refl
place-append (x ∷ xs) ys at o = place-append xs ys (place_after x at o) (put_in x at o)

put-append : (xs ys : List (List ℕ)) (at : ℕ) (o : List ℕ)
    → put_each ys (place_behind xs at o) (put_each xs at o) ≡ put_each (xs ++ ys) at o
unfolding place_behind put_each
put-append [] ys at o = refl
put-append (x ∷ xs) ys at o = put-append xs ys (place_after x at o) (put_in x at o)

module _ {xs : List (List ℕ)} {at : ℕ} {o : List ℕ} {p : ℕ} {o₁ : List ℕ} (f : LandsEach xs at o p o₁) where
  -- what follows it, at the place behind it
  pub place-then : (ys : List (List ℕ)) → place_behind ys p o₁ ≡ place_behind (xs ++ ys) at o
  place-then ys = rw (f.place, f.after) (place-append xs ys at o)

  pub put_then : (ys : List (List ℕ)) → put_each ys p o₁ ≡ put_each (xs ++ ys) at o
  put_then ys = rw (f.place, f.after) (put-append xs ys at o)

  pub each-then : {ys : List (List ℕ)} {q : ℕ} {o₂ : List ℕ} → LandsEach ys p o₁ q o₂ → LandsEach (xs ++ ys) at o q o₂
  each-then {ys} g = record { place = g.place ∙ place-then ys; after = g.after ∙ put_then ys }

-- texts that are said in other words
pub each-as : {xs ys : List (List ℕ)} {at : ℕ} {o : List ℕ} {r : ℕ} {o' : List ℕ} → LandsEach xs at o r o' → xs ≡ ys
    → LandsEach ys at o r o'
each-as f e = rw e at f

-- ---- where all of them fit

all_fit : (ts : List (List ℕ)) (at : ℕ) (o : List ℕ) → at + length (all_of ts) ≤ length o
    → Puts (all_of ts) at o (place_behind ts at o) (put_each ts at o)
unfolding place_behind put_each joined
all_fit [] at o h = puts_none at o
all_fit (t ∷ ts) at o h =
    let r = front-room t (all_of ts) at h in
    let f = lands t at o {r = place_after t at o} {o' = put_in t at o} (record { place = refl; after = refl }) r in
    puts_then f r (all_fit ts (place_after t at o) (put_in t at o) (rest-room f (all_of ts) h))

pub each_puts : (ts : List (List ℕ)) (at : ℕ) (o : List ℕ) {r : ℕ} {o' : List ℕ} → LandsEach ts at o r o'
    → at + length (all_of ts) ≤ length o → Puts (all_of ts) at o r o'
each_puts ts at o l h = let f = all_fit ts at o h in record { place = l.place ∙ f.place; after = l.after ∙ f.after }
