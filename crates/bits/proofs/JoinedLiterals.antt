-- Literals one after the other: what they leave in the rows, over two lists joined.
use Prim.Native.Nat.{ℕ}
use mathlib.Core.Path.{◌≡◌, refl, ◌∙◌}
use mathlib.Core.Bool.{true, not}
use mathlib.Core.List.{List, [], ◌∷◌, ◌++◌}
use lib.ListN.{length}
use Rattle.definitions.specs.Literal.{index_of, negated}
use Rattle.definitions.specs.Values.{bit_made, valued, marked}
use Rattle.bits.proofs.Bits.{length-made}

pub valued-append : (xs ys ws : List ℕ) → valued (xs ++ ys) ws ≡ valued ys (valued xs ws)
unfolding valued
valued-append [] ys ws = refl
valued-append (c ∷ xs) ys ws = valued-append xs ys (bit_made (not (negated c)) (index_of c) ws)

pub marked_append : (xs ys ks : List ℕ) → marked (xs ++ ys) ks ≡ marked ys (marked xs ks)
unfolding marked
marked_append [] ys ks = refl
marked_append (c ∷ xs) ys ks = marked_append xs ys (bit_made true (index_of c) ks)

-- no row changes its length
pub length-valued : (cs ws : List ℕ) → length (valued cs ws) ≡ length ws
unfolding valued
length-valued [] ws = refl
length-valued (c ∷ cs) ws = length-valued cs (bit_made (not (negated c)) (index_of c) ws) ∙ length-made (not (negated c)) (index_of c) ws

pub length_marked : (cs ks : List ℕ) → length (marked cs ks) ≡ length ks
unfolding marked
length_marked [] ks = refl
length_marked (c ∷ cs) ks = length_marked cs (bit_made true (index_of c) ks) ∙ length-made true (index_of c) ks
