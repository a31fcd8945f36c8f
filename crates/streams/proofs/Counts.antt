-- Reads and writes one after the other: what they moved together stands at the front.
use Rattle.std.proofs.Common.{◌≡◌, ℕ, ◌+◌, ◌-◌, ◌≤◌, List, ◌++◌, Option, length, take, drop, sym, ap, refl, ◌∙◌, subst, arith, length-take-le}
use Rattle.std.proofs.Math.Seq.{take-add, take-append-add, take-take}
use Rattle.std.proofs.lemmas.List.{take_rest}
use Rattle.std.proofs.lemmas.Slice.{take-put_mid}
use Rattle.std.specs.Io.KnownBytes.{Appends, Consumes}
use Rattle.std.proofs.KnownBytes.{Appends-trans, Consumes-trans}
use borrow.Rule.Slice.PartMut.{put_mid}

-- a write of n bytes of the rest, behind d bytes
pub wrote_more : (a b c : Option (List ℕ)) (text : List ℕ) (d n : ℕ) → Appends a b (take d text)
    → Appends b c (take n (take (length text - d) (drop d text))) → Appends a c (take (d + n) text)
wrote_more a b c text d n p q =
    subst (Appends a c) (sym (take-add d n text)) (Appends-trans a b c _ _ p (subst (λ l. Appends b c (take n l)) (take_rest text d) q))

front_more : (xs ys : List ℕ) (d k n : ℕ) → d ≤ length xs → n ≤ length ys
    → take (d + n) (put_mid d k xs ys) ≡ take d xs ++ take n ys
front_more xs ys d k n within fits =
    sym (take-take (d + n) (d + length ys) (put_mid d k xs ys) (omega arith))
    ∙ ap (take (d + n)) (take-put_mid d k xs ys (d + length ys) refl within)
    ∙ ap (λ i. take (i + n) (take d xs ++ ys)) (sym (length-take-le d xs within))
    ∙ take-append-add (take d xs) ys n

-- a read of n bytes into the rest, behind d bytes
pub read_more : (a b c : Option (List ℕ)) (xs ys : List ℕ) (d k n : ℕ) → d ≤ length xs → n ≤ length ys
    → Consumes a b (take d xs) → Consumes b c (take n ys) → Consumes a c (take (d + n) (put_mid d k xs ys))
read_more a b c xs ys d k n within fits p q =
    subst (Consumes a c) (sym (front_more xs ys d k n within fits)) (Consumes-trans a b c _ _ p q)
