-- The literals that a block says, in order: their places ascend, and lie before the place where the walk stops; a token
-- says one literal at most, of a variable within the limit.
use Prim.Native.Nat.{ℕ, ◌+◌, ◌-◌, ◌≤◌}
use mathlib.Core.Path.{◌≡◌, refl}
use mathlib.Core.Bool.{Bool, true, false, cond, ◌&&◌, ◌||◌}
use mathlib.Core.List.{List, [], ◌∷◌, ◌++◌, map}
use native.Mathlib.Omega.{arith}
use borrow.Author.Tests.{leb-true}
use lib.Dec.{leb, eqb}
use Rattle.std.specs.Prelude.{Option, Some, None}
use lib.ListN.{length, drop, length-drop}
use Rattle.definitions.specs.Limits.{index_limit, file_number_limit}
use Rattle.definitions.specs.Bytes.{lf, minus, plus, tilde, letter_x}
use Rattle.definitions.specs.Refusal.{refusal, Checked, refuse, accept}
use Rattle.definitions.specs.declared.Refusal.{Refusal}
use Rattle.definitions.specs.Literal.{code_of, index_of, is_index, index}
use Rattle.definitions.specs.Table.{and_then}
use Rattle.definitions.specs.Values.{Item, untagged, token, Spot, front, between, inside, items_from, letter_v, is_white, is_solid}
use Rattle.definitions.specs.Values.{front_of, whole_number, literal_for, signed_for, signed_token, named_variable, x_token}
use Rattle.tokens.specs.Said.{token_says}
use Rattle.settling.specs.Flat.{Placed, placed, said_by, stop_of}
use Rattle.heard.specs.Windows.{PlacesBelow}
use Rattle.heard.proofs.Split.{Ascending, ascending-from, Known}

-- ---- a token says one literal at most

abbrev pub AtMostOne : List ℕ → Type 0
AtMostOne [] = Unit {0}
AtMostOne (c ∷ []) = index_of c ≤ index_limit
AtMostOne (c ∷ d ∷ cs) = ⊥

abbrev pub Fine : Checked (List ℕ) → Type 0
Fine (refuse e) = Unit {0}
Fine (accept cs) = AtMostOne cs

fine-cond : (b : Bool) (x y : Checked (List ℕ)) → Fine x → Fine y → Fine (cond b x y)
fine-cond true x y p q = p
fine-cond false x y p q = q

fine-then : (x : Checked ℕ) (f : ℕ → Checked (List ℕ)) → ((n : ℕ) → Fine (f n)) → Fine (and_then x f)
fine-then (refuse e) f p = tt
fine-then (accept n) f p = p n

code_in : (negative : Bool) (v : ℕ) → v ≤ index_limit → index_of (code_of negative v) ≤ index_limit
code_in true v h = omega arith
code_in false v h = omega arith

fine-literal : (negative : Bool) (n : ℕ) → Fine (literal_for negative n)
unfolding index
fine-literal negative n = tested (leb n file_number_limit) (leb 1 n) (is_index (n - 1)) refl
  where
    tested : (p q r : Bool) → is_index (n - 1) ≡ r
        → Fine (and_then (cond (p && (q && r)) (accept (n - 1)) (refuse 5)) (λ v. accept (code_of negative v ∷ [])))
    tested true true true e = code_in negative (n - 1) (leb-true (n - 1) index_limit e)
    tested true true false e = tt
    tested true false r e = tt
    tested false q r e = tt

fine-signed-for : (negative : Bool) (n : ℕ) → Fine (signed_for negative n)
fine-signed-for negative n = fine-cond (eqb n 0) (accept []) (literal_for negative n) tt (fine-literal negative n)

fine-signed : (s : List ℕ) → Fine (signed_token s)
unfolding signed_token
fine-signed [] = tt
fine-signed (b ∷ s) =
    fine-cond
    (eqb b minus)
    (and_then (whole_number s) (signed_for true))
    (cond (eqb b plus) (and_then (whole_number s) (signed_for false)) (and_then (whole_number (b ∷ s)) (signed_for false)))
    (fine-then (whole_number s) (signed_for true) (fine-signed-for true))
    (fine-cond
    (eqb b plus)
    (and_then (whole_number s) (signed_for false))
    (and_then (whole_number (b ∷ s)) (signed_for false))
    (fine-then (whole_number s) (signed_for false) (fine-signed-for false))
    (fine-then (whole_number (b ∷ s)) (signed_for false) (fine-signed-for false)))

fine-named : (negative : Bool) (s : List ℕ) → Fine (named_variable negative s)
unfolding named_variable
fine-named negative [] = tt
fine-named negative (b ∷ s) =
    fine-cond
    (eqb b letter_x)
    (and_then (whole_number s) (literal_for negative))
    (refuse 21)
    (fine-then (whole_number s) (literal_for negative) (fine-literal negative))
    tt

fine-x : (s : List ℕ) → Fine (x_token s)
unfolding x_token
fine-x [] = tt
fine-x (b ∷ s) =
    fine-cond (eqb b tilde || eqb b minus) (named_variable true s) (named_variable false (b ∷ s)) (fine-named true s)
    (fine-named false (b ∷ s))

pub says-one : (named : Bool) (s : List ℕ) → Fine (token_says named s)
says-one true s = fine-x s
says-one false s = fine-signed s

-- ---- in order

-- where the walk stops: at what is refused, or at the end
abbrev pub stop_place : ℕ → Option Refusal → ℕ
stop_place end None = end
stop_place end (Some r) = r.place

-- literals from the offset `from` on, before the place `stop`
pub record Orderly (from stop : ℕ) (xs : List Placed) : Type 0 where
  pub ascending : Ascending from xs
  pub below : PlacesBelow stop xs
  pub known : Known xs
  pub ahead : from ≤ stop

abbrev pub OrderlyAt : Bool → ℕ → ℕ → List Item → Type 0
OrderlyAt named end from is = Orderly from (stop_place end (stop_of named is)) (said_by named is)

module _ (named : Bool) (end from : ℕ) where
  orderly-skip : (is : List Item) → OrderlyAt named end (from + 1) is → OrderlyAt named end from is
  orderly-skip is o =
      record {
        ascending = ascending-from from (from + 1) (said_by named is) (omega arith) o.ascending;
        below = o.below;
        known = o.known;
        ahead = omega (arith, o.ahead);
      }

  orderly-end : from ≤ end → OrderlyAt named end from []
  unfolding said_by stop_of
  orderly-end h = record { ascending = tt; below = tt; known = tt; ahead = h }

  orderly-untagged : OrderlyAt named end from (untagged from ∷ [])
  unfolding said_by stop_of
  orderly-untagged = record { ascending = tt; below = tt; known = tt; ahead = omega arith }

  orderly-said : (cs : List ℕ) (is : List Item) → AtMostOne cs → OrderlyAt named end (from + 1) is
      → Orderly from (stop_place end (stop_of named is)) (map (placed from) cs ++ said_by named is)
  orderly-said [] is f o = orderly-skip is o
  orderly-said (c ∷ []) is f o =
      record {
        ascending = (omega arith, o.ascending);
        below = (omega (arith, o.ahead), o.below);
        known = (f, o.known);
        ahead = omega (arith, o.ahead);
      }
  orderly-said (c ∷ d ∷ cs) is f o = absurd f

  orderly-token : (s : List ℕ) (is : List Item) → OrderlyAt named end (from + 1) is → OrderlyAt named end from (token from s ∷ is)
  unfolding said_by stop_of
  orderly-token s is o = pick (token_says named s) (says-one named s)
    where
      pick : (x : Checked (List ℕ)) → Fine x → Orderly
          from
          (stop_place end (elim x as (λ (y : Checked (List ℕ)). Option Refusal) [ refuse e ↦ Some (refusal e from) | accept cs ↦ stop_of named is ]))
          (elim x [ refuse e ↦ [] | accept cs ↦ map (placed from) cs ++ said_by named is ])
      pick (refuse e) f = record { ascending = tt; below = tt; known = tt; ahead = omega arith }
      pick (accept cs) f = orderly-said cs is f o

  pick-front : (r : Bool) (is : List Item) → OrderlyAt named end (from + 1) is
      → OrderlyAt named end from (elim r [ true ↦ is | false ↦ untagged from ∷ [] ])
  pick-front true is o = orderly-skip is o
  pick-front false is o = orderly-untagged

  pick-between : (r t : Bool) (s : List ℕ) (is js ks : List Item)
      → OrderlyAt named end (from + 1) is
      → OrderlyAt named end (from + 1) js
      → OrderlyAt named end (from + 1) ks
      → OrderlyAt named end from (elim r [ true ↦ is | false ↦ elim t [ true ↦ js | false ↦ token from s ∷ ks ] ])
  pick-between true t s is js ks o p q = orderly-skip is o
  pick-between false true s is js ks o p q = orderly-skip js p
  pick-between false false s is js ks o p q = orderly-token s ks q

  pick-inside : (r t : Bool) (is js ks : List Item)
      → OrderlyAt named end (from + 1) is
      → OrderlyAt named end (from + 1) js
      → OrderlyAt named end (from + 1) ks
      → OrderlyAt named end from (elim r [ true ↦ is | false ↦ elim t [ true ↦ js | false ↦ ks ] ])
  pick-inside true t is js ks o p q = orderly-skip is o
  pick-inside false true is js ks o p q = orderly-skip js p
  pick-inside false false is js ks o p q = orderly-skip ks q

-- of a block's rest s, which begins at the offset from and ends at `end`
pub orderly : (named : Bool) (end from : ℕ) (w : Spot) (s : List ℕ) → end ≡ from + length s → OrderlyAt named end from (items_from w from s)
unfolding items_from
orderly named end from w [] e = orderly-end named end from (omega arith)
orderly named end from front (b ∷ s) e =
    pick-front named end from (eqb b letter_v) (items_from between (from + 1) s) (orderly named end (from + 1) between s (omega arith))
orderly named end from between (b ∷ s) e =
    pick-between
    named
    end
    from
    (eqb b lf)
    (is_white b)
    (front_of is_solid (b ∷ s))
    (items_from front (from + 1) s)
    (items_from between (from + 1) s)
    (items_from inside (from + 1) s)
    (orderly named end (from + 1) front s (omega arith))
    (orderly named end (from + 1) between s (omega arith))
    (orderly named end (from + 1) inside s (omega arith))
orderly named end from inside (b ∷ s) e =
    pick-inside
    named
    end
    from
    (eqb b lf)
    (is_white b)
    (items_from front (from + 1) s)
    (items_from between (from + 1) s)
    (items_from inside (from + 1) s)
    (orderly named end (from + 1) front s (omega arith))
    (orderly named end (from + 1) between s (omega arith))
    (orderly named end (from + 1) inside s (omega arith))

-- of a block from an offset on
pub orderly_from : (named : Bool) (w : Spot) (block : List ℕ) (from : ℕ) → from ≤ length block
    → OrderlyAt named (length block) from (items_from w from (drop from block))
orderly_from named w block from h = orderly named (length block) from w (drop from block) (omega (arith, length-drop from block))
