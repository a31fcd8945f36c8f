-- A block of signed numbers or `x` tokens as one list: the literals that it says before the first 20, 21 or 5, each
-- with its token's place, and that refusal.
use Rattle.std.specs.Prelude.{ℕ, Bool, List, [], ◌∷◌, ◌++◌, map, Option, Some, None}
use Rattle.definitions.specs.Refusal.{refusal, refuse, accept}
use Rattle.definitions.specs.declared.Refusal.{Refusal}
use Rattle.definitions.specs.Values.{Item, untagged, token}
use Rattle.tokens.specs.Said.{token_says}

pub record Placed : Type 0 where
  pub place : ℕ
  pub code : ℕ

abbrev pub placed : ℕ → ℕ → Placed
placed p c = record { place = p; code = c }

abbrev pub code_in : Placed → ℕ
code_in x = x.code

unfoldable pub said_by : Bool → List Item → List Placed
said_by named [] = []
said_by named (untagged p ∷ is) = []
said_by named (token p s ∷ is) = elim (token_says named s) [ refuse e ↦ [] | accept cs ↦ map (placed p) cs ++ said_by named is ]

-- the first 20, 21 or 5, or none
unfoldable pub stop_of : Bool → List Item → Option Refusal
stop_of named [] = None
stop_of named (untagged p ∷ is) = Some (refusal 20 p)
stop_of named (token p s ∷ is) = elim (token_says named s) [ refuse e ↦ Some (refusal e p) | accept cs ↦ stop_of named is ]
