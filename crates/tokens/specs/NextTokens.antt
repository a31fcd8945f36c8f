-- What is met next in a block, with what a token of it says, and what the answers of src/next.rt say of it.
use Rattle.std.specs.Prelude.{ℕ, Bool, List, [], ◌∷◌, Option, Some, None, Result, Ok, Err}
use Rattle.definitions.specs.Refusal.{Checked, refuse, accept, refusal}
use Rattle.definitions.specs.declared.Refusal.{Refusal}
use Rattle.literals.specs.declared.Lit.{Lit}
use Rattle.items.specs.Items.{Found, nothing, line, word, text_at, end_at}
use Rattle.items.specs.declared.Token.{Token}
use Rattle.tokens.specs.Said.{token_says}
use Rattle.tokens.specs.declared.token.TokenFault.{TokenFault}
use Rattle.tokens.specs.declared.token.TokenFault.TheVariants as token
use Rattle.tokens.specs.declared.next.Said.{Said}

-- ---- the next step: nothing more; a refusal; or a token from p to e that says these literals
pub data Step : Type 0 where
  ends : Step
  refuses : ℕ → ℕ → Step
  says : ℕ → ℕ → List ℕ → Step

abbrev pub step_by : ℕ → ℕ → Checked (List ℕ) → Step
step_by p e (refuse n) = refuses n p
step_by p e (accept cs) = says p e cs

abbrev pub step_at : Bool → List ℕ → Found → Step
step_at named block nothing = ends
step_at named block (line p) = refuses 20 p
step_at named block (word p) = step_by p (end_at block p) (token_says named (text_at block p))

-- the codes that a token says: one, or none
abbrev pub codes_of : Option Lit → List ℕ
codes_of None = []
codes_of (Some l) = l.0 ∷ []

abbrev pub said_next : Result (Option Said) Refusal → Step
said_next (Ok None) = ends
said_next (Ok (Some t)) = says t.place t.end (codes_of t.literal)
said_next (Err e) = refuses e.number e.place

-- a token that is met, by what it says
abbrev pub met_of : Result (Option Lit) TokenFault → Token → Result (Option Said) Refusal
met_of (Err token.Bad) t = Err (refusal 21 t.place)
met_of (Err token.Beyond) t = Err (refusal 5 t.place)
met_of (Ok l) t = Ok (Some (record { place = t.place; end = t.end; literal = l }))
