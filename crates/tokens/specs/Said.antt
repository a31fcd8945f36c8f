-- What the answers of src/token.rt say, in the words of the definitions.
use Rattle.std.specs.Prelude.{ℕ, min, Bool, true, false, List, [], ◌∷◌, Option, Some, None, Result, Ok, Err}
use Rattle.definitions.specs.Refusal.{Checked, refuse, accept}
use Rattle.definitions.specs.Values.{signed_token, x_token}
use Rattle.definitions.specs.declared.Form.{Form}
use Rattle.definitions.specs.declared.Form.TheVariants.{SignedNumbers, XTokens}
use Rattle.numbers.specs.Read.{cap}
use Rattle.literals.specs.declared.Lit.{Lit}
use Rattle.tokens.specs.declared.token.TokenFault.{TokenFault}
use Rattle.tokens.specs.declared.token.TokenFault.TheVariants as token

-- a number that stops at the cap of `numbers`, which is beyond every file number
abbrev pub capped : Checked ℕ → Checked ℕ
capped (refuse e) = refuse e
capped (accept n) = accept (min n cap)

abbrev pub said_whole : Option ℕ → Checked ℕ
said_whole (Some n) = accept n
said_whole None = refuse 21

-- "21 bad token", 5, the 0 that sets nothing, or the literal that becomes true
abbrev pub said_token : Result (Option Lit) TokenFault → Checked (List ℕ)
said_token (Err token.Bad) = refuse 21
said_token (Err token.Beyond) = refuse 5
said_token (Ok None) = accept []
said_token (Ok (Some l)) = accept (l.0 ∷ [])

-- a token of a block whose variables have an `x`, or not
abbrev pub token_says : Bool → List ℕ → Checked (List ℕ)
token_says true s = x_token s
token_says false s = signed_token s

abbrev pub form_by : Bool → Form
form_by true = XTokens
form_by false = SignedNumbers
