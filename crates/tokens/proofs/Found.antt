-- The answers of `next_token`, by what is found.
use Prim.Native.Nat.{ℕ, ◌-◌}
use mathlib.Core.Path.{◌≡◌, refl, ap, ◌∙◌}
use mathlib.Core.Bool.{Bool}
use mathlib.Core.List.{List}
use lib.ListN.{take, drop}
use Rattle.std.specs.Prelude.{Option, Some, None, Result, Ok, Err}
use Rattle.definitions.proofs.Truths.{never}
use Rattle.definitions.specs.Refusal.{refusal}
use Rattle.definitions.specs.declared.Refusal.{Refusal}
use Rattle.literals.specs.declared.Lit.{Lit}
use Rattle.literals.proofs.OneAnswer.{same-lit}
use Rattle.items.specs.Items.{Found, text_at, item_by}
use Rattle.items.specs.declared.Token.{Token}
use Rattle.items.proofs.Found.{found-token, token-part}
use Rattle.tokens.specs.Said.{said_token, token_says}
use Rattle.tokens.specs.NextTokens.{step_by, step_at, codes_of, said_next, met_of}
use Rattle.tokens.specs.declared.token.TokenFault.{TokenFault}
use Rattle.tokens.specs.declared.token.TokenFault.TheVariants as token
use Rattle.tokens.specs.declared.next.Said.{Said}

-- ---- what it says
met-says : (t : Result (Option Lit) TokenFault) (at : Token) → said_next (met_of t at) ≡ step_by at.place at.end (said_token t)
met-says (Err token.Bad) at = refl
met-says (Err token.Beyond) at = refl
met-says (Ok None) at = refl
met-says (Ok (Some l)) at = refl

pub step-token : (named : Bool) (block : List ℕ) (f : Found) (at : Token) → Ok (Some at) ≡ item_by block f
    → (t : Result (Option Lit) TokenFault) (r : Result (Option Said) Refusal)
    → said_token t ≡ token_says named (take (at.end - at.place) (drop at.place block)) → r ≡ met_of t at → said_next r ≡ step_at named block f
step-token named block f at i t r s q =
    let m = found-token block f at i in
    let e = m.1 in
    ap said_next q ∙ met-says t at ∙ ap (step_by at.place at.end) (s ∙ ap (token_says named) (token-part block at.place at.end e))
    ∙ ap (λ (n : ℕ). step_by at.place n (token_says named (text_at block at.place))) e ∙ ap (step_at named block) m.0

-- ---- an answer is known by what it says
same-literal : (a b : Option Lit) → codes_of a ≡ codes_of b → a ≡ b
same-literal None None e = refl
same-literal None (Some m) e = never (cc)
same-literal (Some l) None e = never (cc)
same-literal (Some l) (Some m) e = ap (λ (x : Lit). Some x) (same-lit l m (cc))

same_said : (t u : Said) → said_next (Ok (Some t)) ≡ said_next (Ok (Some u)) → t ≡ u
same_said t u e =
    let p : t.place ≡ u.place = cc in
    let q : t.end ≡ u.end = cc in
    let l : codes_of t.literal ≡ codes_of u.literal = cc in
    let said : ℕ → ℕ → Option Lit → Said = λ a b c. record { place = a; end = b; literal = c } in
    ap (λ (a : ℕ). said a t.end t.literal) p ∙ ap (λ (b : ℕ). said u.place b t.literal) q ∙ ap (said u.place u.end) (same-literal t.literal u.literal l)

pub said-next : (r r' : Result (Option Said) Refusal) → said_next r ≡ said_next r' → r ≡ r'
said-next (Ok None) (Ok None) e = refl
said-next (Ok None) (Ok (Some t)) e = never (cc)
said-next (Ok None) (Err n) e = never (cc)
said-next (Ok (Some t)) (Ok None) e = never (cc)
said-next (Ok (Some t)) (Ok (Some u)) e = ap (λ (x : Said). Ok (Some x)) (same_said t u e)
said-next (Ok (Some t)) (Err n) e = never (cc)
said-next (Err n) (Ok None) e = never (cc)
said-next (Err n) (Ok (Some t)) e = never (cc)
said-next (Err n) (Err m) e =
    let p : n.number ≡ m.number = cc in
    let q : n.place ≡ m.place = cc in
    ap (λ (a : ℕ). Err (refusal a n.place)) p ∙ ap (λ (b : ℕ). Err (refusal m.number b)) q
