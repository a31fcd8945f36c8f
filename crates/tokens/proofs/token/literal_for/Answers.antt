-- `tokens::literal_for` meets its contract: the file number, the index and the code are those of the definition
-- (proofs/Says.antt). Assumes nothing.
use mathlib.Core.Path.{◌≡◌, refl, sym, ap, ◌∙◌}
use Rattle.std.specs.Prelude.{Option, Some, None, Ok, Err}
use Rattle.std.specs.Option.{ok_or}
use Rattle.std.proofs.lemmas.Result.{err_from_is_err_and}
use Rattle.definitions.proofs.Truths.{never}
use Rattle.definitions.specs.Refusal.{refuse, accept}
use Rattle.definitions.specs.Literal.{index}
use Rattle.literals.specs.Said.{said_file_number, said_var, said_lit}
use Rattle.literals.proofs.Conversions.{index-of-digits, index-of-digits-refused}
use Rattle.tokens.proofs.Says.{literal-is, literal-coded}
use Rattle.tokens.proofs.token.literal_for.Goals as goal
use Rattle.tokens.proofs.token.literal_for.Goals.{After-of_file}

was-none : {A E : Type 0} (o : Option A) (d e : E) → Err e ≡ ok_or o d → (o ≡ None) × (e ≡ d)
was-none None d e q = (refl, cc)
was-none (Some x) d e q = never (cc)

was-some : {A E : Type 0} (o : Option A) (d : E) (x : A) → Ok x ≡ ok_or o d → o ≡ Some x
was-some None d x q = never (cc)
was-some (Some y) d x q = let z : x ≡ y = cc in ap (λ a. Some a) (sym z)

-- `of_digits`, then `of_file`
var-read : (c : After-of_file) → said_var c.of_file.result ≡ index 1 c.args.size
var-read c =
    c.of_file.ensures
    ∙ index-of-digits _ _ _
    (sym (ap said_file_number (was-some _ _ _ c.in_ok-number.ensures.value)) ∙ c.of_digits.ensures)

pub returns-in_err-number : goal.returns-in_err-number
returns-in_err-number c =
    let p = err_from_is_err_and c.from_residual.result c.from_residual.ensures.1 in
    let n = was-none _ _ _ c.in_err-number.ensures.value in
    rw (p.1, p.2, n.1)
    (literal-is c.args.negative _ (refuse 5)
    (index-of-digits-refused 1 _ (sym (ap said_file_number n.0) ∙ c.of_digits.ensures)))

pub returns-in_err-variable : goal.returns-in_err-variable
returns-in_err-variable c =
    let p = err_from_is_err_and c.from_residual-in_err-variable.result c.from_residual-in_err-variable.ensures.1 in
    let n = was-none _ _ _ c.in_err-variable.ensures.value in
    rw (p.1, p.2, n.1)
    (literal-is c.args.negative _ (refuse 5) (sym (ap said_var n.0) ∙ var-read (goal.at.returns-in_err-variable c).After-of_file))

pub returns-in_err-literal : goal.returns-in_err-literal
returns-in_err-literal c =
    let p = err_from_is_err_and c.from_residual-in_err-literal.result c.from_residual-in_err-literal.ensures.1 in
    let n = was-none _ _ _ c.in_err-literal.ensures.value in
    rw (p.1, p.2, n.1)
    (literal-coded _ _ c.in_ok-variable.variable.0
    (sym (ap said_var (was-some _ _ _ c.in_ok-variable.ensures.value)) ∙ var-read (goal.at.returns-in_err-literal c).After-of_file) (refuse 5)
    (sym (ap said_lit n.0) ∙ c.lit.ensures))

pub returns : goal.returns
returns c =
    literal-coded _ _ c.in_ok-variable.variable.0
    (sym (ap said_var (was-some _ _ _ c.in_ok-variable.ensures.value)) ∙ var-read (goal.at.returns c).After-of_file) (accept _)
    (sym (ap said_lit (was-some _ _ _ c.in_ok-literal.ensures.value)) ∙ c.lit.ensures)
