-- What was answered for the file number of a variable: the number, or that there is none.
use Prim.Native.Nat.{ℕ, ◌+◌}
use mathlib.Core.Path.{◌≡◌, sym, ap, ◌∙◌}
use mathlib.Core.Bool.{Bool, true, false, cond}
use lib.Dec.{leb}
use Rattle.std.specs.Prelude.{Option, Some, None}
use Rattle.definitions.specs.Limits.{file_number_limit}
use Rattle.definitions.specs.Refusal.{refuse, accept}
use Rattle.definitions.specs.Literal.{file_number}
use Rattle.definitions.specs.Write.{is_accepted}
use Rattle.definitions.proofs.Truths.{never}
use Rattle.literals.specs.Said.{said_file_number}
use Rattle.literals.specs.declared.FileNumber.{FileNumber}

module _ (first v : ℕ) (r : Option FileNumber) (e : said_file_number r ≡ file_number first v) where
  pub number_is : (n : FileNumber) → r ≡ Some n → (n.0 ≡ v + first) × (is_accepted (file_number first v) ≡ true)
  unfolding file_number
  number_is n q = (value (leb (v + first) file_number_limit) (sym (ap said_file_number q) ∙ e), ap is_accepted (sym e ∙ ap said_file_number q))
    where
      value : (b : Bool) → accept n.0 ≡ cond b (accept (v + first)) (refuse 5) → n.0 ≡ v + first
      value true p = cc
      value false p = never (cc)

  pub no_number : r ≡ None → is_accepted (file_number first v) ≡ false
  no_number q = ap is_accepted (sym e ∙ ap said_file_number q)
