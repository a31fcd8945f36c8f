-- `read_string` meets its contract: what the string's check refuses, 12, or both rows with their bits
-- (proofs/Reading.antt). Assumes nothing.
use mathlib.Core.Path.{◌≡◌, sym, ap, ◌∙◌}
use mathlib.Core.List.{List, []}
use Prim.Native.Nat.{ℕ, ◌+◌, ◌-◌}
use lib.ListN.{length, take, drop}
use Rattle.std.proofs.lemmas.Result.{err_from_is_err_and}
use Rattle.std.specs.Prelude.{Result, Option, Some, None, Ok, Err}
use Rattle.definitions.specs.declared.Refusal.{Refusal}
use Rattle.definitions.specs.declared.Form.TheVariants.{ZerosAndOnes}
use Rattle.definitions.specs.Table.{accepted}
use Rattle.definitions.specs.Values.{front, items_from, form_of, hear, length_after, appended}
use Rattle.items.specs.declared.Token.{Token}
use Rattle.values.specs.Strings.{said_checked}
use Rattle.values.proofs.Appended.{length-after-appended}
use Rattle.values.proofs.Reading.{Heard, read-refused, read_short, read-fine, read-nothing}
use Rattle.values.proofs.read_string.Goals as goal
use Rattle.values.proofs.read_string.Goals.{In-Some}

-- the answer of the check is what is heard
heard : (s : List ℕ) (n : ℕ) (ws ks : List ℕ) (r : Result (Option Token) Refusal) → form_of s ≡ ZerosAndOnes
    → said_checked n s r ≡ hear ZerosAndOnes n ws ks [] (items_from front 0 s) → Heard s n ws ks ≡ said_checked n s r
heard s n ws ks r f e = ap (λ g. hear g n ws ks [] (items_from front 0 s)) f ∙ sym e

-- a string, whose literals reach as far as it is long
module _ (c : In-Some) where
  abbrev text : List ℕ
  text = take (c.in-Some.string.end - c.in-Some.string.place) (drop c.in-Some.string.place c.args.block.now)

  said : Heard c.args.block.now c.args.kept c.args.values.now c.args.known.now ≡ accepted (appended c.args.kept text)
  said = heard _ _ _ _ (Ok (Some c.in-Some.string)) c.requires.form (rw c.in-Some.is at c.in_ok-string.ensures.result_value)

  long : c.args.kept + length text ≡ length_after c.args.kept (appended c.args.kept text)
  long = sym (length-after-appended c.args.kept text)

pub check-requires : goal.check-requires
check-requires c = c.requires

pub returns-in_err-string : goal.returns-in_err-string
returns-in_err-string c =
    let p = err_from_is_err_and c.from_residual.result c.from_residual.ensures.1 in
    rw (p.1, p.2)
    (read-refused _ _ _ _ c.requires.some _ (heard _ _ _ _ (Err c.in_err-string.field-0.0) c.requires.form c.in_err-string.ensures.result_value))

pub returns-in_default : goal.returns-in_default
returns-in_default c =
    read-nothing _ _ _ _ c.requires.some
    (heard _ _ _ _ (Ok None) c.requires.form (rw c.in_default.is at c.in_ok-string.ensures.result_value)) _ c.in_words.ensures

pub returns-in_err-length : goal.returns-in_err-length
returns-in_err-length c =
    let p = err_from_is_err_and c.from_residual-in_err-length.result c.from_residual-in_err-length.ensures.1 in
    let d = (goal.at.returns-in_err-length c).In-Some in
    rw (p.1, p.2) (read_short _ _ _ _ c.requires.some _ (said d) _ (long d) _ c.in_err-length.ensures)

pub returns : goal.returns
returns c =
    let d = (goal.at.returns c).In-Some in
    read-fine _ _ _ _ c.requires.some _ (said d) _ (long d) _ _ _ c.in_ok-length.ensures c.append.ensures.values c.append.ensures.known
