-- What an answer says of the statement that it is of.
use Rattle.std.specs.Prelude.{Option, Some, None, Result, Ok}
use Prim.Native.Nat.{ℕ, ◌+◌, ◌≤◌}
use mathlib.Core.Path.{◌≡◌, refl, ap, ◌∙◌}
use mathlib.Core.List.{List}
use native.Mathlib.Omega.{arith}
use lib.ListN.{length}
use Rattle.definitions.specs.declared.Refusal.{Refusal}
use Rattle.definitions.specs.Walk.{Step, stop, bad, item}
use Rattle.definitions.specs.Row.{Line, comment, row, terms_of}
use Rattle.definitions.specs.Table.{kind_number}
use Rattle.definitions.specs.Text.{statement, in_file}
use Rattle.definitions.specs.declared.Entry.{Entry}
use Rattle.definitions.specs.declared.Options.{Options}
use Rattle.definitions.proofs.Stops.{bad-is-behind}
use Rattle.definitions.proofs.Truths.{never}
use Rattle.columns.specs.Entries.{entry_of, entry_alone}
use Rattle.columns.specs.Kinds.{terms_of_kind}
use Rattle.columns.proofs.EntryLaws.{kind-first, line-terms}
use Rattle.statements.specs.Brief.{entry_at, brief_step}
use Rattle.statements.specs.Said.{said_statement}
use Rattle.statements.specs.declared.row.Line as code

pub brief-stop : (x : Step Line) → stop ≡ brief_step x → x ≡ stop
brief-stop stop e = refl
brief-stop (bad r) e = never (cc)
brief-stop (item l n) e = never (cc)

pub brief-bad : (x : Step Line) (r : Refusal) → bad r ≡ brief_step x → x ≡ bad r
brief-bad stop r e = never (cc)
brief-bad (bad q) r e = cc
brief-bad (item l m) r e = never (cc)

-- a line of n bytes, as the code was told of it
pub record LineTold (x : Step Line) (y : Entry) (n : ℕ) : Type 0 where
  pub line : Line
  pub is : x ≡ item line n
  pub told : y ≡ entry_alone line

pub line-told : (x : Step Line) (y : Entry) (n : ℕ) → item y n ≡ brief_step x → LineTold x y n
line-told stop y n e = never (cc)
line-told (bad r) y n e = never (cc)
line-told (item l j) y n e = let p : y ≡ entry_alone l = cc in let q : j ≡ n = cc in record { line = l; is = ap (item l) q; told = p }

-- with its terms counted
pub record LineIs (x : Step Line) (terms n : ℕ) : Type 0 where
  pub line : Line
  pub is : x ≡ item line n
  pub counted : terms ≡ length (terms_of line)

pub brief-item : (x : Step Line) (y : Entry) (n : ℕ) → item y n ≡ brief_step x → LineIs x (terms_of_kind y.kind y.count) n
brief-item x y n e =
    let t = line-told x y n e in
    record { line = t.line; is = t.is; counted = ap (λ (z : Entry). terms_of_kind z.kind z.count) t.told ∙ line-terms t.line }

-- a refusal's place is within the text
pub bad-within : (o : Options) (s : List ℕ) (r : Refusal) → statement o s ≡ bad r → r.place ≤ length s
bad-within o s r e = let h = bad-is-behind o s r e in omega (arith, h.0, h.1)

-- a line has the same terms wherever it stands
pub terms-in-file : (at : ℕ) (l : Line) → terms_of (in_file at l) ≡ terms_of l
terms-in-file at (comment f n b) = refl
terms-in-file at (row r) = refl

pub entry-in-file : (at : ℕ) (l : Line) → entry_at at (entry_alone l) ≡ entry_alone (in_file at l)
entry-in-file at (comment f n b) = refl
entry-in-file at (row r) = ap (λ (f : ℕ). entry_of (kind_number r.kind) f (length r.terms) r.bound) (kind-first r.kind (at + 0) 0)

-- ---- an answer with a line, or with none
pub line-said : (r : Result (Option code.Line) Refusal) (o : Option code.Line) (l : code.Line) → r ≡ Ok o → o ≡ Some l
    → said_statement r ≡ item l.entry l.taken
line-said r o l p q = rw (p, q)

pub end-said : (r : Result (Option code.Line) Refusal) (o : Option code.Line) → r ≡ Ok o → o ≡ None → said_statement r ≡ stop
end-said r o p q = rw (p, q)
