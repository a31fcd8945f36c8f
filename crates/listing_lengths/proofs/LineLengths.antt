-- The length of a line, from the entry that the code was told of it.
use Prim.Native.Nat.{ℕ}
use mathlib.Core.Path.{◌≡◌, refl, sym, ap, ◌∙◌}
use mathlib.Core.Bool.{false}
use mathlib.Core.List.{List, []}
use lib.Dec.{eqb}
use lib.ListN.{length}
use Rattle.definitions.specs.Lists.{joined}
use Rattle.definitions.specs.Refusal.{needed}
use Rattle.definitions.specs.Walk.{item}
use Rattle.definitions.specs.Row.{Line, comment, row, terms_of}
use Rattle.definitions.specs.declared.Kind.{Kind}
use Rattle.definitions.specs.declared.Kind.TheVariants.{AtLeast as at_least, AtMost as at_most, Equal as equal, Objective as objective}
use Rattle.definitions.specs.Table.{kind_number}
use Rattle.definitions.specs.Text.{statement}
use Rattle.definitions.specs.House.{house_line}
use Rattle.definitions.specs.declared.Entry.{Entry}
use Rattle.definitions.specs.declared.Options.{Options}
use Rattle.laws.proofs.Puts.{needed-add}
use Rattle.columns.specs.Entries.{entry_alone}
use Rattle.columns.specs.Kinds.{read_kind}
use Rattle.statements.specs.Met.{statement_met}
use Rattle.statements.proofs.MetTerms.{statement-met}
use Rattle.house_lengths.specs.Lengths.{line_length}
use Rattle.house_lengths.proofs.WordLaws.{comment-words, line-length}
use Rattle.listing_lengths.specs.Measure.{fields_length}

-- no terms have no fields
pub none-length : (first : ℕ) → 0 ≡ fields_length first []
unfolding needed joined
none-length first = refl

kind-number : (k : Kind) → read_kind (kind_number k) ≡ k
unfolding read_kind
kind-number at_least = refl
kind-number at_most = refl
kind-number equal = refl
kind-number objective = refl

row_number : (k : Kind) → eqb (kind_number k) 0 ≡ false
row_number at_least = refl
row_number at_most = refl
row_number equal = refl
row_number objective = refl

-- of an entry whose terms' fields have the length m
abbrev entry_length : Entry → ℕ → ℕ
entry_length x m = line_length x.kind x.count x.bound m

alone-length : (first : ℕ) (l : Line) → entry_length (entry_alone l) (fields_length first (terms_of l)) ≡ needed (length (house_line first l))
alone-length first (comment f n b) = ap (λ (x : List ℕ). needed (length x)) (sym (comment-words first f n b))
alone-length first (row r) =
    rw (row_number r.kind, kind-number r.kind, needed-add)
    (ap needed (sym (line-length first r.kind r.bound r.terms)))

-- of a statement that was read as a line
pub line-sized : (o : Options) (s : List ℕ) (x : Entry) (l : Line) (n : ℕ) → statement o s ≡ item l n → x ≡ entry_alone l
    → line_length x.kind x.count x.bound (fields_length o.first (statement_met o s)) ≡ needed (length (house_line o.first l))
line-sized o s x l n e q =
    ap (λ (y : Entry). entry_length y (fields_length o.first (statement_met o s))) q
    ∙ ap (λ ts. entry_length (entry_alone l) (fields_length o.first ts)) (statement-met o s l n e) ∙ alone-length o.first l
