-- 01's P examples through the code: whatever the contracts that the prover makes of `parse_opb_data` and
-- `write_opb_lines` allow as an answer is 01's answer, with what it leaves in what was lent.
use Prim.Native.Nat.{ℕ, zero, suc}
use mathlib.Core.Path.{◌≡◌}
use mathlib.Core.List.{List, [], ◌∷◌, map}
use lib.ListN.{length}
use Rattle.definitions.specs.Lists.{AllOf}
use Rattle.definitions.specs.Bytes.{bytes}
use Rattle.definitions.specs.Table.{Table, table, Outcome, counted, after}
use Rattle.definitions.specs.declared.Totals.{Totals}
use Rattle.definitions.specs.File.{first_at, reading}
use Rattle.definitions.specs.Write.{writing, output_after, length_of}
use Rattle.definitions.specs.TableP.{Question, reads, writes, Answer, lines, text, answer_to, Example, table_p, mode_from, roomy}
use Rattle.definitions.specs.declared.Options.{Options}
use Rattle.definitions.specs.declared.Mode.{Mode}
use Rattle.definitions.proofs.EveryExample.{every-example}
use Rattle.definitions.specs.Answers.{said_counted}
use Rattle.reader.proofs.parse_opb_data.Reads as parse-opb-data
use Rattle.definitions.specs.Answers.{said_length}
use Rattle.writer.proofs.write_opb_lines.Reads as write-opb-lines
use Rattle.tables.specs.Lent.{table_of}

-- an output of 100 bytes
unfoldable pub zeros : ℕ → List ℕ
zeros zero = []
zeros (suc n) = 0 ∷ zeros n

-- whatever the functions may answer a question, lent what it asks of, it is the answer
unfoldable pub Answered : Question → Answer → Type 0
Answered (reads first s) (lines o) =
    (κs : _) (a : _) (r : _) (z : _) → parse-opb-data.Post κs a r z → a.0.now ≡ bytes s → a.1.0 ≡ first_at first
    → table a.1.1.0.now a.1.1.1.0.now a.1.1.1.1.0.now a.1.1.1.1.1.0.now a.1.1.1.1.1.1.0.now
    a.1.1.1.1.1.1.1.0.now ≡ roomy
    → (said_counted r ≡ counted o)
    × (table z.1.1.0.now z.1.1.1.0.now z.1.1.1.1.0.now z.1.1.1.1.1.0.now
    z.1.1.1.1.1.1.0.now z.1.1.1.1.1.1.1.0.now ≡ after o roomy)
Answered (reads first s) (text o) = ⊥
Answered (writes m k n b ws ls) (lines o) = ⊥
Answered (writes m k n b ws ls) (text o) =
    (κs : _) (a : _) (r : _) (z : _) → write-opb-lines.Post κs a r z
    → table_of a.0 ≡ table (k ∷ []) (0 ∷ []) (n ∷ []) (b ∷ []) ws ls
    → a.1.0.now ≡ [] → a.1.1.0 ≡ mode_from 1 m → a.1.1.1.0.now ≡ zeros 100
    → (said_length r ≡ length_of o) × (z.1.1.1.0.now ≡ output_after o (zeros 100))

-- the same of what was lent and of what a question asks
same-reading : {x y : Options} {s s' : List ℕ} {t t' : Table} {r : Outcome Totals} → r ≡ counted (reading x s t) → x ≡ y → s ≡ s'
    → t ≡ t' → r ≡ counted (reading y s' t')
same-reading p q e f = cc

same_tables : {x y : Options} {s s' : List ℕ} {t t' r : Table} → r ≡ after (reading x s t) t → x ≡ y → s ≡ s' → t ≡ t'
    → r ≡ after (reading y s' t') t'
same_tables p q e f = cc

same-writing : {m m' : Mode} {t t' : Table} {c c' o o' : List ℕ} {r : Outcome ℕ} → r ≡ length_of (writing m t c (length o)) → t ≡ t'
    → c ≡ c' → m ≡ m' → o ≡ o' → r ≡ length_of (writing m' t' c' (length o'))
same-writing p q e f g = cc

same-output : {m m' : Mode} {t t' : Table} {c c' o o' r : List ℕ} → r ≡ output_after (writing m t c (length o)) o → t ≡ t' → c ≡ c'
    → m ≡ m' → o ≡ o' → r ≡ output_after (writing m' t' c' (length o')) o'
same-output p q e f g = cc

answered : (q : Question) → Answered q (answer_to q)
unfolding answer_to zeros Answered
answered (reads first s) = λ κs a r z p f o t. (same-reading p.answer o f t, same_tables p.after o f t)
answered (writes m k n b ws ls) = λ κs a r z p t c o f. (same-writing p.answer t c o f, same-output p.after t c o f)

-- two lists that are equal are equal one by one
each-alike : {A B : Type 0} (f g : A → B) (xs : List A) → map f xs ≡ map g xs → AllOf (λ x. f x ≡ g x) xs
each-alike f g [] e = tt
each-alike f g (x ∷ xs) e = (cc, each-alike f g xs (cc))

each-answered : (es : List Example) → AllOf (λ (e : Example). answer_to e.question ≡ e.answer) es
    → AllOf (λ (e : Example). Answered e.question e.answer) es
each-answered [] g = tt
each-answered (e ∷ es) g = (rw g.0 at (answered e.question), each-answered es g.1)

abbrev pub EveryExampleAnswered : Type 0
EveryExampleAnswered = AllOf (λ (e : Example). Answered e.question e.answer) table_p

pub every-example-through-code : EveryExampleAnswered
every-example-through-code =
    each-answered table_p (each-alike (λ (e : Example). answer_to e.question) (λ (e : Example). e.answer) table_p every-example)
