-- Which texts does no file of the document have? One that is refused, one with a `~` in a constraint, an objective
-- without terms.
use Prim.Native.Nat.{ℕ, zero, suc, ◌≤◌}
use mathlib.Core.Path.{◌≡◌, refl, sym, ap, subst, ◌∙◌}
use mathlib.Core.List.{List, [], ◌∷◌, ◌++◌, map, append_assoc, append_cancel_right, head-eq_of_cons-eq}
use native.Mathlib.Omega.{arith}
use Rattle.definitions.specs.Lists.{joined, AllOf}
use Rattle.definitions.specs.declared.Refusal.{Refusal}
use Rattle.definitions.specs.Bytes.{bytes, min_text}
use Rattle.definitions.specs.Table.{refused, accepted}
use Rattle.definitions.specs.File.{file}
use Rattle.definitions.specs.Write.{closed, one_line}
use Rattle.document.specs.Document as D
use Rattle.document.specs.DocumentRead.{from_one, WithinLimits}
use Rattle.definitions.proofs.Truths.{never}
use Rattle.definitions.proofs.Each.{right-part}
use Rattle.document.proofs.DocumentStatements.{lf-free, most_of}
use Rattle.document.proofs.DocumentLines.{OneLine, Allowed, constraint_front, constraint-bytes, Shaped, constraint-parts}
use Rattle.document.proofs.DocumentLines.{split-line, shaped-file}
use Rattle.document.proofs.OpbDocument.{document-read}

-- no file of the document within the limits has a text that is refused
pub refused-outside : (f : D.File) → D.WellFormed f → WithinLimits f → (s : List ℕ) (r : Refusal) → file from_one s ≡ refused r
    → D.file_text f ≡ s → ⊥
refused-outside f w l s r e q =
    let d = document-read f w l in
    let k : refused r ≡ accepted d.lines = sym e ∙ ap (file from_one) (sym q) ∙ d.read in
    never cc

-- ---- a `~`

-- the document has no byte above `x` in a constraint
up-to-x : Allowed (λ b. b ≤ 120)
up-to-x = record {
  digit = λ d h. omega arith;
  blank = omega arith;
  plus = omega arith;
  minus = omega arith;
  letter = omega arith;
  greater = omega arith;
  equals = omega arith;
}

no-tilde-line : (most : ℕ) (x : D.Statement) → Shaped most x → D.statement_text x ≡ bytes "1 ~x1 >= 1;\n" → ⊥
unfolding D.statement_text
no-tilde-line most (D.comment t) g e = let z : ◌≡◌ {A = ℕ} 42 49 = unfold D.comment_text in head-eq_of_cons-eq e in omega arith
no-tilde-line most (D.goal o) g e = let z : ◌≡◌ {A = ℕ} 109 49 = unfold D.objective_text in head-eq_of_cons-eq e in omega arith
no-tilde-line most (D.constraint c) g e =
    let same : constraint_front c ≡ bytes "1 ~x1 >= 1" =
    append_cancel_right (constraint_front c) (bytes "1 ~x1 >= 1") closed (sym (constraint-parts most c) ∙ e) in
    let low = subst (AllOf (λ b. b ≤ 120)) same (constraint-bytes (λ b. b ≤ 120) up-to-x most c g) in
    omega (arith, low.1.1.0)

pub tilde-outside : (f : D.File) → D.WellFormed f → D.file_text f ≡ bytes "* #variable= 1 #constraint= 1\n" ++ bytes "1 ~x1 >= 1;\n" → ⊥
unfolding D.file_text one_line
tilde-outside f w e =
    let n = most_of f in
    let first = bytes "* #variable= 1 #constraint= 1" in
    let second = bytes "1 ~x1 >= 1;" in
    let header : OneLine (bytes "* #variable= 1 #constraint= 1\n") = record { front = first; whole = refl; free = lf-free first refl } in
    let later : OneLine (bytes "1 ~x1 >= 1;\n") = record { front = second; whole = refl; free = lf-free second refl } in
    let a = split-line n (D.statements_of f) (bytes "* #variable= 1 #constraint= 1\n") (bytes "1 ~x1 >= 1;\n") (shaped-file f w) header e in
    let b = split-line n a.xs (bytes "1 ~x1 >= 1;\n") [] a.others later a.behind in
    no-tilde-line n b.x b.shaped b.text

-- ---- no terms

no-x-before : (n : ℕ) → AllOf (λ b. b ≡ 120 → ⊥) (D.spaces n ++ closed)
unfolding D.spaces
no-x-before zero = ((λ q. omega arith), ((λ q. omega arith), tt))
no-x-before (suc n) = ((λ q. omega arith), no-x-before n)

pub goal-has-a-term : (g : D.Objective) (n : ℕ) → D.objective_text g ≡ min_text ++ (D.spaces n ++ closed) → ⊥
unfolding D.objective_text D.term_text joined
goal-has-a-term g n e =
    let t = g.sum.first in
    let front = min_text ++ (D.spaces g.gap ++ (D.integer_text t.weight ++ D.spaces (suc t.gap))) in
    let rest = (map D.digit_text (t.first ∷ t.others) ++ D.spaces (suc t.behind)) ++ (D.sum_text g.sum.others ++ D.ended) in
    let parts : D.objective_text g ≡ front ++ (120 ∷ rest) = simp append_assoc in
    let none : AllOf (λ b. b ≡ 120 → ⊥) (min_text ++ (D.spaces n ++ closed)) =
    ((λ q. omega arith), ((λ q. omega arith), ((λ q. omega arith), ((λ q. omega arith), no-x-before n)))) in
    (right-part (λ b. b ≡ 120 → ⊥) front (120 ∷ rest) (subst (AllOf (λ b. b ≡ 120 → ⊥)) (sym e ∙ parts) none)).0 refl
