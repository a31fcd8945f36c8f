-- Is each statement of the document one line, and which bytes may it have? So two equal texts of lines have the same
-- lines.
use Prim.Native.Nat.{ℕ, zero, suc, ◌+◌, ◌<◌}
use mathlib.Core.Path.{◌≡◌, refl, sym, ap, ◌∙◌}
use mathlib.Core.List.{List, [], ◌∷◌, ◌++◌, append_assoc, head-eq_of_cons-eq, tail-eq_of_cons-eq}
use native.Mathlib.Omega.{arith}
use lib.ListN.{length, length-append}
use Rattle.definitions.specs.Lists.{joined, AllOf}
use Rattle.definitions.specs.Bytes.{min_text, lf}
use Rattle.definitions.specs.Write.{closed, one_line}
use Rattle.document.specs.Document as D
use Rattle.definitions.proofs.Each.{both-parts, each-mapped, each-so}
use Rattle.document.proofs.DocumentTerms.{digit_bytes}
use Rattle.document.proofs.DocumentStatements.{lf-free, header-free, most_of, all-statements}

-- ---- lines

abbrev pub Free : List ℕ → Type 0
Free x = AllOf D.NoLineEnd x

-- no LF but the last byte
pub record OneLine (x : List ℕ) : Type 0 where
  pub front : List ℕ
  pub whole : x ≡ front ++ (lf ∷ [])
  pub free : Free front

pub free-both : (x y : List ℕ) → Free x → Free y → Free (x ++ y)
free-both = both-parts D.NoLineEnd

pub line-behind : (x y : List ℕ) → Free x → OneLine y → OneLine (x ++ y)
line-behind x y g l = record {
  front = x ++ l.front;
  whole = ap (λ (k : List ℕ). x ++ k) l.whole ∙ sym (append_assoc x l.front (lf ∷ []));
  free = free-both x l.front g l.free;
}

pub closed-line : OneLine closed
closed-line = record { front = 59 ∷ []; whole = refl; free = ((λ q. omega arith), tt) }

-- two texts that begin with a line begin with the same
same-fronts : (x y p q : List ℕ) → Free x → Free y → x ++ (lf ∷ p) ≡ y ++ (lf ∷ q) → (x ≡ y) × (p ≡ q)
same-fronts [] [] p q g h e = (refl, tail-eq_of_cons-eq e)
same-fronts [] (b ∷ y) p q g h e = absurd (h.0 (sym (head-eq_of_cons-eq e)))
same-fronts (a ∷ x) [] p q g h e = absurd (g.0 (head-eq_of_cons-eq e))
same-fronts (a ∷ x) (b ∷ y) p q g h e =
    let r = same-fronts x y p q g.1 h.1 (tail-eq_of_cons-eq e) in
    (let k = head-eq_of_cons-eq e in let t = r.0 in cc, r.1)

same_lines : (x y p q : List ℕ) → OneLine x → OneLine y → x ++ p ≡ y ++ q → (x ≡ y) × (p ≡ q)
same_lines x y p q l k e =
    let whole : l.front ++ (lf ∷ p) ≡ k.front ++ (lf ∷ q) =
    sym (ap (λ (z : List ℕ). z ++ p) l.whole ∙ append_assoc l.front (lf ∷ []) p) ∙ e ∙ ap (λ (z : List ℕ). z ++ q) k.whole
    ∙ append_assoc k.front (lf ∷ []) q in
    let r = same-fronts l.front k.front p q l.free k.free whole in
    (l.whole ∙ ap (λ (z : List ℕ). z ++ (lf ∷ [])) r.0 ∙ sym k.whole, r.1)

pub min-free : Free min_text
unfolding one_line
min-free = lf-free min_text refl

-- ---- what the document has

-- what holds of each byte that sums and comparisons may have
pub record Allowed (P : ℕ → Type 0) : Type 0 where
  pub digit : (d : ℕ) → d < 10 → P (48 + d)
  pub blank : P 32
  pub plus : P 43
  pub minus : P 45
  pub letter : P 120
  pub greater : P 62
  pub equals : P 61

-- a constraint up to its `;`
abbrev pub constraint_front : D.Constraint → List ℕ
constraint_front c =
    D.sum_text (D.terms_of c.sum)
    ++ (D.relation_text c.relation ++ (D.spaces c.gap ++ (D.integer_text c.bound ++ D.spaces c.behind)))

module _ (P : ℕ → Type 0) (a : Allowed P) where
  spaces-bytes : (n : ℕ) → AllOf P (D.spaces n)
  unfolding D.spaces
  spaces-bytes zero = tt
  spaces-bytes (suc n) = (a.blank, spaces-bytes n)

  digits-bytes : (ds : List ℕ) → AllOf D.IsDigit ds → AllOf P (digit_bytes ds)
  digits-bytes [] g = tt
  digits-bytes (d ∷ ds) g = (a.digit d g.0, digits-bytes ds g.1)

  integer-bytes : (z : D.Integer) → D.GoodInteger z → AllOf P (D.integer_text z)
  unfolding D.integer_text
  integer-bytes z g = by z.sign
    where
      ds : AllOf P (digit_bytes (z.first ∷ z.others))
      ds = digits-bytes (z.first ∷ z.others) g.digits

      by : (s : D.Sign) → AllOf P (D.sign_text s ++ digit_bytes (z.first ∷ z.others))
      by D.unsigned = ds
      by D.plus = (a.plus, ds)
      by D.minus = (a.minus, ds)

  relation-bytes : (r : D.Relation) → AllOf P (D.relation_text r)
  relation-bytes D.at_least = (a.greater, (a.equals, tt))
  relation-bytes D.equal = (a.equals, tt)

  module _ (most : ℕ) where
    term-bytes : (t : D.WeightedTerm) → D.GoodTerm most t → AllOf P (D.term_text t)
    unfolding D.term_text
    term-bytes t g =
        both-parts P (D.integer_text t.weight) _ (integer-bytes t.weight g.weight)
        (both-parts P (D.spaces (suc t.gap)) _ (spaces-bytes (suc t.gap)) (
          a.letter,
          both-parts P (digit_bytes (t.first ∷ t.others)) (D.spaces (suc t.behind))
              (digits-bytes (t.first ∷ t.others) g.digits) (spaces-bytes (suc t.behind)),
        ))

    sum-bytes : (ts : List D.WeightedTerm) → AllOf (D.GoodTerm most) ts → AllOf P (D.sum_text ts)
    unfolding joined
    sum-bytes [] g = tt
    sum-bytes (t ∷ ts) g = both-parts P (D.term_text t) (D.sum_text ts) (term-bytes t g.0) (sum-bytes ts g.1)

    pub constraint-bytes : (c : D.Constraint) → D.GoodConstraint most c → AllOf P (constraint_front c)
    constraint-bytes c g =
        both-parts P (D.sum_text (D.terms_of c.sum)) _ (sum-bytes (D.terms_of c.sum) g.terms)
        (both-parts P (D.relation_text c.relation) _ (relation-bytes c.relation)
        (both-parts P (D.spaces c.gap) _ (spaces-bytes c.gap)
        (both-parts P (D.integer_text c.bound) _ (integer-bytes c.bound g.bound) (spaces-bytes c.behind))))

no-lf-allowed : Allowed D.NoLineEnd
no-lf-allowed = record {
  digit = λ d h q. omega arith;
  blank = λ q. omega arith;
  plus = λ q. omega arith;
  minus = λ q. omega arith;
  letter = λ q. omega arith;
  greater = λ q. omega arith;
  equals = λ q. omega arith;
}

module _ (most : ℕ) where
  -- what is asked of a statement, wherever it stands
  abbrev pub Shaped : D.Statement → Type 0
  Shaped (D.comment t) = Free t
  Shaped (D.goal g) = AllOf (D.GoodTerm most) (D.terms_of g.sum)
  Shaped (D.constraint c) = D.GoodConstraint most c

  pub constraint-parts : (c : D.Constraint) → D.constraint_text c ≡ constraint_front c ++ closed
  unfolding D.constraint_text
  constraint-parts c = simp append_assoc

  statement-line : (x : D.Statement) → Shaped x → OneLine (D.statement_text x)
  unfolding D.statement_text D.comment_text D.objective_text
  statement-line (D.comment t) g = record { front = 42 ∷ t; whole = refl; free = ((λ q. omega arith), g) }
  statement-line (D.goal o) g =
      line-behind min_text _ min-free
      (line-behind (D.spaces o.gap) _ (spaces-bytes D.NoLineEnd no-lf-allowed o.gap)
      (line-behind (D.sum_text (D.terms_of o.sum)) closed (sum-bytes D.NoLineEnd no-lf-allowed most (D.terms_of o.sum) g) closed-line))
  statement-line (D.constraint c) g =
      rw (constraint-parts c) (line-behind (constraint_front c) closed (constraint-bytes D.NoLineEnd no-lf-allowed most c g) closed-line)

  -- the first statement is the first line
  pub record Split (y rest : List ℕ) : Type 0 where
    pub x : D.Statement
    pub xs : List D.Statement
    pub shaped : Shaped x
    pub others : AllOf Shaped xs
    pub text : D.statement_text x ≡ y
    pub behind : D.statements_text xs ≡ rest

  pub split-line : (xs : List D.Statement) (y rest : List ℕ) → AllOf Shaped xs → OneLine y → D.statements_text xs ≡ y ++ rest → Split y rest
  unfolding joined
  split-line [] y rest g l e =
      absurd (omega (arith, ap length e, ap length l.whole, length-append y rest, length-append l.front (lf ∷ [])))
  split-line (x ∷ xs) y rest g l e =
      let r = same_lines (D.statement_text x) y (D.statements_text xs) rest (statement-line x g.0) l e in
      record { x = x; xs = xs; shaped = g.0; others = g.1; text = r.0; behind = r.1 }

  -- ---- the statements of a file

  shaped-statement : (x : D.Statement) → D.GoodStatement most x → Shaped x
  shaped-statement (D.comment t) g = g
  shaped-statement (D.goal o) g = absurd g
  shaped-statement (D.constraint c) g = g

pub shaped-file : (f : D.File) → D.WellFormed f → AllOf (Shaped (most_of f)) (D.statements_of f)
shaped-file f w =
    let n = most_of f in
    all-statements (Shaped n) f (header-free f)
    (each-mapped (Shaped n) D.comment f.comments w.comments)
    (each-mapped (Shaped n) D.goal f.objective w.objective)
    (each-so (D.GoodStatement n) (Shaped n) (shaped-statement n) f.body w.body)
