-- Is a text read as what it was made of? Numbers, literals, terms, operators and endings, whatever stands behind them.
use Prim.Native.Nat.{ℕ, suc, ◌+◌, ◌-◌, ◌%◌, ◌≤◌, ◌<◌}
use mathlib.Core.Path.{◌≡◌, refl, sym, ap, ◌∙◌}
use mathlib.Core.Bool.{Bool, true, false, ◌||◌}
use mathlib.Core.Logic.{⊎_elim}
use mathlib.Core.List.{List, [], ◌∷◌, ◌++◌, append_assoc, append-nil}
use native.Mathlib.Omega.{arith}
use borrow.Author.Tests.{le-leb, ne_eqb, eqb-true, eqb-false}
use lib.Dec.{eqb}
use lib.ListN.{length, length-append}
use lib.Seq.{drop-append_seam}
use lib.IntN.{ℤ, pos, negsuc}
use mir.Syntax.{w64}
use mir.Val.{SFits}
use Rattle.definitions.specs.Limits.{index_limit, file_number_limit}
use Rattle.definitions.specs.Refusal.{accept}
use Rattle.definitions.specs.Bytes.{bytes, is_digit, is_sign, is_blank, is_at, blanks, line_ending, space, tab}
use Rattle.definitions.specs.Bytes.{letter_x, tilde}
use Rattle.definitions.specs.Reader.{got, Reader, more, chain, done}
use Rattle.definitions.specs.Number.{leading, value, number, decimal, integer_text}
use Rattle.definitions.specs.Literal.{code_of, index_of, negated, index}
use Rattle.definitions.specs.Row.{Term, term}
use Rattle.definitions.specs.Text.{gap, some_blanks, gap1, digits, variable, literal, after_weight, weighted, begins_term}
use Rattle.definitions.specs.Text.{operator, closing, ending}
use Rattle.definitions.specs.Write.{number_text, literal_text, term_text, closed}
use Rattle.definitions.specs.declared.Options.{Options}
use Rattle.definitions.specs.declared.OpbOperator.TheVariants.{LE, GE, EQ}
use Rattle.definitions.proofs.Truths.{one_truth, either}
use Rattle.definitions.proofs.Numbers.{leading-decimal, read-of-counted, value-decimal, decimal-some, read-of-printed}

-- p takes x as a, with rest behind it
pub record Reads {A : Type 0} (p : Reader A) (x rest : List ℕ) (a : A) : Type 0 where
  pub reads : p (x ++ rest) ≡ got a (length x)

pub reads-chain : {A B : Type 0} {p : Reader A} (k : A → Reader B) (x y : List ℕ) {rest : List ℕ} {a : A} {b : B}
    → Reads p x (y ++ rest) a → Reads (k a) y rest b → Reads (chain p k) (x ++ y) rest b
unfolding chain
reads-chain k x y {rest} {a} {b} e f = record {
  reads = rw (append_assoc x y rest, e.reads, drop-append_seam x (y ++ rest), f.reads) (ap (got b) (sym (length-append x y)));
}

pub reads-done : {A : Type 0} (a : A) (rest : List ℕ) → Reads (done a) [] rest a
unfolding done
reads-done a rest = record { reads = refl }

-- the last reader takes nothing more
pub reads_end : {A B : Type 0} {p : Reader A} (k : A → Reader B) (x : List ℕ) {rest : List ℕ} {a : A} {b : B}
    → Reads p x rest a → Reads (k a) [] rest b → Reads (chain p k) x rest b
reads_end k x e f = rw append-nil at (reads-chain k x [] e f)

-- ---- what a number begins with

no-blank-byte : (b : ℕ) → is_digit b || is_sign b ≡ true → is_blank b ≡ false
no-blank-byte b e = by (is_blank b) refl
  where
    by : (t : Bool) → is_blank b ≡ t → t ≡ false
    by true q =
        ⊎_elim (λ h. absurd (one_truth (is_digit b || is_sign b) e (rw (eqb-true b space h))))
        (λ h. absurd (one_truth (is_digit b || is_sign b) e (rw (eqb-true b tab h)))) (either (eqb b space) (eqb b tab) q)
    by false q = refl

-- what begins a term is no blank
pub begun-no-blank : (s : List ℕ) → begins_term s ≡ true → blanks s ≡ 0
unfolding begins_term blanks
begun-no-blank [] e = refl
begun-no-blank (b ∷ s) e = rw (no-blank-byte b e, blanks)

-- a digit begins a term
pub digit-begins : (s : List ℕ) → 0 < length (leading s) → begins_term s ≡ true
unfolding leading begins_term
digit-begins [] h = absurd (omega arith)
digit-begins (b ∷ s) h = cases (is_digit b) refl
  where
    cases : (d : Bool) → is_digit b ≡ d → begins_term (b ∷ s) ≡ true
    cases true e = rw (e, begins_term)
    cases false e = let z : length (leading (b ∷ s)) ≡ 0 = rw (e, leading) in absurd (omega arith)

pub number-begins : (z : ℤ) (rest : List ℕ) → begins_term (integer_text z ++ rest) ≡ true
unfolding begins_term
number-begins (pos n) rest = digit-begins (decimal n ++ rest) (rw (leading-decimal n rest, length-append) (omega (arith, decimal-some n)))
number-begins (negsuc n) rest = refl

-- ---- blanks

pub reads-gap : (x rest : List ℕ) → blanks (x ++ rest) ≡ length x → Reads gap x rest (length x)
unfolding gap
reads-gap x rest e = record { reads = rw e }

-- the same where at least one is asked for
pub reads-gap1 : (b : ℕ) (x rest : List ℕ) → blanks ((b ∷ x) ++ rest) ≡ suc (length x) → Reads gap1 (b ∷ x) rest (suc (length x))
unfolding gap1
reads-gap1 b x rest e = record { reads = ap some_blanks e }

pub one-space : (rest : List ℕ) → blanks rest ≡ 0 → blanks (space ∷ rest) ≡ 1
unfolding blanks
one-space rest e = ap suc e

-- ---- literals and terms

-- what 01 asks of a term that is read
pub record GoodTerm (first : ℕ) (t : Term) : Type 0 where
  pub fits : SFits w64 t.weight
  pub index : index_of t.code ≤ index_limit
  pub number : index_of t.code + first ≤ file_number_limit

module _ (o : Options) where
  -- the digits of a file number that has an index
  reads-digits : (negative : Bool) (ds rest : List ℕ) (v : ℕ) → leading (ds ++ rest) ≡ ds → 0 < length ds
      → index o.first (value ds) ≡ accept v
      → digits o negative (ds ++ rest) ≡ got (code_of negative v) (length ds)
  unfolding digits
  reads-digits negative ds rest v l h e = rw (l, ne_eqb (length ds) 0 (λ q. omega arith), e)

  module _ (ds rest : List ℕ) (v : ℕ) (l : leading (ds ++ rest) ≡ ds) (h : 0 < length ds) (e : index o.first (value ds) ≡ accept v) where
    pub reads_plain : Reads (literal o) (letter_x ∷ ds) rest (code_of false v)
    unfolding literal variable
    reads_plain = record { reads = ap (more 1) (reads-digits false ds rest v l h e) ∙ ap (got (code_of false v)) (omega arith) }

    pub reads-negated : Reads (literal o) (tilde ∷ letter_x ∷ ds) rest (code_of true v)
    unfolding literal variable
    reads-negated = record {
      reads = ap (λ g. more 1 (more 1 g)) (reads-digits true ds rest v l h e) ∙ ap (got (code_of true v)) (omega arith);
    }

  -- a literal as it is written: a code whose index and file number are within their limits
  pub reads-literal : (c : ℕ) (rest : List ℕ) → index_of c ≤ index_limit → index_of c + o.first ≤ file_number_limit → leading rest ≡ []
      → Reads (literal o) (literal_text o.first c) rest c
  unfolding literal_text number_text index
  reads-literal c rest h i e = by (negated c) refl
    where
      ds : List ℕ
      ds = decimal (index_of c + o.first)

      found : index o.first (value ds) ≡ accept (index_of c)
      found =
          let d : index_of c + o.first - o.first ≡ index_of c = omega arith in
          rw (
            value-decimal (index_of c + o.first),
            le-leb (index_of c + o.first) file_number_limit i,
            le-leb o.first (index_of c + o.first) (omega arith),
            d,
            le-leb (index_of c) index_limit h,
          )

      by : (n : Bool) → negated c ≡ n → Reads (literal o) (literal_text o.first c) rest c
      by true q =
          let z : code_of true (index_of c) ≡ c = omega (arith, eqb-true (c % 2) 1 q) in
          rw q (rw z at (reads-negated ds rest (index_of c) (read-of-counted _ rest e) (decimal-some _) found))
      by false q =
          let z : code_of false (index_of c) ≡ c = omega (arith, eqb-false (c % 2) 1 q) in
          rw q (rw z at (reads_plain ds rest (index_of c) (read-of-counted _ rest e) (decimal-some _) found))

  -- a weight, blanks, a literal, blanks
  pub reads-weighted : (x g l b : List ℕ) {rest : List ℕ} {w : ℤ} {c i k : ℕ} → Reads number x ((g ++ (l ++ b)) ++ rest) w
      → Reads gap1 g ((l ++ b) ++ rest) i → Reads (literal o) l (b ++ rest) c
      → Reads gap b rest k → Reads (weighted o) (x ++ (g ++ (l ++ b))) rest (term w c)
  unfolding weighted after_weight
  reads-weighted x g l b {rest} p q r s =
      reads-chain _ x (g ++ (l ++ b)) p (reads-chain _ g (l ++ b) q (reads-chain _ l b r (reads_end _ b s (reads-done _ rest))))

  literal-no-blank : (c : ℕ) (b rest : List ℕ) → blanks ((literal_text o.first c ++ b) ++ rest) ≡ 0
  unfolding literal_text blanks
  literal-no-blank c b rest = by (negated c) refl
    where
      by : (n : Bool) → negated c ≡ n → blanks ((literal_text o.first c ++ b) ++ rest) ≡ 0
      by true q = rw q
      by false q = rw q

  -- a term as it is written, with blanks b behind it
  pub reads-term : (t : Term) (b rest : List ℕ) → GoodTerm o.first t → leading (b ++ rest) ≡ [] → blanks (b ++ rest) ≡ length b
      → Reads (weighted o) (term_text o.first t ++ b) rest t
  unfolding term_text leading
  reads-term t b rest g e h =
      let w = integer_text t.weight in
      let l = literal_text o.first t.code in
      rw (append_assoc w (space ∷ l) b)
      (reads-weighted w (space ∷ []) l b (record { reads = read-of-printed t.weight _ g.fits refl })
      (reads-gap1 space [] _ (one-space _ (literal-no-blank t.code b rest)))
      (reads-literal t.code _ g.index g.number e) (reads-gap b rest h))

-- ---- operators, endings

pub reads-at-least : (rest : List ℕ) → Reads operator (bytes ">=") rest GE
unfolding operator is_at
reads-at-least rest = record { reads = refl }

pub reads-at-most : (rest : List ℕ) → Reads operator (bytes "<=") rest LE
unfolding operator is_at
reads-at-most rest = record { reads = refl }

pub reads-equal : (rest : List ℕ) → Reads operator (bytes "=") rest EQ
unfolding operator is_at
reads-equal rest = record { reads = refl }

-- blanks, `;` and a line ending
pub reads-ending : (b rest : List ℕ) → blanks (b ++ (closed ++ rest)) ≡ length b → Reads ending (b ++ closed) rest true
unfolding ending
reads-ending b rest e = reads-chain _ b closed (reads-gap b (closed ++ rest) e) closes
  where
    closes : Reads closing closed rest true
    closes = unfold closing line_ending blanks in record { reads = refl }
