-- What the second walk is given, and what it leaves in the columns.
use Rattle.std.specs.Prelude.{ℕ, ◌≤◌, ◌≡◌, List, map, length, ℤ}
use Rattle.definitions.specs.Lists.{over}
use Rattle.definitions.specs.Limits.{weight_limit}
use Rattle.definitions.specs.Refusal.{Checked, accept}
use Rattle.definitions.specs.Row.{Term, term, weight_of, literal_of, Line, terms_of}
use Rattle.definitions.specs.Table.{Table, row_room, term_room, accepted, first_in, bound_in, all_terms}
use Rattle.term_checks.specs.TermTests.{weight_sizes}
use Rattle.normal_checks.specs.FirstWalk.{normal_rows}
use Rattle.normaliser.specs.declared.fill.NormalTerm.{NormalTerm}
use Rattle.normaliser.specs.declared.fill.Filled.{Filled}

-- ---- terms from the front of two columns

abbrev pub said_term : NormalTerm → Term
said_term t = term t.weight t.literal.0

pub record TermsFit (ts : List Term) (w : List ℤ) (l : List ℕ) : Type 0 where
  pub weights : length ts ≤ length w
  pub literals : length ts ≤ length l

pub record TermsFilled (ts : List Term) (w₀ : List ℤ) (l₀ : List ℕ) (w : List ℤ) (l : List ℕ) : Type 0 where
  pub weights : w ≡ over (map weight_of ts) w₀
  pub literals : l ≡ over (map literal_of ts) l₀

-- two columns of one length, no weight with a size above M, and room for their terms
pub record TermsReady (ws : List ℤ) (cs : List ℕ) (w : List ℤ) (l : List ℕ) : Type 0 where
  pub even : length ws ≡ length cs
  pub small : weight_sizes ws ≤ weight_limit
  pub weights : length ws ≤ length w
  pub literals : length ws ≤ length l

-- ---- a row that is accepted

pub record RowReady (x : Checked Line) (w : List ℤ) (l : List ℕ) : Type 0 where
  pub given : Line
  pub accepts : x ≡ accept given
  pub fits : TermsFit (terms_of given) w l

-- the row of the line y, with m terms before it
pub record LineFilled (y : Line) (m : ℕ) (w₀ : List ℤ) (l₀ : List ℕ) (r : Filled) (w : List ℤ) (l : List ℕ) : Type 0 where
  pub first : r.first ≡ first_in m y
  pub bound : r.bound ≡ bound_in y
  pub terms : r.terms ≡ length (terms_of y)
  pub filled : TermsFilled (terms_of y) w₀ l₀ w l

abbrev pub RowFilled : Checked Line → ℕ → List ℤ → List ℕ → Filled → List ℤ → List ℕ → Type 0
RowFilled x m w₀ l₀ r w l = (y : Line) → x ≡ accept y → LineFilled y m w₀ l₀ r w l

-- ---- rows that are all accepted, and room for them

pub record Ready (t o : Table) : Type 0 where
  pub given : List Line
  pub accepts : normal_rows t ≡ accepted given
  pub rows : length given ≤ row_room o
  pub terms : length (all_terms given) ≤ term_room o
