-- The terms that a walk over a statement meets, whether or not the statement reads well.
use Rattle.std.specs.Prelude.{ℕ, List, [], ◌∷◌, drop}
use Rattle.definitions.specs.Bytes.{blanks, begins, class_of}
use Rattle.definitions.specs.Reader.{Got, none, got}
use Rattle.definitions.specs.Row.{Term}
use Rattle.definitions.specs.Text.{min_blanks}
use Rattle.definitions.specs.declared.Options.{Options}
use Rattle.definitions.specs.declared.Beginning.{Beginning}
use Rattle.definitions.specs.declared.Beginning.TheVariants.{Comment, Objective, Constraint, Nothing}
use Rattle.sums.specs.Met.{met_terms}

-- behind "`min:`, blanks", where these stand
abbrev pub behind_min : Options → Got ℕ → List ℕ → List Term
behind_min o (none e) s = []
behind_min o (got k n) s = met_terms o (drop n s)

unfoldable pub goal_met : Options → List ℕ → List Term
goal_met o s = behind_min o (min_blanks s) s

abbrev pub met_by : Beginning → Options → List ℕ → List Term
met_by Comment o s = []
met_by Objective o s = goal_met o s
met_by Constraint o s = met_terms o s
met_by Nothing o s = []

abbrev pub met_at : Options → List ℕ → List Term
met_at o [] = []
met_at o (b ∷ s) = met_by (begins (class_of b)) o (b ∷ s)

unfoldable pub statement_met : Options → List ℕ → List Term
statement_met o s = met_at o (drop (blanks s) s)
