-- The public function has one possible answer for each input: two that its contract allows are equal. It changes
-- nothing that it is lent.
use mathlib.Core.Path.{◌≡◌, sym, ◌∙◌}
use Rattle.definitions.proofs.Truths.{never}
use Rattle.measures.specs.RowsMeasured.{said_measure}
use Rattle.std.specs.Prelude.{Result, Ok, Err}
use Rattle.definitions.specs.declared.Refusal.{Refusal}
use Rattle.measures.specs.declared.rows.Extent.{Extent}
use Rattle.measures.proofs.measure_opb_lines.Reads as measure-opb-lines

measure-known : (r r' : Result Extent Refusal) → said_measure r ≡ said_measure r' → r ≡ r'
measure-known (Err x) (Err y) e = cc
measure-known (Err x) (Ok y) e = never (cc)
measure-known (Ok x) (Err y) e = never (cc)
measure-known (Ok x) (Ok y) e = cc

pub measure-opb-lines-one : (κs : _) (a : _) (r r' : _) (s s' : _) → measure-opb-lines.Post κs a r s → measure-opb-lines.Post κs a r' s'
    → r ≡ r'
measure-opb-lines-one κs a r r' s s' p q = measure-known r r' (p ∙ sym q)
