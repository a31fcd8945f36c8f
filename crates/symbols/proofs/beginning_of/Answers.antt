-- `symbols::beginning_of` meets its contract, by what it calls. Assumes nothing.
use mathlib.Core.Path.{ap, ◌∙◌}
use Rattle.definitions.specs.Bytes.{begins}
use Rattle.symbols.proofs.beginning_of.Goals as goal

pub returns : goal.returns
returns c = c.begins.ensures ∙ ap begins c.class_of.ensures
