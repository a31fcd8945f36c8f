-- `term_checks::indexed_of` meets its contract: the library's test of all is the definition's (proofs/Every.antt).
-- Assumes nothing.
use Rattle.std.proofs.Common.{◌∙◌, rules, tests}
use Rattle.std.proofs.lemmas.Iterator.{YieldsList-from_slice}
use Rattle.std.proofs.lemmas.Iterator.Search.{all_from_yields_List}
use Rattle.definitions.specs.Literal.{index_of, is_index}
use Rattle.term_checks.proofs.Every.{all-every}
use Rattle.term_checks.proofs.indexed_of.Goals as goal

pub returns : goal.returns
returns c =
    all_from_yields_List (λ x. is_index (index_of x)) _ _ _ c.all.ensures.ran (YieldsList-from_slice c.args.literals.now cc)
    (λ x b q k. search (rules, tests))
    ∙ all-every _ _
