-- `assigned::covered` meets its contract: the library's test of all is the definition's (crates/term_checks,
-- proofs/Every.antt). Assumes nothing.
use Rattle.std.proofs.Common.{◌∙◌, rules, tests, option_copied}
use Rattle.std.proofs.lemmas.Iterator.{YieldsList-from_slice}
use Rattle.std.proofs.lemmas.Iterator.Search.{all_from_yields_List}
use Rattle.definitions.specs.Literal.{index_of}
use Rattle.term_checks.proofs.Every.{all-every}
use Rattle.assigned.specs.WordsSay.{has_by}
use Rattle.assigned.proofs.covered.Goals as goal

pub returns : goal.returns
returns c =
    let a = c.args in
    all_from_yields_List (λ x. has_by (option_copied a.known) a.words.now (index_of x)) _ _ _ c.all.ensures.ran
    (YieldsList-from_slice a.literals.now cc) (λ x b q k. search (rules, tests))
    ∙ all-every _ _
