-- `items::solid_run` meets its contract: the library takes the bytes at the front that are not white. Assumes nothing.
use Rattle.std.proofs.Common.{length, ap, ◌∙◌, rules, tests}
use Rattle.std.proofs.lemmas.Iterator.{YieldsList-from_slice}
use Rattle.std.proofs.lemmas.Iterator.Search.{YieldsList-from_take_while}
use Rattle.std.proofs.lemmas.Iterator.Consumers.{count_from_yields_List}
use Rattle.definitions.specs.Values.{is_solid}
use Rattle.items.proofs.Runs.{while-front}
use Rattle.items.proofs.solid_run.Goals as goal

pub returns : goal.returns
returns c =
    let s = c.args.s.now in
    count_from_yields_List c.take_while.result _ c.count.ensures.ran
    (YieldsList-from_take_while _ is_solid (YieldsList-from_slice s cc) c.take_while.ensures.closure c.take_while.ensures.done (λ x b q k. search (rules, tests)))
    ∙ ap length (while-front is_solid s)
