use Rattle.std.proofs.Common.{arith}
use Rattle.definitions.proofs.SameAnswers.{Forward}
use Rattle.definitions.specs.declared.Options.{Options}
use Rattle.walker.proofs.StepAnswers.{told-forward}
use Rattle.opbwalk.proofs.print_statements.Goals as goal

pub loop-entry-smaller : goal.loop-entry-smaller
loop-entry-smaller g c =
    let first : Options = record { first = 1 } in
    let f : Forward first c.args.file.now c.loop-entry.at c.in-Ok-Some.field-0-0.next = told-forward first c.args.file.now c.loop-entry.at c.in-Ok-Some.field-0-0.entry _ (rw c.in-Ok-Some.field-0-is at c.in-Ok-Some.ensures) in
    omega (arith, f.rises, f.within)
