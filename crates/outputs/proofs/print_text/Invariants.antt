-- `print_text` meets its contract: the loop copies one byte a turn (`Copying`, proofs/PrintLaws.antt).
use Prim.Native.Nat.{◌-◌}
use Rattle.outputs.proofs.PrintLaws.{Copying}
use Rattle.outputs.proofs.print_text.Given as goal

abbrev pub invariant-loop-i : goal.invariant-loop-i
invariant-loop-i l = Copying l.text l.at l.initial.out l.out l.i

abbrev pub decreases-loop-i : goal.decreases-loop-i
decreases-loop-i l = l.n - l.i
