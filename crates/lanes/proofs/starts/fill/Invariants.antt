-- `lanes::starts::fill` meets its contract. The loop's invariant: the entries below s are right, and the edges below e leave lower
-- states than s. Assumes nothing.
use Rattle.filled.proofs.Filling.{Started}
use Rattle.lanes.proofs.starts.fill.Given as goal

abbrev pub invariant-loop-s : goal.invariant-loop-s
invariant-loop-s l = Started l.edges l.s l.e l.starts
