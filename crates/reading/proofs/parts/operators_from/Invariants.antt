-- `reading::parts::operators_from` meets its contract. The loop's invariant: the total is the count over the nodes passed,
-- and at most their number. Assumes nothing.
use Prim.Native.Nat.{◌≤◌}
use mathlib.Core.Path.{◌≡◌}
use Rattle.reading.specs.Lowest.{count}
use Rattle.reading.specs.Parts.{operator_from}
use Rattle.reading.proofs.parts.operators_from.Given as goal

abbrev pub invariant-loop-n : goal.invariant-loop-n
invariant-loop-n l = (l.total ≤ l.n) × (l.total ≡ count (operator_from l.low l.nodes) l.n)
