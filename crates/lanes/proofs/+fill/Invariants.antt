-- The measure is the number of nodes.
use Rattle.lanes.proofs.+fill.Given as goal

abbrev pub decreases-fill : goal.decreases-fill
decreases-fill l = l.n
