-- The measure is the number of nodes.
use Rattle.judge.proofs.truths.Judging.+truths.Given as goal

abbrev pub decreases-truths : goal.decreases-truths
decreases-truths l = l.n
