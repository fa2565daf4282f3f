-- Every entry passed has an edge to the one after it.
use Rattle.std.proofs.Common.{ℕ, suc, ◌<◌, ◌≡◌, false, get_or}
use Rattle.std.specs.Prelude.{not}
use Rattle.meaning.specs.Runs.{position}
use Rattle.reading.specs.Parts.{has_edge}
use Rattle.judge.proofs.refuse.check_steps.Given as goal

abbrev pub invariant-loop-here : goal.invariant-loop-here
invariant-loop-here l =
    (j : ℕ) → j < l.here
    → not (has_edge l.edges (get_or l.run.track.now j 0) (get_or l.run.track.now (position l.run.k l.run.m (suc j)) 0)) ≡ false
