-- What holds inside an inner search holds now, whatever setting and place it is begun from; and what lies beyond 6 · P is kept. The measure
-- is the machine's, of the inner stack.
use Rattle.std.proofs.Common.{ℕ, take}
use Rattle.graph.proofs.Machine.{below}
use Rattle.workspace.proofs.Views.{Kept, inner_fuel}
use Rattle.workspace.proofs.ViewsIn.{cursors_in, InnerIn}
use Rattle.workspace.proofs.InnerTurnsIn.{Leaving}
use Rattle.scans.specs.Cases.{OfCase}
use Rattle.search.proofs.turns.inner_search.Given as goal

abbrev pub invariant-loop-depth : goal.invariant-loop-depth
invariant-loop-depth l = record {
  kept : Kept l.setting.sizes.places l.fn.workspace l.workspace;
  inside : (c : OfCase l.setting) (r d : ℕ) → Leaving c r l.fn.workspace d l.code
      → InnerIn c r (below 1 (take l.setting.sizes.places l.fn.workspace)) d l.fn.workspace l.workspace l.depth;
}

abbrev pub decreases-loop-depth : goal.decreases-loop-depth
decreases-loop-depth l = inner_fuel (cursors_in l.setting.edges.now) l.setting.sizes.places l.workspace l.depth
