-- What holds between inner searches holds now, whatever setting the root is begun in; and what lies beyond 6 · P is kept. The measure is
-- the machine's, of the outer stack.
use Rattle.std.proofs.Common.{◌+◌}
use Rattle.workspace.proofs.Views.{Kept, outer_fuel}
use Rattle.workspace.proofs.ViewsIn.{cursors_in, OuterIn}
use Rattle.workspace.proofs.RootTurnsIn.{Root}
use Rattle.scans.specs.Cases.{OfCase}
use Rattle.search.specs.Searching.{place_in}
use Rattle.search.proofs.turns.outer_search.Given as goal

abbrev pub invariant-loop-depth : goal.invariant-loop-depth
invariant-loop-depth l = record {
  kept : Kept l.setting.sizes.places l.fn.workspace l.workspace;
  inside : (c : OfCase l.setting) → Root c l.fn.workspace l.root
      → OuterIn c (place_in l.setting l.root + 1) l.workspace l.depth;
}

abbrev pub decreases-loop-depth : goal.decreases-loop-depth
decreases-loop-depth l = outer_fuel (cursors_in l.setting.edges.now) l.setting.sizes.places l.workspace l.depth
