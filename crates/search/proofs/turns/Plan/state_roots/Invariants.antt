-- The roots of the state with lower bits are passed; and what lies beyond 6 · P is kept.
use Rattle.std.proofs.Common.{◌<◌}
use Rattle.workspace.proofs.Views.{Kept}
use Rattle.workspace.proofs.ViewsIn.{OuterIn}
use Rattle.search.specs.Searching.{root_in, OneCase}
use Rattle.search.proofs.turns.Plan.state_roots.Given as goal

abbrev pub invariant-loop-b : goal.invariant-loop-b
invariant-loop-b l = record {
  kept : Kept l.self.setting.sizes.places l.fn.workspace l.workspace;
  passed : (x : OneCase l.self) → l.s < x.case.parts.states
      → OuterIn x.case (root_in l.self.setting l.s 0) l.fn.workspace 0
      → OuterIn x.case (root_in l.self.setting l.s l.b) l.workspace 0;
}
