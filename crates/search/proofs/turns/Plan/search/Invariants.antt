-- The roots of lower states are passed; and what lies beyond 6 · P is kept.
use Rattle.workspace.proofs.Views.{Kept}
use Rattle.workspace.proofs.ViewsIn.{OuterIn}
use Rattle.search.specs.Searching.{root_in, OneCase}
use Rattle.search.proofs.turns.Plan.search.Given as goal

abbrev pub invariant-loop-s : goal.invariant-loop-s
invariant-loop-s l = record {
  kept : Kept l.self.setting.sizes.places l.fn.workspace l.workspace;
  passed : (x : OneCase l.self) → OuterIn x.case 0 l.fn.workspace 0
      → OuterIn x.case (root_in l.self.setting l.s 0) l.workspace 0;
}
