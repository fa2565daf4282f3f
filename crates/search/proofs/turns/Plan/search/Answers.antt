-- `search::turns::Plan::search` meets its contract: past the last state every root is passed. Assumes nothing.
use Prim.Native.Nat.{ℕ}
use native.Mathlib.Omega.{arith}
use mathlib.Core.Path.{◌≡◌, ap, ◌∙◌, subst}
use Rattle.workspace.proofs.ViewsIn.{OuterIn}
use Rattle.workspace.proofs.RootTurnsIn.{root_end}
use Rattle.search.specs.Searching.{root_in}
use Rattle.search.proofs.Roots.{counted}
use Rattle.search.proofs.turns.Plan.search.Goals as goal

pub state_roots-requires : goal.state_roots-requires
state_roots-requires c =
    let p = c.requires in
    (p.0, omega (arith, counted p.0), c.loop-s.invariant.passed p.0 p.1)

pub returns-clause-searched : goal.returns-clause-searched
returns-clause-searched c x o =
    let all : c.loop-s.s ≡ x.case.parts.states = omega (arith, counted x) in
    subst (λ (r : ℕ). OuterIn x.case r c.loop-s.workspace 0) (ap (λ (s : ℕ). root_in c.args.self.now.setting s 0) all ∙ root_end x.case)
    (c.loop-s.invariant.passed x o)
