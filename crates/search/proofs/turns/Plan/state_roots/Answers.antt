-- `search::turns::Plan::state_roots` meets its contract: past the last bits comes the next state. Assumes nothing.
use native.Mathlib.Omega.{arith}
use mathlib.Core.Path.{◌≡◌}
use Rattle.workspace.proofs.RootTurnsIn.{root_row}
use Rattle.search.proofs.turns.Plan.state_roots.Goals as goal

pub root_turn-requires-clause-inside : goal.root_turn-requires-clause-inside
root_turn-requires-clause-inside c =
    let p = c.requires in
    (p.0, p.1, c.loop-b.invariant.passed p.0 p.1 p.2)

pub returns-clause-searched : goal.returns-clause-searched
returns-clause-searched c x state o =
    let sizes = c.args.self.now.setting.sizes in
    let all : c.loop-b.b ≡ sizes.guesses = omega arith in
    rw (← root_row sizes.guesses sizes.top c.args.s) (rw all at (c.loop-b.invariant.passed x state o))
