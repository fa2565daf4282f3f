-- `search::turns::outer_turn` meets its contract: what the scan says of the outer top is one of the machine's turns. Assumes nothing.
use Prim.Native.Nat.{ℕ, suc, ◌-◌}
use native.Mathlib.Omega.{arith}
use mathlib.Core.Path.{◌≡◌}
use Rattle.workspace.proofs.ViewsIn.{OuterIn}
use Rattle.workspace.proofs.TurnsIn.{outer_topped, outer_advanced}
use Rattle.workspace.proofs.InnerTurnsIn.{Leaving, outer_leaving}
use Rattle.scans.specs.Cases.{OfCase}
use Rattle.search.proofs.turns.outer_turn.Goals as goal
use Rattle.search.proofs.turns.outer_turn.Goals.{After-from-code}

pub scan_top-requires : goal.scan_top-requires
scan_top-requires c =
    let p = c.requires.inside in
    (p.0, outer_topped p.0 p.2 c.requires.deep)

-- ---- where the top's successors are exhausted, it is left

leaving : (c : After-from-code) (x : OfCase c.args.setting.now) (r : ℕ) → OuterIn x r c.args.workspace.now c.args.depth
    → Leaving x r c.args.workspace.now (c.args.depth - 1) c.from-code.result
leaving c x r o =
    rw c.from-code.ensures
    (outer_leaving x o c.requires.deep (c.in-None.ensures.scanned x (outer_topped x o c.requires.deep)))

pub leave-requires : goal.leave-requires
leave-requires c =
    let p = c.requires.inside in
    (p.0, p.1, _, leaving (goal.at.leave-requires c).After-from-code p.0 p.1 p.2)

pub returns-in_err-leave-in-None-clause-turned : goal.returns-in_err-leave-in-None-clause-turned
returns-in_err-leave-in-None-clause-turned c x r o =
    let deep : suc (c.args.depth - 1) ≡ c.args.depth = omega arith in
    let was = (goal.at.returns-in_err-leave-in-None-clause-turned c).After-from-code in
    rw c.from_residual.ensures (rw deep at (c.in_err-leave-in-None.ensures.left x r _ (leaving was x r o)))

pub returns-in_ok-leave-in-None-clause-turned : goal.returns-in_ok-leave-in-None-clause-turned
returns-in_ok-leave-in-None-clause-turned c x r o =
    let deep : suc (c.args.depth - 1) ≡ c.args.depth = omega arith in
    let was = (goal.at.returns-in_ok-leave-in-None-clause-turned c).After-from-code in
    rw deep at (c.in_ok-leave-in-None.ensures.left x r _ (leaving was x r o))

-- ---- where a candidate is found, the search goes on to it

pub advance-requires : goal.advance-requires
advance-requires c =
    let p = c.requires.inside in
    let topped = outer_topped p.0 p.2 c.requires.deep in
    (outer_advanced p.0 p.2 c.requires.deep (c.in-Some.ensures.coded p.0 topped) (c.in-Some.ensures.scanned p.0 topped)).asked

pub returns-in-Some-clause-kept : goal.returns-in-Some-clause-kept
returns-in-Some-clause-kept c =
    let p = c.requires.inside in
    let topped = outer_topped p.0 p.2 c.requires.deep in
    rw c.advance.ensures (outer_advanced p.0 p.2 c.requires.deep (c.in-Some.ensures.coded p.0 topped) (c.in-Some.ensures.scanned p.0 topped)).kept

pub returns-in-Some-clause-turned : goal.returns-in-Some-clause-turned
returns-in-Some-clause-turned c x r o =
    let topped = outer_topped x o c.requires.deep in
    rw c.advance.ensures (outer_advanced x o c.requires.deep (c.in-Some.ensures.coded x topped) (c.in-Some.ensures.scanned x topped)).on
