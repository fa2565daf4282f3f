-- `lanes::starts::fill` meets its contract. The loop's invariant: the entries below s are right, and the edges below e leave lower
-- states than s. Assumes nothing.
use mathlib.Core.Path.{◌≡◌}
use Prim.Native.Nat.{◌+◌}
use native.Mathlib.Omega.{arith}
use Rattle.filled.proofs.Edges.{started_more, started_all}
use Rattle.lanes.proofs.starts.fill.Goals as goal

pub loop-s-preserved : goal.loop-s-preserved
loop-s-preserved c =
    let at = c.loop-s in
    started_more c.requires at.s at.e c.skip-e.result at.starts c.skip-e.ensures at.invariant (omega (arith, c.requires.few_states))

pub returns-2 : goal.returns-2
returns-2 c =
    let at = c.loop-s in
    let last : at.s + 1 ≡ c.args.states + 1 = omega arith in
    started_all c.requires _ c.skip-e.result
    (rw last at (started_more c.requires at.s at.e c.skip-e.result at.starts c.skip-e.ensures at.invariant (omega (arith, c.requires.few_states))))
