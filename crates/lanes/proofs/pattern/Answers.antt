-- `lanes::pattern` meets its contract: each arm's constant is its pattern. Assumes nothing.
use mathlib.Core.Path.{◌≡◌}
use native.Mathlib.Omega.{arith}
use Rattle.filled.proofs.Lane.{pattern_0, pattern_1, pattern_2, pattern_3}
use Rattle.lanes.proofs.pattern.Goals as goal

pub returns-in-0 : goal.returns-in-0
returns-in-0 c = rw c.in-0.is pattern_0

pub returns-in-1 : goal.returns-in-1
returns-in-1 c = rw c.in-1.is pattern_1

pub returns-in-2 : goal.returns-in-2
returns-in-2 c = rw c.in-2.is pattern_2

pub returns-in_default : goal.returns-in_default
returns-in_default c =
    let last : c.args.t ≡ 3 = omega arith in
    rw last pattern_3
