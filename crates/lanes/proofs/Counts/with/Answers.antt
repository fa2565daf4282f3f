-- `lanes::Counts::with` meets its contract: X adds a temporal node, another operator a promise besides. Assumes nothing.
use Prim.Native.Nat.{◌≤◌}
use mathlib.Core.Path.{ap, ◌∙◌}
use Rattle.rule.specs.Operator.{temporal_code}
use Rattle.rule.proofs.Codes.{promise_code}
use Rattle.filled.proofs.Nodes.{counted_next, counted_promise}
use Rattle.lanes.proofs.Counts.with.Goals as goal

pub returns-in-X : goal.returns-in-X
returns-in-X c node n is = counted_next node n _ _ (is ∙ ap temporal_code c.in-X.is)

pub returns : goal.returns
returns c node n is =
    let promise : 7 ≤ (node n).operator = rw is (promise_code c.args.operator c.in_default.not-X) in
    counted_promise node n _ _ promise
