-- With no node there is nothing to fill; otherwise node n-1 is added to what is filled for the nodes below it. Assumes nothing.
use mathlib.Core.Path.{◌≡◌}
use Prim.Native.Nat.{suc, ◌-◌}
use native.Mathlib.Omega.{arith}
use Rattle.reading.specs.Parts.{node_of, table_of}
use Rattle.filled.proofs.Nodes.{filling_below, stated}
use Rattle.filled.proofs.Adding.{filled_none, at_nodes, at_parts}
use Rattle.lanes.proofs.+fill.Goals as goal

pub returns-then-n-eq0 : goal.returns-then-n-eq0
returns-then-n-eq0 t c f =
    rw c.if-n-eq0.true (filled_none (table_of f.parts) (node_of f.parts.node_list) c.requires.blank_rows c.requires.blank_lanes)

pub add_node-requires-clause-counted : goal.add_node-requires-clause-counted
add_node-requires-clause-counted t c =
    let below = filling_below c.requires.filling (c.args.n - 1) (omega arith) in
    (at_nodes below (c.fill-before.ensures below)).counts

pub returns : goal.returns
returns t c f =
    let below = filling_below f (c.args.n - 1) (omega arith) in
    let before = at_nodes below (c.fill-before.ensures below) in
    let last : suc (c.args.n - 1) ≡ c.args.n = omega arith in
    rw last at (at_parts f (c.add_node.ensures (table_of f.parts) (stated f) before))
