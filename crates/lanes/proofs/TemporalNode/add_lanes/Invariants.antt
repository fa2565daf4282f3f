-- `lanes::TemporalNode::add_lanes` meets its contract. The loop's invariant: the node's lanes are added in the states below s. Assumes
-- nothing.
use mathlib.Core.Path.{◌≡◌}
use Prim.Native.Nat.{ℕ, suc}
use lib.ListN.{length}
use Rattle.meaning.specs.Table.{Table, Node}
use Rattle.reading.specs.Node.{node_is}
use Rattle.product.proofs.Lanes.{Rows, Lanes}
use Rattle.filled.proofs.Filling.{Counted, Partly}
use Rattle.lanes.proofs.TemporalNode.add_lanes.Given as goal

abbrev pub invariant-loop-s : goal.invariant-loop-s
invariant-loop-s l = record {
  size : length l.lanes ≡ 1024;
  added : (table : Table) (node : ℕ → Node) → node l.self.numbered.number ≡ node_is l.self.numbered.node → table.states ≡ l.states
      → Counted node l.self.numbered.number l.before.temporals l.before.promises → Rows table node (suc l.self.numbered.number) l.rows
      → Lanes table node l.self.numbered.number l.initial.lanes → Partly table node l.self.numbered.number l.s l.lanes;
}
