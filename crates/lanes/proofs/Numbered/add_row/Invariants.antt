-- `lanes::Numbered::add_row` meets its contract. The loop's invariant: the row is added in the states below s. Assumes nothing.
use mathlib.Core.Path.{◌≡◌}
use Prim.Native.Nat.{ℕ}
use lib.ListN.{length}
use Rattle.meaning.specs.Table.{Table, Node}
use Rattle.reading.specs.Node.{node_is}
use Rattle.product.specs.Product.{truth, temporal}
use Rattle.product.proofs.Lanes.{Rows}
use Rattle.filled.proofs.Filling.{Stated, RowAdded}
use Rattle.lanes.proofs.Numbered.add_row.Given as goal

abbrev pub invariant-loop-s : goal.invariant-loop-s
invariant-loop-s l =
    (table : Table) (node : ℕ → Node) → node l.self.number ≡ node_is l.self.node → Stated table l.states
    → l.temporals ≡ length (temporal node l.self.number) → Rows table node l.self.number l.initial.rows
    → RowAdded l.self.number l.s (truth table node l.self.number) l.initial.rows l.rows
