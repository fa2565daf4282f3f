-- "That of nodes 0 to n-1 with node n's added": what is filled for the first n nodes, with node n's row, and its lanes if it is
-- temporal, is filled for the first n + 1. Assumes nothing.
use Prim.Native.Nat.{ℕ, suc, ◌≤◌, ◌<◌}
use native.Mathlib.Omega.{arith}
use mathlib.Core.Path.{◌≡◌, sym, ◌∙◌, subst}
use mathlib.Core.List.{List}
use lib.ListN.{length}
use Rattle.meaning.specs.Table.{Table, Node}
use Rattle.reading.specs.Parts.{node_of}
use Rattle.product.specs.Product.{truth}
use Rattle.product.proofs.Lanes.{Rows, Lanes}
use Rattle.filled.proofs.Filling.{Filling, Blank, Counted, Filled, RowAdded}
use Rattle.filled.proofs.Nodes.{counted_none, counted_plain}
use Rattle.filled.proofs.Rows.{rows_none, rows_more}
use Rattle.filled.proofs.Blocks.{lanes_none, lanes_plain}

pub filled_none : (table : Table) (node : ℕ → Node) {rows lanes : List ℕ} → Blank 2048 rows → Blank 1024 lanes
    → Filled table node 0 rows lanes 0 0
filled_none table node blank_rows blank_lanes =
    record {
      all_rows = rows_none table node blank_rows;
      all_lanes = lanes_none table node blank_lanes;
      counts = counted_none node;
      rows_size = blank_rows.size_is;
      lanes_size = blank_lanes.size_is;
    }

module _ {table : Table} {node : ℕ → Node} {n count : ℕ} {rows rows' lanes : List ℕ} {T E : ℕ}
    (states : table.states ≡ count) (few : count ≤ 64) (old : Filled table node n rows lanes T E) where
  rows_with : RowAdded n count (truth table node n) rows rows' → Rows table node (suc n) rows'
  rows_with added =
      rows_more table node n rows rows' (omega arith) old.all_rows
      (subst (λ (c : ℕ). RowAdded n c (truth table node n) rows rows') (sym states) added)

  pub filled_plain : (node n).operator < 6 → RowAdded n count (truth table node n) rows rows'
      → Filled table node (suc n) rows' lanes T E
  filled_plain low added =
      record {
        all_rows = rows_with added;
        all_lanes = lanes_plain table node n lanes low old.all_lanes;
        counts = counted_plain node n T E low old.counts;
        rows_size = added.size_kept ∙ old.rows_size;
        lanes_size = old.lanes_size;
      }

  pub filled_temporal : {lanes' : List ℕ} {T' E' : ℕ} → RowAdded n count (truth table node n) rows rows'
      → length lanes' ≡ 1024
      → (Rows table node (suc n) rows' → Lanes table node n lanes → Lanes table node (suc n) lanes')
      → Counted node (suc n) T' E' → Filled table node (suc n) rows' lanes' T' E'
  filled_temporal added size lanes_with counts =
      record {
        all_rows = rows_with added;
        all_lanes = lanes_with (rows_with added) old.all_lanes;
        counts = counts;
        rows_size = added.size_kept ∙ old.rows_size;
        lanes_size = size;
      }

-- the nodes' list and the parts' are one
module _ {states nodes : List ℕ} {n : ℕ} (f : Filling states nodes n)
    {table : Table} {m : ℕ} {rows lanes : List ℕ} {T E : ℕ} where
  pub at_nodes : Filled table (node_of f.parts.node_list) m rows lanes T E → Filled table (node_of nodes) m rows lanes T E
  at_nodes h = subst (λ (l : List ℕ). Filled table (node_of l) m rows lanes T E) (sym f.nodes_are) h

  pub at_parts : Filled table (node_of nodes) m rows lanes T E → Filled table (node_of f.parts.node_list) m rows lanes T E
  at_parts h = subst (λ (l : List ℕ). Filled table (node_of l) m rows lanes T E) f.nodes_are h
