-- What the code that fills the arrays asks and gives. Contracts cite these definitions, and nobody has to believe them.
use Prim.Native.Nat.{ℕ, suc, ◌+◌, ◌*◌, ◌/◌, ◌≤◌, ◌<◌}
use mathlib.Core.Path.{◌≡◌}
use mathlib.Core.Bool.{Bool, true, false}
use mathlib.Core.Logic.{◌⊎◌}
use mathlib.Core.List.{List}
use lib.ListN.{length, get_or}
use Rattle.bits.specs.Bits.{bit}
use Rattle.meaning.specs.Table.{Table, Node}
use Rattle.meaning.specs.Laws.{operands}
use Rattle.reading.specs.Parts.{Parts, label_of, node_count, edge_count, from_of}
use Rattle.reading.proofs.Admitted.{Admitted}
use Rattle.product.specs.Product.{temporal, promised, meets, carried}
use Rattle.product.proofs.Lanes.{Words16, Rows, Lanes, needs, fails}
use Rattle.filled.proofs.Lane.{Lane}

-- the states and the first n nodes are those of an admitted case
pub record Filling (states nodes : List ℕ) (n : ℕ) : Type 0 where
  pub parts : Parts
  pub admitted : Admitted parts
  pub states_are : states ≡ parts.state_list
  pub nodes_are : nodes ≡ parts.node_list
  pub within : n ≤ node_count nodes

-- so many entries, all 0
pub record Blank (size : ℕ) (list : List ℕ) : Type 0 where
  pub size_is : length list ≡ size
  pub zero_at : (i : ℕ) → get_or list i 0 ≡ 0

-- how many temporal nodes and how many promises there are among the first n nodes
pub record Counted (node : ℕ → Node) (n temporals promises : ℕ) : Type 0 where
  pub temporals_are : temporals ≡ length (temporal node n)
  pub promises_are : promises ≡ length (promised node n)

-- what `fill` gives: the rows and the lanes of the first n nodes, and their counts
pub record Filled (table : Table) (node : ℕ → Node) (n : ℕ) (rows lanes : List ℕ) (temporals promises : ℕ) : Type 0 where
  pub all_rows : Rows table node n rows
  pub all_lanes : Lanes table node n lanes
  pub counts : Counted node n temporals promises
  pub rows_size : length rows ≡ 2048
  pub lanes_size : length lanes ≡ 1024

-- this node can be read as node n: its operator is known, its operands are lower nodes, and an atom's number is below 16
pub record Ready (node : Node) (n : ℕ) : Type 0 where
  pub low : n < 32
  pub known : node.operator < 12
  pub first_lower : 1 ≤ operands node.operator → node.first < n
  pub second_lower : 2 ≤ operands node.operator → node.second < n
  pub atom_low : node.operator ≡ 1 → node.first < 16

-- the table has these states, with these labels
pub record Stated (table : Table) (states : List ℕ) : Type 0 where
  pub count_is : table.states ≡ length states / 3
  pub labels_are : (s : ℕ) → table.label s ≡ label_of states s

-- `rows'` is `rows` with row n added, the lane of each state s below `count` being f s; later entries are any words
pub record RowAdded (n count : ℕ) (f : ℕ → ℕ → Bool) (rows rows' : List ℕ) : Type 0 where
  pub size_kept : length rows' ≡ length rows
  pub lower : (i : ℕ) → i < n * 64 → get_or rows' i 0 ≡ get_or rows i 0
  pub words : Words16 rows → Words16 rows'
  pub added : (s : ℕ) → s < count → Lane (f s) (get_or rows' (n * 64 + s) 0)

module _ (table : Table) (node : ℕ → Node) (n s : ℕ) where
  -- the four lanes of temporal node n in state s
  pub record NodeLanes (need carry met fail : ℕ) : Type 0 where
    pub need_is : Lane (needs table node n s) need
    pub carry_is : Lane (carried table node n s) carry
    pub met_is : Lane (meets table node n s) met
    pub fail_is : Lane (fails table node n s) fail

  -- `Lanes` of one state
  pub record Block (lanes : List ℕ) : Type 0 where
    pub need : (t b : ℕ) → t < length (temporal node n) → b < 16
        → bit (get_or lanes (s * 16 + t) 0) b ≡ needs table node (get_or (temporal node n) t 0) s b
    pub need_no_more : (t : ℕ) → length (temporal node n) ≤ t → t < 4 → get_or lanes (s * 16 + t) 0 ≡ 0
    pub carry : (t b : ℕ) → t < length (temporal node n) → b < 16
        → bit (get_or lanes (s * 16 + 4 + t) 0) b ≡ carried table node (get_or (temporal node n) t 0) s b
    pub met : (e b : ℕ) → e < length (promised node n) → b < 16
        → bit (get_or lanes (s * 16 + 8 + e) 0) b ≡ meets table node (get_or (promised node n) e 0) s b
    pub fail : (b : ℕ) → b < 16 → bit (get_or lanes (s * 16 + 12) 0) b ≡ true
        → (t : ℕ) × (t < length (temporal node n)) × (fails table node (get_or (temporal node n) t 0) s b ≡ true)
    pub no_fail : (b : ℕ) → b < 16 → bit (get_or lanes (s * 16 + 12) 0) b ≡ false
        → (t : ℕ) → t < length (temporal node n) → fails table node (get_or (temporal node n) t 0) s b ≡ false

-- `lanes'` is `lanes` with node n's lanes in state s added; the other states' are untouched
pub record BlockAdded (table : Table) (node : ℕ → Node) (n s : ℕ) (lanes lanes' : List ℕ) : Type 0 where
  pub words : Words16 lanes → Words16 lanes'
  pub others : (i : ℕ) → (i < s * 16) ⊎ (s * 16 + 16 ≤ i) → get_or lanes' i 0 ≡ get_or lanes i 0
  pub block : Block table node n s lanes → Block table node (suc n) s lanes'

-- `Lanes` with node n's added in the states below s
pub record Partly (table : Table) (node : ℕ → Node) (n s : ℕ) (lanes : List ℕ) : Type 0 where
  pub words : Words16 lanes
  pub done : (x : ℕ) → x < s → x < table.states → Block table node (suc n) x lanes
  pub left : (x : ℕ) → s ≤ x → x < table.states → Block table node n x lanes

-- what `starts::fill` asks: the edges rise by the state that they leave, and fit their array, as the starts do
pub record Leaving (edges : List ℕ) (count : ℕ) : Type 0 where
  pub few_states : count ≤ 64
  pub few_edges : edge_count edges ≤ 512
  pub bytes : length edges ≡ 2 * edge_count edges
  pub rises : (e : ℕ) → suc e < edge_count edges → from_of edges e ≤ from_of edges (suc e)

-- r is the first edge from e on that leaves state s or a higher one, or the number of edges
pub record Skipped (edges : List ℕ) (s e r : ℕ) : Type 0 where
  pub from_there : e ≤ r
  pub within : r ≤ edge_count edges
  pub passed : (i : ℕ) → e ≤ i → i < r → from_of edges i < s
  pub reached : r < edge_count edges → s ≤ from_of edges r

-- the edges of state s and of higher ones are those from r on
pub record Parted (edges : List ℕ) (s r : ℕ) : Type 0 where
  pub within : r ≤ edge_count edges
  pub lower : (i : ℕ) → i < r → from_of edges i < s
  pub higher : (i : ℕ) → r ≤ i → i < edge_count edges → s ≤ from_of edges i

-- the entries of `starts` for the states below s are right, and the edges below e leave lower states than s
pub record Started (edges : List ℕ) (s e : ℕ) (starts : List ℕ) : Type 0 where
  pub within : e ≤ edge_count edges
  pub passed : (i : ℕ) → i < e → from_of edges i < s
  pub parted : (x : ℕ) → x < s → Parted edges x (get_or starts x 0)
