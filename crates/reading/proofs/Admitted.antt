-- What is known of the parts of a case that is not refused, fact by fact: all that the layers above use. (Shown from the
-- refusals in `proofs/Facts`.) That every state starts an edge is left out on purpose.
use Prim.Native.Nat.{ℕ, suc, ◌*◌, ◌^◌, ◌≤◌, ◌<◌}
use mathlib.Core.Path.{◌≡◌}
use mathlib.Core.Logic.{◌⊎◌}
use mathlib.Core.Bool.{false}
use lib.ListN.{length}
use Rattle.bits.specs.Bits.{bit}
use Rattle.meaning.specs.Laws.{Ordered, operands}
use Rattle.reading.specs.Parts.{Parts, label_of, flags_of, edge_count, from_of, to_of, node_count, node_of, temporals, eventualities}

pub record Admitted (p : Parts) : Type 0 where
  -- "S, the number of states, 1 to 64; A, the number of atoms, 0 to 16"
  pub some_state : 1 ≤ p.states
  pub few_states : p.states ≤ 64
  pub few_atoms : p.atoms ≤ 16
  -- "3·S"; "even, 2 to 1,024"; "a multiple of 3, 3 to 96"
  pub state_bytes : length p.state_list ≡ 3 * p.states
  pub edge_bytes : length p.edge_list ≡ 2 * edge_count p.edge_list
  pub some_edge : 1 ≤ edge_count p.edge_list
  pub few_edges : edge_count p.edge_list ≤ 512
  pub node_bytes : length p.node_list ≡ 3 * node_count p.node_list
  pub some_node : 1 ≤ node_count p.node_list
  pub few_nodes : node_count p.node_list ≤ 32
  -- "bits from A upward are 0"; "Flags are 1 (initial) or 0"
  pub labels_low : (s : ℕ) → s < p.states → label_of p.state_list s < 2 ^ p.atoms
  pub labels_fit : (s : ℕ) → s < p.states → label_of p.state_list s < 65536
  pub no_higher_bit : (s : ℕ) → s < p.states → (j : ℕ) → p.atoms ≤ j → bit (label_of p.state_list s) j ≡ false
  pub flags_low : (s : ℕ) → s < p.states → flags_of p.state_list s ≤ 1
  -- edges go between states, and rise strictly
  pub from_states : (e : ℕ) → e < edge_count p.edge_list → from_of p.edge_list e < p.states
  pub to_states : (e : ℕ) → e < edge_count p.edge_list → to_of p.edge_list e < p.states
  pub rises : (e : ℕ) → suc e < edge_count p.edge_list
      → (from_of p.edge_list e < from_of p.edge_list (suc e))
      ⊎ ((from_of p.edge_list e ≡ from_of p.edge_list (suc e)) × (to_of p.edge_list e < to_of p.edge_list (suc e)))
  -- known operators, operands lower, atoms below A, unused bytes 0
  pub ordered : Ordered (node_of p.node_list) (node_count p.node_list)
  pub atoms_below : (n : ℕ) → n < node_count p.node_list → (node_of p.node_list n).operator ≡ 1
      → (node_of p.node_list n).first < p.atoms
  pub first_unused : (n : ℕ) → n < node_count p.node_list → operands (node_of p.node_list n).operator ≤ 0
      → ((node_of p.node_list n).operator ≡ 1 → ⊥) → (node_of p.node_list n).first ≡ 0
  pub second_unused : (n : ℕ) → n < node_count p.node_list → operands (node_of p.node_list n).operator ≤ 1
      → (node_of p.node_list n).second ≡ 0
  -- "T counts the nodes with operators 6 to 11 and is at most 4; E those with operators 7 to 11"
  pub few_temporals : temporals p ≤ 4
  pub fewer_eventualities : eventualities p ≤ temporals p
