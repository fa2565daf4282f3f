-- The parts of a case, and the table and the rule that they are.
use Rattle.std.specs.Prelude.{ℕ, ◌+◌, ◌*◌, ◌/◌, ◌^◌, Bool, ◌&&◌, List, leb, eqb, length, get_or}
use Rattle.meaning.specs.Formula.{Formula}
use Rattle.meaning.specs.Table.{Table, Node, rule}
use Rattle.reading.specs.Lowest.{any, count}

-- S, the number of states; A, the number of atoms; and the values of fields 02, 03 and 04 as flat lists
pub record Parts : Type 0 where
  pub states : ℕ
  pub atoms : ℕ
  pub state_list : List ℕ
  pub edge_list : List ℕ
  pub node_list : List ℕ

-- "per state: label low byte, label high byte, flags". Past the end of a list every byte is read as 0.
unfoldable pub label_of : List ℕ → ℕ → ℕ
label_of states s = get_or states (3 * s) 0 + 256 * get_or states (3 * s + 1) 0

unfoldable pub flags_of : List ℕ → ℕ → ℕ
flags_of states s = get_or states (3 * s + 2) 0

-- "Flags are 1 (initial) or 0."
unfoldable pub initial_of : List ℕ → ℕ → Bool
initial_of states s = eqb (flags_of states s) 1

-- "per edge: from, to"
abbrev pub edge_count : List ℕ → ℕ
edge_count edges = length edges / 2

unfoldable pub from_of : List ℕ → ℕ → ℕ
from_of edges e = get_or edges (2 * e) 0

unfoldable pub to_of : List ℕ → ℕ → ℕ
to_of edges e = get_or edges (2 * e + 1) 0

-- some edge goes from x to y
unfoldable pub has_edge : List ℕ → ℕ → ℕ → Bool
has_edge edges x y = any (λ e. eqb (from_of edges e) x && eqb (to_of edges e) y) (edge_count edges)

-- "per rule node: operator, first, second"
abbrev pub node_count : List ℕ → ℕ
node_count nodes = length nodes / 3

unfoldable pub node_of : List ℕ → ℕ → Node
node_of nodes n =
    record { operator = get_or nodes (3 * n) 0; first = get_or nodes (3 * n + 1) 0; second = get_or nodes (3 * n + 2) 0 }

-- the state table of the parts
abbrev pub table_of : Parts → Table
table_of p =
    record {
      states = p.states;
      atoms = p.atoms;
      label = label_of p.state_list;
      initial = initial_of p.state_list;
      edge = has_edge p.edge_list;
    }

-- the rule of the parts: "The last node is the rule."
abbrev pub rule_of : Parts → Formula
rule_of p = rule (node_of p.node_list) (node_count p.node_list)

-- node n has an operator from `low` to 11, and how many nodes have one
unfoldable pub operator_from : ℕ → List ℕ → ℕ → Bool
operator_from low nodes n = leb low (node_of nodes n).operator && leb (node_of nodes n).operator 11

unfoldable pub operators_from : ℕ → List ℕ → ℕ
operators_from low nodes = count (operator_from low nodes) (node_count nodes)

-- "T counts the nodes with operators 6 to 11"; "E those with operators 7 to 11"
abbrev pub temporals : Parts → ℕ
temporals p = operators_from 6 p.node_list

abbrev pub eventualities : Parts → ℕ
eventualities p = operators_from 7 p.node_list

-- "P = S · 2^T · (E+1)"
abbrev pub places : Parts → ℕ
places p = p.states * 2 ^ temporals p * (eventualities p + 1)
