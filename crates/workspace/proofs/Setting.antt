-- The setting of a search: a case, its graph, the arrays that the code reads, and places as the stacks hold them. Definitions only:
-- contracts of the code cite them, and nobody has to believe them.
use Prim.Native.Nat.{ℕ, suc, ◌+◌, ◌-◌, ◌*◌, ◌/◌, ◌%◌, ◌^◌, ◌≤◌, ◌<◌}
use mathlib.Core.Path.{◌≡◌}
use mathlib.Core.Bool.{cond, ◌&&◌}
use mathlib.Core.List.{List}
use mathlib.Core.Option.{Option, some, none}
use lib.Dec.{leb, ltb}
use lib.ListN.{length, get_or}
use Rattle.reading.specs.Lowest.{lowest}
use Rattle.reading.specs.Parts.{Parts, table_of, edge_count, from_of, to_of, node_count, node_of, temporals, eventualities, places}
use Rattle.reading.proofs.Admitted.{Admitted}
use Rattle.product.specs.Places.{Place}
use Rattle.product.specs.Product.{Product, published, place, numbering, next, successor}
use Rattle.product.proofs.Lanes.{Lanes, Starts}

-- the product of a case
abbrev pub product_of : Parts → Product
product_of p = published (table_of p) (node_of p.node_list) (node_count p.node_list)

-- ---- the graph's candidates

-- the first edge that leaves state s or a higher one: the edges of state s are those from here to the next state's
abbrev pub start_of : List ℕ → ℕ → ℕ
start_of edges s = lowest (λ e. leb s (from_of edges e)) (edge_count edges)

-- cursor c of a place: 16 times an edge, counted from its state's first, plus the successor's bits
abbrev pub edge_at : Parts → Place → ℕ → ℕ
edge_at p from c = start_of p.edge_list from.state + c / 16

abbrev pub candidate : Parts → Place → ℕ → Place
candidate p from c =
    record { state = to_of p.edge_list (edge_at p from c); bits = c % 16; waiting = next (product_of p) from }

unfoldable pub cand_of : Parts → ℕ → ℕ → Option ℕ
cand_of p x c =
    let from = place (product_of p) x in
    cond
    (ltb (edge_at p from c) (start_of p.edge_list (suc from.state)) && successor (product_of p) from (candidate p from c))
    (some (numbering (product_of p) (candidate p from c)))
    none

-- D, the number of cursor values: an edge number one past the last is kept free
abbrev pub cursors_of : Parts → ℕ
cursors_of p = 16 * (edge_count p.edge_list + 1)

-- ---- places as the stacks hold them: s * 128 + b * 8 + w

abbrev pub code_of : ℕ → ℕ → ℕ → ℕ
code_of s b w = s * 128 + b * 8 + w

abbrev pub decoded : ℕ → Place
decoded code = record { state = code / 128; bits = code / 8 % 16; waiting = code % 8 }

-- the number of the place that a code stands for
abbrev pub number_of : Parts → ℕ → ℕ
number_of p code = numbering (product_of p) (decoded code)

-- the same, from 2 to the power T and E
abbrev pub number_in : ℕ → ℕ → ℕ → ℕ
number_in guesses top code = (code / 128 * guesses + code / 8 % 16) * (top + 1) + code % 8

-- the code stands for a place of the case
pub record Coded (p : Parts) (code : ℕ) : Type 0 where
  pub state_below : code / 128 < p.states
  pub bits_below : code / 8 % 16 < 2 ^ temporals p
  pub waiting_within : code % 8 ≤ eventualities p

-- ---- what the code reads

-- the arrays and the sizes are those of one admitted case
pub record Setting (edges lanes starts : List ℕ) (guesses ones top size : ℕ) : Type 0 where
  pub parts : Parts
  pub admitted : Admitted parts
  pub edges_are : edges ≡ parts.edge_list
  pub lanes_are : Lanes (table_of parts) (node_of parts.node_list) (node_count parts.node_list) lanes
  pub starts_are : Starts (from_of edges) (edge_count edges) parts.states starts
  pub guesses_are : guesses ≡ 2 ^ temporals parts
  pub ones_are : ones ≡ 2 ^ guesses - 1
  pub top_is : top ≡ eventualities parts
  pub size_is : size ≡ places parts

-- The workspace of a search over P places: P entries each of colours, outer stack, its cursors, inner stack and its cursors. A stack
-- that starts at `base`, with its cursors P entries further on, has `depth` places, and its top is a code of the case.
pub record Topped (p : Parts) (ws : List ℕ) (base depth : ℕ) : Type 0 where
  pub some_place : 1 ≤ depth
  pub colours_lie : places p ≤ length ws
  pub stack_lies : base + places p + depth ≤ length ws
  pub coded : Coded p (get_or ws (base + depth - 1) 0)

abbrev pub top_code : List ℕ → ℕ → ℕ → ℕ
top_code ws base depth = get_or ws (base + depth - 1) 0

abbrev pub top_cursor : Parts → List ℕ → ℕ → ℕ → ℕ
top_cursor p ws base depth = get_or ws (base + places p + depth - 1) 0
