-- The format of a case, and "When the bench says no", rows 10 to 32 in their order.
use Rattle.std.specs.Prelude.{ℕ, ◌+◌, ◌*◌, ◌-◌, ◌/◌, ◌%◌, ◌^◌, Bool, true, false, cond, not, ◌&&◌, ◌||◌, List, leb, ltb, eqb, length, get_or, take, drop, ⊤, Result, Ok, Err}
use Rattle.meaning.specs.Laws.{operands}
use Rattle.reading.specs.Lowest.{lowest, any}
use Rattle.reading.specs.Parts.{Parts, label_of, flags_of, edge_count, from_of, to_of, node_count, node_of, operators_from, temporals, eventualities}
use Rattle.reading.specs.declared.CaseRefusal.{CaseRefusal}
use Rattle.reading.specs.declared.CaseRefusal.TheVariants.{Short, Tag, Length, Range, Rest, Bits, End, Order, DeadEnd, Operator, Operand, Temporals}
use Rattle.reading.specs.declared.Shape.{Shape}

-- what a row, or several in their order, say of a case: nothing, or a refusal
abbrev pub Check : Type 0
Check = Result ⊤ CaseRefusal

-- what the first row refuses; where it refuses nothing, what the later ones say
infixr 20 ◌then◌
abbrev pub ◌then◌ : Check → Check → Check
Err r then later = Err r
(Ok _) then later = later

abbrev pub refuse_if : Bool → CaseRefusal → Check
refuse_if true r = Err r
refuse_if false r = Ok tt

-- "Always the lowest place": the row's refusal at the lowest bad number below n
abbrev pub refuse_at : (ℕ → Bool) → ℕ → (ℕ → CaseRefusal) → Check
refuse_at bad n row = refuse_if (any bad n) (row (lowest bad n))

-- Fields. "A field is a one-byte tag, a two-byte length (low byte first) and that many value bytes."
unfoldable pub length_at : List ℕ → ℕ → ℕ
length_at bytes at = get_or bytes (at + 1) 0 + 256 * get_or bytes (at + 2) 0

-- "four tagged fields, each once, in this order, nothing after": where each starts
abbrev pub at02 : ℕ
at02 = 5

abbrev pub at03 : List ℕ → ℕ
at03 bytes = 8 + 3 * get_or bytes 3 0

unfoldable pub at04 : List ℕ → ℕ
at04 bytes = at03 bytes + 3 + length_at bytes (at03 bytes)

-- the parts, taken by position
unfoldable pub parts_of : List ℕ → Parts
parts_of bytes =
    record {
      states = get_or bytes 3 0;
      atoms = get_or bytes 4 0;
      state_list = take (3 * get_or bytes 3 0) (drop (at02 + 3) bytes);
      edge_list = take (length_at bytes (at03 bytes)) (drop (at03 bytes + 3) bytes);
      node_list = take (length_at bytes (at04 bytes)) (drop (at04 bytes + 3) bytes);
    }

-- the table's lengths: a multiple of `step` from `least` to `most`, or one number
unfoldable pub in_steps : ℕ → ℕ → ℕ → ℕ → Bool
in_steps step least most n = eqb (n % step) 0 && leb least n && leb n most

-- "in each, head (10), tag (11), length (12), value present (10)"
unfoldable pub field_refusal : List ℕ → ℕ → ℕ → (ℕ → Bool) → Check
field_refusal bytes at tag fits =
    refuse_if (ltb (length bytes) (at + 3)) (Short at)
    then refuse_if (not (eqb (get_or bytes at 0) tag)) (Tag at)
    then refuse_if (not (fits (length_at bytes at))) (Length at)
    then refuse_if (ltb (length bytes) (at + 3 + length_at bytes at)) (Short at)

-- "S, the number of states, 1 to 64; A, the number of atoms, 0 to 16"
unfoldable pub out_of_range : ℕ → ℕ → Bool
out_of_range states atoms = ltb states 1 || ltb 64 states || ltb 16 atoms

-- field 04, and "14 after field 04"
unfoldable pub last_refusal : List ℕ → ℕ → Check
last_refusal bytes at =
    field_refusal bytes at 4 (in_steps 3 3 96)
    then refuse_if (ltb (at + 3 + length_at bytes at) (length bytes)) (Rest (at + 3 + length_at bytes at))

-- "Fields are taken in order"; "13 comes right after field 01"
unfoldable pub fields_refusal : List ℕ → Check
fields_refusal bytes =
    field_refusal bytes 0 1 (in_steps 1 2 2)
    then refuse_if (out_of_range (get_or bytes 3 0) (get_or bytes 4 0)) (Range 0)
    then field_refusal bytes at02 2 (in_steps 1 (3 * get_or bytes 3 0) (3 * get_or bytes 3 0))
    then field_refusal bytes (at03 bytes) 3 (in_steps 2 2 1024)
    then last_refusal bytes (at04 bytes)

-- 20: "label bit from A upward, or flags above 1". The bits from A upward make the number label / 2^A.
unfoldable pub bad_state : ℕ → List ℕ → ℕ → Bool
bad_state atoms states s = not (eqb (label_of states s / 2 ^ atoms) 0) || ltb 1 (flags_of states s)

-- 21: "an edge's end is S or more"
unfoldable pub bad_end : ℕ → List ℕ → ℕ → Bool
bad_end states edges e = leb states (from_of edges e) || leb states (to_of edges e)

-- "Edges rise strictly, by from and then by to": edge e is above edge d
unfoldable pub above : List ℕ → ℕ → ℕ → Bool
above edges e d =
    ltb (from_of edges d) (from_of edges e) || (eqb (from_of edges d) (from_of edges e) && ltb (to_of edges d) (to_of edges e))

-- 22: "edge not above the one before"
unfoldable pub not_above : List ℕ → ℕ → Bool
not_above edges e = ltb 0 e && not (above edges e (e - 1))

-- 23: "a state starts no edge"
unfoldable pub starts_none : List ℕ → ℕ → Bool
starts_none edges s = not (any (λ e. eqb (from_of edges e) s) (edge_count edges))

-- 30: "unknown operator"
unfoldable pub unknown : List ℕ → ℕ → Bool
unknown nodes n = ltb 11 (node_of nodes n).operator

-- "An operand is a lower node's number; for an atom the first byte is an atom number below A. Unused bytes are 0": what a
-- node's first byte and its second must be below
unfoldable pub first_limit : ℕ → ℕ → ℕ → ℕ
first_limit operator atoms n = cond (eqb operator 1) atoms (cond (leb 1 (operands operator)) n 1)

unfoldable pub second_limit : ℕ → ℕ → ℕ
second_limit operator n = cond (leb 2 (operands operator)) n 1

-- 31: "operand or unused byte wrong"
unfoldable pub wrong_byte : ℕ → List ℕ → ℕ → Bool
wrong_byte atoms nodes n =
    let node = node_of nodes n in
    leb (first_limit node.operator atoms n) node.first || leb (second_limit node.operator n) node.second

-- the rows over all states, all edges, all states again and all nodes
unfoldable pub states_refusal : ℕ → ℕ → List ℕ → Check
states_refusal states atoms list = refuse_at (bad_state atoms list) states Bits

unfoldable pub edges_refusal : ℕ → List ℕ → Check
edges_refusal states list =
    refuse_at (λ e. bad_end states list e || not_above list e) (edge_count list) (λ e. cond (bad_end states list e) (End e) (Order e))

unfoldable pub dead_end_refusal : ℕ → List ℕ → Check
dead_end_refusal states list = refuse_at (starts_none list) states DeadEnd

unfoldable pub nodes_refusal : ℕ → List ℕ → Check
nodes_refusal atoms list =
    refuse_at (λ n. unknown list n || wrong_byte atoms list n) (node_count list) (λ n. cond (unknown list n) (Operator n) (Operand n))

-- 32: "T above 4", with T as its place
unfoldable pub temporals_refusal : List ℕ → Check
temporals_refusal list = refuse_if (ltb 4 (operators_from 6 list)) (Temporals (operators_from 6 list))

-- "Then 20 over all states, then per edge 21 before 22, then 23, then per node 30 before 31, then 32."
unfoldable pub parts_refusal : Parts → Check
parts_refusal p =
    states_refusal p.states p.atoms p.state_list
    then edges_refusal p.states p.edge_list
    then dead_end_refusal p.states p.edge_list
    then nodes_refusal p.atoms p.node_list
    then temporals_refusal p.node_list

-- what refuses a case, if anything does
unfoldable pub refusal : List ℕ → Check
refusal bytes = fields_refusal bytes then parts_refusal (parts_of bytes)

-- the sizes of a case: S, A, the numbers of edges and of nodes, T and E
unfoldable pub shape_of : Parts → Shape
shape_of p =
    record {
      states = p.states;
      atoms = p.atoms;
      edges = edge_count p.edge_list;
      nodes = node_count p.node_list;
      temporals = temporals p;
      eventualities = eventualities p;
    }

-- what reading a case gives: the first refusal, or the sizes
abbrev pub read_as : Check → Shape → Result Shape CaseRefusal
read_as (Err r) shape = Err r
read_as (Ok _) shape = Ok shape

unfoldable pub case_of : List ℕ → Result Shape CaseRefusal
case_of bytes = read_as (refusal bytes) (shape_of (parts_of bytes))
