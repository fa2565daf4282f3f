-- `lanes::add_node` meets its contract: each node adds its row, a temporal one its lanes besides. Assumes nothing.
use native.Mathlib.Omega.{arith}
use mathlib.Core.Path.{◌≡◌, sym, ap, ◌∙◌}
use Prim.Native.Nat.{ℕ, suc, ◌≤◌, ◌<◌}
use mathlib.Core.List.{List}
use Rattle.meaning.specs.Table.{Node}
use Rattle.rule.specs.Operator.{code}
use Rattle.rule.proofs.Codes.{plain_code_below, temporal_code_within}
use Rattle.reading.specs.Parts.{node_of}
use Rattle.reading.specs.Node.{node_is}
use Rattle.filled.proofs.Filling.{Filling, Counted}
use Rattle.filled.proofs.Nodes.{few_states, few_temporals, length_more}
use Rattle.filled.proofs.Adding.{filled_plain, filled_temporal}
use Rattle.lanes.proofs.add_node.Goals as goal

-- a temporal node comes, so there are fewer than four before it
room : {states nodes : List ℕ} {n T E : ℕ} → Filling states nodes (suc n) → Counted (node_of nodes) n T E
    → (x : Node) → x ≡ node_of nodes n → 6 ≤ x.operator → T < 4
room {nodes = nodes} {n = n} filling counted x is high =
    omega (arith, few_temporals filling, length_more 6 (node_of nodes) n (rw (sym is) high), counted.temporals_are)

pub add_row-requires-clause-few : goal.add_row-requires-clause-few
add_row-requires-clause-few c = room c.requires.filling c.requires.counted _ c.read-numbered.ensures.node

pub add_lanes-requires-clause-few : goal.add_lanes-requires-clause-few
add_lanes-requires-clause-few c =
    let high : 6 ≤ code c.read-numbered.result.node.operator = rw c.in-Temporal.is (temporal_code_within c.in-Temporal.operator).0 in
    room c.requires.filling c.requires.counted _ c.read-numbered.ensures.node high

pub with-requires : goal.with-requires
with-requires c =
    let high : 6 ≤ code c.read-numbered.result.node.operator = rw c.in-Temporal.is (temporal_code_within c.in-Temporal.operator).0 in
    room c.requires.filling c.requires.counted _ c.read-numbered.ensures.node high

pub returns-in-Plain : goal.returns-in-Plain
returns-in-Plain c table stated old =
    let numbered = c.read-numbered in
    let number = numbered.ensures.number in
    let node = node_of c.args.nodes.now in
    let low : code numbered.result.node.operator < 6 = rw c.in-Plain.is (plain_code_below c.in-Plain.field-0) in
    filled_plain stated.count_is (few_states c.requires.filling) old (rw (sym numbered.ensures.node) low)
    (rw number at (c.add_row.ensures table node (ap node number ∙ sym numbered.ensures.node) stated
    (rw number old.counts.temporals_are) (rw number old.all_rows)))

pub returns-in-Temporal : goal.returns-in-Temporal
returns-in-Temporal c table stated old =
    let numbered = c.read-numbered in
    let number = numbered.ensures.number in
    let node = node_of c.args.nodes.now in
    let is : node numbered.result.number ≡ node_is numbered.result.node = ap node number ∙ sym numbered.ensures.node in
    let operator_is = ap (λ (x : Node). x.operator) (sym numbered.ensures.node) ∙ ap code c.in-Temporal.is in
    filled_temporal stated.count_is (few_states c.requires.filling) old
    (rw number at (c.add_row.ensures table node is stated (rw number old.counts.temporals_are) (rw number old.all_rows)))
    c.add_lanes.array_long
    (λ rows all.
    rw number at (c.add_lanes.ensures table node is stated.count_is (rw number old.counts) (rw number rows) (rw number all)))
    (c.with.ensures node c.args.n operator_is old.counts)
