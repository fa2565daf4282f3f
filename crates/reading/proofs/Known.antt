-- What is known of a case that was read: its parts are `Admitted`, and its shape is theirs. From the rows' facts, by the order
-- in which the rows stand. Assumes nothing.
use Rattle.std.specs.Prelude.{Ok, Err}
use Prim.Native.Nat.{ℕ, ◌*◌, ◌≤◌}
use mathlib.Core.Path.{◌≡◌, refl, ap}
use mathlib.Core.List.{List}
use native.Mathlib.Omega.{arith}
use native.Mathlib.Nat.{lt_of_lt_of_le}
use lib.Pow.{pow_mono}
use lib.ListN.{length, length-take, length-drop}
use borrow.Author.Tests.{ltb-false}
use Rattle.reading.specs.Parts.{Parts, edge_count, node_count, temporals, eventualities}
use Rattle.reading.specs.Refusals.{length_at, at03, at04, parts_of, states_refusal, edges_refusal, dead_end_refusal, nodes_refusal, temporals_refusal, parts_refusal, fields_refusal, refusal, shape_of, read_as, case_of}
use Rattle.reading.proofs.Admitted.{Admitted}
use Rattle.reading.specs.Refusals.{Check}
use Rattle.reading.specs.declared.Shape.{Shape}
use Rattle.reading.proofs.Fields.{then_first, then_later, not_refused, Fields, fields_passed}
use Rattle.reading.proofs.Facts.{label_low, flag_low, no_bit_above, from_below, to_below, in_order, edges_rise, known_operator, first_operand_lower, second_operand_lower, atom_below, first_zero, second_zero, eventualities_temporal}

-- ---- the parts' sizes

pub record Sizes (bytes : List ℕ) : Type 0 where
  pub states_range : (1 ≤ (parts_of bytes).states) × ((parts_of bytes).states ≤ 64)
  pub atoms_range : (parts_of bytes).atoms ≤ 16
  pub state_size : length (parts_of bytes).state_list ≡ 3 * (parts_of bytes).states
  pub edge_size : length (parts_of bytes).edge_list ≡ length_at bytes (at03 bytes)
  pub node_size : length (parts_of bytes).node_list ≡ length_at bytes (at04 bytes)

pub sizes : (bytes : List ℕ) → Fields bytes → Sizes bytes
unfolding parts_of
sizes bytes f =
    record {
      states_range = (f.range.some_state, f.range.few_states);
      atoms_range = f.range.few_atoms;
      state_size = simp (length-take, length-drop) (omega (arith, f.second.value, f.second.size.above));
      edge_size = simp (length-take, length-drop) (omega (arith, f.third.value));
      node_size = simp (length-take, length-drop) (omega (arith, f.fourth.value));
    }

-- ---- admitted

pub passed_fields : (bytes : List ℕ) → refusal bytes ≡ Ok tt → fields_refusal bytes ≡ Ok tt
unfolding refusal
passed_fields bytes e = then_first _ _ e

pub passed_parts : (bytes : List ℕ) → refusal bytes ≡ Ok tt → parts_refusal (parts_of bytes) ≡ Ok tt
unfolding refusal
passed_parts bytes e = then_later (fields_refusal bytes) _ e

pub record Rows (p : Parts) : Type 0 where
  pub by_states : states_refusal p.states p.atoms p.state_list ≡ Ok tt
  pub by_edges : edges_refusal p.states p.edge_list ≡ Ok tt
  pub by_nodes : nodes_refusal p.atoms p.node_list ≡ Ok tt
  pub by_temporals : temporals_refusal p.node_list ≡ Ok tt

pub rows_passed : (p : Parts) → parts_refusal p ≡ Ok tt → Rows p
unfolding parts_refusal
rows_passed p e =
    let e₁ = then_later (states_refusal p.states p.atoms p.state_list) _ e in
    let e₂ = then_later (edges_refusal p.states p.edge_list) _ e₁ in
    let e₃ = then_later (dead_end_refusal p.states p.edge_list) _ e₂ in
    record {
      by_states = then_first _ _ e;
      by_edges = then_first _ _ e₁;
      by_nodes = then_first _ _ e₃;
      by_temporals = then_later (nodes_refusal p.atoms p.node_list) _ e₃;
    }

temporals_few : (p : Parts) → temporals_refusal p.node_list ≡ Ok tt → temporals p ≤ 4
unfolding temporals_refusal
temporals_few p e = ltb-false _ _ (not_refused _ _ e)

module _ (bytes : List ℕ) (e : refusal bytes ≡ Ok tt) where
  fields : Fields bytes
  fields = fields_passed bytes (passed_fields bytes e)

  size : Sizes bytes
  size = sizes bytes fields

  rows : Rows (parts_of bytes)
  rows = rows_passed (parts_of bytes) (passed_parts bytes e)

  pub admitted : Admitted (parts_of bytes)
  admitted =
      record {
        some_state = size.states_range.0;
        few_states = size.states_range.1;
        few_atoms = size.atoms_range;
        state_bytes = size.state_size;
        edge_bytes = omega (arith, size.edge_size, fields.third.size.multiple);
        some_edge = omega (arith, size.edge_size, fields.third.size.above);
        few_edges = omega (arith, size.edge_size, fields.third.size.below);
        node_bytes = omega (arith, size.node_size, fields.fourth.size.multiple);
        some_node = omega (arith, size.node_size, fields.fourth.size.above);
        few_nodes = omega (arith, size.node_size, fields.fourth.size.below);
        labels_low = label_low _ _ _ rows.by_states;
        labels_fit = λ s h. lt_of_lt_of_le (label_low _ _ _ rows.by_states s h) (pow_mono {j = 16} size.atoms_range);
        no_higher_bit = λ s h j l. no_bit_above _ _ j (label_low _ _ _ rows.by_states s h) l;
        flags_low = flag_low _ _ _ rows.by_states;
        from_states = from_below _ _ rows.by_edges;
        to_states = to_below _ _ rows.by_edges;
        rises = λ i h. edges_rise _ i (in_order _ _ rows.by_edges (Prim.Native.Nat.suc i) h);
        ordered =
            record {
              known = known_operator _ _ rows.by_nodes;
              first_lower = first_operand_lower _ _ rows.by_nodes;
              second_lower = second_operand_lower _ _ rows.by_nodes;
            };
        atoms_below = atom_below _ _ rows.by_nodes;
        first_unused = first_zero _ _ rows.by_nodes;
        second_unused = second_zero _ _ rows.by_nodes;
        few_temporals = temporals_few (parts_of bytes) rows.by_temporals;
        fewer_eventualities = eventualities_temporal _;
      }

-- ---- what a caller of `admit` knows once it has the shape

pub record Known (bytes : List ℕ) (shape : Shape) : Type 0 where
  pub passed : refusal bytes ≡ Ok tt
  pub facts : Admitted (parts_of bytes)
  pub states_is : shape.states ≡ (parts_of bytes).states
  pub atoms_is : shape.atoms ≡ (parts_of bytes).atoms
  pub edges_is : shape.edges ≡ edge_count (parts_of bytes).edge_list
  pub nodes_is : shape.nodes ≡ node_count (parts_of bytes).node_list
  pub temporals_is : shape.temporals ≡ temporals (parts_of bytes)
  pub eventualities_is : shape.eventualities ≡ eventualities (parts_of bytes)

pub known : (bytes : List ℕ) (shape : Shape) → case_of bytes ≡ Ok shape → Known bytes shape
unfolding case_of shape_of
known bytes shape e = go (refusal bytes) refl e
  where
    go : (c : Check) → refusal bytes ≡ c → read_as c (shape_of (parts_of bytes)) ≡ Ok shape → Known bytes shape
    go (Err r) p q = absurd (let z : ◌≡◌ {A = ℕ} 0 1 = cc in omega arith)
    go (Ok _) p q =
        let same : shape ≡ shape_of (parts_of bytes) = cc in
        record {
          passed = p;
          facts = admitted bytes p;
          states_is = ap (λ (x : Shape). x.states) same;
          atoms_is = ap (λ (x : Shape). x.atoms) same;
          edges_is = ap (λ (x : Shape). x.edges) same;
          nodes_is = ap (λ (x : Shape). x.nodes) same;
          temporals_is = ap (λ (x : Shape). x.temporals) same;
          eventualities_is = ap (λ (x : Shape). x.eventualities) same;
        }
