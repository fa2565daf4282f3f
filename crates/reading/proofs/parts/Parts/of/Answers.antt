-- `reading::parts::Parts::of` meets its contract. The three slices are the parts that `parts_of` takes by position (`Spans`).
-- Assumes nothing.
use Prim.Native.Nat.{ℕ, ◌+◌, ◌*◌}
use mathlib.Core.Path.{◌≡◌, ap, ◌∙◌}
use native.Mathlib.Omega.{arith}
use mathlib.Core.List.{List}
use lib.ListN.{get_or, length-take, length-drop}
use Rattle.reading.specs.Refusals.{length_at, at03}
use Rattle.reading.proofs.Spans.{offsets, parts_taken}
use Rattle.reading.proofs.parts.Parts.of.Goals as goal

-- the length of field 03, at the place that the number of states gives
size_is : (bytes : List ℕ) (states size : ℕ) → states ≡ get_or bytes 3 0 → size ≡ length_at bytes (8 + 3 * states)
    → size ≡ length_at bytes (at03 bytes)
size_is bytes states size e h = h ∙ ap (λ (s : ℕ). length_at bytes (8 + 3 * s)) e

pub byte-states-requires : goal.byte-states-requires
byte-states-requires c = omega (arith, offsets _ c.requires)

pub length_at-requires : goal.length_at-requires
length_at-requires c = omega (arith, offsets _ c.requires, c.byte-states.ensures.value)

pub slice_bounds-state_list-end : goal.slice_bounds-state_list-end
slice_bounds-state_list-end c = omega (arith, offsets _ c.requires, c.byte-states.ensures.value)

pub slice_bounds-edge_list-end : goal.slice_bounds-edge_list-end
slice_bounds-edge_list-end c = omega (arith, offsets _ c.requires, c.byte-states.ensures.value, size_is _ _ _ c.byte-states.ensures.value c.length_at.ensures.value)

pub slice_bounds-node_list-count : goal.slice_bounds-node_list-count
slice_bounds-node_list-count c = omega (arith, offsets _ c.requires, c.byte-states.ensures.value, size_is _ _ _ c.byte-states.ensures.value c.length_at.ensures.value)

pub slice_bounds-node_list-start : goal.slice_bounds-node_list-start
slice_bounds-node_list-start c = omega (arith, offsets _ c.requires, c.byte-states.ensures.value, size_is _ _ _ c.byte-states.ensures.value c.length_at.ensures.value)

pub byte-requires : goal.byte-requires
byte-requires c = omega (arith, offsets _ c.requires)

pub invariant_of-result : goal.invariant_of-result
invariant_of-result c =
    record {
      few_states = simp (length-take, length-drop) (omega (arith, offsets _ c.requires, c.byte-states.ensures.value));
      few_atoms = omega (arith, offsets _ c.requires, c.byte.ensures.value);
    }

pub returns : goal.returns
returns c =
    parts_taken _ (offsets _ c.requires) _ _ _ c.byte-states.ensures.value c.byte.ensures.value (size_is _ _ _ c.byte-states.ensures.value c.length_at.ensures.value)
