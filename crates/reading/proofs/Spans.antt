-- Where the parts lie: each is the bytes between two offsets. Assumes nothing.
use Rattle.std.specs.Prelude.{Ok}
use Prim.Native.Nat.{ℕ, ◌+◌, ◌*◌, ◌-◌, ◌≤◌}
use mathlib.Core.Path.{◌≡◌, refl, sym, ap₂, ◌∙◌}
use mathlib.Core.List.{List}
use native.Mathlib.Omega.{arith}
use lib.ListN.{length, get_or, take, drop}
use Rattle.reading.specs.Parts.{Parts}
use Rattle.reading.specs.Refusals.{length_at, at03, at04, parts_of, fields_refusal}
use Rattle.reading.proofs.Fields.{fields_passed}

module _ (bytes : List ℕ) where
  between : (a e a' n : ℕ) → a ≡ a' → e ≡ a + n → take (e - a) (drop a bytes) ≡ take n (drop a' bytes)
  between a e a' n p q = let size : e - a ≡ n = omega arith in ap₂ (λ (x y : ℕ). take x (drop y bytes)) size p

  pub state_part : (e : ℕ) → e ≡ 8 + 3 * get_or bytes 3 0 → take (e - 8) (drop 8 bytes) ≡ (parts_of bytes).state_list
  unfolding parts_of
  state_part e q = between 8 e 8 (3 * get_or bytes 3 0) refl q

  pub edge_part : (a e : ℕ) → a ≡ at03 bytes + 3 → e ≡ a + length_at bytes (at03 bytes) → take (e - a) (drop a bytes) ≡ (parts_of bytes).edge_list
  unfolding parts_of
  edge_part a e p q = between a e (at03 bytes + 3) (length_at bytes (at03 bytes)) p q

  pub node_part : (a e : ℕ) → a ≡ at04 bytes + 3 → e ≡ a + length_at bytes (at04 bytes) → take (e - a) (drop a bytes) ≡ (parts_of bytes).node_list
  unfolding parts_of
  node_part a e p q = between a e (at04 bytes + 3) (length_at bytes (at04 bytes)) p q

-- the offsets of a case whose fields are right
pub record Offsets (bytes : List ℕ) : Type 0 where
  pub few_states : get_or bytes 3 0 ≤ 64
  pub few_atoms : get_or bytes 4 0 ≤ 16
  pub states_end : 11 + 3 * get_or bytes 3 0 ≤ length bytes
  pub edges_few : length_at bytes (at03 bytes) ≤ 1024
  pub edges_end : at04 bytes ≡ 11 + 3 * get_or bytes 3 0 + length_at bytes (at03 bytes)
  pub nodes_few : length_at bytes (at04 bytes) ≤ 96
  pub nodes_end : length bytes ≡ at04 bytes + 3 + length_at bytes (at04 bytes)

at04_is : (bytes : List ℕ) → at04 bytes ≡ 11 + 3 * get_or bytes 3 0 + length_at bytes (at03 bytes)
unfolding at04
at04_is bytes = omega arith

pub offsets : (bytes : List ℕ) → fields_refusal bytes ≡ Ok tt → Offsets bytes
offsets bytes e =
    let f = fields_passed bytes e in
    record {
      few_states = f.range.few_states;
      few_atoms = f.range.few_atoms;
      states_end = omega (arith, f.third.head);
      edges_few = f.third.size.below;
      edges_end = at04_is bytes;
      nodes_few = f.fourth.size.below;
      nodes_end = omega (arith, f.fourth.value, f.ends);
    }

first_is : (bytes : List ℕ) → (parts_of bytes).states ≡ get_or bytes 3 0
unfolding parts_of
first_is bytes = refl

second_is : (bytes : List ℕ) → (parts_of bytes).atoms ≡ get_or bytes 4 0
unfolding parts_of
second_is bytes = refl

-- the parts as they are taken, with S, A and the length of field 03 read from the bytes
pub parts_taken : (bytes : List ℕ) → Offsets bytes → (s a l : ℕ) → s ≡ get_or bytes 3 0 → a ≡ get_or bytes 4 0 → l ≡ length_at bytes (at03 bytes)
    → ◌≡◌ {A = Parts}
    (record {
      states = s;
      atoms = a;
      state_list = take (8 + 3 * s - 8) (drop 8 bytes);
      edge_list = take (8 + 3 * s + 3 + l - (8 + 3 * s + 3)) (drop (8 + 3 * s + 3) bytes);
      node_list = take (length bytes - (8 + 3 * s + 3 + l + 3)) (drop (8 + 3 * s + 3 + l + 3) bytes);
    })
    (parts_of bytes)
parts_taken bytes o s a l p q r =
    λ i.
    record {
      states = (p ∙ sym (first_is bytes)) i;
      atoms = (q ∙ sym (second_is bytes)) i;
      state_list = state_part bytes (8 + 3 * s) (omega arith) i;
      edge_list = edge_part bytes (8 + 3 * s + 3) (8 + 3 * s + 3 + l) (omega arith) (omega arith) i;
      node_list = node_part bytes (8 + 3 * s + 3 + l + 3) (length bytes) (omega (arith, o.edges_end)) (omega (arith, o.edges_end, o.nodes_end)) i;
    }
