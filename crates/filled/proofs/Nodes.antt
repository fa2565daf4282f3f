-- The lists of temporal nodes and of promises grow by node n or stay; promises are no more than temporal nodes; and what an
-- admitted case gives of each node. Assumes nothing.
use Prim.Native.Nat.{ℕ, zero, suc, ◌+◌, ◌*◌, ◌/◌, ◌≤◌, ◌<◌}
use native.Mathlib.Omega.{arith}
use native.Mathlib.Nat.{eq-or-lt_of_le}
use mathlib.Core.Path.{◌≡◌, refl, sym, ap, ◌∙◌, subst}
use mathlib.Core.Bool.{Bool, true, false, cond}
use mathlib.Core.Logic.{◌⊎◌, inl, inr}
use mathlib.Core.List.{List, [], append-nil}
use lib.Dec.{leb}
use lib.ListN.{length, get_or, get_or-append}
use lib.Seq.{get_or-append_seam}
use borrow.Author.Tests.{le-leb, lt-leb, leb-true}
use Rattle.meaning.specs.Table.{Node}
use Rattle.reading.specs.Lowest.{count}
use Rattle.reading.specs.Parts.{label_of, node_of, node_count, table_of, operator_from, operators_from, temporals}
use Rattle.reading.proofs.Admitted.{Admitted}
use Rattle.product.specs.Product.{nodes_from, temporal, promised}
use Rattle.product.proofs.Nodes.{nodes_from_length, nodes_from_counts}
use Rattle.filled.proofs.Filling.{Filling, Counted, Ready, Stated}

module _ (operator : ℕ) (node : ℕ → Node) where
  pub list_same : (n : ℕ) → (node n).operator < operator → nodes_from operator node (suc n) ≡ nodes_from operator node n
  unfolding nodes_from
  list_same n h = rw (lt-leb operator (node n).operator h) (append-nil (nodes_from operator node n))

  pub length_more : (n : ℕ) → operator ≤ (node n).operator
      → length (nodes_from operator node (suc n)) ≡ length (nodes_from operator node n) + 1
  length_more n h = nodes_from_length operator node n ∙ rw (le-leb operator (node n).operator h)

  -- earlier numbers keep their nodes, and the next number is node n's
  pub entry_early : (n t : ℕ) → t < length (nodes_from operator node n)
      → get_or (nodes_from operator node (suc n)) t 0 ≡ get_or (nodes_from operator node n) t 0
  unfolding nodes_from
  entry_early n t h = get_or-append (nodes_from operator node n) _ 0 t h

  pub entry_last : (n : ℕ) → operator ≤ (node n).operator
      → get_or (nodes_from operator node (suc n)) (length (nodes_from operator node n)) 0 ≡ n
  unfolding nodes_from
  entry_last n h = rw (le-leb operator (node n).operator h) (get_or-append_seam (nodes_from operator node n) n [] 0)

  length_grows : (m n : ℕ) → n ≤ m → length (nodes_from operator node n) ≤ length (nodes_from operator node m)
  length_grows zero n h = let e : n ≡ 0 = omega arith in rw e (omega arith)
  length_grows (suc m) n h = go (eq-or-lt_of_le h) (length_grows m n)
    where
      go : (n ≡ suc m) ⊎ (n < suc m) → (n ≤ m → length (nodes_from operator node n) ≤ length (nodes_from operator node m))
          → length (nodes_from operator node n) ≤ length (nodes_from operator node (suc m))
      go (inl e) before = rw e (omega arith)
      go (inr l) before = omega (arith, before (omega arith), nodes_from_length operator node m)

module _ (node : ℕ → Node) where
  pub promises_fewer : (n : ℕ) → length (promised node n) ≤ length (temporal node n)
  unfolding nodes_from
  promises_fewer zero = omega arith
  promises_fewer (suc n) =
      omega (arith, promises_fewer n, nodes_from_length 6 node n, nodes_from_length 7 node n, at_most (node n).operator)
    where
      at_most : (o : ℕ) → cond (leb 7 o) 1 0 ≤ cond (leb 6 o) 1 0
      at_most o = go (leb 7 o) refl
        where
          go : (here : Bool) → leb 7 o ≡ here → cond here 1 0 ≤ cond (leb 6 o) 1 0
          go true e = let h : 7 ≤ o = leb-true 7 o e in rw (le-leb 6 o (omega arith)) (omega arith)
          go false e = omega arith

  pub counted_plain : (n T E : ℕ) → (node n).operator < 6 → Counted node n T E → Counted node (suc n) T E
  counted_plain n T E h c =
      record {
        temporals_are = rw (list_same 6 node n h) c.temporals_are;
        promises_are = rw (list_same 7 node n (omega arith)) c.promises_are;
      }

  pub counted_next : (n T E : ℕ) → (node n).operator ≡ 6 → Counted node n T E → Counted node (suc n) (T + 1) E
  counted_next n T E h c =
      record {
        temporals_are = rw (length_more 6 node n (omega arith)) (ap (λ (x : ℕ). x + 1) c.temporals_are);
        promises_are = rw (list_same 7 node n (omega arith)) c.promises_are;
      }

  pub counted_promise : (n T E : ℕ) → 7 ≤ (node n).operator → Counted node n T E → Counted node (suc n) (T + 1) (E + 1)
  counted_promise n T E h c =
      record {
        temporals_are = rw (length_more 6 node n (omega arith)) (ap (λ (x : ℕ). x + 1) c.temporals_are);
        promises_are = rw (length_more 7 node n h) (ap (λ (x : ℕ). x + 1) c.promises_are);
      }

  pub counted_none : Counted node 0 0 0
  unfolding nodes_from
  counted_none = record { temporals_are = refl; promises_are = refl }

-- ---- what an admitted case gives

module _ {states nodes : List ℕ} {n : ℕ} (f : Filling states nodes n) where
  abbrev pub filling_below : (x : ℕ) → x ≤ n → Filling states nodes x
  filling_below x h =
      record { parts = f.parts; admitted = f.admitted; states_are = f.states_are; nodes_are = f.nodes_are; within = omega arith }

  pub state_bytes : length states ≡ 3 * f.parts.states
  state_bytes = rw f.states_are f.admitted.state_bytes

  pub few_states : length states / 3 ≤ 64
  few_states = omega (arith, state_bytes, f.admitted.few_states)

  pub stated : Stated (table_of f.parts) states
  stated =
      record {
        count_is = omega (arith, state_bytes);
        labels_are = λ s. ap (λ (l : List ℕ). label_of l s) (sym f.states_are);
      }

  node_count_lem : n ≤ node_count f.parts.node_list
  node_count_lem = subst (λ (l : List ℕ). n ≤ node_count l) f.nodes_are f.within

  pub ready : (x : ℕ) → x < n → Ready (node_of nodes x) x
  ready x h = subst (λ (l : List ℕ). Ready (node_of l x) x) (sym f.nodes_are) of_parts
    where
      a : Admitted f.parts
      a = f.admitted

      here : x < node_count f.parts.node_list
      here = omega (arith, node_count_lem)

      of_parts : Ready (node_of f.parts.node_list x) x
      of_parts =
          record {
            low = omega (arith, here, a.few_nodes);
            known = a.ordered.known x here;
            first_lower = a.ordered.first_lower x here;
            second_lower = a.ordered.second_lower x here;
            atom_low = λ e. omega (arith, a.atoms_below x here e, a.few_atoms);
          }

  pub few_temporals : length (temporal (node_of nodes) n) ≤ 4
  unfolding count operator_from operators_from
  few_temporals =
      subst (λ (l : List ℕ). length (temporal (node_of l) n) ≤ 4) (sym f.nodes_are)
      (omega (arith, length_grows 6 (node_of nodes') (node_count nodes') n node_count_lem, all, f.admitted.few_temporals))
    where
      nodes' : List ℕ
      nodes' = f.parts.node_list

      all : length (temporal (node_of nodes') (node_count nodes')) ≡ temporals f.parts
      all =
          nodes_from_counts 6 (node_of nodes') (λ x. count (operator_from 6 nodes') x) refl (λ x. refl) (node_count nodes')
          f.admitted.ordered.known
