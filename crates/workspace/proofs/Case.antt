-- The graph of a case: its sizes, its candidates, and the codes by which the stacks hold its places. Assumes nothing.
use Prim.Native.Nat.{ℕ, suc, ◌+◌, ◌*◌, ◌/◌, ◌%◌, ◌^◌, ◌≤◌, ◌<◌}
use native.Mathlib.Omega.{arith}
use mathlib.Core.Path.{◌≡◌, refl, sym, ap, ap₂, ◌∙◌, subst}
use mathlib.Core.Bool.{Bool, true, false, cond, ◌&&◌}
use mathlib.Core.List.{List}
use mathlib.Core.Option.{Option, some, none}
use lib.Dec.{T, ltb}
use lib.ListN.{length}
use lib.Pow.{pow_mono}
use borrow.Author.Tests.{ltb-true, lt-ltb}
use Rattle.meaning.proofs.Truths.{T-along, T_is_true}
use Rattle.reading.specs.Lowest.{count}
use Rattle.reading.specs.Parts.{Parts, table_of, edge_count, node_count, node_of, operator_from, operators_from, temporals, eventualities, places}
use Rattle.reading.proofs.Admitted.{Admitted}
use Rattle.reading.proofs.Lowest.{lowest_le}
use Rattle.graph.proofs.Graph.{Graph}
use Rattle.product.specs.Places.{Place}
use Rattle.product.specs.Product.{Product, nodes_from, width, top, size, place, numbering, met, next, marked, initial, successor}
use Rattle.product.proofs.Nodes.{nodes_from_counts}
use Rattle.product.proofs.Promises.{published_top}
use Rattle.product.proofs.Numbers.{place_path, code_state, code_bits, code_waiting, numbering_below, place_numbering}
use Rattle.product.proofs.Steps.{successor↔tests}
use Rattle.workspace.proofs.Setting.{product_of, start_of, edge_at, candidate, cand_of, cursors_of, code_of, decoded, number_of, number_in, Coded}

-- ---- the sizes

-- as many nodes as have an operator from `low` to 11
counted : (p : Parts) → Admitted p → (low : ℕ)
    → length (nodes_from low (node_of p.node_list) (node_count p.node_list)) ≡ operators_from low p.node_list
unfolding operators_from operator_from count
counted p a low =
    nodes_from_counts low (node_of p.node_list) (count (operator_from low p.node_list)) refl (λ i. refl) (node_count p.node_list)
    a.ordered.known

module _ (p : Parts) (a : Admitted p) where
  pub width_is : width (product_of p) ≡ temporals p
  unfolding width
  width_is = counted p a 6

  pub top_is : top (product_of p) ≡ eventualities p
  top_is = published_top (table_of p) (node_of p.node_list) (node_count p.node_list) ∙ counted p a 7

  pub size_is : size (product_of p) ≡ places p
  unfolding size Rattle.product.specs.Places.places
  size_is = ap₂ (λ (t e : ℕ). p.states * 2 ^ t * (e + 1)) width_is top_is

-- ---- the graph

-- a waiting number moves within 0 to E
pub next_within : (g : Product) (from : Place) → next g from ≤ top g
unfolding next
next_within g from = go (ltb from.waiting (top g)) refl (met g from.waiting from.state from.bits)
  where
    go : (b : Bool) → ltb from.waiting (top g) ≡ b → (m : Bool) → cond b (cond m (suc from.waiting) from.waiting) 0 ≤ top g
    go true e true = ltb-true _ _ e
    go true e false = omega (arith, ltb-true from.waiting (top g) e)
    go false e m = omega arith

-- what it is for a cursor to have a candidate: the edge is one of its state's, and the candidate is a successor
pub record Leads (p : Parts) (from : Place) (c y : ℕ) : Type 0 where
  pub edge_below : edge_at p from c < start_of p.edge_list (suc from.state)
  pub follows : T (successor (product_of p) from (candidate p from c))
  pub numbered_so : numbering (product_of p) (candidate p from c) ≡ y

pub candidate_leads : (p : Parts) (x c y : ℕ) → cand_of p x c ≡ some y → Leads p (place (product_of p) x) c y
unfolding cand_of
candidate_leads p x c y e =
    let from = place (product_of p) x in
    go from (ltb (edge_at p from c) (start_of p.edge_list (suc from.state))) refl (successor (product_of p) from (candidate p from c)) refl e
  where
    go : (from : Place) (b : Bool) → ltb (edge_at p from c) (start_of p.edge_list (suc from.state)) ≡ b
        → (f : Bool) → successor (product_of p) from (candidate p from c) ≡ f
        → ◌≡◌ {A = Option ℕ} (cond (b && f) (some (numbering (product_of p) (candidate p from c))) none) (some y)
        → Leads p from c y
    go from true below true follows e = record {
      edge_below = ltb-true _ _ below;
      follows = T-along (sym follows) tt;
      numbered_so = cc;
    }
    go from true below false follows e = absurd (let z : ◌≡◌ {A = ℕ} 0 1 = cc in omega arith)
    go from false below f follows e = absurd (let z : ◌≡◌ {A = ℕ} 0 1 = cc in omega arith)

pub leads_candidate : (p : Parts) (x c y : ℕ) → Leads p (place (product_of p) x) c y → cand_of p x c ≡ some y
unfolding cand_of
leads_candidate p x c y l =
    let follows = T_is_true (successor (product_of p) (place (product_of p) x) (candidate p (place (product_of p) x) c)) l.follows in
    rw (lt-ltb _ _ l.edge_below, follows) (ap some l.numbered_so)

-- a start is the number of an edge, or one past the last
pub start_within : (edges : List ℕ) (s : ℕ) → start_of edges s ≤ edge_count edges
start_within edges s = lowest_le _ (edge_count edges)

module _ (p : Parts) (a : Admitted p) where
  -- a candidate's state, bits and waiting number are those of a place
  pub candidate_below : (from : Place) (c y : ℕ) → Leads p from c y → y < size (product_of p)
  candidate_below from c y l =
      subst (λ (n : ℕ). n < size (product_of p)) l.numbered_so
      (numbering_below (product_of p) (candidate p from c)
      (a.to_states (edge_at p from c) (omega (arith, l.edge_below, start_within p.edge_list (suc from.state))))
      ((successor↔tests (product_of p) from (candidate p from c)).0 l.follows).1
      (next_within (product_of p) from))

  pub candidates_inside : (x c y : ℕ) → x < places p → c < cursors_of p → cand_of p x c ≡ some y → y < places p
  candidates_inside x c y h l e =
      omega (arith, size_is p a, candidate_below (place (product_of p) x) c y (candidate_leads p x c y e))

  abbrev pub graph_of : Graph
  graph_of =
      record {
        P = places p;
        D = cursors_of p;
        cand = cand_of p;
        marked = λ x. marked (product_of p) (place (product_of p) x);
        initial = λ x. initial (product_of p) (place (product_of p) x);
        inside = candidates_inside;
      }

-- ---- codes

-- a code is made of what it comes apart to
pub recoded : (code : ℕ) → code ≡ code_of (code / 128) (code / 8 % 16) (code % 8)
recoded code = omega arith

module _ (p : Parts) (a : Admitted p) where
  pub guesses_within : 2 ^ temporals p ≤ 16
  guesses_within = pow_mono a.few_temporals

  pub top_within : eventualities p ≤ 4
  top_within = omega (arith, a.few_temporals, a.fewer_eventualities)

  -- the number of a place's code, from 2 to the power T and E
  pub number_in_lem : (guesses top code : ℕ) → guesses ≡ 2 ^ temporals p → top ≡ eventualities p → number_in guesses top code ≡ number_of p code
  unfolding numbering Rattle.product.specs.Places.number_of
  number_in_lem guesses top code e f = rw (e, f, width_is p a, top_is p a)

  -- the code of a state, bits and a waiting number stands for the place that they are
  pub code_decoded : (s b w : ℕ) → b < 16 → w < 8 → decoded (code_of s b w) ≡ record { state = s; bits = b; waiting = w }
  code_decoded s b w h l = place_path (code_state s b w h l) (code_bits s b w h l) (code_waiting s b w h l)

  pub code_coded : (s b w : ℕ) → s < p.states → b < 2 ^ temporals p → w ≤ eventualities p → Coded p (code_of s b w)
  code_coded s b w s_below b_below w_within =
      let h : b < 16 = omega (arith, guesses_within) in
      let l : w < 8 = omega (arith, top_within) in
      record {
        state_below = rw (code_state s b w h l) s_below;
        bits_below = rw (code_bits s b w h l) b_below;
        waiting_within = rw (code_waiting s b w h l) w_within;
      }

  module _ {code : ℕ} (is : Coded p code) where
    pub coded_small : code < 8192
    coded_small = omega (arith, is.state_below, a.few_states)

    pub coded_below : number_of p code < places p
    coded_below =
        omega (
          arith,
          size_is p a,
          numbering_below (product_of p) (decoded code) is.state_below (rw (width_is p a) is.bits_below)
              (rw (top_is p a) is.waiting_within),
        )

    pub coded_place : place (product_of p) (number_of p code) ≡ decoded code
    coded_place =
        place_numbering (product_of p) (decoded code) (rw (width_is p a) is.bits_below) (rw (top_is p a) is.waiting_within)

  -- equal numbers mean equal codes
  pub code_injective : {code other : ℕ} → Coded p code → Coded p other → number_of p code ≡ number_of p other → code ≡ other
  code_injective {code} {other} is is' e =
      recoded code ∙ ap (λ (q : Place). code_of q.state q.bits q.waiting) same ∙ sym (recoded other)
    where
      same : decoded code ≡ decoded other
      same = sym (coded_place is) ∙ ap (place (product_of p)) e ∙ coded_place is'
