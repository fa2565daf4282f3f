-- A step of the case's graph is a step of its product; so a lasso of the graph is a run that violates, and a graph that has no endless
-- path on which marks recur is that of a case that holds. Assumes nothing.
use Prim.Native.Nat.{ℕ, suc, ◌+◌, ◌-◌, ◌*◌, ◌≤◌, ◌<◌}
use native.Mathlib.Omega.{arith}
use mathlib.Core.Path.{◌≡◌, sym, ap, ◌∙◌}
use mathlib.Core.List.{List, []}
use mathlib.Core.Logic.{◌↔◌}
use lib.Dec.{T}
use lib.ListN.{length, get_or}
use Rattle.meaning.specs.Runs.{Violates, Holds}
use Rattle.reading.specs.Parts.{Parts, table_of, rule_of, to_of, node_count, node_of, places}
use Rattle.reading.proofs.Admitted.{Admitted}
use Rattle.graph.proofs.Graph.{◌!◌, Step, Lasso}
use Rattle.graph.proofs.Machine.{Outer}
use Rattle.graph.proofs.Conclusions.{nothing_endless}
use Rattle.product.specs.Places.{Place}
use Rattle.product.specs.Product.{place, size, numbering, successor}
use Rattle.product.proofs.Lassos.{Path}
use Rattle.product.proofs.Numbers.{place_path, place_numbering, numbering_place}
use Rattle.product.proofs.Published.{sound, complete}
use Rattle.product.proofs.Steps.{successor↔tests}
use Rattle.workspace.proofs.Setting.{product_of, start_of, edge_at, candidate, cursors_of}
use Rattle.workspace.proofs.Case.{Leads, width_is, size_is, guesses_within, next_within, candidate_leads, leads_candidate, graph_of}
use Rattle.workspace.proofs.Edges.{Edge, edge_found, edge_from, edge_before}

module _ (p : Parts) (a : Admitted p) where
  -- a candidate's number gives the candidate back
  pub leads_place : {from : Place} {c y : ℕ} → Leads p from c y → place (product_of p) y ≡ candidate p from c
  leads_place {from} {c} l =
      ap (place (product_of p)) (sym l.numbered_so)
      ∙ place_numbering (product_of p) (candidate p from c)
      ((successor↔tests (product_of p) from (candidate p from c)).0 l.follows).1
      (next_within (product_of p) from)

  step_follows : {x y : ℕ} → Step (graph_of p a) x y → T (successor (product_of p) (place (product_of p) x) (place (product_of p) y))
  step_follows {x} {y} s =
      let l = candidate_leads p x s.cursor y s.leads in
      rw (leads_place l) l.follows

  -- a successor is the candidate at the cursor of the edge and its bits
  follows_leads : (from to : Place) → T (successor (product_of p) from to) → Edge p.edge_list from.state to.state
      → (c : ℕ) × (c < cursors_of p) × Leads p from c (numbering (product_of p) to)
  follows_leads from to t e = (
    cursor,
    bound,
    record {
      edge_below = rw at_edge (edge_before p a from.state e.edge e.below e.leaves);
      follows = rw is t;
      numbered_so = ap (numbering (product_of p)) is;
    },
  )
    where
      bits_below : to.bits < 16
      bits_below =
          omega (arith, rw (width_is p a) at ((successor↔tests (product_of p) from to).0 t).1, guesses_within p a)

      first : start_of p.edge_list from.state ≤ e.edge
      first = edge_from p a from.state e.edge e.below e.leaves

      cursor : ℕ
      cursor = (e.edge - start_of p.edge_list from.state) * 16 + to.bits

      bound : cursor < cursors_of p
      bound = omega (arith, e.below, bits_below)

      at_edge : edge_at p from cursor ≡ e.edge
      at_edge = omega (arith, bits_below, first)

      is : candidate p from cursor ≡ to
      is = place_path (ap (to_of p.edge_list) at_edge ∙ e.enters) (omega (arith, bits_below)) (sym ((successor↔tests (product_of p) from to).0 t).3)

  pub step_law : (x y : ℕ) → x < places p → y < places p
      → Step (graph_of p a) x y ↔ T (successor (product_of p) (place (product_of p) x) (place (product_of p) y))
  step_law x y hx hy = (step_follows, back)
    where
      back : T (successor (product_of p) (place (product_of p) x) (place (product_of p) y)) → Step (graph_of p a) x y
      back t = go (follows_leads (place (product_of p) x) (place (product_of p) y) t (edge_found p.edge_list _ _ ((successor↔tests (product_of p) _ _).0 t).0))
        where
          go : (c : ℕ) × (c < cursors_of p) × Leads p (place (product_of p) x) c (numbering (product_of p) (place (product_of p) y))
              → Step (graph_of p a) x y
          go (c, l, h) =
              record { cursor = c; below = l; leads = leads_candidate p x c y (rw (numbering_place (product_of p) y) at h) }

  -- a lasso of the graph, with a track of its states, is a run that violates
  pub found_violates : (entries track : List ℕ) (k m : ℕ) → Lasso (graph_of p a) entries k m → k + m ≤ length track
      → ((i : ℕ) → i < k + m → get_or track i 0 ≡ (place (product_of p) (entries ! i)).state)
      → Violates (table_of p) (rule_of p) track k m
  found_violates entries track k m l stored tracked =
      sound (table_of p) (node_of p.node_list) (node_count p.node_list) a.ordered a.some_node entries track k m
      (record {
        loops = l.loops;
        stored = l.stored;
        places = λ i h. omega (arith, size_is p a, l.places i h);
        begins = l.begins;
        steps = λ i h. step_follows (l.steps i h);
        closes = step_follows l.closes;
        marks = l.marks;
      })
      stored tracked

  -- a search that is through without finding one: no run violates
  pub nothing_holds : (r : ℕ) (colour : List ℕ) → Outer (graph_of p a) r colour [] [] → places p ≤ r → Holds (table_of p) (rule_of p)
  nothing_holds r colour outer through track k m violates =
      go (complete (table_of p) (node_of p.node_list) (node_count p.node_list) a.ordered a.some_node track k m violates)
    where
      go : (x : ℕ → ℕ) × ((i : ℕ) → x i < size (product_of p)) × Path (product_of p) (λ i. place (product_of p) (x i)) → ⊥
      go (x, inside, path) =
          let below : (i : ℕ) → x i < places p = λ i. omega (arith, size_is p a, inside i) in
          nothing_endless outer through x path.begins below
          (λ i. (step_law (x i) (x (suc i)) (below i) (below (suc i))).1 (path.goes_on i))
          path.marks
