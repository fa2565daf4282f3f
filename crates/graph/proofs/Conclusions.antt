-- What the machine has shown when it stops. With the root loop through and the outer stack empty, nothing is cyan, finished places step to
-- finished ones, and every initial place is finished: no marked place that is reached leads to itself. With a cyan place in sight of the inner
-- search, the outer stack and the inner stack above its first place are a lasso. Assumes nothing.
use Prim.Native.Nat.{ℕ, zero, suc, ◌+◌, ◌-◌, ◌≤◌, ◌<◌}
use native.Mathlib.Nat.{not-suc-le-zero}
use native.Mathlib.Omega.{arith}
use native.Mathlib.Decide.{dec_lt}
use mathlib.Core.Path.{◌≡◌, sym, ap, ◌∙◌}
use mathlib.Core.List.{List, [], ◌++◌}
use lib.Dec.{T}
use lib.ListN.{length, drop, get_or-append}
use lib.Seq.{get_or-append-add, get_or-drop}
use Rattle.graph.proofs.Graph.{◌!◌, Graph, Step, Reaches, here, step, Recurs, Lasso}
use Rattle.graph.proofs.Machine.{white, cyan, red, Finished, Finds, On, Outer, Inner}
use Rattle.graph.proofs.Stacks.{finds_step}
use Rattle.graph.proofs.Measures.{length-track}
use Rattle.graph.proofs.Pigeonhole.{recurs}

-- ---- nothing found

module _ {g : Graph} {r : ℕ} {colour : List ℕ} (o : Outer g r colour [] []) where
  finished : (x : ℕ) → white < colour ! x → Finished (colour ! x)
  finished x h = record { met = h; left = λ e. not-suc-le-zero (o.search.on_stack.stands x e).low }

  finished_reached : {x y : ℕ} → white < colour ! x → Reaches g x y → white < colour ! y
  finished_reached h here = h
  finished_reached {x} h (step {y = z} s p) = finished_reached (o.search.seen x z (finished x h) s) p

  pub nothing_found : g.P ≤ r → (x : ℕ) → x < g.P → T (g.initial x) → Recurs g x → ⊥
  nothing_found through x inside initial c =
      o.search.clear c.place
      (finished c.place (finished_reached (o.search.roots x (omega arith) inside initial) c.reached))
      c.marked c.returns

  -- so no endless path from an initial place is marked again and again, and there is no lasso
  pub nothing_endless : g.P ≤ r → (f : ℕ → ℕ) → T (g.initial (f 0)) → ((i : ℕ) → f i < g.P) → ((i : ℕ) → Step g (f i) (f (suc i)))
      → ((i : ℕ) → (j : ℕ) × (i ≤ j) × T (g.marked (f j))) → ⊥
  nothing_endless through f initial inside steps again = nothing_found through (f 0) (inside 0) initial (recurs f inside steps again)

-- ---- found

module _ {g : Graph} {r w d e : ℕ} {colour outer cursors inner inner_cursors : List ℕ} (n : Inner g r w d colour outer cursors inner inner_cursors) (deep : length inner ≡ suc e) where
  -- entry i of the track is the outer stack's up to its top, which is the inner stack's first
  track_outer : (i : ℕ) → i ≤ d → (outer ++ drop 1 inner) ! i ≡ outer ! i
  track_outer i h = get_or-append outer (drop 1 inner) 0 i (omega (arith, n.deep))

  track_inner : (j : ℕ) → j ≤ e → (outer ++ drop 1 inner) ! (d + j) ≡ inner ! j
  track_inner zero h =
      ap (λ (k : ℕ). (outer ++ drop 1 inner) ! k) (omega arith) ∙ track_outer d (omega arith) ∙ sym (n.inner_path.starts (omega arith))
  track_inner (suc j) h =
      ap (λ (k : ℕ). (outer ++ drop 1 inner) ! k) (omega (arith, n.deep))
      ∙ get_or-append-add outer (drop 1 inner) j 0
      ∙ get_or-drop 1 inner j 0
      ∙ ap (λ (k : ℕ). inner ! k) (omega arith)

  track_step : (i : ℕ) → suc i < length outer + e → Dec (suc i < length outer) → Step g ((outer ++ drop 1 inner) ! i) ((outer ++ drop 1 inner) ! suc i)
  track_step i h (yes low) =
      rw (track_outer i (omega (arith, n.deep)), track_outer (suc i) (omega (arith, n.deep))) (n.search.stack.steps i low)
  track_step i h (no high) = go (i - d) (omega (arith, n.deep))
    where
      go : (j : ℕ) → i ≡ d + j → Step g ((outer ++ drop 1 inner) ! i) ((outer ++ drop 1 inner) ! suc i)
      go j q =
          let q' : suc i ≡ d + suc j = omega arith in
          rw (q', q, track_inner j (omega (arith, n.deep)), track_inner (suc j) (omega (arith, n.deep)))
          (n.inner_path.stack.steps j (omega (arith, n.deep)))

  track_place : (i : ℕ) → i < length outer + e → Dec (i < length outer) → (outer ++ drop 1 inner) ! i < g.P
  track_place i h (yes low) = omega (arith, track_outer i (omega (arith, n.deep)), n.search.stack.places i low)
  track_place i h (no high) = go (i - d) (omega (arith, n.deep))
    where
      go : (j : ℕ) → i ≡ d + j → (outer ++ drop 1 inner) ! i < g.P
      go j q =
          rw (q, track_inner j (omega (arith, n.deep))) (n.inner_path.stack.places j (omega (arith, n.deep)))

  -- the scan from the inner top finds a cyan place: it stands on the outer stack
  pub found_on : {c y : ℕ} → Finds g red colour (inner ! e) (inner_cursors ! e) c y → colour ! y ≡ cyan → On outer y
  found_on {y = y} f is = n.search.on_stack.stands y is

  -- with p its index there, the stem is what stands below p
  pub found : {c y : ℕ} → Finds g red colour (inner ! e) (inner_cursors ! e) c y → (p : ℕ) → p < length outer → outer ! p ≡ y
      → Lasso g (outer ++ drop 1 inner) p (length outer + e - p)
  found {y = y} f p low is = record {
    loops = omega (arith, n.deep);
    stored = omega (arith, length-track n deep);
    places = λ i h. track_place i (omega arith) (dec_lt i (length outer));
    begins = rw (track_outer 0 (omega arith)) (n.search.on_stack.begins (omega arith));
    steps = λ i h. track_step i (omega arith) (dec_lt (suc i) (length outer));
    closes =
        let q : p + (length outer + e - p) - 1 ≡ d + e = omega (arith, n.deep) in
        rw (q, track_inner e (omega arith), track_outer p (omega (arith, n.deep)), is) (finds_step f);
    marks = (d, omega (arith, n.deep), omega (arith, n.deep), rw (track_outer d (omega arith)) n.marked);
  }
