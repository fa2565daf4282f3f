-- The turns of the outer search keep the invariant: the start, a root, a root that is passed, an advance, a place left blue.
-- Assumes nothing.
use Prim.Native.Nat.{ℕ, suc, ◌+◌, ◌≤◌, ◌<◌}
use native.Mathlib.Nat.{not-suc-le-zero}
use native.Mathlib.Omega.{arith}
use native.Mathlib.Decide.{ℕ_discrete}
use mathlib.Core.Path.{◌≡◌, refl, sym, ◌∙◌, subst}
use mathlib.Core.Logic.{◌≢◌}
use mathlib.Core.List.{List, [], ◌∷◌}
use lib.Dec.{T}
use lib.ListN.{length, set, take, length-set}
use lib.Seq.{get_or-set_same}
use Rattle.graph.proofs.Graph.{◌!◌, Graph, Step, Leads}
use Rattle.graph.proofs.Machine.{push, onward, white, blue, cyan, red, Skips, Finds, Stack, Search, Outer}
use Rattle.graph.proofs.Lists.{blank, length_push, length_pop, paint_keeps, below_falls, below_stays, below_length}
use Rattle.graph.proofs.Stacks.{finds_inside, stack_start, stack_paint, top_inside, top_exhausted, stack_pop, stack_push}
use Rattle.graph.proofs.Paints.{on_stack_push, on_stack_pop, seen_paint, clear_paint, closed_paint, colours_paint}

-- ---- what holds at every turn

module _ {g : Graph} {r : ℕ} {colour outer cursors : List ℕ} (s : Search g r colour outer cursors) where
  -- a white place is pushed
  pub search_push : {moved : List ℕ} (y : ℕ) → y < g.P → colour ! y ≡ white → (length outer ≡ 0 → T (g.initial y))
      → Stack g blue (set colour y cyan) (push outer y) moved → Search g r (set colour y cyan) (push outer y) moved
  search_push y inside was first stack = record {
    sized = length-set colour y cyan ∙ s.sized;
    well_formed = colours_paint colour s.well_formed y cyan low (omega arith);
    stack = stack;
    on_stack = on_stack_push s.on_stack y low was first;
    roots = λ x l h i. paint_keeps colour y cyan x (omega arith) (s.roots x l h i);
    seen = seen_paint g colour s.seen y cyan low (omega arith) (λ n. absurd (n refl));
    clear = clear_paint g colour s.clear y cyan low (λ n. absurd (n refl));
    room = omega (arith, s.room, length_push outer y, below_falls blue colour y cyan low (omega arith) (omega arith));
  }
    where
      low : y < length colour
      low = omega (arith, s.sized)

  -- the top, which leads to no white place, and not to itself if it is marked, is left, blue or red
  pub search_leave : {d : ℕ} (v : ℕ) → length outer ≡ suc d → white < v → v ≢ cyan → v ≤ red
      → ((y : ℕ) → Step g (outer ! d) y → white < colour ! y)
      → (T (g.marked (outer ! d)) → Leads g (outer ! d) (outer ! d) → ⊥)
      → Search g r (set colour (outer ! d) v) (take d outer) (take d cursors)
  search_leave {d} v deep met left known exhausted clear = record {
    sized = length-set colour (outer ! d) v ∙ s.sized;
    well_formed = colours_paint colour s.well_formed (outer ! d) v low known;
    stack = stack_pop (stack_paint s.stack (outer ! d) v met) deep;
    on_stack = on_stack_pop s.on_stack d v deep low left;
    roots = λ x l h i. paint_keeps colour (outer ! d) v x met (s.roots x l h i);
    seen = seen_paint g colour s.seen (outer ! d) v low met (λ n. exhausted);
    clear = clear_paint g colour s.clear (outer ! d) v low (λ n. clear);
    room =
        omega (
          arith,
          s.room,
          length_pop outer d deep,
          below_stays blue colour (outer ! d) v low (omega (arith, s.on_stack.cyans d (omega arith))) met,
        );
  }
    where
      low : outer ! d < length colour
      low = omega (arith, s.sized, top_inside s.stack deep)

-- ---- the turns

-- every place is white, and both stacks are empty
pub start : {g : Graph} {colour : List ℕ} → length colour ≡ g.P → ((x : ℕ) → colour ! x ≡ white) → Outer g 0 colour [] []
start {g} {colour} sized blank = record {
  search = record {
    sized = sized;
    well_formed = λ x. omega (arith, blank x);
    stack = record {
      paired = refl;
      places = λ i l. absurd (not-suc-le-zero l);
      within = λ i l. absurd (not-suc-le-zero l);
      steps = λ i l. absurd (not-suc-le-zero l);
      passed = λ i l. absurd (not-suc-le-zero l);
    };
    on_stack = record {
      cyans = λ i l. absurd (not-suc-le-zero l);
      stands = λ x e. absurd (omega (arith, blank x));
      once = λ i j l h. absurd (not-suc-le-zero h);
      begins = λ l. absurd (not-suc-le-zero l);
    };
    roots = λ x l. absurd (not-suc-le-zero l);
    seen = λ x y f. absurd (omega (arith, blank x, f.met));
    clear = λ x f. absurd (omega (arith, blank x, f.met));
    room = omega (arith, below_length blue colour);
  };
  closed = λ x y h. absurd (omega (arith, blank x));
}

module _ {g : Graph} {r : ℕ} {colour outer cursors : List ℕ} (o : Outer g r colour outer cursors) where
  -- the root loop passes r, which is not initial or not white
  pub pass : (T (g.initial r) → white < colour ! r) → Outer g (r + 1) colour outer cursors
  pass known = record {
    search = record {
      sized = o.search.sized;
      well_formed = o.search.well_formed;
      stack = o.search.stack;
      on_stack = o.search.on_stack;
      roots = λ x l h i. go x l h i (ℕ_discrete x r);
      seen = o.search.seen;
      clear = o.search.clear;
      room = o.search.room;
    };
    closed = o.closed;
  }
    where
      go : (x : ℕ) → x < r + 1 → x < g.P → T (g.initial x) → Dec (x ≡ r) → white < colour ! x
      go x l h i (yes e) = subst (λ (k : ℕ). white < colour ! k) (sym e) (known (subst (λ (k : ℕ). T (g.initial k)) e i))
      go x l h i (no n) = o.search.roots x (omega arith) h i

  -- the top's next white candidate y, at cursor c, becomes the top
  pub advance : {d c y : ℕ} → length outer ≡ suc d → Finds g blue colour (outer ! d) (cursors ! d) c y
      → Outer g r (set colour y cyan) (push outer y) (onward cursors d c)
  advance {d} {c} {y} deep f = record {
    search = search_push o.search y inside (omega (arith, f.under)) (λ e. absurd (omega arith)) (stack_push o.search.stack deep f o.search.sized cyan (omega arith));
    closed = closed_paint g colour o.closed y cyan (omega (arith, o.search.sized, inside)) (omega (arith, f.under)) (omega arith);
  }
    where
      inside : y < g.P
      inside = finds_inside o.search.stack deep f

  -- the top has no white candidate left, and is not marked
  pub leave_blue : {d : ℕ} → length outer ≡ suc d → Skips g blue colour (outer ! d) (cursors ! d) g.D → (T (g.marked (outer ! d)) → ⊥)
      → Outer g r (set colour (outer ! d) blue) (take d outer) (take d cursors)
  leave_blue {d} deep none plain = record {
    search = search_leave o.search blue deep (omega arith) (omega arith) (omega arith) (top_exhausted o.search.stack deep none) (λ m. absurd (plain m));
    closed =
        closed_paint g colour o.closed (outer ! d) blue
        (omega (arith, o.search.sized, top_inside o.search.stack deep))
        (omega (arith, o.search.on_stack.cyans d (omega arith)))
        (omega arith);
  }

-- an initial white place is pushed on the empty stack, and the root loop has passed it
pub root : {g : Graph} {r : ℕ} {colour : List ℕ} → Outer g r colour [] [] → r < g.P → T (g.initial r) → colour ! r ≡ white
    → Outer g (r + 1) (set colour r cyan) (r ∷ []) (0 ∷ [])
root {g} {r} {colour} o inside initial was =
    pass
    (record {
      search = search_push o.search r inside was (λ e. initial) (stack_start r inside);
      closed = closed_paint g colour o.closed r cyan low (omega arith) (omega arith);
    })
    (λ i. omega (arith, get_or-set_same colour r cyan 0 low))
  where
    low : r < length colour
    low = omega (arith, o.search.sized)
