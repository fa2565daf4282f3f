-- The turns of an inner search keep its invariant: it begins at the marked top of the outer stack, pushes a blue place, pops, and ends with
-- the top left red. All that the top leads to is then red, and red steps to red only; the top is cyan, so it does not lead to itself.
-- Assumes nothing.
use Prim.Native.Nat.{ℕ, zero, suc, ◌≤◌, ◌<◌}
use native.Mathlib.Omega.{arith}
use native.Mathlib.Decide.{ℕ_discrete}
use mathlib.Core.Path.{◌≡◌, refl, sym, ap, ◌∙◌, subst}
use mathlib.Core.Logic.{◌≢◌, inl, inr}
use mathlib.Core.List.{List, [], ◌∷◌}
use lib.Dec.{T}
use lib.ListN.{length, set, take, length-set}
use lib.Seq.{get_or-set_same}
use Rattle.graph.proofs.Graph.{◌!◌, Graph, Step, Reaches, here, step, Leads}
use Rattle.graph.proofs.Machine.{push, onward, white, blue, cyan, red, Finished, Skips, Finds, On, Search, Closed, Outer, Inner, below}
use Rattle.graph.proofs.Lists.{length_push, kept_pushed, Pushed, pushed, length_pop, popped, Painted, painted, paint_keeps, below_falls, below_stays, below_length}
use Rattle.graph.proofs.Stacks.{finds_inside, finds_step, stack_start, stack_paint, top_inside, top_exhausted, stack_pop, stack_push}
use Rattle.graph.proofs.Paints.{on_pushed, on_top, on_popped, on_stack_paint, seen_paint, clear_paint, colours_paint}
use Rattle.graph.proofs.OuterTurns.{search_leave}

-- a blue place is painted red
pub search_redden : {g : Graph} {r : ℕ} {colour outer cursors : List ℕ} → Search g r colour outer cursors → (y : ℕ) → colour ! y ≡ blue → y < g.P
    → Search g r (set colour y red) outer cursors
search_redden {g} {r} {colour} s y was inside = record {
  sized = length-set colour y red ∙ s.sized;
  well_formed = colours_paint colour s.well_formed y red low (omega arith);
  stack = stack_paint s.stack y red (omega arith);
  on_stack = on_stack_paint s.on_stack y red low (omega arith) (omega arith);
  roots = λ x l h i. paint_keeps colour y red x (omega arith) (s.roots x l h i);
  seen = seen_paint g colour s.seen y red low (omega arith) (λ n z. s.seen y z finished);
  clear = clear_paint g colour s.clear y red low (λ n. s.clear y finished);
  room = omega (arith, s.room, below_stays blue colour y red low (omega arith) (omega arith));
}
  where
    low : y < length colour
    low = omega (arith, s.sized)

    finished : Finished (colour ! y)
    finished = record { met = omega arith; left = omega arith }

-- the outer search has exhausted its top, which is marked
pub begin : {g : Graph} {r d : ℕ} {colour outer cursors : List ℕ} → Outer g r colour outer cursors → length outer ≡ suc d
    → Skips g blue colour (outer ! d) (cursors ! d) g.D → T (g.marked (outer ! d))
    → Inner g r (below blue colour) d colour outer cursors (outer ! d ∷ []) (0 ∷ [])
begin {g} {r} {d} {colour} {outer} {cursors} o deep none marked = record {
  search = o.search;
  deep = deep;
  whites = refl;
  marked = marked;
  exhausted = top_exhausted o.search.stack deep none;
  inner_path = record {
    stack = stack_start (outer ! d) (top_inside o.search.stack deep);
    starts = λ h. refl;
    reds = λ i l. absurd (omega arith);
  };
  closed = λ x y h n s. o.closed x y h s;
  ended = λ e. absurd (omega arith);
  room = omega (arith, below_length red colour, o.search.sized);
}

module _ {g : Graph} {r w d : ℕ} {colour outer cursors inner inner_cursors : List ℕ} (n : Inner g r w d colour outer cursors inner inner_cursors) where
  top_cyan : colour ! (outer ! d) ≡ cyan
  top_cyan = n.search.on_stack.cyans d (omega (arith, n.deep))

  module _ {e : ℕ} (deep : length inner ≡ suc e) where
    -- an inner stack's place is the outer top, or red: it steps to no white place
    pub not_white : {y : ℕ} → Step g (inner ! e) y → white < colour ! y
    not_white {y} s = go e refl
      where
        go : (i : ℕ) → i ≡ e → white < colour ! y
        go zero q = n.exhausted y (subst (λ (x : ℕ). Step g x y) (ap (λ (k : ℕ). inner ! k) (sym q) ∙ n.inner_path.starts (omega arith)) s)
        go (suc i) q =
            let reds : red ≤ colour ! (inner ! e) = omega (arith, ap (λ (k : ℕ). colour ! (inner ! k)) q, n.inner_path.reds i (omega arith)) in
            n.search.seen (inner ! e) y (record { met = omega arith; left = omega arith }) s

    -- the inner top's next candidate y below red, at cursor c, is not cyan: it is painted red and becomes the top
    pub inner_push : {c y : ℕ} → Finds g red colour (inner ! e) (inner_cursors ! e) c y → colour ! y ≢ cyan
        → Inner g r w d (set colour y red) outer cursors (push inner y) (onward inner_cursors e c)
    inner_push {c} {y} f other = record {
      search = search_redden n.search y was inside;
      deep = n.deep;
      whites = below_stays blue colour y red low (omega (arith, was)) (omega arith) ∙ n.whites;
      marked = n.marked;
      exhausted = λ z s. paint_keeps colour y red z (omega arith) (n.exhausted z s);
      inner_path = record {
        stack = stack_push n.inner_path.stack deep f n.search.sized red (omega arith);
        starts = λ h. kept_pushed inner y 0 (omega arith) ∙ n.inner_path.starts (omega arith);
        reds = λ i l. reds i (pushed inner y (suc i) l);
      };
      closed = λ x z h out s. closed x z h out s (painted colour y red x low);
      ended = λ z. absurd (omega (arith, length_push inner y));
      room = omega (arith, n.room, length_push inner y, below_falls red colour y red low f.under (omega arith));
    }
      where
        inside : y < g.P
        inside = finds_inside n.inner_path.stack deep f

        low : y < length colour
        low = omega (arith, inside, n.search.sized)

        was : colour ! y ≡ blue
        was = omega (arith, not_white (finds_step f), f.under)

        reds : (i : ℕ) → Pushed inner y (suc i) → red ≤ set colour y red ! (push inner y ! suc i)
        reds i (inl p) = rw p.1 (paint_keeps colour y red (inner ! suc i) (omega arith) (n.inner_path.reds i p.0))
        reds i (inr p) = rw p.1 (omega (arith, get_or-set_same colour y red 0 low))

        closed : (x z : ℕ) → red ≤ set colour y red ! x → (On (push inner y) x → ⊥) → Step g x z → Painted colour y red x → red ≤ set colour y red ! z
        closed x z h out s (inl p) = absurd (out (subst (On (push inner y)) (sym p.0) (on_top inner y)))
        closed x z h out s (inr p) = paint_keeps colour y red z (omega arith) (n.closed x z (omega arith) (λ on. out (on_pushed y on)) s)

    -- the inner top has no candidate below red left
    pub inner_pop : Skips g red colour (inner ! e) (inner_cursors ! e) g.D → Inner g r w d colour outer cursors (take e inner) (take e inner_cursors)
    inner_pop none = record {
      search = n.search;
      deep = n.deep;
      whites = n.whites;
      marked = n.marked;
      exhausted = n.exhausted;
      inner_path = record {
        stack = stack_pop n.inner_path.stack deep;
        starts = λ h. popped inner e 0 (omega (arith, length_pop inner e deep)) ∙ n.inner_path.starts (omega arith);
        reds = λ i l.
            let h : suc i < e = omega (arith, length_pop inner e deep) in
            rw (popped inner e (suc i) h) (n.inner_path.reds i (omega arith));
      };
      closed = λ x y h out s. closed x y h out s (ℕ_discrete x (inner ! e));
      ended = λ z y s.
          let q : e ≡ 0 = omega (arith, length_pop inner e deep) in
          red_next y (subst (λ (x : ℕ). Step g x y) (sym (n.inner_path.starts (omega arith)) ∙ ap (λ (k : ℕ). inner ! k) (sym q)) s);
      room = omega (arith, n.room, length_pop inner e deep);
    }
      where
        red_next : (y : ℕ) → Step g (inner ! e) y → red ≤ colour ! y
        red_next = top_exhausted n.inner_path.stack deep none

        closed : (x y : ℕ) → red ≤ colour ! x → (On (take e inner) x → ⊥) → Step g x y → Dec (x ≡ inner ! e) → red ≤ colour ! y
        closed x y h out s (yes q) = red_next y (subst (λ (k : ℕ). Step g k y) q s)
        closed x y h out s (no m) = n.closed x y h (λ on. out (on_popped e deep m on)) s

  -- the inner search is over: the top of the outer stack is left red
  module _ (empty : length inner ≡ 0) where
    red_closed : Closed g colour
    red_closed x y h s = n.closed x y h (λ on. omega (arith, on.low)) s

    red_reached : {x y : ℕ} → red ≤ colour ! x → Reaches g x y → red ≤ colour ! y
    red_reached h here = h
    red_reached {x} h (step {y = z} s p) = red_reached (red_closed x z h s) p

    top_clear : Leads g (outer ! d) (outer ! d) → ⊥
    top_clear l = omega (arith, top_cyan, red_reached (n.ended empty l.next l.first) l.rest)

    pub leave_red : Outer g r (set colour (outer ! d) red) (take d outer) (take d cursors)
    leave_red = record {
      search = search_leave n.search red n.deep (omega arith) (omega arith) (omega arith) n.exhausted (λ m. top_clear);
      closed = λ x y h s. paint_keeps colour (outer ! d) red y (omega arith) (closed x y h s (painted colour (outer ! d) red x low));
    }
      where
        low : outer ! d < length colour
        low = omega (arith, n.search.sized, top_inside n.search.stack n.deep)

        closed : (x y : ℕ) → red ≤ set colour (outer ! d) red ! x → Step g x y → Painted colour (outer ! d) red x → red ≤ colour ! y
        closed x y h s (inl p) = n.ended empty y (subst (λ (k : ℕ). Step g k y) p.0 s)
        closed x y h s (inr p) = red_closed x y (omega arith) s
