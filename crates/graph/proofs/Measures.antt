-- Every turn makes its search's measure fall, and both stacks fit P places. Measure: D + 1 less the cursor for each place of the stack, and
-- D + 2 for each place that may still be pushed (outer: the white ones; inner: those that are not red). Assumes nothing.
use Prim.Native.Nat.{ℕ, suc, ◌+◌, ◌-◌, ◌*◌, ◌≤◌, ◌<◌}
use native.Mathlib.Nat.{mul-suc}
use native.Mathlib.Omega.{arith}
use mathlib.Core.Path.{◌≡◌, sym, ap, ◌∙◌}
use mathlib.Core.Logic.{◌≢◌}
use mathlib.Core.List.{List, ◌++◌}
use lib.ListN.{length, set, take, drop, length-set, length-append, length-drop}
use lib.Seq.{get_or-set_other}
use Rattle.graph.proofs.Graph.{◌!◌, Graph}
use Rattle.graph.proofs.Machine.{onward, white, blue, cyan, red, Finds, Search, Outer, Inner, below, measure}
use Rattle.graph.proofs.Lists.{total_push, total_set, total_pop, below_falls, below_stays, below_some}
use Rattle.graph.proofs.Stacks.{finds_inside, top_inside}

module _ (g : Graph) where
  left : ℕ → ℕ
  left c = g.D + 1 - c

  push_falls : (cursors : List ℕ) (d c n : ℕ) → length cursors ≡ suc d → cursors ! d ≤ c → c < g.D
      → measure g (onward cursors d c) n < measure g cursors (suc n)
  unfolding left
  push_falls cursors d c n deep from low =
      omega
      (arith, total_push left (set cursors d (c + 1)) 0, total_set left cursors d (c + 1) (omega arith), mul-suc (g.D + 2) n)

  pop_falls : (cursors : List ℕ) (d n : ℕ) → length cursors ≡ suc d → cursors ! d ≤ g.D → measure g (take d cursors) n < measure g cursors n
  unfolding left
  pop_falls cursors d n deep within = omega (arith, total_pop left cursors d deep)

-- ---- the outer search

module _ {g : Graph} {r : ℕ} {colour outer cursors : List ℕ} (o : Outer g r colour outer cursors) {d : ℕ} (deep : length outer ≡ suc d) where
  pub advance_falls : {c y : ℕ} → Finds g blue colour (outer ! d) (cursors ! d) c y
      → measure g (onward cursors d c) (below blue (set colour y cyan)) < measure g cursors (below blue colour)
  advance_falls {c} {y} f =
      let inside : y < g.P = finds_inside o.search.stack deep f in
      let count : suc (below blue (set colour y cyan)) ≡ below blue colour =
      below_falls blue colour y cyan (omega (arith, o.search.sized)) f.under (omega arith) in
      rw (← count) (push_falls g cursors d c (below blue (set colour y cyan)) (o.search.stack.paired ∙ deep) f.from f.low)

  pub leave_blue_falls : measure g (take d cursors) (below blue (set colour (outer ! d) blue)) < measure g cursors (below blue colour)
  leave_blue_falls =
      rw
      (below_stays blue colour (outer ! d) blue
      (omega (arith, o.search.sized, top_inside o.search.stack deep))
      (omega (arith, o.search.on_stack.cyans d (omega arith)))
      (omega arith))
      (pop_falls g cursors d (below blue colour) (o.search.stack.paired ∙ deep) (o.search.stack.within d (omega arith)))

-- ---- an inner search

module _ {g : Graph} {r w d : ℕ} {colour outer cursors inner inner_cursors : List ℕ} (n : Inner g r w d colour outer cursors inner inner_cursors) where
  top_low : outer ! d < length colour
  top_low = omega (arith, n.search.sized, top_inside n.search.stack n.deep)

  -- the outer search's, from before the inner search to after it
  pub leave_red_falls : measure g (take d cursors) (below blue (set colour (outer ! d) red)) < measure g cursors w
  leave_red_falls =
      rw (
        below_stays blue colour (outer ! d) red top_low (omega (arith, n.search.on_stack.cyans d (omega (arith, n.deep)))) (omega arith),
        n.whites,
      )
      (pop_falls g cursors d w (n.search.stack.paired ∙ n.deep) (n.search.stack.within d (omega (arith, n.deep))))

  module _ {e : ℕ} (deep : length inner ≡ suc e) where
    pub inner_push_falls : {c y : ℕ} → Finds g red colour (inner ! e) (inner_cursors ! e) c y
        → measure g (onward inner_cursors e c) (below red (set colour y red)) < measure g inner_cursors (below red colour)
    inner_push_falls {c} {y} f =
        let inside : y < g.P = finds_inside n.inner_path.stack deep f in
        let count : suc (below red (set colour y red)) ≡ below red colour =
        below_falls red colour y red (omega (arith, n.search.sized)) f.under (omega arith) in
        rw (← count) (push_falls g inner_cursors e c (below red (set colour y red)) (n.inner_path.stack.paired ∙ deep) f.from f.low)

    pub inner_pop_falls : measure g (take e inner_cursors) (below red colour) < measure g inner_cursors (below red colour)
    inner_pop_falls =
        pop_falls g inner_cursors e (below red colour) (n.inner_path.stack.paired ∙ deep) (n.inner_path.stack.within e (omega arith))

-- ---- room

pub outer_room : {g : Graph} {r : ℕ} {colour outer cursors : List ℕ} → Search g r colour outer cursors → length outer ≤ g.P
outer_room s = omega (arith, s.room)

pub advance_room : {g : Graph} {r : ℕ} {colour outer cursors : List ℕ} {y : ℕ} → Search g r colour outer cursors → y < g.P → colour ! y ≡ white
    → length outer < g.P
advance_room {colour = colour} {y = y} s inside was = omega (arith, s.room, below_some blue colour y (omega (arith, s.sized)) (omega arith))

module _ {g : Graph} {r w d : ℕ} {colour outer cursors inner inner_cursors : List ℕ} (n : Inner g r w d colour outer cursors inner inner_cursors) where
  pub inner_room : length inner ≤ g.P
  inner_room =
      omega
      (arith, n.room, below_some red colour (outer ! d) (top_low n) (omega (arith, n.search.on_stack.cyans d (omega (arith, n.deep)))))

  -- a second place beside the outer top that is not red
  pub inner_push_room : {y : ℕ} → y < g.P → colour ! y < red → colour ! y ≢ cyan → length inner < g.P
  inner_push_room {y} inside under other =
      let top : colour ! (outer ! d) ≡ cyan = n.search.on_stack.cyans d (omega (arith, n.deep)) in
      let kept : set colour y red ! (outer ! d) ≡ colour ! (outer ! d) =
      get_or-set_other colour y (outer ! d) red 0 (λ e. other (ap (λ (k : ℕ). colour ! k) (sym e) ∙ top)) in
      omega (
        arith,
        n.room,
        below_falls red colour y red (omega (arith, n.search.sized)) under (omega arith),
        below_some red (set colour y red) (outer ! d) (omega (arith, top_low n, length-set colour y red)) (omega arith),
      )

  -- stem and loop together have at most 2 · P - 1 places
  pub length-track : {e : ℕ} → length inner ≡ suc e → length (outer ++ drop 1 inner) ≡ length outer + e
  length-track {e} deep = omega (arith, length-append outer (drop 1 inner), length-drop 1 inner)

  pub track_room : {e : ℕ} → length inner ≡ suc e → length outer + e < 2 * g.P
  track_room deep = omega (arith, inner_room, outer_room n.search)
