-- The turns of an inner search on the workspace, and the outer top left red after it: what holds before one holds after its stores, and the
-- measure falls. Assumes nothing.
use Prim.Native.Nat.{ℕ, suc, ◌+◌, ◌*◌, ◌≤◌, ◌<◌}
use native.Mathlib.Omega.{arith}
use mathlib.Core.Path.{◌≡◌, sym, ap, ◌∙◌, subst}
use mathlib.Core.Logic.{◌≢◌}
use mathlib.Core.List.{List, map}
use lib.ListN.{length, set, take, length-set}
use Rattle.graph.proofs.Graph.{◌!◌, Graph}
use Rattle.graph.proofs.Machine.{cyan, red, Skips, Finds}
use Rattle.graph.proofs.Parts.{part}
use Rattle.graph.proofs.Stacks.{finds_inside, top_inside}
use Rattle.graph.proofs.InnerTurns.{inner_push, inner_pop, leave_red}
use Rattle.graph.proofs.Measures.{leave_red_falls, inner_push_falls, inner_pop_falls, inner_push_room}
use Rattle.workspace.proofs.Views.{colours, stack_at, cursors_at, OuterAt, InnerAt, fuel, outer_fuel, inner_fuel}
use Rattle.workspace.proofs.Stores
use Rattle.workspace.proofs.Turns.{top_is, finds_top, skips_top, popped, popped_cursors}

module _ {g : Graph} {place : ℕ → ℕ} {Code : ℕ → Type 0} {r w d e : ℕ} {ws : List ℕ} (n : InnerAt g place Code r w d ws (suc e)) where
  lies : 3 * g.P + g.P + suc e ≤ length ws
  lies = omega (arith, n.lent, n.fits)

  deep : length (stack_at place (3 * g.P) (suc e) ws) ≡ suc e
  deep = Stores.stack_length place (3 * g.P) (suc e) ws (omega (arith, lies))

  room : 3 * g.P + g.P + g.P ≤ length ws
  room = omega (arith, n.lent)

  -- a candidate that is not cyan becomes the top, red
  module _ {c code : ℕ} (new : Code code) (f : Finds g red (colours g ws) (place (ws ! (3 * g.P + e))) (ws ! (3 * g.P + g.P + e)) c (place code))
      (other : colours g ws ! place code ≢ cyan) where
    found : Finds g red (colours g ws) (stack_at place (3 * g.P) (suc e) ws ! e) (cursors_at g (3 * g.P) (suc e) ws ! e) c (place code)
    found = finds_top g place (3 * g.P) e ws lies f

    inside : place code < g.P
    inside = finds_inside n.inner.inner_path.stack deep found

    small : suc e < g.P
    small = omega (arith, deep, inner_push_room n.inner inside f.under other)

    pub push_fits : suc e < g.P
    push_fits = small

    pub push_at : InnerAt g place Code r w d (Stores.advanced g place (3 * g.P) e c code red ws) (suc (suc e))
    push_at = record {
      lent = omega (arith, n.lent, Stores.advanced_long g place (3 * g.P) e c code red ws (omega arith) room small inside);
      outer_fits = n.outer_fits;
      outer_coded = λ i h.
          subst Code
          (sym (Stores.entry_advanced g place (3 * g.P) e c code red ws (omega arith) room small inside (g.P + i) (omega arith) (omega (arith, n.outer_fits))))
          (n.outer_coded i h);
      fits = small;
      coded = Stores.coded_advanced g place (3 * g.P) e c code red ws (omega arith) room small inside Code new n.coded;
      inner =
          rw (
            Stores.colours_advanced g place (3 * g.P) e c code red ws (omega arith) room small inside,
            Stores.before_advanced g place (3 * g.P) e c code red ws (omega arith) room small inside g.P (suc d) (omega arith) (omega (arith, n.outer_fits)),
            Stores.before_advanced g place (3 * g.P) e c code red ws (omega arith) room small inside (g.P + g.P) (suc d) (omega arith) (omega (arith, n.outer_fits)),
            Stores.stack_advanced g place (3 * g.P) e c code red ws (omega arith) room small inside,
            Stores.cursors_advanced g place (3 * g.P) e c code red ws (omega arith) room small inside,
          )
          (inner_push n.inner deep found other);
    }

    pub push_fuel : inner_fuel g.D g.P (Stores.advanced g place (3 * g.P) e c code red ws) (suc (suc e)) < inner_fuel g.D g.P ws (suc e)
    push_fuel =
        rw (
          Stores.colours_advanced g place (3 * g.P) e c code red ws (omega arith) room small inside,
          Stores.cursors_advanced g place (3 * g.P) e c code red ws (omega arith) room small inside,
        )
        (inner_push_falls n.inner deep found)

    -- the outer stack's part is as it was
    pub push_outer : part (g.P + g.P) (suc d) (Stores.advanced g place (3 * g.P) e c code red ws) ≡ part (g.P + g.P) (suc d) ws
    push_outer =
        Stores.before_advanced g place (3 * g.P) e c code red ws (omega arith) room small inside (g.P + g.P) (suc d) (omega arith) (omega (arith, n.outer_fits))

    pub push_top : Stores.advanced g place (3 * g.P) e c code red ws ! (g.P + d) ≡ ws ! (g.P + d)
    push_top =
        Stores.entry_advanced g place (3 * g.P) e c code red ws (omega arith) room small inside (g.P + d) (omega arith) (omega (arith, n.outer_fits))

  -- the top has no candidate below red left: it is popped, and the workspace stays as it is
  module _ (none : Skips g red (colours g ws) (place (ws ! (3 * g.P + e))) (ws ! (3 * g.P + g.P + e)) g.D) where
    pub pop_at : InnerAt g place Code r w d ws e
    pop_at = record {
      lent = n.lent;
      outer_fits = n.outer_fits;
      outer_coded = n.outer_coded;
      fits = omega (arith, n.fits);
      coded = λ i h. n.coded i (omega arith);
      inner =
          rw (popped g place (3 * g.P) e ws lies, popped_cursors g place (3 * g.P) e ws lies)
          (inner_pop n.inner deep (skips_top g place (3 * g.P) e ws lies none));
    }

    pub pop_fuel : inner_fuel g.D g.P ws e < inner_fuel g.D g.P ws (suc e)
    pop_fuel = rw (popped_cursors g place (3 * g.P) e ws lies) (inner_pop_falls n.inner deep)

-- ---- the inner search is over: the outer top is left, red

module _ {g : Graph} {place : ℕ → ℕ} {Code : ℕ → Type 0} {r w d : ℕ} {ws : List ℕ} (n : InnerAt g place Code r w d ws 0) where
  outer_lies : g.P + g.P + suc d ≤ length ws
  outer_lies = omega (arith, n.lent, n.outer_fits)

  outer_top : stack_at place g.P (suc d) ws ! d ≡ place (ws ! (g.P + d))
  outer_top = top_is g place g.P d ws outer_lies

  pub red_low : place (ws ! (g.P + d)) < g.P
  red_low = rw outer_top at (top_inside n.inner.search.stack n.inner.deep)

  stack_left : stack_at place g.P d (set ws (place (ws ! (g.P + d))) red) ≡ take d (stack_at place g.P (suc d) ws)
  stack_left =
      ap (map place) (Stores.part_painted g (place (ws ! (g.P + d))) red ws red_low g.P d (omega arith))
      ∙ popped g place g.P d ws outer_lies

  cursors_left : cursors_at g g.P d (set ws (place (ws ! (g.P + d))) red) ≡ take d (cursors_at g g.P (suc d) ws)
  cursors_left =
      Stores.part_painted g (place (ws ! (g.P + d))) red ws red_low (g.P + g.P) d (omega arith)
      ∙ popped_cursors g place g.P d ws outer_lies

  colours_left : colours g (set ws (place (ws ! (g.P + d))) red) ≡ set (colours g ws) (stack_at place g.P (suc d) ws ! d) red
  colours_left =
      Stores.colours_painted g (place (ws ! (g.P + d))) red ws red_low
      ∙ ap (λ (k : ℕ). set (colours g ws) k red) (sym outer_top)

  pub leave_red_at : OuterAt g place Code r (set ws (place (ws ! (g.P + d))) red) d
  leave_red_at = record {
    lent = omega (arith, n.lent, length-set ws (place (ws ! (g.P + d))) red);
    fits = omega (arith, n.outer_fits);
    coded = λ i h. subst Code (sym (Stores.entry_painted g (place (ws ! (g.P + d))) red ws red_low (g.P + i) (omega arith))) (n.outer_coded i (omega arith));
    outer = rw (colours_left, stack_left, cursors_left) (leave_red n.inner (Stores.stack_length place (3 * g.P) 0 ws (omega (arith, n.lent))));
  }

  -- the outer measure, from before the inner search to after it
  pub leave_red_fuel :
      outer_fuel g.D g.P (set ws (place (ws ! (g.P + d))) red) d < fuel g.D (part (g.P + g.P) (suc d) ws) w
  leave_red_fuel = rw (colours_left, cursors_left) (leave_red_falls n.inner)
