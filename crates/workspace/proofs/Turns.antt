-- The machine's turns on the workspace: what holds before one holds after its stores, and the measure falls. Each is the graph's law of the
-- turn, with the lists seen as parts of the workspace. Assumes nothing.
use Prim.Native.Nat.{ℕ, suc, ◌+◌, ◌*◌, ◌≤◌, ◌<◌}
use native.Mathlib.Omega.{arith}
use mathlib.Core.Path.{◌≡◌, sym, ap, ◌∙◌, subst}
use mathlib.Core.List.{List, map}
use lib.Dec.{T}
use lib.ListN.{length, set, take, length-set}
use Rattle.graph.proofs.Graph.{◌!◌, Graph}
use Rattle.graph.proofs.Machine.{blue, cyan, below, Skips, Finds, Outer}
use Rattle.graph.proofs.Parts.{part, part_at, part_pop, places_pop}
use Rattle.graph.proofs.Stacks.{finds_inside, top_inside}
use Rattle.graph.proofs.OuterTurns.{advance, leave_blue}
use Rattle.graph.proofs.InnerTurns.{begin}
use Rattle.graph.proofs.Measures.{advance_falls, leave_blue_falls, advance_room}
use Rattle.workspace.proofs.Views.{colours, stack_at, cursors_at, OuterAt, InnerAt, ExhaustedAt, outer_fuel}
use Rattle.workspace.proofs.Stores

-- ---- the top of a stack, as the scan reads it

module _ (g : Graph) (place : ℕ → ℕ) (base d : ℕ) (ws : List ℕ) (lies : base + g.P + suc d ≤ length ws) where
  pub top_is : stack_at place base (suc d) ws ! d ≡ place (ws ! (base + d))
  top_is = Stores.stack_at_lem place base (suc d) ws (omega arith) d (omega arith)

  pub cursor_is : cursors_at g base (suc d) ws ! d ≡ ws ! (base + g.P + d)
  cursor_is = part_at (base + g.P) (suc d) ws d (omega arith)

  pub finds_top : {limit c y : ℕ} {colour : List ℕ} → Finds g limit colour (place (ws ! (base + d))) (ws ! (base + g.P + d)) c y
      → Finds g limit colour (stack_at place base (suc d) ws ! d) (cursors_at g base (suc d) ws ! d) c y
  finds_top f = rw (top_is, cursor_is) f

  pub skips_top : {limit e : ℕ} {colour : List ℕ} → Skips g limit colour (place (ws ! (base + d))) (ws ! (base + g.P + d)) e
      → Skips g limit colour (stack_at place base (suc d) ws ! d) (cursors_at g base (suc d) ws ! d) e
  skips_top f = rw (top_is, cursor_is) f

  -- a pop
  pub popped : stack_at place base d ws ≡ take d (stack_at place base (suc d) ws)
  popped = ap (map place) (part_pop base (suc d) ws d (omega arith)) ∙ places_pop place (part base (suc d) ws) d

  pub popped_cursors : cursors_at g base d ws ≡ take d (cursors_at g base (suc d) ws)
  popped_cursors = part_pop (base + g.P) (suc d) ws d (omega arith)

-- ---- the outer search

module _ {g : Graph} {place : ℕ → ℕ} {Code : ℕ → Type 0} {r d : ℕ} {ws : List ℕ} (o : OuterAt g place Code r ws (suc d)) where
  lies : g.P + g.P + suc d ≤ length ws
  lies = omega (arith, o.lent, o.fits)

  deep : length (stack_at place g.P (suc d) ws) ≡ suc d
  deep = Stores.stack_length place g.P (suc d) ws (omega (arith, lies))

  top_below : place (ws ! (g.P + d)) < g.P
  top_below = rw (top_is g place g.P d ws lies) at (top_inside o.outer.search.stack deep)

  -- a white candidate becomes the top
  module _ {c code : ℕ} (new : Code code) (f : Finds g blue (colours g ws) (place (ws ! (g.P + d))) (ws ! (g.P + g.P + d)) c (place code)) where
    found : Finds g blue (colours g ws) (stack_at place g.P (suc d) ws ! d) (cursors_at g g.P (suc d) ws ! d) c (place code)
    found = finds_top g place g.P d ws lies f

    inside : place code < g.P
    inside = finds_inside o.outer.search.stack deep found

    small : suc d < g.P
    small = omega (arith, deep, advance_room o.outer.search inside (omega (arith, f.under)))

    room : g.P + g.P + g.P ≤ length ws
    room = omega (arith, o.lent)

    pub advance_fits : suc d < g.P
    advance_fits = small

    pub advance_at : OuterAt g place Code r (Stores.advanced g place g.P d c code cyan ws) (suc (suc d))
    advance_at = record {
      lent = omega (arith, o.lent, Stores.advanced_long g place g.P d c code cyan ws (omega arith) room small inside);
      fits = small;
      coded = Stores.coded_advanced g place g.P d c code cyan ws (omega arith) room small inside Code new o.coded;
      outer =
          rw (
            Stores.colours_advanced g place g.P d c code cyan ws (omega arith) room small inside,
            Stores.stack_advanced g place g.P d c code cyan ws (omega arith) room small inside,
            Stores.cursors_advanced g place g.P d c code cyan ws (omega arith) room small inside,
          )
          (advance o.outer deep found);
    }

    pub advance_fuel : outer_fuel g.D g.P (Stores.advanced g place g.P d c code cyan ws) (suc (suc d)) < outer_fuel g.D g.P ws (suc d)
    advance_fuel =
        rw (
          Stores.colours_advanced g place g.P d c code cyan ws (omega arith) room small inside,
          Stores.cursors_advanced g place g.P d c code cyan ws (omega arith) room small inside,
        )
        (advance_falls o.outer deep found)

-- ---- the top of the outer stack is left

module _ {g : Graph} {place : ℕ → ℕ} {Code : ℕ → Type 0} {r d : ℕ} {ws : List ℕ} (x : ExhaustedAt g place Code r ws d) where
  none : Skips g blue (colours g ws) (stack_at place g.P (suc d) ws ! d) (cursors_at g g.P (suc d) ws ! d) g.D
  none = skips_top g place g.P d ws (lies x.at) x.none

  pub top_low : place (ws ! (g.P + d)) < g.P
  top_low = top_below x.at

  abbrev left : ℕ → List ℕ
  left colour = set ws (place (ws ! (g.P + d))) colour

  stack_left : (colour : ℕ) → stack_at place g.P d (left colour) ≡ take d (stack_at place g.P (suc d) ws)
  stack_left colour =
      ap (map place) (Stores.part_painted g (place (ws ! (g.P + d))) colour ws top_low g.P d (omega arith))
      ∙ popped g place g.P d ws (lies x.at)

  cursors_left : (colour : ℕ) → cursors_at g g.P d (left colour) ≡ take d (cursors_at g g.P (suc d) ws)
  cursors_left colour =
      Stores.part_painted g (place (ws ! (g.P + d))) colour ws top_low (g.P + g.P) d (omega arith)
      ∙ popped_cursors g place g.P d ws (lies x.at)

  colours_left : (colour : ℕ) → colours g (left colour) ≡ set (colours g ws) (stack_at place g.P (suc d) ws ! d) colour
  colours_left colour =
      Stores.colours_painted g (place (ws ! (g.P + d))) colour ws top_low
      ∙ ap (λ (k : ℕ). set (colours g ws) k colour) (sym (top_is g place g.P d ws (lies x.at)))

  left_at : (colour : ℕ)
      → Outer g r (set (colours g ws) (stack_at place g.P (suc d) ws ! d) colour) (take d (stack_at place g.P (suc d) ws)) (take d (cursors_at g g.P (suc d) ws))
      → OuterAt g place Code r (left colour) d
  left_at colour o = record {
    lent = omega (arith, x.at.lent, length-set ws (place (ws ! (g.P + d))) colour);
    fits = omega (arith, x.at.fits);
    coded = λ i h. subst Code (sym (Stores.entry_painted g (place (ws ! (g.P + d))) colour ws top_low (g.P + i) (omega arith))) (x.at.coded i (omega arith));
    outer = rw (colours_left colour, stack_left colour, cursors_left colour) o;
  }

  -- blue, since it is not marked
  module _ (plain : T (g.marked (place (ws ! (g.P + d)))) → ⊥) where
    unmarked : T (g.marked (stack_at place g.P (suc d) ws ! d)) → ⊥
    unmarked t = plain (subst (λ (k : ℕ). T (g.marked k)) (top_is g place g.P d ws (lies x.at)) t)

    pub leave_blue_at : OuterAt g place Code r (set ws (place (ws ! (g.P + d))) blue) d
    leave_blue_at = left_at blue (leave_blue x.at.outer (deep x.at) none unmarked)

    pub leave_blue_fuel : outer_fuel g.D g.P (set ws (place (ws ! (g.P + d))) blue) d < outer_fuel g.D g.P ws (suc d)
    leave_blue_fuel = rw (colours_left blue, cursors_left blue) (leave_blue_falls x.at.outer (deep x.at))

  -- marked: the inner search begins
  pub begin_at : T (g.marked (place (ws ! (g.P + d))))
      → InnerAt g place Code r (below blue (colours g ws)) d (Stores.begun g place (3 * g.P) (ws ! (g.P + d)) ws) 1
  begin_at marked = record {
    lent = omega (arith, x.at.lent, Stores.begun_long g place (3 * g.P) (ws ! (g.P + d)) ws room some);
    outer_fits = x.at.fits;
    outer_coded = λ i h. subst Code (sym (Stores.entry_begun g place (3 * g.P) (ws ! (g.P + d)) ws room some (g.P + i) (omega (arith, x.at.fits)))) (x.at.coded i h);
    fits = some;
    coded = λ i h.
        let q : 3 * g.P + i ≡ 3 * g.P = omega arith in
        subst (λ (k : ℕ). Code (Stores.begun g place (3 * g.P) (ws ! (g.P + d)) ws ! k)) (sym q)
        (subst Code (sym (Stores.top_begun g place (3 * g.P) (ws ! (g.P + d)) ws room some)) (x.at.coded d (omega arith)));
    inner =
        rw (
          Stores.colours_begun g place (3 * g.P) (ws ! (g.P + d)) ws room some (omega arith),
          Stores.before_begun g place (3 * g.P) (ws ! (g.P + d)) ws room some g.P (suc d) (omega (arith, x.at.fits)),
          Stores.before_begun g place (3 * g.P) (ws ! (g.P + d)) ws room some (g.P + g.P) (suc d) (omega (arith, x.at.fits)),
          Stores.stack_begun g place (3 * g.P) (ws ! (g.P + d)) ws room some,
          Stores.cursors_begun g place (3 * g.P) (ws ! (g.P + d)) ws room some,
          ← top_is g place g.P d ws (lies x.at),
        )
        (begin x.at.outer (deep x.at) none (subst (λ (k : ℕ). T (g.marked k)) (sym (top_is g place g.P d ws (lies x.at))) marked));
  }
    where
      room : 3 * g.P + g.P + g.P ≤ length ws
      room = omega (arith, x.at.lent)

      some : 1 ≤ g.P
      some = omega (arith, x.at.fits)
