-- The root loop on the workspace: a clear workspace, a root that is pushed, roots that are passed, and the end of a search from a root.
-- Assumes nothing.
use Prim.Native.Nat.{ℕ, zero, suc, ◌+◌, ◌*◌, ◌≤◌, ◌<◌}
use native.Mathlib.Nat.{not-suc-le-zero}
use native.Mathlib.Omega.{arith}
use mathlib.Core.Path.{◌≡◌, sym, ◌∙◌, subst}
use mathlib.Core.List.{List, []}
use lib.Dec.{T}
use lib.ListN.{length, set, length-set}
use Rattle.graph.proofs.Graph.{◌!◌, Graph}
use Rattle.graph.proofs.Machine.{white, cyan, Outer}
use Rattle.graph.proofs.OuterTurns.{start, root, pass}
use Rattle.workspace.proofs.Views.{colours, OuterAt}
use Rattle.workspace.proofs.Stores

module _ {g : Graph} {place : ℕ → ℕ} {Code : ℕ → Type 0} where
  -- every place is white
  pub start_at : {ws : List ℕ} → 6 * g.P ≤ length ws → length (colours g ws) ≡ g.P → ((i : ℕ) → colours g ws ! i ≡ 0) → OuterAt g place Code 0 ws 0
  start_at lent sized blank = record {
    lent = lent;
    fits = omega arith;
    coded = λ i h. absurd (not-suc-le-zero h);
    outer = start sized blank;
  }

  -- places that are not initial, or not white, are passed
  pub pass_at : {r : ℕ} {ws : List ℕ} → OuterAt g place Code r ws 0 → (n : ℕ) → ((y : ℕ) → r ≤ y → y < r + n → T (g.initial y) → white < colours g ws ! y)
      → OuterAt g place Code (r + n) ws 0
  pass_at {r} {ws} o n known = record {
    lent = o.lent;
    fits = o.fits;
    coded = o.coded;
    outer = go n (λ y h l. known y h l);
  }
    where
      go : (n : ℕ) → ((y : ℕ) → r ≤ y → y < r + n → T (g.initial y) → white < colours g ws ! y) → Outer g (r + n) (colours g ws) [] []
      go zero known = subst (λ (k : ℕ). Outer g k (colours g ws) [] []) (let q : r ≡ r + 0 = omega arith in q) o.outer
      go (suc n) known =
          subst (λ (k : ℕ). Outer g k (colours g ws) [] []) (let q : r + n + 1 ≡ r + suc n = omega arith in q)
          (pass (go n (λ y h l. known y h (omega arith))) (known (r + n) (omega arith) (omega arith)))

  -- an initial white place is the first of the outer stack
  pub root_at_lem : {ws : List ℕ} {code : ℕ} → OuterAt g place Code (place code) ws 0 → Code code → place code < g.P → T (g.initial (place code))
      → ws ! place code ≡ white
      → OuterAt g place Code (place code + 1) (Stores.begun g place g.P code (set ws (place code) cyan)) 1
  root_at_lem {ws} {code} o new inside initial was = record {
    lent = omega (arith, o.lent, length-set ws (place code) cyan, Stores.begun_long g place g.P code painted room some);
    fits = some;
    coded = λ i h.
        let q : g.P + i ≡ g.P = omega arith in
        subst (λ (k : ℕ). Code (Stores.begun g place g.P code painted ! k)) (sym q) (subst Code (sym (Stores.top_begun g place g.P code painted room some)) new);
    outer =
        rw (
          Stores.colours_begun g place g.P code painted room some (omega arith),
          Stores.colours_painted g (place code) cyan ws inside,
          Stores.stack_begun g place g.P code painted room some,
          Stores.cursors_begun g place g.P code painted room some,
        )
        (root o.outer inside initial (lib.Seq.get_or-take g.P ws (place code) 0 inside ∙ was));
  }
    where
      painted : List ℕ
      painted = set ws (place code) cyan

      room : g.P + g.P + g.P ≤ length painted
      room = omega (arith, o.lent, length-set ws (place code) cyan)

      some : 1 ≤ g.P
      some = omega arith
