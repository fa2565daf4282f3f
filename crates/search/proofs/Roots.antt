-- The roots of the case whose setting it is, as the root loop meets them. Assumes nothing.
use Rattle.std.proofs.Common.{ControlFlow, Continue, Break}
use Prim.Native.Nat.{ℕ, ◌+◌, ◌*◌, ◌/◌, ◌^◌, ◌<◌}
use native.Mathlib.Omega.{arith}
use mathlib.Core.Path.{◌≡◌, sym, ap, ◌∙◌}
use mathlib.Core.List.{List}
use lib.ListN.{length}
use Rattle.reading.specs.Parts.{Parts, temporals}
use Rattle.workspace.proofs.Setting.{code_of}
use Rattle.workspace.proofs.Roots.{root_at}
use Rattle.workspace.proofs.RootTurnsIn.{met_searched}
use Rattle.search.specs.declared.turns.Hit.{Hit}
use Rattle.search.specs.declared.turns.Plan.{Plan}
use Rattle.search.specs.Searching.{place_in, root_in, OneCase, PassedTo}

module _ {plan : Plan} (x : OneCase plan) where
  -- as many states as the code counts
  pub counted : length plan.roots.states.now / 3 ≡ x.case.parts.states
  counted =
      let long : length plan.roots.states.now ≡ 3 * x.roots_are.parts.states = ap length x.roots_are.states_are ∙ x.roots_are.admitted.state_bytes in
      omega (arith, ap (λ (p : Parts). p.states) x.same)

  pub state_there : {s : ℕ} → s < x.case.parts.states → s < x.roots_are.parts.states
  state_there h = rw x.same h

  -- the code's test is the case's
  pub tested : (s b : ℕ) → root_at x.roots_are.parts plan.roots.guesses s b ≡ root_at x.case.parts plan.setting.sizes.guesses s b
  tested s b =
      let same : plan.roots.guesses ≡ plan.setting.sizes.guesses =
      x.roots_are.guesses_are ∙ ap (λ (p : Parts). 2 ^ temporals p) x.same ∙ sym x.case.guesses_are in
      rw (x.same, same)

  -- a root that was searched from is passed
  pub searched : (s b root : ℕ) → s < x.case.parts.states → b < plan.setting.sizes.guesses → root ≡ code_of s b 0
      → (ws : List ℕ) (f : ControlFlow Hit (Unit {0}))
      → PassedTo x.case (place_in plan.setting root + 1) ws f
      → PassedTo x.case (root_in plan.setting s (b + 1)) ws f
  searched s b root state bits is ws (Continue u) o = met_searched x.case s b root state bits is o
  searched s b root state bits is ws (Break hit) met = met
