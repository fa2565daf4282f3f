-- Words for the contracts between the search's own parts. No promise rests on them.
use Prim.Native.Nat.{ℕ}
use mathlib.Core.Path.{◌≡◌}
use mathlib.Core.List.{List}
use Rattle.std.specs.Prelude.{⊤}
use Rattle.std.specs.declared.ops.ControlFlow.{ControlFlow}
use Rattle.std.specs.ControlFlow.{MatchControlFlow}
use Rattle.workspace.proofs.Setting.{Setting as CaseSetting, number_in}
use Rattle.workspace.proofs.RootTurnsIn.{root_number}
use Rattle.workspace.proofs.ViewsIn.{OuterIn, MetIn}
use Rattle.scans.specs.Cases.{OfCase, RootsOfCase}
use Rattle.scans.specs.declared.Setting.{Setting}
use Rattle.search.specs.declared.turns.Hit.{Hit}
use Rattle.search.specs.declared.turns.Met.{Met}
use Rattle.search.specs.declared.turns.Plan.{Plan}

-- the number of the place that a code stands for, and of the place of state s and bits b with waiting number 0
abbrev pub place_in : Setting → ℕ → ℕ
place_in s code = number_in s.sizes.guesses s.sizes.top code

abbrev pub root_in : Setting → ℕ → ℕ → ℕ
root_in setting s b = root_number setting.sizes.guesses setting.sizes.top s b

-- the setting and the roots are read from one admitted case
pub record OneCase (plan : Plan) : Type 0 where
  pub case : OfCase plan.setting
  pub roots_are : RootsOfCase plan.roots
  pub same : roots_are.parts ≡ case.parts

module _ {edges lanes starts : List ℕ} {guesses ones top size : ℕ} (c : CaseSetting edges lanes starts guesses ones top size) where
  -- it went on as P says, unless a place of an outer stack this deep was met
  abbrev pub UnlessMet : {N : Type 0} → ℕ → List ℕ → ControlFlow Met N → (N → Type 0) → Type 0
  UnlessMet outer ws result P = MatchControlFlow result P (λ met. MetIn c ws outer met.inner met.at)

  -- the roots below r are passed, unless a loop was met
  abbrev pub PassedTo : ℕ → List ℕ → ControlFlow Hit ⊤ → Type 0
  PassedTo r ws result = MatchControlFlow result (λ _. OuterIn c r ws 0) (λ hit. MetIn c ws hit.outer hit.met.inner hit.met.at)
