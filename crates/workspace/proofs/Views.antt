-- One workspace, seen as the machine's lists: P entries each of colours, outer stack, its cursors, inner stack and its cursors, of any graph
-- whose places the stacks hold as codes. Definitions, and that stores below 6 · P keep what lies beyond. Assumes nothing.
use Prim.Native.Nat.{ℕ, suc, ◌+◌, ◌-◌, ◌*◌, ◌≤◌, ◌<◌}
use mathlib.Core.Path.{◌≡◌, refl, ◌∙◌}
use mathlib.Core.List.{List, map}
use lib.ListN.{length, set, take, drop, length-set}
use lib.Seq.{drop-set-lt}
use Rattle.graph.proofs.Graph.{◌!◌, Graph}
use Rattle.graph.proofs.Machine.{blue, cyan, red, below, total, Skips, Finds, Outer, Inner}
use Rattle.graph.proofs.Parts.{part}

-- ---- what stays

-- the workspace keeps its length, and its entries from 6 · P on
pub record Kept (size : ℕ) (before after : List ℕ) : Type 0 where
  pub long : length after ≡ length before
  pub beyond : drop (6 * size) after ≡ drop (6 * size) before

pub kept_same : (size : ℕ) (ws : List ℕ) → Kept size ws ws
kept_same size ws = record { long = refl; beyond = refl }

pub kept_on : {size : ℕ} {a b c : List ℕ} → Kept size a b → Kept size b c → Kept size a c
kept_on h l = record { long = l.long ∙ h.long; beyond = l.beyond ∙ h.beyond }

pub kept_set : {size : ℕ} {a b : List ℕ} → Kept size a b → (i v : ℕ) → i < 6 * size → Kept size a (set b i v)
kept_set {size} {a} {b} h i v l =
    record { long = length-set b i v ∙ h.long; beyond = drop-set-lt (6 * size) b i v l ∙ h.beyond }

-- ---- the parts

-- the colours
abbrev pub colours : Graph → List ℕ → List ℕ
colours g ws = take g.P ws

-- the places of a stack of `depth` codes from `base` on, and its cursors, P entries further on
abbrev pub stack_at : (ℕ → ℕ) → ℕ → ℕ → List ℕ → List ℕ
stack_at place base depth ws = map place (part base depth ws)

abbrev pub cursors_at : Graph → ℕ → ℕ → List ℕ → List ℕ
cursors_at g base depth ws = part (base + g.P) depth ws

-- the outer stack is at P, the inner one at 3 · P
module _ (g : Graph) (place : ℕ → ℕ) (Code : ℕ → Type 0) where
  -- between inner searches, with `depth` places on the outer stack
  pub record OuterAt (r : ℕ) (ws : List ℕ) (depth : ℕ) : Type 0 where
    pub lent : 6 * g.P ≤ length ws
    pub fits : depth ≤ g.P
    pub coded : (i : ℕ) → i < depth → Code (ws ! (g.P + i))
    pub outer : Outer g r (colours g ws) (stack_at place g.P depth ws) (cursors_at g g.P depth ws)

  -- in an inner search from the top of an outer stack of d + 1 places, which began with w white places
  pub record InnerAt (r w d : ℕ) (ws : List ℕ) (depth : ℕ) : Type 0 where
    pub lent : 6 * g.P ≤ length ws
    pub outer_fits : suc d ≤ g.P
    pub outer_coded : (i : ℕ) → i < suc d → Code (ws ! (g.P + i))
    pub fits : depth ≤ g.P
    pub coded : (i : ℕ) → i < depth → Code (ws ! (3 * g.P + i))
    pub inner :
        Inner g r w d (colours g ws)
        (stack_at place g.P (suc d) ws) (cursors_at g g.P (suc d) ws)
        (stack_at place (3 * g.P) depth ws) (cursors_at g (3 * g.P) depth ws)

  -- the top of the outer stack of d + 1 places has no white candidate left
  pub record ExhaustedAt (r : ℕ) (ws : List ℕ) (d : ℕ) : Type 0 where
    pub at : OuterAt r ws (suc d)
    pub none : Skips g blue (colours g ws) (place (ws ! (g.P + d))) (ws ! (g.P + g.P + d)) g.D

  -- an inner search of `inner` places above an outer stack of `outer` met the place of this code again
  pub record MetAt (ws : List ℕ) (outer inner code : ℕ) : Type 0 where
    pub r : ℕ
    pub w : ℕ
    pub d : ℕ
    pub e : ℕ
    pub cursor : ℕ
    pub outer_is : outer ≡ suc d
    pub inner_is : inner ≡ suc e
    pub at : InnerAt r w d ws (suc e)
    pub coded : Code code
    pub finds : Finds g red (colours g ws) (place (ws ! (3 * g.P + e))) (ws ! (3 * g.P + g.P + e)) cursor (place code)
    pub meets : colours g ws ! place code ≡ cyan

-- ---- the measures, by D and P alone

abbrev pub fuel : ℕ → List ℕ → ℕ → ℕ
fuel D cursors n = total (λ c. D + 1 - c) cursors + (D + 2) * n

abbrev pub outer_fuel : ℕ → ℕ → List ℕ → ℕ → ℕ
outer_fuel D P ws depth = fuel D (part (P + P) depth ws) (below blue (take P ws))

abbrev pub inner_fuel : ℕ → ℕ → List ℕ → ℕ → ℕ
inner_fuel D P ws depth = fuel D (part (3 * P + P) depth ws) (below red (take P ws))
