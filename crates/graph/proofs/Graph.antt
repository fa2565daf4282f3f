-- A graph given by candidates, what leads where in it, and its lassos. The search, its machine and its proofs speak of any such graph.
use Prim.Native.Nat.{ℕ, suc, ◌+◌, ◌-◌, ◌≤◌, ◌<◌}
use mathlib.Core.Path.{◌≡◌}
use mathlib.Core.Bool.{Bool}
use mathlib.Core.List.{List}
use mathlib.Core.Option.{Option, some}
use lib.Dec.{T}
use lib.ListN.{length, get_or}

-- entry i of a list of numbers, 0 past its end
infixl 90 ◌!◌
abbrev pub ◌!◌ : List ℕ → ℕ → ℕ
l ! i = get_or l i 0

-- P places and D cursor values; at each cursor a place has a candidate or none; the marked and the initial places
pub record Graph : Type 0 where
  pub P : ℕ
  pub D : ℕ
  pub cand : ℕ → ℕ → Option ℕ
  pub marked : ℕ → Bool
  pub initial : ℕ → Bool
  pub inside : (x c y : ℕ) → x < P → c < D → cand x c ≡ some y → y < P

-- x steps to y: y is a candidate of x
pub record Step (g : Graph) (x y : ℕ) : Type 0 where
  pub cursor : ℕ
  pub below : cursor < g.D
  pub leads : g.cand x cursor ≡ some y

-- y is reached from x in zero or more steps
pub data Reaches (g : Graph) : ℕ → ℕ → Type 0 where
  here : {x : ℕ} → Reaches g x x
  step : {x y z : ℕ} → Step g x y → Reaches g y z → Reaches g x z

-- z is reached from x in one or more steps
pub record Leads (g : Graph) (x z : ℕ) : Type 0 where
  pub next : ℕ
  pub first : Step g x next
  pub rest : Reaches g next z

-- a marked place that is reached from x and leads to itself
pub record Recurs (g : Graph) (x : ℕ) : Type 0 where
  pub place : ℕ
  pub reached : Reaches g x place
  pub marked : T (g.marked place)
  pub returns : Leads g place place

-- A stem of k places and a loop of m places, stored one after the other: it begins at an initial place, each place steps to
-- the next and the last to entry k, and a place of the loop is marked.
pub record Lasso (g : Graph) (track : List ℕ) (k m : ℕ) : Type 0 where
  pub loops : 1 ≤ m
  pub stored : k + m ≤ length track
  pub places : (i : ℕ) → i < k + m → track ! i < g.P
  pub begins : T (g.initial (track ! 0))
  pub steps : (i : ℕ) → suc i < k + m → Step g (track ! i) (track ! suc i)
  pub closes : Step g (track ! (k + m - 1)) (track ! k)
  pub marks : (i : ℕ) × (k ≤ i) × (i < k + m) × T (g.marked (track ! i))
