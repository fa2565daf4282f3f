-- Looping runs of a table, the endless path of a run, and what it is for a rule to hold.
use Rattle.std.specs.Prelude.{ℕ, suc, ◌+◌, ◌-◌, ◌%◌, ◌≤◌, ◌<◌, cond, List, T, ltb, length, get_or}
use Rattle.meaning.specs.Formula.{Formula, At}
use Rattle.meaning.specs.Table.{Table}

-- "A looping run has a stem of k states (k may be 0) and a loop of m states, m at least 1, stored one after the other. Its
-- first state is initial, each state has an edge to the next, and the last has an edge to state number k of the run."
pub record Run (t : Table) (track : List ℕ) (k m : ℕ) : Type 0 where
  pub loops : 1 ≤ m
  pub stored : k + m ≤ length track
  pub states : (i : ℕ) → i < k + m → get_or track i 0 < t.states
  pub begins : T (t.initial (get_or track 0 0))
  pub steps : (i : ℕ) → suc i < k + m → T (t.edge (get_or track i 0) (get_or track (suc i) 0))
  pub closes : T (t.edge (get_or track (k + m - 1) 0) (get_or track k 0))

-- "Position i of the endless path is entry i while i is below k+m, and entry k + ((i-k) mod m) after that."
unfoldable pub position : ℕ → ℕ → ℕ → ℕ
position k m i = cond (ltb i (k + m)) i (k + (i - k) % m)

-- the endless path of stem k and loop m over entries that have these labels
abbrev pub endless : (ℕ → ℕ) → ℕ → ℕ → ℕ → ℕ
endless labels k m i = labels (position k m i)

-- the labels of a run's endless path
abbrev pub path_of : Table → List ℕ → ℕ → ℕ → ℕ → ℕ
path_of t track k m = endless (λ e. t.label (get_or track e 0)) k m

-- the rule is false at the path's first position
abbrev pub Breaks : Formula → (ℕ → ℕ) → Type 0
Breaks φ π = At π φ 0 → ⊥

-- the run is one of the table's, and breaks the rule
pub record Violates (t : Table) (φ : Formula) (track : List ℕ) (k m : ℕ) : Type 0 where
  pub run : Run t track k m
  pub breaks : Breaks φ (path_of t track k m)

-- no looping run, of any length whatever, breaks the rule
abbrev pub Holds : Table → Formula → Type 0
Holds t φ = (track : List ℕ) (k m : ℕ) → Violates t φ track k m → ⊥
