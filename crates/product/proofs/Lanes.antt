-- What the arrays of the code hold: a lane is a 16-bit word whose bit b speaks of a state with bits b, for all b below 16 at once.
-- Definitions only: contracts of the code cite them, and nobody has to believe them.
use Prim.Native.Nat.{ℕ, ◌+◌, ◌*◌, ◌≤◌, ◌<◌}
use mathlib.Core.Path.{◌≡◌}
use mathlib.Core.Bool.{Bool, true, false, not, ◌&&◌, xor}
use mathlib.Core.List.{List}
use lib.ListN.{length, get_or}
use Rattle.bits.specs.Bits.{bit}
use Rattle.meaning.specs.Table.{Table, Node}
use Rattle.product.specs.Product.{temporal, promised, truth, meets, now_at, stay_at, carried}

-- every entry is a 16-bit word
abbrev pub Words16 : List ℕ → Type 0
Words16 list = (i : ℕ) → get_or list i 0 < 65536

module _ (table : Table) (node : ℕ → Node) where
  -- the bit of node x must be carried on by the next place
  abbrev pub needs : ℕ → ℕ → ℕ → Bool
  needs x s b = stay_at table node x s b && not (now_at table node x s b)

  -- it need not, and is not what it has to be at once
  abbrev pub fails : ℕ → ℕ → ℕ → Bool
  fails x s b = not (needs x s b) && xor (truth table node x s b) (now_at table node x s b)

module _ (table : Table) (node : ℕ → Node) (n : ℕ) where
  -- the rows of nodes 0 to n-1: node x in state s at x * 64 + s
  pub record Rows (rows : List ℕ) : Type 0 where
    pub words : Words16 rows
    pub row : (x s b : ℕ) → x < n → s < table.states → b < 16 → bit (get_or rows (x * 64 + s) 0) b ≡ truth table node x s b

  -- The lanes of the temporal nodes and the promises among nodes 0 to n-1, sixteen words for each state s from s * 16 on: at t the
  -- need of temporal node number t, at 4 + t what it is carried on by, at 8 + e whether promise e is met, at 12 whether any bit fails.
  pub record Lanes (lanes : List ℕ) : Type 0 where
    pub words : Words16 lanes
    pub need : (t s b : ℕ) → t < length (temporal node n) → s < table.states → b < 16
        → bit (get_or lanes (s * 16 + t) 0) b ≡ needs table node (get_or (temporal node n) t 0) s b
    pub need_no_more : (t s : ℕ) → length (temporal node n) ≤ t → t < 4 → s < table.states → get_or lanes (s * 16 + t) 0 ≡ 0
    pub carry : (t s b : ℕ) → t < length (temporal node n) → s < table.states → b < 16
        → bit (get_or lanes (s * 16 + 4 + t) 0) b ≡ carried table node (get_or (temporal node n) t 0) s b
    pub met : (e s b : ℕ) → e < length (promised node n) → s < table.states → b < 16
        → bit (get_or lanes (s * 16 + 8 + e) 0) b ≡ meets table node (get_or (promised node n) e 0) s b
    pub fail : (s b : ℕ) → s < table.states → b < 16
        → bit (get_or lanes (s * 16 + 12) 0) b ≡ true → (t : ℕ) × (t < length (temporal node n)) × (fails table node (get_or (temporal node n) t 0) s b ≡ true)
    pub no_fail : (s b : ℕ) → s < table.states → b < 16 → bit (get_or lanes (s * 16 + 12) 0) b ≡ false
        → (t : ℕ) → t < length (temporal node n) → fails table node (get_or (temporal node n) t 0) s b ≡ false

-- Where each state's edges start, for edges that leave the states `from` 0 to below `edges`: for each state, and for the number
-- of states, the first edge that leaves it or a higher one.
pub record Starts (from : ℕ → ℕ) (edges states : ℕ) (starts : List ℕ) : Type 0 where
  pub within : (s : ℕ) → s ≤ states → get_or starts s 0 ≤ edges
  pub lower : (s e : ℕ) → s ≤ states → e < get_or starts s 0 → from e < s
  pub higher : (s e : ℕ) → s ≤ states → get_or starts s 0 ≤ e → e < edges → s ≤ from e
