-- What the judge's scratch holds: what its inner functions ask and leave. Assumes nothing.
use Prim.Native.Nat.{ℕ, ◌+◌, ◌*◌, ◌-◌, ◌^◌, ◌≤◌, ◌<◌}
use mathlib.Core.Path.{◌≡◌}
use mathlib.Core.Bool.{Bool, cond}
use mathlib.Core.List.{List}
use lib.ListN.{length, get_or}
use Rattle.meaning.specs.Table.{Node}
use Rattle.bits.specs.Bits.{bit}
use Rattle.meaning.specs.Laws.{Ordered, plain, greatest}
use Rattle.rule.proofs.Passes.{pass, seed}
use Rattle.rule.proofs.Entries.{now_at, stay_at}
use Rattle.reading.specs.Parts.{label_of, node_of, node_count}

-- how many bits an entry of the scratch has, and how many nodes a rule may have
abbrev pub width : ℕ
width = 32

-- the entries of a list
abbrev pub at : List ℕ → ℕ → ℕ
at l i = get_or l i 0

-- a node with this operator and these operands
abbrev pub node_with : ℕ → ℕ → ℕ → Node
node_with operator first second = record { operator = operator; first = first; second = second }

-- `now` and `stay` of a node at each entry of a list of values
abbrev pub now_in : Node → List ℕ → ℕ → Bool
now_in x l = now_at x (at l)

abbrev pub stay_in : Node → List ℕ → ℕ → Bool
stay_in x l = stay_at x (at l)

-- and what a plain node computes there, with these labels
abbrev pub plain_in : Node → (ℕ → ℕ) → List ℕ → ℕ → Bool
plain_in x labels l i = plain x.operator (bit (labels i) x.first) (bit (at l i) x.first) (bit (at l i) x.second)

-- the entries from lo to hi are f's, and all others are as they were
pub record Stored (lo hi : ℕ) (f : ℕ → ℕ) (before after : List ℕ) : Type 0 where
  pub stored : (i : ℕ) → lo ≤ i → i < hi → at after i ≡ f i
  pub under : (i : ℕ) → i < lo → at after i ≡ at before i
  pub over : (i : ℕ) → hi ≤ i → at after i ≡ at before i

-- an entry with bit n added
abbrev pub added : ℕ → ℕ → Bool → ℕ
added entry n b = entry + cond b (2 ^ n) 0

-- bit n, of these truth values, is added to each entry
abbrev pub AddedTo : ℕ → (ℕ → Bool) → (before after : List ℕ) → Type 0
AddedTo n f before after = (i : ℕ) → i < length before → at after i ≡ added (at before i) n (f i)

-- bit n is added by the two passes of a node that lasts: one over the loop gives the seed of one over all entries
abbrev pub AddedByPasses : Node → (k m n : ℕ) → (before after : List ℕ) → Type 0
AddedByPasses x k m n before after =
    let kept = seed (now_in x before) (stay_in x before) (greatest x.operator) k m in
    AddedTo n (λ i. pass (now_in x before) (stay_in x before) kept i (length before - i)) before after

-- bit n is still to be added to each entry
pub record Adding (n : ℕ) (entries : List ℕ) : Type 0 where
  pub narrow : n < width
  pub below : (i : ℕ) → i < length entries → at entries i < 2 ^ n

-- the label of each entry of the track
abbrev pub labels_of : List ℕ → List ℕ → ℕ → ℕ
labels_of states track i = label_of states (at track i)

-- a rule and a run by which the truth of each node can be told at each entry: the entries are states that have labels, and the nodes'
-- bytes are bits of an entry
pub record Tellable (states nodes track : List ℕ) (k m : ℕ) : Type 0 where
  pub labelled : (i : ℕ) → i < k + m → 3 * at track i + 2 < length states
  pub some_node : 1 ≤ node_count nodes
  pub few_nodes : node_count nodes ≤ width
  pub ordered : Ordered (node_of nodes) (node_count nodes)
  pub first_narrow : (x : ℕ) → x < node_count nodes → (node_of nodes x).first < width
  pub second_narrow : (x : ℕ) → x < node_count nodes → (node_of nodes x).second < width
