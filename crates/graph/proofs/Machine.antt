-- The machine of the nested depth-first search: colours, stacks and cursors as lists of numbers, what a scan finds, the invariants
-- and the measure. Its turns, each a law of `OuterTurns` or `InnerTurns` that gives the lists afterwards:
--   root        an initial white place is painted cyan and pushed on the empty outer stack with cursor 0
--   advance     a scan of the outer top finds a white place: it is painted cyan and pushed
--   leave_blue  a scan of the outer top finds none, and the top is not marked: it is painted blue and popped
--   begin       a scan of the outer top finds none, and the top is marked: the inner stack is the top, with cursor 0
--   found       a scan of the inner top finds a cyan place
--   inner_push  a scan of the inner top finds a blue place: it is painted red and pushed
--   inner_pop   a scan of the inner top finds none: the inner top is popped
--   leave_red   the inner stack is empty: the outer top is painted red and popped
use Prim.Native.Nat.{ℕ, suc, ◌+◌, ◌-◌, ◌*◌, ◌≤◌, ◌<◌}
use mathlib.Core.Path.{◌≡◌}
use mathlib.Core.Logic.{◌≢◌}
use mathlib.Core.Bool.{cond}
use mathlib.Core.List.{List, [], ◌∷◌, ◌++◌}
use mathlib.Core.Option.{some}
use lib.Dec.{T, ltb}
use lib.ListN.{length, set}
use Rattle.graph.proofs.Graph.{◌!◌, Graph, Step, Leads}

-- not met; left by the outer search; on the outer stack; left, and met by an inner search
abbrev pub white : ℕ
white = 0

abbrev pub blue : ℕ
blue = 1

abbrev pub cyan : ℕ
cyan = 2

abbrev pub red : ℕ
red = 3

-- blue or red
pub record Finished (colour : ℕ) : Type 0 where
  pub met : white < colour
  pub left : colour ≢ cyan

-- ---- scans

-- every candidate of x at the cursors from c to below e has a colour of the limit or above
pub record Skips (g : Graph) (limit : ℕ) (colour : List ℕ) (x c e : ℕ) : Type 0 where
  pub skips : (a y : ℕ) → c ≤ a → a < e → g.cand x a ≡ some y → limit ≤ colour ! y

-- e is the lowest cursor from c on at which x has a candidate with a colour below the limit, and y is that candidate
-- (a scan that finds none is `Skips … c D`)
pub record Finds (g : Graph) (limit : ℕ) (colour : List ℕ) (x c e y : ℕ) : Type 0 where
  pub from : c ≤ e
  pub low : e < g.D
  pub leads : g.cand x e ≡ some y
  pub under : colour ! y < limit
  pub before : Skips g limit colour x c e

-- ---- stacks, bottom first, each with a cursor for each of its places

-- one more entry on top
abbrev pub push : List ℕ → ℕ → List ℕ
push l y = l ++ (y ∷ [])

-- the cursors after a push of the candidate at c: that of the old top, at index d, is past c, and the new top's is 0
abbrev pub onward : List ℕ → ℕ → ℕ → List ℕ
onward cursors d c = push (set cursors d (c + 1)) 0

-- x stands on the stack
pub record On (stack : List ℕ) (x : ℕ) : Type 0 where
  pub index : ℕ
  pub low : index < length stack
  pub is : stack ! index ≡ x

-- a path of places, each of whose candidates before its cursor has a colour of the limit or above (outer: 1, inner: 3)
pub record Stack (g : Graph) (limit : ℕ) (colour stack cursors : List ℕ) : Type 0 where
  pub paired : length cursors ≡ length stack
  pub places : (i : ℕ) → i < length stack → stack ! i < g.P
  pub within : (i : ℕ) → i < length stack → cursors ! i ≤ g.D
  pub steps : (i : ℕ) → suc i < length stack → Step g (stack ! i) (stack ! suc i)
  pub passed : (i : ℕ) → i < length stack → Skips g limit colour (stack ! i) 0 (cursors ! i)

-- the cyan places are exactly the outer stack's, each once, and the lowest is initial
pub record OnStack (g : Graph) (colour outer : List ℕ) : Type 0 where
  pub cyans : (i : ℕ) → i < length outer → colour ! (outer ! i) ≡ cyan
  pub stands : (x : ℕ) → colour ! x ≡ cyan → On outer x
  pub once : (i j : ℕ) → i < j → j < length outer → outer ! i ≢ outer ! j
  pub begins : 0 < length outer → T (g.initial (outer ! 0))

-- ---- measures

unfoldable pub total : (ℕ → ℕ) → List ℕ → ℕ
total f [] = 0
total f (x ∷ xs) = f x + total f xs

-- how many of the colours are below a limit: below 1 the white ones, below 3 those that are not red
abbrev pub below : ℕ → List ℕ → ℕ
below limit colour = total (λ c. cond (ltb c limit) 1 0) colour

-- D + 1 less the cursor for each place of a stack, and D + 2 for each of n places that it may still meet
abbrev pub measure : Graph → List ℕ → ℕ → ℕ
measure g cursors n = total (λ c. g.D + 1 - c) cursors + (g.D + 2) * n

-- ---- invariants

-- a finished place steps to no white place
abbrev pub Seen : Graph → List ℕ → Type 0
Seen g colour = (x y : ℕ) → Finished (colour ! x) → Step g x y → white < colour ! y

-- a finished marked place does not lead to itself
abbrev pub Clear : Graph → List ℕ → Type 0
Clear g colour = (x : ℕ) → Finished (colour ! x) → T (g.marked x) → Leads g x x → ⊥

-- a red place steps to red places only
abbrev pub Closed : Graph → List ℕ → Type 0
Closed g colour = (x y : ℕ) → red ≤ colour ! x → Step g x y → red ≤ colour ! y

-- what holds at every turn, where the root loop has passed the places below r
pub record Search (g : Graph) (r : ℕ) (colour outer cursors : List ℕ) : Type 0 where
  pub sized : length colour ≡ g.P
  pub well_formed : (x : ℕ) → colour ! x ≤ red
  pub stack : Stack g blue colour outer cursors
  pub on_stack : OnStack g colour outer
  pub roots : (x : ℕ) → x < r → x < g.P → T (g.initial x) → white < colour ! x
  pub seen : Seen g colour
  pub clear : Clear g colour
  pub room : length outer + below blue colour ≤ g.P

-- what holds between inner searches
pub record Outer (g : Graph) (r : ℕ) (colour outer cursors : List ℕ) : Type 0 where
  pub search : Search g r colour outer cursors
  pub closed : Closed g colour

-- the inner stack is a path from s, and everything above s is red
pub record InnerPath (g : Graph) (s : ℕ) (colour inner inner_cursors : List ℕ) : Type 0 where
  pub stack : Stack g red colour inner inner_cursors
  pub starts : 0 < length inner → inner ! 0 ≡ s
  pub reds : (i : ℕ) → suc i < length inner → red ≤ colour ! (inner ! suc i)

-- What holds in an inner search, whose stack is `inner` with the cursors `inner_cursors`. It started at the top of the outer stack, which has d
-- places below, is marked and steps to no white place; there were w white places.
pub record Inner (g : Graph) (r w d : ℕ) (colour outer cursors inner inner_cursors : List ℕ) : Type 0 where
  pub search : Search g r colour outer cursors
  pub deep : length outer ≡ suc d
  pub whites : below blue colour ≡ w
  pub marked : T (g.marked (outer ! d))
  pub exhausted : (y : ℕ) → Step g (outer ! d) y → white < colour ! y
  pub inner_path : InnerPath g (outer ! d) colour inner inner_cursors
  pub closed : (x y : ℕ) → red ≤ colour ! x → (On inner x → ⊥) → Step g x y → red ≤ colour ! y
  pub ended : length inner ≡ 0 → (y : ℕ) → Step g (outer ! d) y → red ≤ colour ! y
  pub room : length inner + below red colour ≤ suc g.P
