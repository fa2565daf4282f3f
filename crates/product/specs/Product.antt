-- The product of a table and a rule, as W12 publishes it. Temporal nodes are numbered t and promises e, each by node number; the two
-- numberings differ as soon as an X stands before an operator 7 to 11.
use Rattle.std.specs.Prelude.{ℕ, zero, suc, ◌-◌, ◌^◌, Bool, true, false, cond, not, ◌&&◌, ◌||◌, List, [], ◌∷◌, ◌++◌, map, leb, ltb, eqb, length, get_or}
use Rattle.std.specs.Bool.{beq}
use Rattle.bits.specs.Bits.{bit}
use Rattle.meaning.specs.Table.{Table, Node}
use Rattle.meaning.specs.Laws.{plain, now, stay, kept}
use Rattle.product.specs.Places.{Place, places, number_of, place_of}

-- the nodes below n with this operator or a higher one, rising by number
unfoldable pub nodes_from : ℕ → (ℕ → Node) → ℕ → List ℕ
nodes_from operator node zero = []
nodes_from operator node (suc n) =
    nodes_from operator node n ++ cond (leb operator (node n).operator) (n ∷ []) []

-- "Temporal nodes rise by number, the lowest as the lowest bit": entry t is the node whose truth is bit t.
abbrev pub temporal : (ℕ → Node) → ℕ → List ℕ
temporal = nodes_from 6

-- "Promises 0 and on are those of operators 7 to 11 by node number": entry e is the node that promise e is of.
abbrev pub promised : (ℕ → Node) → ℕ → List ℕ
promised = nodes_from 7

-- the test passes at every number below n
unfoldable pub every : (ℕ → Bool) → ℕ → Bool
every test zero = true
every test (suc n) = every test n && test n

module _ (table : Table) (node : ℕ → Node) where
  -- The truth of nodes 0 to n-1 in state s with bits b: "that of nodes 0 to n-2 with node n-1's added". A temporal node has its bit,
  -- and as many temporal nodes stand before it as its number t says; another computes from the label and lower nodes.
  unfoldable pub truths : ℕ → ℕ → ℕ → List Bool
  truths zero s b = []
  truths (suc n) s b =
      let lower = truths n s b in
      lower
      ++ (cond (leb 6 (node n).operator)
      (bit b (length (temporal node n)))
      (plain (node n).operator (bit (table.label s) (node n).first) (get_or lower (node n).first true)
      (get_or lower (node n).second true))
      ∷ [])

  -- the truth of node n in state s with bits b
  unfoldable pub truth : ℕ → ℕ → ℕ → Bool
  truth n s b = get_or (truths (suc n) s b) n true

  -- "A place meets the promise of F a if F a is false or a true; of a U b, if it is false or b true; of G a or a W b, if it is true
  -- or a false; of a R b, if it is true or b false": `kept` of node n, which is F a and so on.
  unfoldable pub meets : ℕ → ℕ → ℕ → Bool
  meets n s b =
      kept (node n).operator (truth n s b) (truth (node n).first s b) (truth (node n).second s b)

  -- `now` and `stay` of temporal node n, from its operands' truth
  abbrev pub now_at : ℕ → ℕ → ℕ → Bool
  now_at n s b = now (node n).operator (truth (node n).first s b) (truth (node n).second s b)

  abbrev pub stay_at : ℕ → ℕ → ℕ → Bool
  stay_at n s b = stay (node n).operator (truth (node n).first s b) (truth (node n).second s b)

  -- what node n reads of the next place: X its operand's truth, operators 7 to 11 their own
  unfoldable pub carried : ℕ → ℕ → ℕ → Bool
  carried n s b = truth (cond (eqb (node n).operator 6) (node n).first n) s b

  -- The bit of node n in (s, b) agrees with the expansion law along an edge to (s', b'): it is true where `now` is, or where `stay`
  -- is and it is carried on.
  unfoldable pub agrees : ℕ → ℕ → ℕ → ℕ → ℕ → Bool
  agrees n s b s' b' =
      beq (truth n s b) (now_at n s b || (stay_at n s b && carried n s' b'))

-- What a product is made of: a table, a rule of `count` nodes, and promises, each a test of a state and bits.
pub record Product : Type 0 where
  pub table : Table
  pub node : ℕ → Node
  pub count : ℕ
  pub promises : List (ℕ → ℕ → Bool)

-- the product that is published, of a table and a rule
abbrev pub published : Table → (ℕ → Node) → ℕ → Product
published table node count =
    record { table = table; node = node; count = count; promises = map (meets table node) (promised node count) }

module _ (g : Product) where
  -- T, the number of temporal nodes
  unfoldable pub width : ℕ
  width = length (temporal g.node g.count)

  -- temporal node number t
  abbrev pub temporal_node : ℕ → ℕ
  temporal_node t = get_or (temporal g.node g.count) t 0

  -- E, the number of promises and the top waiting number
  unfoldable pub top : ℕ
  top = length g.promises

  -- P, the number of places
  unfoldable pub size : ℕ
  size = places g.table.states width top

  -- the place that has this number, and the number that a place has
  unfoldable pub place : ℕ → Place
  place x = place_of width top x

  unfoldable pub numbering : Place → ℕ
  numbering p = number_of width top p

  -- "an initial place has an initial state, the rule false and waiting number 0"
  unfoldable pub initial : Place → Bool
  initial p =
      g.table.initial p.state
      && not (truth g.table g.node (g.count - 1) p.state p.bits)
      && eqb p.waiting 0

  -- state s with bits b meets promise e
  unfoldable pub met : ℕ → ℕ → ℕ → Bool
  met e s b = get_or g.promises e (λ s b. false) s b

  -- "Waiting number w below the top rises by one when the place meets promise w and otherwise stays; at the top the place is
  -- marked, and the next number is 0."
  unfoldable pub next : Place → ℕ
  next p =
      cond (ltb p.waiting top)
      (cond (met p.waiting p.state p.bits) (suc p.waiting) p.waiting)
      0

  unfoldable pub marked : Place → Bool
  marked p = eqb p.waiting top

  -- "Bits agree with the label and the expansion laws along each edge": each temporal node's does.
  unfoldable pub agree : Place → Place → Bool
  agree p q =
      every (λ t. agrees g.table g.node (temporal_node t) p.state p.bits q.state q.bits) width

  -- q is a successor of p
  unfoldable pub successor : Place → Place → Bool
  successor p q =
      g.table.edge p.state q.state
      && ltb q.bits (2 ^ width)
      && agree p q
      && eqb q.waiting (next p)
