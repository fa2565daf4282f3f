-- State tables, and rules as lists of nodes.
use Rattle.std.specs.Prelude.{ℕ, zero, suc, ◌-◌, Bool, List, [], ◌∷◌, ◌++◌, get_or}
use Rattle.meaning.specs.Formula.{Formula, True, Atom, Not, And, Or, Implies, X, F, G, U, R, W}

-- S, the number of states; A, the number of atoms; per state its label and whether it is initial; the edges
pub record Table : Type 0 where
  pub states : ℕ
  pub atoms : ℕ
  pub label : ℕ → ℕ
  pub initial : ℕ → Bool
  pub edge : ℕ → ℕ → Bool

-- "per rule node: operator, first, second"
pub record Node : Type 0 where
  pub operator : ℕ
  pub first : ℕ
  pub second : ℕ

-- "0 true, 1 atom, 2 not, 3 and, 4 or, 5 implies, 6 X, 7 F, 8 G, 9 U, 10 R, 11 W", of an atom's number or the operands'
-- formulas. Another operator is read as true; none is admitted.
unfoldable pub formula_of : ℕ → ℕ → Formula → Formula → Formula
formula_of operator atom a b =
    get_or
    (True ∷ Atom atom ∷ Not a ∷ And a b ∷ Or a b ∷ Implies a b ∷ X a ∷ F a ∷ G a ∷ U a b ∷ R a b ∷ W a b ∷ [])
    operator True

-- The formulas of nodes 0 to n-1: those of nodes 0 to n-2 with node n-1's added, so a shared node is read once. "An operand
-- is a lower node's number"; another is read as true, and none is admitted.
unfoldable pub formulas : (ℕ → Node) → ℕ → List Formula
formulas node zero = []
formulas node (suc n) =
    let lower = formulas node n in
    lower ++ (formula_of (node n).operator (node n).first (get_or lower (node n).first True) (get_or lower (node n).second True) ∷ [])

-- the formula of node n
unfoldable pub formula : (ℕ → Node) → ℕ → Formula
formula node n = get_or (formulas node (suc n)) n True

-- "The last node is the rule."
unfoldable pub rule : (ℕ → Node) → ℕ → Formula
rule node count = formula node (count - 1)
