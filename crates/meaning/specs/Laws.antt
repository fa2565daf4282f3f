-- The operators as tables over their numbers: what a plain node computes, and the expansion laws of source document 004,
-- carried to all five of F, G, U, R and W. The product that is published states them.
-- Row 31 of the reading goes by `operands`; on the others no promise rests.
use Rattle.std.specs.Prelude.{ℕ, ◌-◌, ◌≤◌, ◌<◌, Bool, true, false, cond, not, ◌&&◌, ◌||◌, [], ◌∷◌, get_or}
use Rattle.meaning.specs.Table.{Node}

-- how many operands an operator has: 0 true, 1 atom, 2 not, 3 and, 4 or, 5 implies, 6 X, 7 F, 8 G, 9 U, 10 R, 11 W
abbrev pub operands : ℕ → ℕ
operands operator = get_or (0 ∷ 0 ∷ 1 ∷ 2 ∷ 2 ∷ 2 ∷ 1 ∷ 1 ∷ 1 ∷ 2 ∷ 2 ∷ 2 ∷ []) operator 0

-- the first n nodes have known operators, and "an operand is a lower node's number"
pub record Ordered (node : ℕ → Node) (n : ℕ) : Type 0 where
  pub known : (i : ℕ) → i < n → (node i).operator < 12
  pub first_lower : (i : ℕ) → i < n → 1 ≤ operands (node i).operator → (node i).first < i
  pub second_lower : (i : ℕ) → i < n → 2 ≤ operands (node i).operator → (node i).second < i

-- operators 0 to 5: true, atom, not, and, or, implies, of the atom's truth and the operands'
abbrev pub plain : ℕ → Bool → Bool → Bool → Bool
plain operator atom a b = get_or (true ∷ atom ∷ not a ∷ (a && b) ∷ (a || b) ∷ (not a || b) ∷ []) operator true

-- operators 6 to 11: X, F, G, U, R, W. Each is true where `now` is, or where `stay` is and it is carried on from the next position.
abbrev pub now : ℕ → Bool → Bool → Bool
now operator a b = get_or (false ∷ a ∷ false ∷ b ∷ (a && b) ∷ b ∷ []) (operator - 6) false

abbrev pub stay : ℕ → Bool → Bool → Bool
stay operator a b = get_or (true ∷ true ∷ a ∷ a ∷ b ∷ a ∷ []) (operator - 6) false

-- operators 7 to 11: G, R and W are true where they stay for ever (the greatest solution of the law), F and U are not (the least)
abbrev pub greatest : ℕ → Bool
greatest operator = get_or (false ∷ false ∷ true ∷ false ∷ true ∷ true ∷ []) (operator - 6) false

-- a place keeps the promise of F or U if it is false or `now`; of G, R or W, if it is true or does not `stay`
abbrev pub kept : ℕ → Bool → Bool → Bool → Bool
kept operator v a b = cond (greatest operator) (v || not (stay operator a b)) (not v || now operator a b)
