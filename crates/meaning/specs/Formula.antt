-- Rules as trees, and when one is true at a position of an endless path (source document 000, section 2.2).
use Rattle.std.specs.Prelude.{ℕ, suc, ◌≤◌, ◌<◌, ◌⊎◌, T}
use Rattle.bits.specs.Bits.{bit}

-- the twelve operators, in the order of their numbers
pub data Formula : Type 0 where
  True : Formula
  Atom : ℕ → Formula
  Not : Formula → Formula
  And Or Implies : Formula → Formula → Formula
  X F G : Formula → Formula
  U R W : Formula → Formula → Formula

-- "π, i ⊨ α": α is true at position i of the path π. A position's label is a number, and bit j of it is atom j.
-- Implies is source document 002's: false on the left or true on the right.
abbrev pub At : (ℕ → ℕ) → Formula → ℕ → Type 0
At π True i = Unit {0}
At π (Atom j) i = T (bit (π i) j)
At π (Not a) i = At π a i → ⊥
At π (And a b) i = At π a i × At π b i
At π (Or a b) i = At π a i ⊎ At π b i
At π (Implies a b) i = (At π a i → ⊥) ⊎ At π b i
-- "π, (i+1) ⊨ α"
At π (X a) i = At π a (suc i)
-- "there exists j ≥ i such that π, j ⊨ α"
At π (F a) i = (j : ℕ) × (i ≤ j) × At π a j
-- "for all j ≥ i, π, j ⊨ α"
At π (G a) i = (j : ℕ) → i ≤ j → At π a j
-- "there exists k ≥ i such that π, k ⊨ β, and for all i ≤ j < k, π, j ⊨ α"
At π (U a b) i = (k : ℕ) × (i ≤ k) × At π b k × ((j : ℕ) → i ≤ j → j < k → At π a j)
-- "either for all j with i ≤ j, π, j ⊨ β, or there exists k with k ≥ i such that π, k ⊨ α and for all j with i ≤ j ≤ k we have π, j ⊨ β"
At π (R a b) i =
    ((j : ℕ) → i ≤ j → At π b j)
    ⊎ ((k : ℕ) × (i ≤ k) × At π a k × ((j : ℕ) → i ≤ j → j ≤ k → At π b j))
-- "either for all j with i ≤ j, π, j ⊨ α, or there exists k ≥ i such that π, k ⊨ β, and for all j with i ≤ j < k, π, j ⊨ α"
At π (W a b) i =
    ((j : ℕ) → i ≤ j → At π a j)
    ⊎ ((k : ℕ) × (i ≤ k) × At π b k × ((j : ℕ) → i ≤ j → j < k → At π a j))
