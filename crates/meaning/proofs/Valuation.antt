-- A Boolean valuation of a rule's nodes on a looping shape: what the judge computes, what the bits along a lasso of the product
-- are, and what is read off any looping run. (`Hinge` shows that such a valuation is truth.)
use Prim.Native.Nat.{ℕ, suc, ◌+◌, ◌≤◌, ◌<◌}
use mathlib.Core.Path.{◌≡◌}
use mathlib.Core.Bool.{Bool, ◌&&◌, ◌||◌}
use lib.Dec.{T}
use Rattle.bits.specs.Bits.{bit}
use Rattle.meaning.specs.Table.{Node}
use Rattle.meaning.specs.Laws.{plain, now, stay, kept}

-- Of the first n nodes over the path π: u repeats with m from k on, plain nodes compute, X reads one position on, and the
-- operators 7 to 11 obey the law at every position and are kept again and again.
pub record Valuation (node : ℕ → Node) (n : ℕ) (π : ℕ → ℕ) (k m : ℕ) (u : ℕ → ℕ → Bool) : Type 0 where
  pub repeats : (x : ℕ) → x < n → (i : ℕ) → k ≤ i → u x (i + m) ≡ u x i
  pub computes : (x : ℕ) → x < n → (node x).operator < 6 → (i : ℕ)
      → u x i ≡ plain (node x).operator (bit (π i) (node x).first) (u (node x).first i) (u (node x).second i)
  pub reads_on : (x : ℕ) → x < n → (node x).operator ≡ 6 → (i : ℕ) → u x i ≡ u (node x).first (suc i)
  pub unrolls : (x : ℕ) → x < n → 7 ≤ (node x).operator → (i : ℕ)
      → u x i
      ≡ (now (node x).operator (u (node x).first i) (u (node x).second i)
      || (stay (node x).operator (u (node x).first i) (u (node x).second i) && u x (suc i)))
  pub keeps : (x : ℕ) → x < n → 7 ≤ (node x).operator → (i : ℕ)
      → (j : ℕ) × (i ≤ j) × T (kept (node x).operator (u x j) (u (node x).first j) (u (node x).second j))
