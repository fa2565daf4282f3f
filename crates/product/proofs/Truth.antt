-- The truth of a node in a state with some bits: of a temporal node its bit, of another what it computes from the label and from
-- the truth of its operands. Assumes nothing.
use Prim.Native.Nat.{ℕ, zero, suc, ◌+◌, ◌≤◌, ◌<◌}
use native.Mathlib.Omega.{arith}
use native.Mathlib.Nat.{eq-or-lt_of_le}
use mathlib.Core.Path.{◌≡◌, refl, ap, ◌∙◌}
use mathlib.Core.Bool.{true}
use mathlib.Core.Logic.{◌⊎◌, inl, inr}
use mathlib.Core.List.{[]}
use lib.ListN.{length, get_or, length-append, get_or-append}
use lib.Seq.{get_or_at}
use borrow.Author.Tests.{le-leb, lt-leb}
use Rattle.bits.specs.Bits.{bit}
use Rattle.meaning.specs.Table.{Table, Node}
use Rattle.meaning.specs.Laws.{plain, operands}
use Rattle.product.specs.Product.{temporal, truths, truth}
use Rattle.product.proofs.Operators.{plain_operands}

module _ (table : Table) (node : ℕ → Node) (s b : ℕ) where
  pub length-truths : (n : ℕ) → length (truths table node n s b) ≡ n
  unfolding truths
  length-truths zero = refl
  length-truths (suc n) = length-append (truths table node n s b) _ ∙ (ap (λ (x : ℕ). x + 1) (length-truths n) ∙ omega arith)

  -- what is added later changes nothing
  pub truths_at : (n x : ℕ) → x < n → get_or (truths table node n s b) x true ≡ truth table node x s b
  unfolding truths truth
  truths_at zero x l = elim l [ ]
  truths_at (suc n) x l = go (eq-or-lt_of_le l) (truths_at n x)
    where
      go : (suc x ≡ suc n) ⊎ (suc x < suc n) → (x < n → get_or (truths table node n s b) x true ≡ truth table node x s b)
          → get_or (truths table node (suc n) s b) x true ≡ truth table node x s b
      go (inl e) below =
          let p : n ≡ x = omega arith in
          ap (λ (y : ℕ). get_or (truths table node (suc y) s b) x true) p
      go (inr k) below =
          get_or-append (truths table node n s b) _ true x (omega (arith, length-truths n)) ∙ below (omega arith)

  -- a temporal node has its bit
  pub truth_temporal : (n : ℕ) → 6 ≤ (node n).operator → truth table node n s b ≡ bit b (length (temporal node n))
  unfolding truths truth
  truth_temporal n h = get_or_at (truths table node n s b) _ [] true n (length-truths n) ∙ rw (le-leb 6 (node n).operator h)

  truth_computes : (n : ℕ) → (node n).operator < 6
      → truth table node n s b
      ≡ plain (node n).operator (bit (table.label s) (node n).first) (get_or (truths table node n s b) (node n).first true)
      (get_or (truths table node n s b) (node n).second true)
  unfolding truths truth
  truth_computes n h = get_or_at (truths table node n s b) _ [] true n (length-truths n) ∙ rw (lt-leb 6 (node n).operator h)

  -- another node computes from the label and its operands' truth
  pub truth_plain : (n : ℕ) → (node n).operator < 6
      → (1 ≤ operands (node n).operator → (node n).first < n)
      → (2 ≤ operands (node n).operator → (node n).second < n)
      → truth table node n s b
      ≡ plain (node n).operator (bit (table.label s) (node n).first) (truth table node (node n).first s b)
      (truth table node (node n).second s b)
  truth_plain n h f g =
      truth_computes n h
      ∙ plain_operands _ _ _ _ (bit (table.label s) (node n).first) (node n).operator h
      (λ p. truths_at n (node n).first (f p))
      (λ q. truths_at n (node n).second (g q))
