-- The value of a rule's first n nodes at one place, the number whose bit n is the truth of node n there: it is below 2 ^ n, a later node moves no lower bit, plain nodes compute from it, and
-- the others are as guessed. Assumes nothing.
use Prim.Native.Nat.{ℕ, zero, suc, ◌+◌, ◌^◌, ◌≤◌, ◌<◌}
use mathlib.Core.Path.{◌≡◌, sym, ◌∙◌}
use mathlib.Core.Bool.{Bool, cond}
use lib.Dec.{ltb}
use mathlib.Core.Logic.{⊎_elim}
use native.Mathlib.Nat.{eq-or-lt_of_le, le_of_suc-le-suc}
use native.Mathlib.Omega.{arith}
use borrow.Author.Tests.{lt-ltb, le-ltb}
use Rattle.bits.specs.Bits.{bit}
use Rattle.bits.proofs.Number.{bit_added, bit-added-below, added_below}
use Rattle.meaning.specs.Table.{Node}
use Rattle.meaning.specs.Laws.{Ordered, plain}
use Rattle.rule.proofs.Operands.{plain_operands}

-- The truth of a node at a place with this label, where the nodes below it have the value `lower`: operators 0 to 5 compute, and
-- the truth of operators 6 to 11 is guessed.
unfoldable pub truth : Node → ℕ → Bool → ℕ → Bool
truth node label guessed lower =
    cond (ltb node.operator 6)
    (plain node.operator (bit label node.first) (bit lower node.first) (bit lower node.second))
    guessed

-- "The value of nodes 0 to n at a place is that of nodes 0 to n-1 with node n's added"
unfoldable pub value : (ℕ → Node) → ℕ → (ℕ → Bool) → ℕ → ℕ
value node label guess zero = 0
value node label guess (suc n) =
    let lower = value node label guess n in
    lower + cond (truth (node n) label (guess n) lower) (2 ^ n) 0

module _ (node : ℕ → Node) (label : ℕ) (guess : ℕ → Bool) where
  -- node n's own truth, on top of the nodes below it
  abbrev own : ℕ → Bool
  own n = truth (node n) label (guess n) (value node label guess n)

  pub value_below : (n : ℕ) → value node label guess n < 2 ^ n
  unfolding value
  value_below zero = omega arith
  value_below (suc n) = added_below (value node label guess n) n (own n) (value_below n)

  -- node x is added on top of the nodes below it, and stays as it is
  pub value_bit : (n x : ℕ) → x < n → bit (value node label guess n) x ≡ truth (node x) label (guess x) (value node label guess x)
  unfolding value
  value_bit zero x h = absurd (omega arith)
  value_bit (suc n) x h =
      ⊎_elim (λ e. rw e (bit_added (value node label guess n) n (own n) (value_below n)))
      (λ l. bit-added-below (value node label guess n) n (own n) (value_below n) x l ∙ value_bit n x l)
      (eq-or-lt_of_le (le_of_suc-le-suc h))

  pub value_lower : (n x y : ℕ) → y < x → x ≤ n → bit (value node label guess x) y ≡ bit (value node label guess n) y
  value_lower n x y l h = value_bit x y l ∙ sym (value_bit n y (omega arith))

  pub value_guessed : (n x : ℕ) → x < n → 6 ≤ (node x).operator → bit (value node label guess n) x ≡ guess x
  unfolding truth
  value_guessed n x h g = value_bit n x h ∙ rw (le-ltb (node x).operator 6 g)

  pub value_computes : (n : ℕ) → Ordered node n → (x : ℕ) → x < n → (node x).operator < 6
      → bit (value node label guess n) x
      ≡ plain (node x).operator (bit label (node x).first) (bit (value node label guess n) (node x).first)
      (bit (value node label guess n) (node x).second)
  unfolding truth
  value_computes n o x h p =
      value_bit n x h
      ∙ (rw (lt-ltb (node x).operator 6 p)
      (plain_operands _ _ _ _ (bit label (node x).first) (node x).operator p
      (λ q. value_lower n x (node x).first (o.first_lower x h q) (omega arith))
      (λ q. value_lower n x (node x).second (o.second_lower x h q) (omega arith))))
