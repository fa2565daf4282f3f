-- The tables look at an operator's operands only: what stands where an operator has no operand moves nothing. Assumes nothing.
use Prim.Native.Nat.{ℕ, ◌≤◌, ◌<◌}
use mathlib.Core.Path.{◌≡◌, refl, ap, ap₂}
use mathlib.Core.Bool.{Bool, not, ◌&&◌, ◌||◌}
use native.Mathlib.Omega.{arith}
use Rattle.meaning.specs.Laws.{operands, plain, now, stay}
use Rattle.meaning.proofs.Operators.{cases}

-- f gives the same of a and b as of a' and b', if these are equal where the operator has an operand
abbrev Operands : (ℕ → Bool → Bool → Bool) → (a a' b b' : Bool) → ℕ → Type 0
Operands f a a' b b' operator =
    (1 ≤ operands operator → a ≡ a') → (2 ≤ operands operator → b ≡ b') → f operator a b ≡ f operator a' b'

module _ (a a' b b' : Bool) where
  pub plain_operands : (atom : Bool) (operator : ℕ) → operator < 6
      → (1 ≤ operands operator → a ≡ a') → (2 ≤ operands operator → b ≡ b')
      → plain operator atom a b ≡ plain operator atom a' b'
  plain_operands atom =
      cases (Operands (λ o. plain o atom) a a' b b') 6 (
        (
          (
            (
              ((tt, λ p q. refl), λ p q. refl),
              λ p q. ap not (p (omega arith)),
            ),
            λ p q. ap₂ ◌&&◌ (p (omega arith)) (q (omega arith)),
          ),
          λ p q. ap₂ ◌||◌ (p (omega arith)) (q (omega arith)),
        ),
        λ p q. ap₂ (λ (x y : Bool). not x || y) (p (omega arith)) (q (omega arith)),
      )

  pub now_operands : (operator : ℕ) → operator < 12 → (1 ≤ operands operator → a ≡ a') → (2 ≤ operands operator → b ≡ b')
      → now operator a b ≡ now operator a' b'
  now_operands =
      cases (Operands now a a' b b') 12 (
        (
          (
            (
              (
                (((((((tt, λ p q. refl), λ p q. refl), λ p q. refl), λ p q. refl), λ p q. refl), λ p q. refl), λ p q. refl),
                λ p q. p (omega arith),
              ),
              λ p q. refl,
            ),
            λ p q. q (omega arith),
          ),
          λ p q. ap₂ ◌&&◌ (p (omega arith)) (q (omega arith)),
        ),
        λ p q. q (omega arith),
      )

  pub stay_operands : (operator : ℕ) → operator < 12 → (1 ≤ operands operator → a ≡ a') → (2 ≤ operands operator → b ≡ b')
      → stay operator a b ≡ stay operator a' b'
  stay_operands =
      cases (Operands stay a a' b b') 12 (
        (
          (
            (
              (
                (((((((tt, λ p q. refl), λ p q. refl), λ p q. refl), λ p q. refl), λ p q. refl), λ p q. refl), λ p q. refl),
                λ p q. refl,
              ),
              λ p q. p (omega arith),
            ),
            λ p q. p (omega arith),
          ),
          λ p q. q (omega arith),
        ),
        λ p q. p (omega arith),
      )
