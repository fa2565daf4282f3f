-- What a plain node computes, and whether a promise is kept, depends only on the operands that an operator has; and `kept` is what is
-- published of a place that meets a promise. Operator by operator. Assumes nothing.
use Prim.Native.Nat.{ℕ, ◌≤◌, ◌<◌}
use mathlib.Core.Path.{◌≡◌, refl, ap, ap₂}
use mathlib.Core.Bool.{Bool, cond, not, ◌&&◌, ◌||◌}
use lib.Dec.{lit≤}
use Rattle.meaning.specs.Laws.{operands, plain, greatest, kept}
use Rattle.meaning.proofs.Operators.{cases, laws_operands}

module _ (a a' b b' : Bool) where
  pub plain_operands : (atom : Bool) (operator : ℕ) → operator < 6
      → (1 ≤ operands operator → a ≡ a') → (2 ≤ operands operator → b ≡ b')
      → plain operator atom a b ≡ plain operator atom a' b'
  plain_operands atom =
      cases
      (λ o. (1 ≤ operands o → a ≡ a') → (2 ≤ operands o → b ≡ b') → plain o atom a b ≡ plain o atom a' b')
      6 (
        (
          (
            (
              ((tt, λ p q. refl), λ p q. refl),
              λ p q. ap not (p (lit≤ tt)),
            ),
            λ p q. ap₂ ◌&&◌ (p (lit≤ tt)) (q (lit≤ tt)),
          ),
          λ p q. ap₂ ◌||◌ (p (lit≤ tt)) (q (lit≤ tt)),
        ),
        λ p q. ap₂ (λ (x y : Bool). not x || y) (p (lit≤ tt)) (q (lit≤ tt)),
      )

  pub kept_operands : (v : Bool) (operator : ℕ) → operator < 12
      → (1 ≤ operands operator → a ≡ a') → (2 ≤ operands operator → b ≡ b') → 7 ≤ operator
      → kept operator v a b ≡ kept operator v a' b'
  kept_operands v operator l p q h =
      let (n, s) = laws_operands a a' b b' operator l p q h in
      ap₂ (λ (x y : Bool). cond (greatest operator) (v || not y) (not v || x)) n s

-- "A place meets the promise of F a if F a is false or a true; of a U b, if it is false or b true; of G a or a W b, if it is true
-- or a false; of a R b, if it is true or b false."
module _ (v a b : Bool) where
  pub kept_F : kept 7 v a b ≡ (not v || a)
  kept_F = refl

  pub kept_G : kept 8 v a b ≡ (v || not a)
  kept_G = refl

  pub kept_U : kept 9 v a b ≡ (not v || b)
  kept_U = refl

  pub kept_R : kept 10 v a b ≡ (v || not b)
  kept_R = refl

  pub kept_W : kept 11 v a b ≡ (v || not a)
  kept_W = refl
