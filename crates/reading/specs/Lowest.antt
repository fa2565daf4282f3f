-- Looking through the numbers below n: the lowest that passes a test, whether any does, and how many do.
use Rattle.std.specs.Prelude.{ℕ, zero, suc, ◌+◌, Bool, cond, ltb}

-- the lowest number below n at which the test is true; n if there is none
unfoldable pub lowest : (ℕ → Bool) → ℕ → ℕ
lowest test zero = zero
lowest test (suc n) = let later = lowest (λ i. test (suc i)) n in cond (test zero) zero (suc later)

-- the test is true at some number below n
unfoldable pub any : (ℕ → Bool) → ℕ → Bool
any test n = ltb (lowest test n) n

-- at how many numbers below n the test is true
unfoldable pub count : (ℕ → Bool) → ℕ → ℕ
count test zero = zero
count test (suc n) = count test n + cond (test n) 1 0
