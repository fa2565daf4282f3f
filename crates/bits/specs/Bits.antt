-- Bit j of a number, and the number made of some bits.
use Rattle.std.specs.Prelude.{ℕ, zero, suc, ◌+◌, ◌/◌, ◌%◌, ◌^◌, Bool, cond, eqb}

-- bit j of n, the lowest being bit 0
unfoldable pub bit : ℕ → ℕ → Bool
bit n j = eqb (n / 2 ^ j % 2) 1

-- the number below 2 ^ w whose bit j is f j, for each j below w
unfoldable pub number : (ℕ → Bool) → ℕ → ℕ
number f zero = 0
number f (suc w) = number f w + cond (f w) (2 ^ w) 0
