-- The count of trailing zeros is the number of the lowest bit that is set. By halving. Assumes nothing.
use Prim.Native.Nat.{ℕ, zero, suc, ◌+◌, ◌-◌, ◌/◌, ◌%◌, ◌^◌, ◌≤◌, ◌<◌}
use native.Mathlib.Omega.{arith}
use mathlib.Core.Path.{◌≡◌, refl, sym, ◌∙◌}
use mathlib.Core.Bool.{true, false}
use lib.Count.{under, count_trailing_zeros}
use Rattle.bits.specs.Bits.{bit}
use Rattle.bits.proofs.Bit.{bit-lowest, bit-suc, bit-shr}

-- no bit below the count is set
trailing_clear : (k n j : ℕ) → j < count_trailing_zeros k n → bit n j ≡ false
unfolding count_trailing_zeros
trailing_clear zero n j h = absurd (omega arith)
trailing_clear (suc k) n j h = go (trailing_clear k (n / 2)) (n % 2) refl j h
  where
    go : ((j : ℕ) → j < count_trailing_zeros k (n / 2) → bit (n / 2) j ≡ false)
        → (d : ℕ) → n % 2 ≡ d → (j : ℕ) → j < under d (count_trailing_zeros k (n / 2)) → bit n j ≡ false
    go half zero e zero l = bit-lowest n ∙ rw e
    go half zero e (suc j) l = bit-suc n j ∙ half j (omega arith)
    go half (suc d) e j l = absurd (omega arith)

-- and the one at the count is, unless all k are passed
trailing_set : (k n : ℕ) → count_trailing_zeros k n < k → bit n (count_trailing_zeros k n) ≡ true
unfolding count_trailing_zeros
trailing_set zero n h = absurd (omega arith)
trailing_set (suc k) n h = go (trailing_set k (n / 2)) (n % 2) refl h
  where
    go : (count_trailing_zeros k (n / 2) < k → bit (n / 2) (count_trailing_zeros k (n / 2)) ≡ true)
        → (d : ℕ) → n % 2 ≡ d → under d (count_trailing_zeros k (n / 2)) < suc k → bit n (under d (count_trailing_zeros k (n / 2))) ≡ true
    go half zero e l = bit-suc n (count_trailing_zeros k (n / 2)) ∙ half (omega arith)
    go half (suc d) e l = let one : n % 2 ≡ 1 = omega arith in bit-lowest n ∙ rw one

-- counted from bit b on
pub clear_from : (lane b j : ℕ) → b ≤ j → j < b + count_trailing_zeros 32 (lane / 2 ^ b) → bit lane j ≡ false
clear_from lane b j low high =
    let q : j ≡ b + (j - b) = omega arith in
    rw q (sym (bit-shr lane b (j - b)) ∙ trailing_clear 32 (lane / 2 ^ b) (j - b) (omega arith))

pub set_from : (lane b : ℕ) → b + count_trailing_zeros 32 (lane / 2 ^ b) < 16 → bit lane (b + count_trailing_zeros 32 (lane / 2 ^ b)) ≡ true
set_from lane b h = sym (bit-shr lane b (count_trailing_zeros 32 (lane / 2 ^ b))) ∙ trailing_set 32 (lane / 2 ^ b) (omega arith)
