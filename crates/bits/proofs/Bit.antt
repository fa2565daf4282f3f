-- Bit j of a number, of its halves, of a shifted number and of a remainder. Every law goes back to the digit n / 2 ^ j % 2, which
-- is 1 where the bit is true and 0 where it is false. Assumes nothing.
use Prim.Native.Nat.{ℕ, zero, suc, ◌+◌, ◌-◌, ◌/◌, ◌%◌, ◌^◌, ◌≤◌, ◌<◌}
use mathlib.Core.Path.{◌≡◌, refl, sym, ap, ◌∙◌}
use mathlib.Core.Bool.{Bool, true, false, cond}
use native.Mathlib.Nat.{zero-div, div-one, div-eq_of_lt, lt_of_lt_of_le, pow-suc}
use native.Mathlib.Numerals.{one-add}
use native.Mathlib.Omega.{arith}
use lib.Dec.{eqb, eqb-zero-suc, eqb-suc-zero, eqb-suc-suc}
use lib.Bits.{bit_and, and_mask}
use lib.Pow.{pow_mono, shr-shr, field, mod-mod-pow}
use Rattle.bits.specs.Bits.{bit}

-- ---- digits

abbrev pub digit : Bool → ℕ
digit b = cond b 1 0

pub eqb_digit : (b : Bool) → eqb (digit b) 1 ≡ b
eqb_digit true = refl
eqb_digit false = refl

pub digit_eqb : (d : ℕ) → d < 2 → d ≡ digit (eqb d 1)
digit_eqb zero h = refl
digit_eqb (suc zero) h = refl
digit_eqb (suc (suc d)) h = omega arith

-- n / 2 ^ j % 2 is 1 where bit j of n is true, and 0 where it is false
pub digit_bit : (n j : ℕ) → n / 2 ^ j % 2 ≡ digit (bit n j)
unfolding bit
digit_bit n j = digit_eqb (n / 2 ^ j % 2) (omega arith)

pub bit-digit : (n j : ℕ) (b : Bool) → n / 2 ^ j % 2 ≡ digit b → bit n j ≡ b
unfolding bit
bit-digit n j b e = rw e (eqb_digit b)

pub bit_false : (n j : ℕ) → n / 2 ^ j % 2 ≡ 0 → bit n j ≡ false
bit_false n j e = bit-digit n j false e

-- (n >> j) & 1, as the machine tests a bit
pub test_bit : (n j : ℕ) → bit_and (n / 2 ^ j) 1 ≡ digit (bit n j)
test_bit n j = and_mask (n / 2 ^ j) 1 ∙ digit_bit n j

-- ---- shifts and remainders

pub bit_of_zero : (j : ℕ) → bit 0 j ≡ false
bit_of_zero j = bit_false 0 j (rw zero-div)

pub bit-lowest : (n : ℕ) → bit n 0 ≡ eqb (n % 2) 1
unfolding bit
bit-lowest n = rw div-one

-- bit j of n >> k
pub bit-shr : (n k j : ℕ) → bit (n / 2 ^ k) j ≡ bit n (k + j)
unfolding bit
bit-shr n k j = rw shr-shr

pub bit-suc : (n j : ℕ) → bit n (suc j) ≡ bit (n / 2) j
bit-suc n j = ap (λ (x : ℕ). bit n x) (sym (one-add j)) ∙ sym (bit-shr n 1 j)

-- a number below 2 ^ w has no bit from w upward
pub bit_high : (n w j : ℕ) → n < 2 ^ w → w ≤ j → bit n j ≡ false
bit_high n w j h l = bit_false n j (rw (div-eq_of_lt (lt_of_lt_of_le h (pow_mono l))))

-- % 2 ^ w keeps the bits below w
bit-mod-above : (n d j : ℕ) → bit (n % 2 ^ (d + 1 + j)) j ≡ bit n j
unfolding bit
bit-mod-above n d j = rw (field n (d + 1) j, mod-mod-pow (n / 2 ^ j) d 1)

pub bit-mod : (n w j : ℕ) → j < w → bit (n % 2 ^ w) j ≡ bit n j
bit-mod n w j h =
    let above : w ≡ (w - suc j) + 1 + j = omega arith in
    ap (λ (x : ℕ). bit (n % 2 ^ x) j) above ∙ bit-mod-above n (w - suc j) j

-- 2 ^ k is the number that has bit k alone
pub bit_power : (k j : ℕ) → bit (2 ^ k) j ≡ eqb j k
bit_power zero zero = bit-lowest 1
bit_power zero (suc j) = bit-suc 1 j ∙ bit_of_zero j ∙ sym (eqb-suc-zero j)
bit_power (suc k) zero =
    let even : 2 ^ suc k % 2 ≡ 0 = rw pow-suc (omega arith) in
    bit-lowest (2 ^ suc k) ∙ rw even (sym (eqb-zero-suc k))
bit_power (suc k) (suc j) =
    let half : 2 ^ suc k / 2 ≡ 2 ^ k = rw pow-suc (omega arith) in
    bit-suc (2 ^ suc k) j ∙ rw half (bit_power k j) ∙ sym (eqb-suc-suc j k)
