-- The number made of some bits: it has these bits and is below 2 ^ w, and nothing else is. Adding cond b (2 ^ w) 0 to a number
-- below 2 ^ w puts bit w. Assumes nothing.
use Prim.Native.Nat.{ℕ, zero, suc, ◌+◌, ◌*◌, ◌/◌, ◌%◌, ◌^◌, ◌<◌}
use mathlib.Core.Path.{◌≡◌, refl, sym, ap, ◌∙◌}
use mathlib.Core.Bool.{Bool, true, false, cond}
use mathlib.Core.Logic.{⊎_elim}
use native.Mathlib.Nat.{pow-suc, div-one, le_of_suc-le-suc, eq-or-lt_of_le}
use native.Mathlib.Omega.{arith}
use lib.Pow.{high, low}
use Rattle.bits.specs.Bits.{bit, number}
use Rattle.bits.proofs.Bit.{digit, digit_bit, bit-digit, bit-suc, bit-mod}

-- ---- one bit added

added : (n w : ℕ) (b : Bool) → n + cond b (2 ^ w) 0 ≡ digit b * 2 ^ w + n
added n w true = omega arith
added n w false = omega arith

pub bit_added : (n w : ℕ) (b : Bool) → n < 2 ^ w → bit (n + cond b (2 ^ w) 0) w ≡ b
bit_added n w b h = bit-digit (n + cond b (2 ^ w) 0) w b (rw (added n w b, high (digit b) w h) (small b))
  where
    small : (c : Bool) → digit c % 2 ≡ digit c
    small true = refl
    small false = refl

pub bit-added-below : (n w : ℕ) (b : Bool) → n < 2 ^ w → (j : ℕ) → j < w → bit (n + cond b (2 ^ w) 0) j ≡ bit n j
bit-added-below n w b h j l = sym (bit-mod (n + cond b (2 ^ w) 0) w j l) ∙ rw (added n w b, low (digit b) w h)

pub added_below : (n w : ℕ) (b : Bool) → n < 2 ^ w → n + cond b (2 ^ w) 0 < 2 ^ suc w
added_below n w true h = rw pow-suc (omega arith)
added_below n w false h = rw pow-suc (omega arith)

-- ---- the number of some bits

pub number-below : (f : ℕ → Bool) (w : ℕ) → number f w < 2 ^ w
unfolding number
number-below f zero = omega arith
number-below f (suc w) = added_below (number f w) w (f w) (number-below f w)

pub bit-number : (f : ℕ → Bool) (w j : ℕ) → j < w → bit (number f w) j ≡ f j
unfolding number
bit-number f zero j h = absurd (omega arith)
bit-number f (suc w) j h =
    ⊎_elim (λ e. rw e (bit_added (number f w) w (f w) (number-below f w)))
    (λ l. bit-added-below (number f w) w (f w) (number-below f w) j l ∙ bit-number f w j l)
    (eq-or-lt_of_le (le_of_suc-le-suc h))

-- two numbers below 2 ^ w with the same bits below w are equal
pub equal_by_bits : (w n m : ℕ) → n < 2 ^ w → m < 2 ^ w → ((j : ℕ) → j < w → bit n j ≡ bit m j) → n ≡ m
equal_by_bits zero n m hn hm e = omega arith
equal_by_bits (suc w) n m hn hm e =
    let halves : n / 2 ≡ m / 2 =
    equal_by_bits w (n / 2) (m / 2) (half_below hn) (half_below hm)
    (λ j l. sym (bit-suc n j) ∙ e (suc j) (omega arith) ∙ bit-suc m j) in
    let lowest : n % 2 ≡ m % 2 = low_digit n ∙ ap digit (e 0 (omega arith)) ∙ sym (low_digit m) in
    omega arith
  where
    half_below : {x : ℕ} → x < 2 ^ suc w → x / 2 < 2 ^ w
    half_below {x} h = let h' : x < 2 ^ w * 2 = rw pow-suc at h in omega arith

    low_digit : (x : ℕ) → x % 2 ≡ digit (bit x 0)
    low_digit x = rw div-one at (digit_bit x 0)

pub number_by_bits : (w n : ℕ) (f : ℕ → Bool) → n < 2 ^ w → ((j : ℕ) → j < w → bit n j ≡ f j) → n ≡ number f w
number_by_bits w n f h e = equal_by_bits w n (number f w) h (number-below f w) (λ j l. e j l ∙ sym (bit-number f w j l))

pub number_of_its_bits : (w n : ℕ) → n < 2 ^ w → number (bit n) w ≡ n
number_of_its_bits w n h = sym (number_by_bits w n (bit n) h (λ j l. refl))
