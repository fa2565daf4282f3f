-- The machine's words bit by bit: `&`, `|`, `^`, and the complement 2 ^ w - 1 - x of a word of w bits. Each law goes by the
-- operation on two digits, or by halving. Assumes nothing.
use Prim.Native.Nat.{ℕ, zero, suc, ◌-◌, ◌*◌, ◌/◌, ◌%◌, ◌^◌, ◌<◌}
use mathlib.Core.Path.{◌≡◌, refl, sym, ap, ◌∙◌}
use mathlib.Core.Bool.{Bool, true, false, not, xor, ◌&&◌, ◌||◌}
use native.Mathlib.Nat.{pow-suc}
use native.Mathlib.Omega.{arith}
use lib.Bits.{bit_and, bit_or, bit_xor, and_shr, or_shr, xor_shr, and_mod, or_mod, xor_mod}
use lib.Dec.{eqb}
use lib.Pow.{pow_pos}
use Rattle.bits.specs.Bits.{bit}
use Rattle.bits.proofs.Bit.{digit, digit_bit, bit-digit, bit-lowest, bit-suc, bit_of_zero}

-- an operation on words that works on two digits as f does on two truth values works so on each bit
module _ (op : ℕ → ℕ → ℕ) (f : Bool → Bool → Bool)
    (shifts : (x y j : ℕ) → op x y / 2 ^ j ≡ op (x / 2 ^ j) (y / 2 ^ j))
    (lowest : (x y : ℕ) → op x y % 2 ≡ op (x % 2) (y % 2))
    (digits : (a b : Bool) → op (digit a) (digit b) ≡ digit (f a b)) where
  bit_op : (x y j : ℕ) → bit (op x y) j ≡ f (bit x j) (bit y j)
  bit_op x y j =
      bit-digit (op x y) j (f (bit x j) (bit y j))
      (rw (shifts, lowest, digit_bit x j, digit_bit y j) (digits (bit x j) (bit y j)))

and_digits : (a b : Bool) → bit_and (digit a) (digit b) ≡ digit (a && b)
and_digits true true = refl
and_digits true false = refl
and_digits false true = refl
and_digits false false = refl

or_digits : (a b : Bool) → bit_or (digit a) (digit b) ≡ digit (a || b)
or_digits true true = refl
or_digits true false = refl
or_digits false true = refl
or_digits false false = refl

xor_digits : (a b : Bool) → bit_xor (digit a) (digit b) ≡ digit (xor a b)
unfolding xor
xor_digits true true = refl
xor_digits true false = refl
xor_digits false true = refl
xor_digits false false = refl

pub bit-and : (x y j : ℕ) → bit (bit_and x y) j ≡ (bit x j && bit y j)
bit-and = bit_op bit_and ◌&&◌ and_shr (λ x y. and_mod x y 1) and_digits

pub bit-or : (x y j : ℕ) → bit (bit_or x y) j ≡ (bit x j || bit y j)
bit-or = bit_op bit_or ◌||◌ or_shr (λ x y. or_mod x y 1) or_digits

pub bit-xor : (x y j : ℕ) → bit (bit_xor x y) j ≡ xor (bit x j) (bit y j)
bit-xor = bit_op bit_xor xor xor_shr (λ x y. xor_mod x y 1) xor_digits

-- the complement of a word of w bits
pub bit_complement : (w x j : ℕ) → x < 2 ^ w → j < w → bit (2 ^ w - 1 - x) j ≡ not (bit x j)
bit_complement zero x j h l = absurd (omega arith)
bit_complement (suc w) x zero h l =
    bit-lowest (2 ^ suc w - 1 - x)
    ∙ rw odd (flip (x % 2) (omega arith)) ∙ ap not (sym (bit-lowest x))
  where
    odd : (2 ^ suc w - 1 - x) % 2 ≡ 1 - x % 2
    odd = let h' : x < 2 ^ w * 2 = rw pow-suc at h in rw pow-suc (omega arith)

    flip : (d : ℕ) → d < 2 → eqb (1 - d) 1 ≡ not (eqb d 1)
    flip zero q = refl
    flip (suc zero) q = refl
    flip (suc (suc d)) q = absurd (omega arith)
bit_complement (suc w) x (suc j) h l =
    bit-suc (2 ^ suc w - 1 - x) j ∙ rw half (bit_complement w (x / 2) j (omega arith) (omega arith))
    ∙ ap not (sym (bit-suc x j))
  where
    h' : x < 2 ^ w * 2
    h' = rw pow-suc at h

    half : (2 ^ suc w - 1 - x) / 2 ≡ 2 ^ w - 1 - x / 2
    half = rw pow-suc (omega arith)

-- every bit below w of the word of w ones
pub bit-ones : (w j : ℕ) → j < w → bit (2 ^ w - 1) j ≡ true
bit-ones w j h =
    ap (λ (x : ℕ). bit x j) (sub_zero' (2 ^ w - 1)) ∙ bit_complement w 0 j (pow_pos w) h ∙ ap not (bit_of_zero j)
  where
    sub_zero' : (n : ℕ) → n ≡ n - 0
    sub_zero' n = omega arith
