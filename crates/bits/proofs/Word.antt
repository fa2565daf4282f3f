-- Words of truth values, several at once, a bit for each: what `Word` gives, bit by bit, and how the machine's `&`, `|` and `ones - x` make words of words.
-- Assumes nothing.
use Prim.Native.Nat.{ℕ, ◌-◌, ◌^◌, ◌≤◌, ◌<◌}
use mathlib.Core.Path.{◌≡◌, refl, ap₂, ◌∙◌}
use mathlib.Core.Bool.{Bool, true, false, not, ◌&&◌, ◌||◌}
use native.Mathlib.Nat.{zero-add}
use native.Mathlib.Omega.{arith}
use lib.Bits.{bit_and, bit_or, and_lt, or_lt}
use lib.Pow.{pow_pos}
use Rattle.bits.specs.Bits.{bit, number}
use Rattle.bits.proofs.Bit.{digit, bit_of_zero}
use Rattle.bits.proofs.Number.{number-below, bit-number, number_by_bits}
use Rattle.bits.proofs.Words.{bit-and, bit-or, bit_complement, bit-ones}

-- the word r has the truth values f: where `ones` is the word of w ones, r is the number of w bits whose bit j is f j
pub record Word (ones : ℕ) (f : ℕ → Bool) (r : ℕ) : Type 0 where
  pub made : (w : ℕ) → ones ≡ 2 ^ w - 1 → r ≡ number f w

module _ {ones r : ℕ} {f : ℕ → Bool} (word : Word ones f r) (w : ℕ) (full : ones ≡ 2 ^ w - 1) where
  pub word_below : r < 2 ^ w
  word_below = rw (word.made w full) (number-below f w)

  pub word_bit : (j : ℕ) → j < w → bit r j ≡ f j
  word_bit j l = rw (word.made w full) (bit-number f w j l)

-- a word of one truth value is 1 or 0
pub word_of_one : {r : ℕ} {f : ℕ → Bool} → Word 1 f r → r ≡ digit (f 0)
unfolding number
word_of_one {f = f} word = word.made 1 refl ∙ zero-add (digit (f 0))

module _ {ones : ℕ} where
  -- a number below 2 ^ w is a word of its bits
  pub word_by_bits : {r : ℕ} {f : ℕ → Bool} → r ≤ ones → ((w j : ℕ) → ones ≡ 2 ^ w - 1 → j < w → bit r j ≡ f j) → Word ones f r
  word_by_bits {r} {f} within bits =
      record { made = λ w full. number_by_bits w r f (omega (arith, pow_pos w)) (λ j l. bits w j full l) }

  pub word_itself : {a : ℕ} → a ≤ ones → Word ones (bit a) a
  word_itself within = word_by_bits within (λ w j full l. refl)

  pub word_true : Word ones (λ j. true) ones
  word_true = word_by_bits (omega arith) (λ w j full l. rw full (bit-ones w j l))

  pub word_false : Word ones (λ j. false) 0
  word_false = word_by_bits (omega arith) (λ w j full l. bit_of_zero j)

  pub word_not : {a : ℕ} → a ≤ ones → Word ones (λ j. not (bit a j)) (ones - a)
  word_not {a} within =
      word_by_bits (omega arith)
      (λ w j full l. rw full (bit_complement w a j (omega (arith, pow_pos w)) l))

  pub word_and : {x y : ℕ} {f g : ℕ → Bool} → Word ones f x → Word ones g y → Word ones (λ j. f j && g j) (bit_and x y)
  word_and {x} {y} {f} {g} p q =
      record {
        made = λ w full.
            number_by_bits w (bit_and x y) (λ j. f j && g j) (and_lt w x y (word_below p w full) (word_below q w full))
            (λ j l. bit-and x y j ∙ ap₂ ◌&&◌ (word_bit p w full j l) (word_bit q w full j l));
      }

  pub word_or : {x y : ℕ} {f g : ℕ → Bool} → Word ones f x → Word ones g y → Word ones (λ j. f j || g j) (bit_or x y)
  word_or {x} {y} {f} {g} p q =
      record {
        made = λ w full.
            number_by_bits w (bit_or x y) (λ j. f j || g j) (or_lt w x y (word_below p w full) (word_below q w full))
            (λ j l. bit-or x y j ∙ ap₂ ◌||◌ (word_bit p w full j l) (word_bit q w full j l));
      }
