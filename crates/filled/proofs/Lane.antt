-- A lane is a 16-bit word with a truth value for each b below 16, and the machine's `&`, `|`, `^` and `65535 - x` make lanes of
-- lanes. The four patterns are the truth of the temporal nodes: bit b of pattern t is bit t of b. Assumes nothing.
use Prim.Native.Nat.{ℕ, ◌-◌, ◌<◌}
use native.Mathlib.Omega.{arith}
use mathlib.Core.Path.{◌≡◌, refl, sym, ap, ap₂, ◌∙◌}
use mathlib.Core.Bool.{Bool, true, false, not, xor, beq, ◌&&◌, ◌||◌}
use lib.Bits.{bit_and, bit_or, bit_xor, and_lt, or_lt, xor_lt}
use lib.Dec.{T, lit<}
use Rattle.bits.specs.Bits.{bit}
use Rattle.bits.proofs.Bit.{bit_of_zero}
use Rattle.bits.proofs.Number.{equal_by_bits}
use Rattle.bits.proofs.Words.{bit-and, bit-or, bit-xor, bit_complement, bit-ones}
use Rattle.bits.proofs.Word.{Word}
use Rattle.bits.proofs.Word.{word_below, word_bit}
use Rattle.product.specs.Product.{every}
use Rattle.product.proofs.Steps.{T-every}

-- r is the lane whose truth value at each b below 16 is f b
pub record Lane (f : ℕ → Bool) (r : ℕ) : Type 0 where
  pub within : r < 65536
  pub bits : (b : ℕ) → b < 16 → bit r b ≡ f b

pub lane_of_word : {f : ℕ → Bool} {r : ℕ} → Word 65535 f r → Lane f r
lane_of_word word = record { within = word_below word 16 refl; bits = word_bit word 16 refl }

pub lane_itself : {r : ℕ} → r < 65536 → Lane (bit r) r
lane_itself h = record { within = h; bits = λ b l. refl }

pub lane_same : {f g : ℕ → Bool} {r : ℕ} → Lane f r → ((b : ℕ) → b < 16 → f b ≡ g b) → Lane g r
lane_same lane same = record { within = lane.within; bits = λ b l. lane.bits b l ∙ same b l }

pub lane_true : Lane (λ b. true) 65535
lane_true = record { within = lit< tt; bits = λ b l. bit-ones 16 b l }

pub lane_false : Lane (λ b. false) 0
lane_false = record { within = lit< tt; bits = λ b l. bit_of_zero b }

pub lane_always : (v : Bool) {r : ℕ} → (v ≡ true → r ≡ 65535) → (v ≡ false → r ≡ 0) → Lane (λ b. v) r
lane_always true p q = rw (p refl) lane_true
lane_always false p q = rw (q refl) lane_false

pub lane_not : {f : ℕ → Bool} {x : ℕ} → Lane f x → Lane (λ b. not (f b)) (65535 - x)
lane_not {x = x} p =
    record {
      within = omega arith;
      bits = λ b l. bit_complement 16 x b p.within l ∙ ap not (p.bits b l);
    }

module _ {f g : ℕ → Bool} {x y : ℕ} (p : Lane f x) (q : Lane g y) where
  pub lane_and : Lane (λ b. f b && g b) (bit_and x y)
  lane_and =
      record {
        within = and_lt 16 x y p.within q.within;
        bits = λ b l. bit-and x y b ∙ ap₂ ◌&&◌ (p.bits b l) (q.bits b l);
      }

  pub lane_or : Lane (λ b. f b || g b) (bit_or x y)
  lane_or =
      record {
        within = or_lt 16 x y p.within q.within;
        bits = λ b l. bit-or x y b ∙ ap₂ ◌||◌ (p.bits b l) (q.bits b l);
      }

  pub lane_xor : Lane (λ b. xor (f b) (g b)) (bit_xor x y)
  lane_xor =
      record {
        within = xor_lt 16 x y p.within q.within;
        bits = λ b l. bit-xor x y b ∙ ap₂ xor (p.bits b l) (q.bits b l);
      }

-- ---- the patterns

beq_equal : (a b : Bool) → T (beq a b) → a ≡ b
beq_equal true true h = refl
beq_equal true false h = absurd h
beq_equal false true h = absurd h
beq_equal false false h = refl

-- one test, that antt computes, over all sixteen bits
tested : (t r : ℕ) → r < 65536 → T (every (λ b. beq (bit r b) (bit b t)) 16) → Lane (λ b. bit b t) r
tested t r h test =
    record {
      within = h;
      bits = λ b l. beq_equal (bit r b) (bit b t) (T-every (λ b. beq (bit r b) (bit b t)) 16 test b l);
    }

pub pattern_0 : Lane (λ b. bit b 0) 43690
unfolding bit every
pattern_0 = tested 0 43690 (lit< tt) tt

pub pattern_1 : Lane (λ b. bit b 1) 52428
unfolding bit every
pattern_1 = tested 1 52428 (lit< tt) tt

pub pattern_2 : Lane (λ b. bit b 2) 61680
unfolding bit every
pattern_2 = tested 2 61680 (lit< tt) tt

pub pattern_3 : Lane (λ b. bit b 3) 65280
unfolding bit every
pattern_3 = tested 3 65280 (lit< tt) tt

-- ---- a word of one truth value, sixteen times

pub all_ones : (v : Bool) {r : ℕ} → Lane (λ b. v) r → r ≡ 65535 → v ≡ true
all_ones v lane e = sym (lane.bits 0 (omega arith)) ∙ rw e (lane_true.bits 0 (omega arith))

pub not_all_ones : (v : Bool) {r : ℕ} → Lane (λ b. v) r → (r ≡ 65535 → ⊥) → v ≡ false
not_all_ones true lane ne = absurd (ne (equal_by_bits 16 _ 65535 lane.within (lit< tt) (λ b l. lane.bits b l ∙ sym (lane_true.bits b l))))
not_all_ones false lane ne = refl
