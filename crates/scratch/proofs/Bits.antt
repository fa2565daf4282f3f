-- Words of one truth value, and a turn of a pass. Assumes nothing.
use Prim.Native.Nat.{ℕ, ◌-◌, ◌%◌, ◌≤◌, ◌<◌}
use mathlib.Core.Path.{◌≡◌, refl, sym, ap, ap₂, ◌∙◌}
use mathlib.Core.Bool.{Bool, true, false, ◌&&◌, ◌||◌}
use lib.Dec.{eqb}
use Rattle.bits.specs.Bits.{bit}
use Rattle.bits.proofs.Bit.{digit, eqb_digit, bit-lowest}
use Rattle.bits.proofs.Word.{Word, word_of_one}
use Rattle.rule.proofs.Passes.{pass, pass_turn}

pub bit_of_digit : (b : Bool) → bit (digit b) 0 ≡ b
bit_of_digit b = bit-lowest (digit b) ∙ small b
  where
    small : (c : Bool) → eqb (digit c % 2) 1 ≡ c
    small true = refl
    small false = refl

bit_is : (b : Bool) {p : ℕ} → p ≡ digit b → bit p 0 ≡ b
bit_is b e = ap (λ (x : ℕ). bit x 0) e ∙ bit_of_digit b

-- what a word of one truth value is, tested
pub one_is : {r : ℕ} {f : ℕ → Bool} → Word 1 f r → eqb r 1 ≡ f 0
one_is {f = f} word = ap (λ (x : ℕ). eqb x 1) (word_of_one word) ∙ eqb_digit (f 0)

-- and where it is made of such words
pub one_of_two : (f : Bool → Bool → Bool) (a b : Bool) {p q r : ℕ} → Word 1 (λ j. f (bit p j) (bit q j)) r
    → p ≡ digit a → q ≡ digit b → eqb r 1 ≡ f a b
one_of_two f a b word ep eq = one_is word ∙ ap₂ f (bit_is a ep) (bit_is b eq)

pub one_of_three : (f : Bool → Bool → Bool → Bool) (x a b : Bool) {o p q r : ℕ}
    → Word 1 (λ j. f (bit o j) (bit p j) (bit q j)) r → o ≡ digit x → p ≡ digit a → q ≡ digit b → eqb r 1 ≡ f x a b
one_of_three f x a b {o} {p} {q} word eo ep eq =
    one_is word ∙ (ap (λ (y : Bool). f y (bit p 0) (bit q 0)) (bit_is x eo) ∙ ap₂ (f x) (bit_is a ep) (bit_is b eq))

-- one turn of a pass, from entry i down to the one before it
pub pass_down : (now stay : ℕ → Bool) (s : Bool) (c i : ℕ) {next turned : Bool} → next ≡ pass now stay s i (c - i)
    → turned ≡ (now (i - 1) || (stay (i - 1) && next)) → 0 < i → i ≤ c → turned ≡ pass now stay s (i - 1) (c - (i - 1))
pass_down now stay s c i en et z h =
    et ∙ (ap (λ (v : Bool). now (i - 1) || (stay (i - 1) && v)) en ∙ sym (pass_turn now stay s c i z h))
