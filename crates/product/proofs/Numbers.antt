-- Places and their numbers: each place with s below S, bits below 2^T and waiting number at most E has one number below P, and the
-- number gives the place back; the same for the codes s·128 + b·8 + w, where bits are below 16 and waiting numbers below 8.
-- Assumes nothing.
use Prim.Native.Nat.{ℕ, ◌+◌, ◌*◌, ◌/◌, ◌%◌, ◌^◌, ◌≤◌, ◌<◌}
use native.Mathlib.Omega.{arith}
use native.Mathlib.Nat.{div-add-mod', div-lt_iff_lt-mul}
use mathlib.Core.Path.{◌≡◌, sym, ap, ◌∙◌}
use lib.Arith.{digits_lt, digits_div, digits_mod}
use lib.Pow.{pow_pos}
use Rattle.product.specs.Places.{Place, places, number_of, place_of}
use Rattle.product.specs.Product.{Product, width, top, size, place, numbering}

pub place_path : {p q : Place} → p.state ≡ q.state → p.bits ≡ q.bits → p.waiting ≡ q.waiting → p ≡ q
place_path s b w = λ i. record { state = s i; bits = b i; waiting = w i }

module _ (T E : ℕ) where
  -- a place's number is below P
  pub number_of_below : (S : ℕ) (p : Place) → p.state < S → p.bits < 2 ^ T → p.waiting ≤ E
      → number_of T E p < places S T E
  unfolding number_of places
  number_of_below S p s b w = digits_lt (digits_lt s b) (omega arith)

  -- the number taken apart gives the place back, and the other way round
  pub place_of_number_of : (p : Place) → p.bits < 2 ^ T → p.waiting ≤ E → place_of T E (number_of T E p) ≡ p
  unfolding number_of place_of
  place_of_number_of p b w =
      place_path (rw pair (digits_div p.state b)) (rw pair (digits_mod p.state b)) (digits_mod (p.state * 2 ^ T + p.bits) top)
    where
      top : p.waiting < E + 1
      top = omega arith

      pair : ((p.state * 2 ^ T + p.bits) * (E + 1) + p.waiting) / (E + 1) ≡ p.state * 2 ^ T + p.bits
      pair = digits_div (p.state * 2 ^ T + p.bits) top

  pub number_of_place_of : (x : ℕ) → number_of T E (place_of T E x) ≡ x
  unfolding number_of place_of
  number_of_place_of x =
      ap (λ (y : ℕ). y * (E + 1) + x % (E + 1)) (div-add-mod' (x / (E + 1)) (2 ^ T)) ∙ div-add-mod' x (E + 1)

  -- distinct places have distinct numbers
  pub number_of_injective : (p q : Place) → p.bits < 2 ^ T → p.waiting ≤ E → q.bits < 2 ^ T → q.waiting ≤ E
      → number_of T E p ≡ number_of T E q → p ≡ q
  number_of_injective p q b w b' w' e =
      sym (place_of_number_of p b w) ∙ (ap (place_of T E) e ∙ place_of_number_of q b' w')

  -- a number taken apart is a place
  pub place_of_state : (S x : ℕ) → x < places S T E → (place_of T E x).state < S
  unfolding place_of places
  place_of_state S x h =
      (div-lt_iff_lt-mul (pow_pos T)).1 ((div-lt_iff_lt-mul {k = E + 1} (omega arith)).1 h)

-- the same of a product's places
module _ (g : Product) where
  pub numbering_below : (p : Place) → p.state < g.table.states → p.bits < 2 ^ width g → p.waiting ≤ top g
      → numbering g p < size g
  unfolding numbering size
  numbering_below p = number_of_below (width g) (top g) g.table.states p

  pub place_numbering : (p : Place) → p.bits < 2 ^ width g → p.waiting ≤ top g → place g (numbering g p) ≡ p
  unfolding numbering place
  place_numbering p = place_of_number_of (width g) (top g) p

  pub numbering_place : (x : ℕ) → numbering g (place g x) ≡ x
  unfolding numbering place
  numbering_place x = number_of_place_of (width g) (top g) x

  pub place_state : (x : ℕ) → x < size g → (place g x).state < g.table.states
  unfolding place size
  place_state x h = place_of_state (width g) (top g) g.table.states x h

-- the code s·128 + b·8 + w comes apart by numerals
module _ (s b w : ℕ) (bits : b < 16) (waiting : w < 8) where
  pub code_state : (s * 128 + b * 8 + w) / 128 ≡ s
  code_state = omega arith

  pub code_bits : (s * 128 + b * 8 + w) / 8 % 16 ≡ b
  code_bits = omega arith

  pub code_waiting : (s * 128 + b * 8 + w) % 8 ≡ w
  code_waiting = omega arith
