-- Looping shapes: a stem of k and a loop of m, m at least 1. A run's endless path repeats with m from k on, and on such a shape
-- k+m positions are window enough to see whether `now` is reached, and whether `stay` stays for ever. Assumes nothing.
use Prim.Native.Nat.{ℕ, zero, suc, ◌+◌, ◌-◌, ◌%◌, ◌≤◌, ◌<◌}
use native.Mathlib.Omega.{arith}
use native.Mathlib.Nat.{add-mod_right, mod-eq_of_lt}
use native.Mathlib.Decide.{dec_lt}
use mathlib.Core.Path.{◌≡◌, sym, ◌∙◌, ap, subst}
use mathlib.Core.Bool.{Bool}
use lib.Dec.{T}
use borrow.Author.Tests.{lt-ltb, le-ltb}
use Rattle.meaning.specs.Runs.{position, endless}
use Rattle.meaning.proofs.Truths.{T-along}
use Rattle.meaning.proofs.Poles.{Reached, Stays}

-- f is the same again m further on, from k on
abbrev pub Repeats : {A : Type 0} → (ℕ → A) → ℕ → ℕ → Type 0
Repeats f k m = (i : ℕ) → k ≤ i → f (i + m) ≡ f i

-- the same, one position on
pub repeats_next : {A : Type 0} (f : ℕ → A) (k m : ℕ) → Repeats f k m → (i : ℕ) → k ≤ i → f (suc (i + m)) ≡ f (suc i)
repeats_next f k m r i h = ap f (omega arith) ∙ r (suc i) (omega arith)

-- within the entries, position i is entry i
pub position_in : (k m i : ℕ) → i < k + m → position k m i ≡ i
unfolding position
position_in k m i h = rw (lt-ltb i (k + m) h)

-- after them, it is within the loop again
pub position_after : (k m i : ℕ) → k + m ≤ i → position k m i ≡ k + (i - k) % m
unfolding position
position_after k m i h = rw (le-ltb i (k + m) h)

-- from k on, either way
pub position_loop : (k m i : ℕ) → k ≤ i → position k m i ≡ k + (i - k) % m
position_loop k m i h = go (dec_lt i (k + m))
  where
    go : Dec (i < k + m) → position k m i ≡ k + (i - k) % m
    go (yes l) = position_in k m i l ∙ (omega arith ∙ ap (λ (x : ℕ). k + x) (sym (mod-eq_of_lt {n = i - k} {m = m} (omega arith))))
    go (no n) = position_after k m i (omega arith)

pub position_repeats : (k m : ℕ) → Repeats (position k m) k m
position_repeats k m i h =
    position_loop k m (i + m) (omega arith)
    ∙ (ap (λ (x : ℕ). k + x % m) (omega arith)
    ∙ (ap (λ (x : ℕ). k + x) (add-mod_right (i - k) m) ∙ sym (position_loop k m i h)))

pub endless_repeats : (labels : ℕ → ℕ) (k m : ℕ) → Repeats (endless labels k m) k m
endless_repeats labels k m i h = ap labels (position_repeats k m i h)

-- what follows at each number from the numbers below it holds at every number
pub by_lower : (P : ℕ → Type 0) → ((n : ℕ) → ((x : ℕ) → x < n → P x) → P n) → (n : ℕ) → P n
by_lower P f n = go (suc n) n (omega arith)
  where
    go : (c n : ℕ) → n < c → P n
    go zero n l = elim l [ ]
    go (suc c) n l = f n (λ x h. go c x (omega arith))

module _ (now stay : ℕ → Bool) (k m : ℕ) (loop : 1 ≤ m) (now_repeats : Repeats now k m) (stay_repeats : Repeats stay k m) (i : ℕ) where
  -- what stays for a window of k+m positions stays for ever: by the position, which is m less each time
  pub window_stays : ((j : ℕ) → i ≤ j → j < i + (k + m) → T (stay j)) → Stays (λ j. T (stay j)) i
  window_stays f =
      by_lower (λ j. i ≤ j → T (stay j)) λ j lower h. near j lower h (dec_lt j (i + (k + m)))
    where
      near : (j : ℕ) → ((x : ℕ) → x < j → i ≤ x → T (stay x)) → i ≤ j → Dec (j < i + (k + m)) → T (stay j)
      near j lower h (yes c) = f j h c
      near j lower h (no c) =
          subst (λ (x : ℕ). T (stay x)) (omega arith)
          (T-along (sym (stay_repeats (j - m) (omega arith))) (lower (j - m) (omega arith) (omega arith)))

  -- `now` is reached at x, within the window
  abbrev pub Near : ℕ → Type 0
  Near x = (i ≤ x) × (x < i + (k + m)) × T (now x) × ((j : ℕ) → i ≤ j → j < x → T (stay j))

  -- what is reached is reached within a window of k+m positions: the same
  pub window_reaches : Reached (λ j. T (now j)) (λ j. T (stay j)) i → (x : ℕ) × Near x
  window_reaches (x, h, n, f) =
      by_lower
      (λ x. i ≤ x → T (now x) → ((j : ℕ) → i ≤ j → j < x → T (stay j)) → (y : ℕ) × Near y)
      (λ x lower h n f. near x lower h n f (dec_lt x (i + (k + m))))
      x h n f
    where
      near : (x : ℕ)
          → ((y : ℕ) → y < x → i ≤ y → T (now y) → ((j : ℕ) → i ≤ j → j < y → T (stay j)) → (z : ℕ) × Near z)
          → i ≤ x → T (now x) → ((j : ℕ) → i ≤ j → j < x → T (stay j)) → Dec (x < i + (k + m)) → (y : ℕ) × Near y
      near x lower h n f (yes w) = (x, (h, w, n, f))
      near x lower h n f (no w) =
          lower (x - m) (omega arith) (omega arith)
          (T-along (now_repeats (x - m) (omega arith)) (subst (λ (y : ℕ). T (now y)) (omega arith) n))
          (λ j a b. f j a (omega arith))
