-- Laws of `lowest`, `any` and `count`. A walk that passed every number below r, and stopped there because the test is true or
-- because no number is left, has found the lowest: `lowest_is`, by induction on how far it may go. Assumes nothing.
use Prim.Native.Nat.{ℕ, zero, suc, ◌+◌, ◌≤◌, ◌<◌}
use mathlib.Core.Path.{◌≡◌, refl, sym, ap, ◌∙◌}
use mathlib.Core.Bool.{Bool, true, false, cond, true≢false}
use native.Mathlib.Omega.{arith}
use native.Mathlib.Nat.{le_of_eq}
use native.Mathlib.Numerals.{add-one}
use lib.Dec.{ltb}
use borrow.Author.Tests.{le-ltb, ltb-true, ltb-false}
use Rattle.reading.specs.Lowest.{lowest, any, count}

pub lowest_is : (test : ℕ → Bool) (n r : ℕ) → r ≤ n → ((j : ℕ) → j < r → test j ≡ false) → (r < n → test r ≡ true) → r ≡ lowest test n
unfolding lowest
lowest_is test zero zero le passed found = refl
lowest_is test zero (suc r) le passed found = omega arith
lowest_is test (suc n) zero le passed found = rw (found (omega arith)) refl
lowest_is test (suc n) (suc r) le passed found =
    rw (passed 0 (omega arith))
    (ap suc (lowest_is (λ i. test (suc i)) n r (omega arith) (λ j h. passed (suc j) (omega arith)) (λ h. found (omega arith))))

-- what a step of the definition gives, whichever way the first test goes
first_or_later : (b : Bool) (r n : ℕ) → r ≤ n → cond b zero (suc r) ≤ suc n
first_or_later true r n h = omega arith
first_or_later false r n h = omega arith

pub lowest_le : (test : ℕ → Bool) (n : ℕ) → lowest test n ≤ n
unfolding lowest
lowest_le test zero = omega arith
lowest_le test (suc n) = first_or_later (test zero) _ n (lowest_le (λ i. test (suc i)) n)

-- no number below the lowest passes the test
pub lowest_passed : (test : ℕ → Bool) (n j : ℕ) → j < lowest test n → test j ≡ false
unfolding lowest
lowest_passed test zero j h = absurd (omega arith)
lowest_passed test (suc n) j h = go (lowest_passed (λ i. test (suc i)) n) (test zero) refl j h
  where
    go : ((i : ℕ) → i < lowest (λ i. test (suc i)) n → test (suc i) ≡ false) → (b : Bool) → test zero ≡ b
        → (i : ℕ) → i < cond b zero (suc (lowest (λ i. test (suc i)) n)) → test i ≡ false
    go later true e i l = absurd (omega arith)
    go later false e zero l = e
    go later false e (suc i) l = later i (omega arith)

-- the lowest passes it, if there is one
pub lowest_found : (test : ℕ → Bool) (n : ℕ) → lowest test n < n → test (lowest test n) ≡ true
unfolding lowest
lowest_found test zero h = absurd (omega arith)
lowest_found test (suc n) h = go (lowest_found (λ i. test (suc i)) n) (test zero) refl h
  where
    go : (lowest (λ i. test (suc i)) n < n → test (suc (lowest (λ i. test (suc i)) n)) ≡ true) → (b : Bool) → test zero ≡ b
        → cond b zero (suc (lowest (λ i. test (suc i)) n)) < suc n → test (cond b zero (suc (lowest (λ i. test (suc i)) n))) ≡ true
    go later true e l = e
    go later false e l = later (omega arith)

pub any_found : (test : ℕ → Bool) (n j : ℕ) → j < n → test j ≡ true → any test n ≡ true
unfolding any
any_found test n j h e = go (ltb (lowest test n) n) refl
  where
    go : (b : Bool) → ltb (lowest test n) n ≡ b → b ≡ true
    go true l = refl
    go false l = absurd (true≢false (sym e ∙ lowest_passed test n j (omega (arith, ltb-false (lowest test n) n l))))

pub any_none : (test : ℕ → Bool) (n : ℕ) → ((j : ℕ) → j < n → test j ≡ false) → any test n ≡ false
unfolding any
any_none test n h = le-ltb _ _ (le_of_eq (lowest_is test n n (omega arith) h (λ l. absurd (omega arith))))

pub any_true : (test : ℕ → Bool) (n : ℕ) → any test n ≡ true → lowest test n < n
unfolding any
any_true test n e = ltb-true _ _ e

pub any_false : (test : ℕ → Bool) (n : ℕ) → any test n ≡ false → (j : ℕ) → j < n → test j ≡ false
unfolding any
any_false test n e j h = lowest_passed test n j (omega (arith, ltb-false (lowest test n) n e))

-- counting one more number
pub count_more : (test : ℕ → Bool) (n : ℕ) → count test (n + 1) ≡ count test n + cond (test n) 1 0
unfolding count
count_more test n = rw add-one refl

-- a test that is true wherever another is counts at least as much
pub count_mono : (a b : ℕ → Bool) → ((i : ℕ) → a i ≡ true → b i ≡ true) → (n : ℕ) → count a n ≤ count b n
unfolding count
count_mono a b h zero = omega arith
count_mono a b h (suc n) = omega (arith, count_mono a b h n, one_mono (a n) (b n) (h n))
  where
    one_mono : (x y : Bool) → (x ≡ true → y ≡ true) → cond x 1 0 ≤ cond y 1 0
    one_mono true true f = omega arith
    one_mono true false f = absurd (true≢false (sym (f refl)))
    one_mono false true f = omega arith
    one_mono false false f = omega arith
