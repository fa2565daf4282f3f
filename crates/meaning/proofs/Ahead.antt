-- Truth at a position depends only on the path from there on; so on a looping shape it repeats with the loop. By the formula.
-- Assumes nothing.
use Prim.Native.Nat.{ℕ, suc, ◌+◌, ◌-◌, ◌≤◌, ◌<◌}
use native.Mathlib.Omega.{arith}
use mathlib.Core.Path.{◌≡◌, sym, ◌∙◌, ap, subst}
use mathlib.Core.Logic.{inl, inr, ⊎_elim, ◌↔◌}
use lib.Dec.{T}
use Rattle.bits.specs.Bits.{bit}
use Rattle.meaning.specs.Formula.{Formula, At, True, Atom, Not, And, Or, Implies, X, F, G, U, R, W}
use Rattle.meaning.proofs.Poles.{Reached}
use Rattle.meaning.proofs.Loops.{Repeats}

-- from i on, π is what ρ is from j on
pub record SameAhead (π ρ : ℕ → ℕ) (i j : ℕ) : Type 0 where
  pub same : (d : ℕ) → π (i + d) ≡ ρ (j + d)

same_sym : {π ρ : ℕ → ℕ} {i j : ℕ} → SameAhead π ρ i j → SameAhead ρ π j i
same_sym s = record { same = λ d. sym (s.same d) }

-- at two positions equally far on
same_on : {π ρ : ℕ → ℕ} {i j : ℕ} → SameAhead π ρ i j → (x y : ℕ) → x + j ≡ y + i → i ≤ x → SameAhead π ρ x y
same_on {π} {ρ} {i} {j} s x y e h =
    record { same = λ d. ap π (omega arith) ∙ (s.same ((x - i) + d) ∙ ap ρ (omega arith)) }

-- what is carried from each position to the one equally far on is carried from all of them to all
carry_all : (P Q : ℕ → Type 0) (i j : ℕ) → ((x y : ℕ) → x + j ≡ y + i → i ≤ x → P x → Q y)
    → ((x : ℕ) → i ≤ x → P x) → (y : ℕ) → j ≤ y → Q y
carry_all P Q i j f s y h = f (y + i - j) y (omega arith) (omega arith) (s (y + i - j) (omega arith))

-- and so is `now` reached over positions that `stay`
carry_reached : (now now' stay stay' : ℕ → Type 0) (i j : ℕ) → ((x y : ℕ) → x + j ≡ y + i → i ≤ x → now x → now' y)
    → ((x y : ℕ) → x + j ≡ y + i → i ≤ x → stay x → stay' y) → Reached now stay i → Reached now' stay' j
carry_reached now now' stay stay' i j f g (k, h, n, s) = (
  k + j - i,
  omega arith,
  f k (k + j - i) (omega arith) h n,
  carry_all (λ x. x < k → stay x) (λ y. y < k + j - i → stay' y) i j (λ x y e o c l. g x y e o (c (omega arith))) s,
)

pub at_ahead : (π ρ : ℕ → ℕ) (φ : Formula) (i j : ℕ) → SameAhead π ρ i j → At π φ i → At ρ φ j
at_ahead π ρ True i j s t = tt
at_ahead π ρ (Atom x) i j s t =
    subst (λ (l : ℕ). T (bit l x)) (ap π (omega arith) ∙ (s.same 0 ∙ ap ρ (omega arith))) t
at_ahead π ρ (Not a) i j s t = λ u. t (at_ahead ρ π a j i (same_sym s) u)
at_ahead π ρ (And a b) i j s t = (at_ahead π ρ a i j s t.0, at_ahead π ρ b i j s t.1)
at_ahead π ρ (Or a b) i j s t = ⊎_elim (λ u. inl (at_ahead π ρ a i j s u)) (λ u. inr (at_ahead π ρ b i j s u)) t
at_ahead π ρ (Implies a b) i j s t =
    ⊎_elim (λ n. inl (λ u. n (at_ahead ρ π a j i (same_sym s) u))) (λ u. inr (at_ahead π ρ b i j s u)) t
at_ahead π ρ (X a) i j s t = at_ahead π ρ a (suc i) (suc j) (same_on s (suc i) (suc j) (omega arith) (omega arith)) t
at_ahead π ρ (F a) i j s (x, h, t) = (x + j - i, omega arith, at_ahead π ρ a x (x + j - i) (same_on s x (x + j - i) (omega arith) h) t)
at_ahead π ρ (G a) i j s t =
    carry_all (At π a) (At ρ a) i j (λ x y e h. at_ahead π ρ a x y (same_on s x y e h)) t
at_ahead π ρ (U a b) i j s t =
    carry_reached (At π b) (At ρ b) (At π a) (At ρ a) i j
    (λ x y e h. at_ahead π ρ b x y (same_on s x y e h)) (λ x y e h. at_ahead π ρ a x y (same_on s x y e h)) t
at_ahead π ρ (R a b) i j s (inl t) =
    inl (carry_all (At π b) (At ρ b) i j (λ x y e h. at_ahead π ρ b x y (same_on s x y e h)) t)
at_ahead π ρ (R a b) i j s (inr (k, h, t, f)) =
    inr (
      k + j - i,
      omega arith,
      at_ahead π ρ a k (k + j - i) (same_on s k (k + j - i) (omega arith) h) t,
      carry_all (λ x. x ≤ k → At π b x) (λ y. y ≤ k + j - i → At ρ b y) i j
          (λ x y e o g l. at_ahead π ρ b x y (same_on s x y e o) (g (omega arith))) f,
    )
at_ahead π ρ (W a b) i j s (inl t) =
    inl (carry_all (At π a) (At ρ a) i j (λ x y e h. at_ahead π ρ a x y (same_on s x y e h)) t)
at_ahead π ρ (W a b) i j s (inr t) =
    inr
    (carry_reached (At π b) (At ρ b) (At π a) (At ρ a) i j
    (λ x y e h. at_ahead π ρ b x y (same_on s x y e h)) (λ x y e h. at_ahead π ρ a x y (same_on s x y e h)) t)

-- on a looping shape truth repeats with the loop's length
pub at_repeats : (π : ℕ → ℕ) (k m : ℕ) → Repeats π k m → (φ : Formula) (i : ℕ) → k ≤ i → At π φ (i + m) ↔ At π φ i
at_repeats π k m r φ i h = (at_ahead π π φ (i + m) i ahead, at_ahead π π φ i (i + m) (same_sym ahead))
  where
    ahead : SameAhead π π (i + m) i
    ahead = record { same = λ d. ap π (omega arith) ∙ r (i + d) (omega arith) }
