-- An endless path over P places with marks again and again meets a marked place twice, so that a marked place is reached which leads to itself:
-- of the first P + 1 marked positions two hold the same place. Assumes nothing.
use Prim.Native.Nat.{ℕ, zero, suc, ◌+◌, ◌-◌, ◌≤◌, ◌<◌}
use native.Mathlib.Nat.{not-suc-le-zero}
use native.Mathlib.Omega.{arith}
use native.Mathlib.Decide.{ℕ_discrete}
use mathlib.Core.Path.{◌≡◌, refl, sym, ap, ◌∙◌}
use mathlib.Core.Logic.{◌≢◌, ◌⊎◌, inl, inr}
use lib.Dec.{T}
use Rattle.graph.proofs.Graph.{Graph, Step, Recurs}
use Rattle.graph.proofs.Paths.{path_reaches, path_leads}

-- ---- two of n + 1 numbers below n are equal

pub record Twice (v : ℕ → ℕ) (n : ℕ) : Type 0 where
  pub i : ℕ
  pub j : ℕ
  pub rises : i < j
  pub within : j ≤ n
  pub same : v i ≡ v j

-- whether x is among the first n values
among : (v : ℕ → ℕ) (x n : ℕ) → ((i : ℕ) × (i < n) × (v i ≡ x)) ⊎ ((i : ℕ) → i < n → v i ≢ x)
among v x zero = inr (λ i h. absurd (not-suc-le-zero h))
among v x (suc n) = go (among v x n) (ℕ_discrete (v n) x)
  where
    go : ((i : ℕ) × (i < n) × (v i ≡ x)) ⊎ ((i : ℕ) → i < n → v i ≢ x) → Dec (v n ≡ x)
        → ((i : ℕ) × (i < suc n) × (v i ≡ x)) ⊎ ((i : ℕ) → i < suc n → v i ≢ x)
    go (inl p) d = inl (p.0, omega arith, p.2)
    go (inr f) (yes e) = inl (n, omega arith, e)
    go (inr f) (no m) = inr (λ i h. last i h (ℕ_discrete i n))
      where
        last : (i : ℕ) → i < suc n → Dec (i ≡ n) → v i ≢ x
        last i h (yes e) q = m (ap v (sym e) ∙ q)
        last i h (no k) q = f i (omega arith) q

-- y, with n exchanged for x
pick : {A : Type 0} → Dec A → ℕ → ℕ → ℕ
pick (yes a) x y = x
pick (no m) x y = y

swapped : ℕ → ℕ → ℕ → ℕ
swapped n x y = pick (ℕ_discrete y n) x y

abbrev Swaps : ℕ → ℕ → ℕ → Type 0
Swaps n x y = ((y ≡ n) × (swapped n x y ≡ x)) ⊎ ((y ≢ n) × (swapped n x y ≡ y))

swaps : (n x y : ℕ) → Swaps n x y
unfolding swapped pick
swaps n x y = go (ℕ_discrete y n)
  where
    go : (d : Dec (y ≡ n)) → ((y ≡ n) × (pick d x y ≡ x)) ⊎ ((y ≢ n) × (pick d x y ≡ y))
    go (yes e) = inl (e, refl)
    go (no m) = inr (m, refl)

pub pigeonhole : (n : ℕ) (v : ℕ → ℕ) → ((i : ℕ) → i ≤ n → v i < n) → Twice v n
pigeonhole zero v low = absurd (not-suc-le-zero (low 0 (omega arith)))
pigeonhole (suc n) v low = go (among v (v (suc n)) (suc n)) (pigeonhole n (λ i. swapped n (v (suc n)) (v i)))
  where
    go : ((i : ℕ) × (i < suc n) × (v i ≡ v (suc n))) ⊎ ((i : ℕ) → i < suc n → v i ≢ v (suc n))
        → (((i : ℕ) → i ≤ n → swapped n (v (suc n)) (v i) < n) → Twice (λ i. swapped n (v (suc n)) (v i)) n) → Twice v (suc n)
    go (inl p) rest = record { i = p.0; j = suc n; rises = p.1; within = omega arith; same = p.2 }
    go (inr new) rest =
        let t = rest (λ i h. lower i h (swaps n (v (suc n)) (v i))) in
        record {
          i = t.i;
          j = t.j;
          rises = t.rises;
          within = omega (arith, t.within);
          same = equal t.i t.j (omega (arith, t.rises, t.within)) t.within t.same (swaps n (v (suc n)) (v t.i)) (swaps n (v (suc n)) (v t.j));
        }
      where
        lower : (i : ℕ) → i ≤ n → Swaps n (v (suc n)) (v i) → swapped n (v (suc n)) (v i) < n
        lower i h (inl p) =
            let other : v (suc n) ≢ n = λ e. new i (omega arith) (p.0 ∙ sym e) in
            omega (arith, low (suc n) (omega arith))
        lower i h (inr p) = omega (arith, low i (omega arith))

        equal : (i j : ℕ) → i ≤ n → j ≤ n → swapped n (v (suc n)) (v i) ≡ swapped n (v (suc n)) (v j)
            → Swaps n (v (suc n)) (v i) → Swaps n (v (suc n)) (v j) → v i ≡ v j
        equal i j h k e (inl p) (inl q) = p.0 ∙ sym q.0
        equal i j h k e (inl p) (inr q) = absurd (new j (omega arith) (sym q.1 ∙ sym e ∙ p.1))
        equal i j h k e (inr p) (inl q) = absurd (new i (omega arith) (sym p.1 ∙ e ∙ q.1))
        equal i j h k e (inr p) (inr q) = sym p.1 ∙ e ∙ q.1

-- ---- the endless path

module _ {g : Graph} (f : ℕ → ℕ) (inside : (i : ℕ) → f i < g.P) (steps : (i : ℕ) → Step g (f i) (f (suc i)))
    (again : (i : ℕ) → (j : ℕ) × (i ≤ j) × T (g.marked (f j))) where
  -- the marked positions, one after the other
  mark : ℕ → ℕ
  mark zero = (again 0).0
  mark (suc k) = (again (suc (mark k))).0

  mark_marked : (k : ℕ) → T (g.marked (f (mark k)))
  unfolding mark
  mark_marked zero = (again 0).2
  mark_marked (suc k) = (again (suc (mark k))).2

  mark_later : (k : ℕ) → mark k < mark (suc k)
  unfolding mark
  mark_later k = (again (suc (mark k))).1

  mark_rises : (i n : ℕ) → mark i < mark (i + suc n)
  mark_rises i zero = rw (let q : i + 1 ≡ suc i = omega arith in q) (mark_later i)
  mark_rises i (suc n) =
      let q : i + suc (suc n) ≡ suc (i + suc n) = omega arith in
      rw q (omega (arith, mark_rises i n, mark_later (i + suc n)))

  pub recurs : Recurs g (f 0)
  recurs =
      let t = pigeonhole g.P (λ k. f (mark k)) (λ i h. inside (mark i)) in
      let q : t.i + suc (t.j - suc t.i) ≡ t.j = omega (arith, t.rises) in
      let later : mark t.i < mark t.j = rw q at (mark_rises t.i (t.j - suc t.i)) in
      record {
        place = f (mark t.i);
        reached = rw (let z : mark t.i ≡ 0 + mark t.i = omega arith in z) (path_reaches f steps 0 (mark t.i));
        marked = mark_marked t.i;
        returns = rw (← t.same) at (path_leads f steps (mark t.i) (mark t.j) later);
      }
