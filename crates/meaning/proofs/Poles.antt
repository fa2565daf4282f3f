-- F, G, U, R and W are one thing seen five times: `now` is reached over positions that `stay` (the least pole), or staying for
-- ever will do as well (the greatest). The unrolling law, once for both poles. Assumes nothing.
use Prim.Native.Nat.{ℕ, suc, ◌≤◌, ◌<◌}
use native.Mathlib.Omega.{arith}
use native.Mathlib.Nat.{eq-or-lt_of_le}
use mathlib.Core.Path.{◌≡◌, subst}
use mathlib.Core.Bool.{Bool, true, false}
use mathlib.Core.Logic.{◌⊎◌, inl, inr, ⊎_elim}

-- `now` at some k from i on, and `stay` at every j with i ≤ j < k
abbrev pub Reached : (now stay : ℕ → Type 0) → ℕ → Type 0
Reached now stay i = (k : ℕ) × (i ≤ k) × now k × ((j : ℕ) → i ≤ j → j < k → stay j)

-- `stay` always from i on
abbrev pub Stays : (stay : ℕ → Type 0) → ℕ → Type 0
Stays stay i = (j : ℕ) → i ≤ j → stay j

-- the least pole is `false`, the greatest `true`
abbrev pub Pole : Bool → (now stay : ℕ → Type 0) → ℕ → Type 0
Pole false now stay i = Reached now stay i
Pole true now stay i = Stays stay i ⊎ Reached now stay i

-- what holds at i and from i+1 on holds from i on
pub from_next : (P : ℕ → Type 0) (i : ℕ) → P i → ((j : ℕ) → suc i ≤ j → P j) → (j : ℕ) → i ≤ j → P j
from_next P i p f j h = ⊎_elim (λ e. subst P e p) (f j) (eq-or-lt_of_le h)

module _ (now stay : ℕ → Type 0) (i : ℕ) where
  reached_here : now i → Reached now stay i
  reached_here n = (i, omega arith, n, λ j h l. absurd (omega arith))

  reached_on : stay i → Reached now stay (suc i) → Reached now stay i
  reached_on s (k, h, n, f) =
      (k, omega arith, n, from_next (λ j. j < k → stay j) i (λ _. s) f)

  reached_unrolled : Reached now stay i → now i ⊎ (stay i × Reached now stay (suc i))
  reached_unrolled (k, h, n, f) =
      ⊎_elim
      (λ (e : i ≡ k). inl (subst now (omega arith) n))
      (λ (l : i < k). inr (f i (omega arith) l, (k, l, n, λ j h' l'. f j (omega arith) l')))
      (eq-or-lt_of_le h)

  pub pole_here : (g : Bool) → now i → Pole g now stay i
  pole_here false n = reached_here n
  pole_here true n = inr (reached_here n)

  pub pole_on : (g : Bool) → stay i → Pole g now stay (suc i) → Pole g now stay i
  pole_on false s r = reached_on s r
  pole_on true s (inl f) = inl (from_next stay i s f)
  pole_on true s (inr r) = inr (reached_on s r)

  -- the law: now, or staying with the same from the next position on
  pub unrolled : (g : Bool) → Pole g now stay i → now i ⊎ (stay i × Pole g now stay (suc i))
  unrolled false r = reached_unrolled r
  unrolled true (inl f) = inr (f i (omega arith), inl (λ j h. f j (omega arith)))
  unrolled true (inr r) = ⊎_elim inl (λ p. inr (p.0, inr p.1)) (reached_unrolled r)
