-- Two passes over the entries of a stem and a loop give an operator of 7 to 11 its truth at each of them. A pass goes from the last
-- entry down and carries v i = now i or (stay i and v (i+1)). The first, over the loop with the pole as its seed, gives the truth at
-- entry k, and the second, over all entries, takes that for its seed: around the loop a pass is seed ↦ A or (B and seed), so a
-- second round changes nothing. Shown: the law at every entry, the closing one too, and that it is kept in the loop. Assumes nothing.
use Prim.Native.Nat.{ℕ, zero, suc, ◌+◌, ◌-◌, ◌≤◌, ◌<◌}
use mathlib.Core.Path.{◌≡◌, refl, sym, ap, ap₂, ◌∙◌}
use mathlib.Core.Bool.{Bool, true, false, cond, not, ◌&&◌, ◌||◌}
use mathlib.Core.Logic.{◌⊎◌, inl, inr, ⊎_elim}
use native.Mathlib.Nat.{eq-or-lt_of_le}
use native.Mathlib.Omega.{arith}
use lib.Dec.{T}
use Rattle.meaning.specs.Runs.{position}
use Rattle.meaning.proofs.Truths.{T-along, T-or-r}
use Rattle.meaning.proofs.Loops.{position_in}
use Rattle.meaning.proofs.Positions.{position_closes}

-- the truth at entry i, carried back over d entries from the seed
unfoldable pub pass : (now stay : ℕ → Bool) → Bool → ℕ → ℕ → Bool
pass now stay seed i zero = seed
pass now stay seed i (suc d) = now i || (stay i && pass now stay seed (suc i) d)

-- the first pass, over the loop; and the second, over all entries
unfoldable pub seed : (now stay : ℕ → Bool) → Bool → (k m : ℕ) → Bool
seed now stay pole k m = pass now stay pole k m

unfoldable pub lasting : (now stay : ℕ → Bool) → Bool → (k m : ℕ) → ℕ → Bool
lasting now stay pole k m i = pass now stay (seed now stay pole k m) i (k + m - i)

-- around the loop a pass gives the same of either seed, or gives its seed back
abbrev Round : (Bool → Bool) → Type 0
Round f = ((b : Bool) × ((s : Bool) → f s ≡ b)) ⊎ ((s : Bool) → f s ≡ s)

round_more : (n t : Bool) (f : Bool → Bool) → Round f → Round (λ s. n || (t && f s))
round_more true t f r = inl (true, λ s. refl)
round_more false true f r = r
round_more false false f r = inl (false, λ s. refl)

round_twice : (f : Bool → Bool) → Round f → (s : Bool) → f (f s) ≡ f s
round_twice f (inl (b, e)) s = e (f s) ∙ sym (e s)
round_twice f (inr e) s = e (f s)

module _ (now stay : ℕ → Bool) where
  -- a turn of a pass over c entries, from entry i down to the one before it
  pub pass_turn : (s : Bool) (c i : ℕ) → 0 < i → i ≤ c
      → pass now stay s (i - 1) (c - (i - 1)) ≡ (now (i - 1) || (stay (i - 1) && pass now stay s i (c - i)))
  unfolding pass
  pass_turn s c i z h =
      let more : c - (i - 1) ≡ suc (c - i) = omega arith in
      let here : suc (i - 1) ≡ i = omega arith in
      rw (more, here)

  -- a pass looks at the entries that it passes only
  pub pass_same : (now' stay' : ℕ → Bool) (s : Bool) (d i : ℕ)
      → ((j : ℕ) → i ≤ j → j < i + d → now j ≡ now' j) → ((j : ℕ) → i ≤ j → j < i + d → stay j ≡ stay' j)
      → pass now stay s i d ≡ pass now' stay' s i d
  unfolding pass
  pass_same now' stay' s zero i n t = refl
  pass_same now' stay' s (suc d) i n t =
      ap₂ (λ (a b : Bool). a || b) (n i (omega arith) (omega arith))
      (ap₂ (λ (a b : Bool). a && b) (t i (omega arith) (omega arith))
      (pass_same now' stay' s d (suc i) (λ j l h. n j (omega arith) (omega arith)) (λ j l h. t j (omega arith) (omega arith))))

  pass_round : (d i : ℕ) → Round (λ s. pass now stay s i d)
  unfolding pass
  pass_round zero i = inr (λ s. refl)
  pass_round (suc d) i = round_more (now i) (stay i) (λ s. pass now stay s (suc i) d) (pass_round d (suc i))

  -- a pass gives its seed back, unless some entry is `now` (which makes false true) or does not `stay` (which makes true false)
  abbrev Decided : Bool → ℕ → ℕ → Type 0
  Decided s i d = (j : ℕ) × (i ≤ j) × (j < i + d) × T (cond s (not (stay j)) (now j))

  decided_here : (s n t : Bool) (i d : ℕ) → now i ≡ n → stay i ≡ t → (pass now stay s (suc i) d ≡ s) ⊎ Decided s (suc i) d
      → ((n || (t && pass now stay s (suc i) d)) ≡ s) ⊎ Decided s i (suc d)
  decided_here false true t i d p q r = inr (i, omega arith, omega arith, T-along (sym p) tt)
  decided_here true true t i d p q r = inl refl
  decided_here false false false i d p q r = inl refl
  decided_here true false false i d p q r = inr (i, omega arith, omega arith, T-along (ap not (sym q)) tt)
  decided_here s false true i d p q r =
      ⊎_elim inl (λ (later : Decided s (suc i) d). inr (later.0, omega arith, omega arith, later.3)) r

  decided : (s : Bool) (d i : ℕ) → (pass now stay s i d ≡ s) ⊎ Decided s i d
  unfolding pass
  decided s zero i = inl refl
  decided s (suc d) i = decided_here s (now i) (stay i) i d refl refl (decided s d (suc i))

  module _ (pole : Bool) (k m : ℕ) (loop : 1 ≤ m) where
    abbrev truth : ℕ → Bool
    truth = lasting now stay pole k m

    -- the truth at entry k is the seed that the second pass began with
    pub lasting_closes : truth k ≡ seed now stay pole k m
    unfolding lasting seed
    lasting_closes =
        let all : k + m - k ≡ m = omega arith in
        rw all (round_twice (λ s. pass now stay s k m) (pass_round m k) pole)

    pub lasting_unrolls : (i : ℕ) → i < k + m → truth i ≡ (now i || (stay i && truth (position k m (suc i))))
    unfolding lasting pass
    lasting_unrolls i h = ⊎_elim at_last before (eq-or-lt_of_le h)
      where
        before : suc i < k + m → truth i ≡ (now i || (stay i && truth (position k m (suc i))))
        before l =
            let more : k + m - i ≡ suc (k + m - suc i) = omega arith in
            rw (position_in k m (suc i) l, more)

        at_last : suc i ≡ k + m → truth i ≡ (now i || (stay i && truth (position k m (suc i))))
        at_last e =
            let one : k + m - i ≡ suc zero = omega arith in
            let back : position k m (suc i) ≡ k = ap (position k m) e ∙ position_closes k m loop in
            rw (back, one) (ap (λ (b : Bool). now i || (stay i && b)) (sym lasting_closes))

    pub lasting_kept : (j : ℕ) × (k ≤ j) × (j < k + m) × T (cond pole (truth j || not (stay j)) (not (truth j) || now j))
    unfolding seed
    lasting_kept =
        ⊎_elim
        (λ (e : pass now stay pole k m ≡ pole). (k, omega arith, omega arith, at_pole pole (truth k) (lasting_closes ∙ e)))
        (λ (d : Decided pole k m). (d.0, d.1, d.2, by_entry pole (truth d.0) d.0 d.3))
        (decided pole m k)
      where
        at_pole : (p v : Bool) → v ≡ p → T (cond p (v || not (stay k)) (not v || now k))
        at_pole true v e = T-along (ap (λ (b : Bool). b || not (stay k)) (sym e)) tt
        at_pole false v e = T-along (ap (λ (b : Bool). not b || now k) (sym e)) tt

        by_entry : (p v : Bool) (j : ℕ) → T (cond p (not (stay j)) (now j)) → T (cond p (v || not (stay j)) (not v || now j))
        by_entry true v j h = T-or-r v (not (stay j)) h
        by_entry false v j h = T-or-r (not v) (now j) h
