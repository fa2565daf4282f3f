-- The operators by number: twelve cases, what a node's formula is made of, and that F, G, U, R and W are poles. Assumes nothing.
use Prim.Native.Nat.{ℕ, zero, suc, ◌≤◌, ◌<◌}
use native.Mathlib.Omega.{arith}
use native.Mathlib.Nat.{eq-or-lt_of_le}
use mathlib.Core.Path.{◌≡◌, refl, sym, ◌∙◌, ap, ap₂, subst}
use mathlib.Core.Bool.{Bool, true, not, ◌&&◌}
use mathlib.Core.List.{[]}
use mathlib.Core.Logic.{inl, inr, ⊎_elim, ◌↔◌}
use lib.ListN.{length, get_or, length-append, get_or-append}
use lib.Seq.{get_or_at}
use lib.Dec.{T, T_not, not_T}
use Rattle.bits.specs.Bits.{bit}
use Rattle.meaning.specs.Formula.{Formula, At, True, Not, And, Or, Implies, X, F, G, U, R, W}
use Rattle.meaning.specs.Table.{Node, formula_of, formulas, formula}
use Rattle.meaning.specs.Laws.{operands, Ordered, plain, now, stay, greatest}
use Rattle.meaning.proofs.Truths.{T_and, and_T, T-or, T-or-l, T-or-r}
use Rattle.meaning.proofs.Poles.{Reached, Pole}

-- P at each number below n, as a tuple nested to the left
abbrev pub Each : (ℕ → Type 0) → ℕ → Type 0
Each P zero = Unit {0}
Each P (suc n) = Each P n × P n

-- cases on a number below n
pub cases : (P : ℕ → Type 0) (n : ℕ) → Each P n → (i : ℕ) → i < n → P i
cases P zero e i h = absurd (omega arith)
cases P (suc n) e i h =
    ⊎_elim
    (λ (q : suc i ≡ suc n). subst P (omega arith) e.1)
    (λ (l : suc i < suc n). cases P n e.0 i (omega arith))
    (eq-or-lt_of_le h)

-- a formula is made of its operands only
formula_of_operands : (atom : ℕ) (a a' b b' : Formula) (operator : ℕ) → operator < 12
    → (1 ≤ operands operator → a ≡ a') → (2 ≤ operands operator → b ≡ b')
    → formula_of operator atom a b ≡ formula_of operator atom a' b'
unfolding formula_of
formula_of_operands atom a a' b b' =
    cases
    (λ o. (1 ≤ operands o → a ≡ a') → (2 ≤ operands o → b ≡ b') → formula_of o atom a b ≡ formula_of o atom a' b')
    12 (
      (
        (
          (
            (
              (
                (
                  (
                    (
                      (
                        ((tt, λ p q. refl), λ p q. refl),
                        λ p q. ap Not (p (omega arith)),
                      ),
                      λ p q. ap₂ And (p (omega arith)) (q (omega arith)),
                    ),
                    λ p q. ap₂ Or (p (omega arith)) (q (omega arith)),
                  ),
                  λ p q. ap₂ Implies (p (omega arith)) (q (omega arith)),
                ),
                λ p q. ap X (p (omega arith)),
              ),
              λ p q. ap F (p (omega arith)),
            ),
            λ p q. ap G (p (omega arith)),
          ),
          λ p q. ap₂ U (p (omega arith)) (q (omega arith)),
        ),
        λ p q. ap₂ R (p (omega arith)) (q (omega arith)),
      ),
      λ p q. ap₂ W (p (omega arith)) (q (omega arith)),
    )

-- so are `now` and `stay`
pub laws_operands : (a a' b b' : Bool) (operator : ℕ) → operator < 12
    → (1 ≤ operands operator → a ≡ a') → (2 ≤ operands operator → b ≡ b') → 7 ≤ operator
    → (now operator a b ≡ now operator a' b') × (stay operator a b ≡ stay operator a' b')
laws_operands a a' b b' =
    cases
    (λ o. (1 ≤ operands o → a ≡ a') → (2 ≤ operands o → b ≡ b') → 7 ≤ o → (now o a b ≡ now o a' b') × (stay o a b ≡ stay o a' b'))
    12 (
      (
        (
          (
            (
              (
                (
                  (
                    (
                      (((tt, λ p q h. absurd (omega arith)), λ p q h. absurd (omega arith)), λ p q h. absurd (omega arith)),
                      λ p q h. absurd (omega arith),
                    ),
                    λ p q h. absurd (omega arith),
                  ),
                  λ p q h. absurd (omega arith),
                ),
                λ p q h. absurd (omega arith),
              ),
              λ p q h. (p (omega arith), refl),
            ),
            λ p q h. (refl, p (omega arith)),
          ),
          λ p q h. (q (omega arith), p (omega arith)),
        ),
        λ p q h. (ap₂ ◌&&◌ (p (omega arith)) (q (omega arith)), q (omega arith)),
      ),
      λ p q h. (q (omega arith), p (omega arith)),
    )

formulas_length : (node : ℕ → Node) (n : ℕ) → length (formulas node n) ≡ n
unfolding formulas
formulas_length node zero = refl
formulas_length node (suc n) = simp length-append (omega (arith, formulas_length node n))

-- in a longer list a node's formula is the same
formula_lower : (node : ℕ → Node) (n i : ℕ) → i < n → get_or (formulas node n) i True ≡ formula node i
unfolding formulas formula
formula_lower node zero i h = absurd (omega arith)
formula_lower node (suc n) i h =
    ⊎_elim
    (λ (e : suc i ≡ suc n).
    let q : n ≡ i = omega arith in
    subst (λ (x : ℕ). get_or (formulas node (suc n)) x True ≡ formula node x) q refl)
    (λ (l : suc i < suc n).
    get_or-append (formulas node n) _ True i (omega (arith, formulas_length node n)) ∙ formula_lower node n i (omega arith))
    (eq-or-lt_of_le h)

-- a node's formula, from its operands' formulas
pub formula_made : (node : ℕ → Node) (n : ℕ) → Ordered node n → (i : ℕ) → i < n
    → formula node i
    ≡ formula_of (node i).operator (node i).first (formula node (node i).first) (formula node (node i).second)
unfolding formulas formula
formula_made node n o i h =
    get_or_at (formulas node i) _ [] True i (formulas_length node i)
    ∙ formula_of_operands (node i).first _ _ _ _ (node i).operator (o.known i h)
    (λ p. formula_lower node i (node i).first (o.first_lower i h p))
    (λ q. formula_lower node i (node i).second (o.second_lower i h q))

module _ (π : ℕ → ℕ) (a b : Formula) (u v : ℕ → Bool) (ua : (i : ℕ) → T (u i) ↔ At π a i) (vb : (i : ℕ) → T (v i) ↔ At π b i) where
  reached→until : (i : ℕ) → Reached (λ j. T (v j)) (λ j. T (u j)) i → At π (U a b) i
  reached→until i (k, h, n, s) = (k, h, (vb k).0 n, λ j p l. (ua j).0 (s j p l))

  until→reached : (i : ℕ) → At π (U a b) i → Reached (λ j. T (v j)) (λ j. T (u j)) i
  until→reached i (k, h, n, s) = (k, h, (vb k).1 n, λ j p l. (ua j).1 (s j p l))

  release→ : (i : ℕ) → Reached (λ j. T (u j && v j)) (λ j. T (v j)) i
      → (k : ℕ) × (i ≤ k) × At π a k × ((j : ℕ) → i ≤ j → j ≤ k → At π b j)
  release→ i (k, h, n, s) =
      let both : T (u k) × T (v k) = T_and (u k) (v k) n in (
        k,
        h,
        (ua k).0 both.0,
        λ j p l. (vb j).0 (⊎_elim (λ (e : j ≡ k). subst (λ (x : ℕ). T (v x)) (sym e) both.1) (s j p) (eq-or-lt_of_le l)),
      )

  release← : (i : ℕ) → (k : ℕ) × (i ≤ k) × At π a k × ((j : ℕ) → i ≤ j → j ≤ k → At π b j)
      → Reached (λ j. T (u j && v j)) (λ j. T (v j)) i
  release← i (k, h, n, s) =
      (k, h, and_T (u k) (v k) ((ua k).1 n) ((vb k).1 (s k h (omega arith))), λ j p l. (vb j).1 (s j p (omega arith)))

  -- operators 7 to 11 are the poles of their `now` and `stay`
  pub pole_is_at : (atom operator : ℕ) → operator < 12 → 7 ≤ operator → (i : ℕ)
      → Pole (greatest operator) (λ j. T (now operator (u j) (v j))) (λ j. T (stay operator (u j) (v j))) i
      ↔ At π (formula_of operator atom a b) i
  unfolding formula_of
  pole_is_at atom =
      cases
      (λ o. 7 ≤ o → (i : ℕ)
      → Pole (greatest o) (λ j. T (now o (u j) (v j))) (λ j. T (stay o (u j) (v j))) i ↔ At π (formula_of o atom a b) i)
      12 (
        (
          (
            (
              (
                (
                  (
                    (
                      (
                        (((tt, λ h. absurd (omega arith)), λ h. absurd (omega arith)), λ h. absurd (omega arith)),
                        λ h. absurd (omega arith),
                      ),
                      λ h. absurd (omega arith),
                    ),
                    λ h. absurd (omega arith),
                  ),
                  λ h. absurd (omega arith),
                ),
                λ h i. (λ (k, p, n, s). (k, p, (ua k).0 n), λ (k, p, n). (k, p, (ua k).1 n, λ j q l. tt)),
              ),
              λ h i. (⊎_elim (λ s j p. (ua j).0 (s j p)) (λ r. absurd r.2), λ s. inl (λ j p. (ua j).1 (s j p))),
            ),
            λ h i. (reached→until i, until→reached i),
          ),
          λ h i. (
            ⊎_elim (λ s. inl (λ j p. (vb j).0 (s j p))) (λ r. inr (release→ i r)),
            ⊎_elim (λ s. inl (λ j p. (vb j).1 (s j p))) (λ r. inr (release← i r)),
          ),
        ),
        λ h i. (
          ⊎_elim (λ s. inl (λ j p. (ua j).0 (s j p))) (λ r. inr (reached→until i r)),
          ⊎_elim (λ s. inl (λ j p. (ua j).1 (s j p))) (λ r. inr (until→reached i r)),
        ),
      )

  -- operators 0 to 5 compute
  pub plain_is_at : (atom operator : ℕ) → operator < 6 → (i : ℕ)
      → T (plain operator (bit (π i) atom) (u i) (v i)) ↔ At π (formula_of operator atom a b) i
  unfolding formula_of
  plain_is_at atom =
      cases (λ o. (i : ℕ) → T (plain o (bit (π i) atom) (u i) (v i)) ↔ At π (formula_of o atom a b) i) 6 (
        (
          (
            (
              ((tt, λ i. (λ t. t, λ t. t)), λ i. (λ t. t, λ t. t)),
              λ i. (λ t s. T_not (u i) t ((ua i).1 s), λ f. not_T (u i) (λ t. f ((ua i).0 t))),
            ),
            λ i. (
              λ t. let p = T_and (u i) (v i) t in ((ua i).0 p.0, (vb i).0 p.1),
              λ t. and_T (u i) (v i) ((ua i).1 t.0) ((vb i).1 t.1),
            ),
          ),
          λ i. (
            λ t. ⊎_elim (λ p. inl ((ua i).0 p)) (λ q. inr ((vb i).0 q)) (T-or (u i) (v i) t),
            ⊎_elim (λ p. T-or-l (u i) (v i) ((ua i).1 p)) (λ q. T-or-r (u i) (v i) ((vb i).1 q)),
          ),
        ),
        λ i. (
          λ t. ⊎_elim (λ p. inl (λ s. T_not (u i) p ((ua i).1 s))) (λ q. inr ((vb i).0 q)) (T-or (not (u i)) (v i) t),
          ⊎_elim
              (λ f. T-or-l (not (u i)) (v i) (not_T (u i) (λ t. f ((ua i).0 t))))
              (λ q. T-or-r (not (u i)) (v i) ((vb i).1 q)),
        ),
      )

-- the test u is truth of a at every position of π
abbrev pub Tells : (ℕ → ℕ) → Formula → (ℕ → Bool) → Type 0
Tells π a u = (i : ℕ) → T (u i) ↔ At π a i

pub tells_true : (π : ℕ → ℕ) → Tells π True (λ i. true)
tells_true π i = (λ t. t, λ t. t)

-- the same, where a test tells of an operand only if there is one
module _ (π : ℕ → ℕ) (a b : Formula) (u v : ℕ → Bool) (atom : ℕ) where
  pub pole_of_node : (operator : ℕ) → operator < 12 → 7 ≤ operator
      → (1 ≤ operands operator → Tells π a u) → (2 ≤ operands operator → Tells π b v) → (i : ℕ)
      → Pole (greatest operator) (λ j. T (now operator (u j) (v j))) (λ j. T (stay operator (u j) (v j))) i
      ↔ At π (formula_of operator atom a b) i
  unfolding formula_of
  pole_of_node =
      cases
      (λ o. 7 ≤ o → (1 ≤ operands o → Tells π a u) → (2 ≤ operands o → Tells π b v) → (i : ℕ)
      → Pole (greatest o) (λ j. T (now o (u j) (v j))) (λ j. T (stay o (u j) (v j))) i ↔ At π (formula_of o atom a b) i)
      12 (
        (
          (
            (
              (
                (
                  (
                    (
                      (
                        (((tt, λ h. absurd (omega arith)), λ h. absurd (omega arith)), λ h. absurd (omega arith)),
                        λ h. absurd (omega arith),
                      ),
                      λ h. absurd (omega arith),
                    ),
                    λ h. absurd (omega arith),
                  ),
                  λ h. absurd (omega arith),
                ),
                λ h p q. pole_is_at π a a u u (p (omega arith)) (p (omega arith)) atom 7 (omega arith) h,
              ),
              λ h p q. pole_is_at π a a u u (p (omega arith)) (p (omega arith)) atom 8 (omega arith) h,
            ),
            λ h p q. pole_is_at π a b u v (p (omega arith)) (q (omega arith)) atom 9 (omega arith) h,
          ),
          λ h p q. pole_is_at π a b u v (p (omega arith)) (q (omega arith)) atom 10 (omega arith) h,
        ),
        λ h p q. pole_is_at π a b u v (p (omega arith)) (q (omega arith)) atom 11 (omega arith) h,
      )

  pub plain_of_node : (operator : ℕ) → operator < 6
      → (1 ≤ operands operator → Tells π a u) → (2 ≤ operands operator → Tells π b v) → (i : ℕ)
      → T (plain operator (bit (π i) atom) (u i) (v i)) ↔ At π (formula_of operator atom a b) i
  unfolding formula_of
  plain_of_node =
      cases
      (λ o. (1 ≤ operands o → Tells π a u) → (2 ≤ operands o → Tells π b v) → (i : ℕ)
      → T (plain o (bit (π i) atom) (u i) (v i)) ↔ At π (formula_of o atom a b) i)
      6 (
        (
          (
            (
              (
                (
                  tt,
                  λ p q. plain_is_at π True True (λ i. true) (λ i. true) (tells_true π) (tells_true π) atom 0 (omega arith),
                ),
                λ p q. plain_is_at π True True (λ i. true) (λ i. true) (tells_true π) (tells_true π) atom 1 (omega arith),
              ),
              λ p q. plain_is_at π a a u u (p (omega arith)) (p (omega arith)) atom 2 (omega arith),
            ),
            λ p q. plain_is_at π a b u v (p (omega arith)) (q (omega arith)) atom 3 (omega arith),
          ),
          λ p q. plain_is_at π a b u v (p (omega arith)) (q (omega arith)) atom 4 (omega arith),
        ),
        λ p q. plain_is_at π a b u v (p (omega arith)) (q (omega arith)) atom 5 (omega arith),
      )
