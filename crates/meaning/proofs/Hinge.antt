-- A valuation is truth. For one operator of 7 to 11: a test that obeys the law at every position and is kept again and again is
-- its pole (least: by the distance to where it is kept; greatest: a window of k+m positions decides). Then by the node's number.
-- Assumes nothing.
use Prim.Native.Nat.{ℕ, zero, suc, ◌+◌, ◌-◌, ◌≤◌, ◌<◌}
use native.Mathlib.Omega.{arith}
use native.Mathlib.Nat.{lt_trans}
use native.Mathlib.Decide.{dec_lt}
use mathlib.Core.Path.{◌≡◌, sym, subst}
use mathlib.Core.Bool.{Bool, true, false, cond, not, ◌&&◌, ◌||◌}
use mathlib.Core.Logic.{◌⊎◌, inl, inr, ⊎_elim, ◌↔◌}
use lib.Dec.{T, T_not}
use Rattle.meaning.specs.Formula.{Formula, At}
use Rattle.meaning.specs.Table.{Node, formula_of, formula}
use Rattle.meaning.specs.Laws.{operands, Ordered, now, stay, greatest}
use Rattle.meaning.proofs.Truths.{T-along, T-or, T-or-l, T-or-r, T_and, and_T, ↔_trans, ↔_along}
use Rattle.meaning.proofs.Poles.{Reached, Pole, from_next, pole_here, pole_on}
use Rattle.meaning.proofs.Loops.{Repeats, by_lower, window_stays}
use Rattle.meaning.proofs.Operators.{laws_operands, formula_made, Tells, pole_of_node, plain_of_node}
use Rattle.meaning.proofs.Valuation.{Valuation}

module _ (now stay v : ℕ → Bool) (law : (i : ℕ) → v i ≡ (now i || (stay i && v (suc i)))) where
  v_unrolled : (i : ℕ) → T (v i) → T (now i) ⊎ (T (stay i) × T (v (suc i)))
  v_unrolled i t = ⊎_elim inl (λ s. inr (T_and (stay i) (v (suc i)) s)) (T-or (now i) (stay i && v (suc i)) (T-along (law i) t))

  v_now : (i : ℕ) → T (now i) → T (v i)
  v_now i n = T-along (sym (law i)) (T-or-l (now i) (stay i && v (suc i)) n)

  v_on : (i : ℕ) → T (stay i) → T (v (suc i)) → T (v i)
  v_on i s t = T-along (sym (law i)) (T-or-r (now i) (stay i && v (suc i)) (and_T (stay i) (v (suc i)) s t))

  -- back from i + d over positions that stay
  v_back : (d i : ℕ) → T (v (i + d)) → ((j : ℕ) → i ≤ j → j < i + d → T (stay j)) → T (v i)
  v_back zero i t s = subst (λ (x : ℕ). T (v x)) (omega arith) t
  v_back (suc d) i t s =
      v_on i (s i (omega arith) (omega arith))
      (v_back d (suc i) (subst (λ (x : ℕ). T (v x)) (omega arith) t) (λ j p l. s j (omega arith) (omega arith)))

  v_back_to : (i j : ℕ) → i ≤ j → T (v j) → ((x : ℕ) → i ≤ x → x < j → T (stay x)) → T (v i)
  v_back_to i j h t s = v_back (j - i) i (subst (λ (x : ℕ). T (v x)) (omega arith) t) (λ x p l. s x p (omega arith))

  reached→v : (i : ℕ) → Reached (λ j. T (now j)) (λ j. T (stay j)) i → T (v i)
  reached→v i (k, h, n, s) = v_back_to i k h (v_now k n) s

  -- the least pole is reached at the latest where it is kept
  kept_reached : (d i : ℕ) → T (v i) → T (not (v (i + d)) || now (i + d)) → Reached (λ j. T (now j)) (λ j. T (stay j)) i
  kept_reached zero i t c =
      pole_here (λ j. T (now j)) (λ j. T (stay j)) i false
      (⊎_elim
      (λ f. absurd (T_not (v (i + zero)) f (subst (λ (x : ℕ). T (v x)) (omega arith) t)))
      (λ n. subst (λ (x : ℕ). T (now x)) (omega arith) n)
      (T-or (not (v (i + zero))) (now (i + zero)) c))
  kept_reached (suc d) i t c =
      ⊎_elim
      (pole_here (λ j. T (now j)) (λ j. T (stay j)) i false)
      (λ p.
      pole_on (λ j. T (now j)) (λ j. T (stay j)) i false p.0
      (kept_reached d (suc i) p.1 (subst (λ (x : ℕ). T (not (v x) || now x)) (omega arith) c)))
      (v_unrolled i t)

  -- reached, or n positions on staying still
  stays_so_far : (n i : ℕ) → T (v i) → Reached (λ j. T (now j)) (λ j. T (stay j)) i ⊎ ((j : ℕ) → i ≤ j → j < i + n → T (stay j))
  stays_so_far zero i t = inr (λ j h l. absurd (omega arith))
  stays_so_far (suc n) i t =
      ⊎_elim
      (λ here. inl (pole_here (λ j. T (now j)) (λ j. T (stay j)) i false here))
      (λ p.
      ⊎_elim
      (λ r. inl (pole_on (λ j. T (now j)) (λ j. T (stay j)) i false p.0 r))
      (λ f. inr (from_next (λ j. j < i + suc n → T (stay j)) i (λ _. p.0) (λ j h l. f j h (omega arith))))
      (stays_so_far n (suc i) p.1))
      (v_unrolled i t)

  module _ (k m : ℕ) (loop : 1 ≤ m) (now_repeats : Repeats now k m) (stay_repeats : Repeats stay k m) where
    -- a test that obeys the law and is kept again and again is the pole
    pub valued_is_pole : (g : Bool) → ((i : ℕ) → (j : ℕ) × (i ≤ j) × T (cond g (v j || not (stay j)) (not (v j) || now j)))
        → (i : ℕ) → T (v i) ↔ Pole g (λ j. T (now j)) (λ j. T (stay j)) i
    valued_is_pole false keeps i = (
      λ t. let (j, h, c) = keeps i in kept_reached (j - i) i t (subst (λ (x : ℕ). T (not (v x) || now x)) (omega arith) c),
      reached→v i,
    )
    valued_is_pole true keeps i = (
      λ t. ⊎_elim inr (λ f. inl (window_stays now stay k m loop now_repeats stay_repeats i f)) (stays_so_far (k + m) i t),
      ⊎_elim
          (λ s.
          let (j, h, c) = keeps i in
          v_back_to i j h
          (⊎_elim (λ t. t) (λ f. absurd (T_not (stay j) f (s j h))) (T-or (v j) (not (stay j)) c))
          (λ x p l. s x p))
          (reached→v i),
    )

module _ (node : ℕ → Node) (n : ℕ) (ordered : Ordered node n) (π : ℕ → ℕ) (k m : ℕ) (loop : 1 ≤ m) (u : ℕ → ℕ → Bool)
    (val : Valuation node n π k m u) where
  module _ (x : ℕ) (below : x < n) (lower : (y : ℕ) → y < x → y < n → Tells π (formula node y) (u y)) where
    abbrev operator : ℕ
    operator = (node x).operator

    abbrev a : ℕ
    a = (node x).first

    abbrev b : ℕ
    b = (node x).second

    first : 1 ≤ operands operator → Tells π (formula node a) (u a)
    first p = let l : a < x = ordered.first_lower x below p in lower a l (omega arith)

    second : 2 ≤ operands operator → Tells π (formula node b) (u b)
    second q = let l : b < x = ordered.second_lower x below q in lower b l (omega arith)

    Made : Type 0
    Made = Tells π (formula_of operator a (formula node a) (formula node b)) (u x)

    plain_tells : operator < 6 → Made
    unfolding Made
    plain_tells h i =
        ↔_trans (↔_along (val.computes x below h i)) (plain_of_node π (formula node a) (formula node b) (u a) (u b) a operator h first second i)

    next_tells : operator ≡ 6 → Made
    unfolding Made formula_of
    next_tells e =
        subst (λ (o : ℕ). Tells π (formula_of o a (formula node a) (formula node b)) (u x)) (sym e)
        (λ i. ↔_trans (↔_along (val.reads_on x below e i)) (first (subst (λ (o : ℕ). 1 ≤ operands o) (sym e) (omega arith)) (suc i)))

    laws_repeat : 7 ≤ operator → (i : ℕ) → k ≤ i
        → (now operator (u a (i + m)) (u b (i + m)) ≡ now operator (u a i) (u b i))
        × (stay operator (u a (i + m)) (u b (i + m)) ≡ stay operator (u a i) (u b i))
    laws_repeat h i c =
        laws_operands (u a (i + m)) (u a i) (u b (i + m)) (u b i) operator (ordered.known x below)
        (λ p. val.repeats a (lt_trans (ordered.first_lower x below p) below) i c)
        (λ q. val.repeats b (lt_trans (ordered.second_lower x below q) below) i c)
        h

    pole_tells : 7 ≤ operator → Made
    unfolding Made
    pole_tells h i =
        ↔_trans
        (valued_is_pole
        (λ j. now operator (u a j) (u b j))
        (λ j. stay operator (u a j) (u b j))
        (u x) (val.unrolls x below h) k m loop
        (λ j c. (laws_repeat h j c).0)
        (λ j c. (laws_repeat h j c).1)
        (greatest operator) (val.keeps x below h) i)
        (pole_of_node π (formula node a) (formula node b) (u a) (u b) a operator (ordered.known x below) h first second i)

    node_tells : Tells π (formula node x) (u x)
    unfolding Made
    node_tells =
        subst (λ (φ : Formula). Tells π φ (u x)) (sym (formula_made node n ordered x below)) (pick (dec_lt operator 6) (dec_lt 6 operator))
      where
        pick : Dec (operator < 6) → Dec (6 < operator) → Made
        pick (yes h) d = plain_tells h
        pick (no f) (yes h) = pole_tells h
        pick (no f) (no g) = next_tells (omega arith)

  -- a valuation is truth, at every node and position
  pub valuation_is_truth : (x : ℕ) → x < n → (i : ℕ) → T (u x i) ↔ At π (formula node x) i
  valuation_is_truth =
      by_lower (λ x. x < n → Tells π (formula node x) (u x)) (λ x lower below. node_tells x below lower)
