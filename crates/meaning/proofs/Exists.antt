-- On every looping shape a valuation exists: `truth` of each node's formula. A test that is a pole obeys the law, and is kept
-- again and again (where the greatest fails, some position of the window does not stay). Assumes nothing.
use Prim.Native.Nat.{ℕ, zero, suc, ◌+◌, ◌≤◌, ◌<◌}
use native.Mathlib.Omega.{arith}
use mathlib.Core.Path.{◌≡◌, refl, sym, ◌∙◌, ap, ap₂, subst}
use mathlib.Core.Bool.{Bool, true, false, cond, not, ◌&&◌, ◌||◌}
use mathlib.Core.Logic.{◌⊎◌, inl, inr, ⊎_elim, ◌↔◌}
use lib.Dec.{T, not_T}
use Rattle.bits.specs.Bits.{bit}
use Rattle.meaning.specs.Formula.{Formula, At}
use Rattle.meaning.specs.Table.{Node, formula_of, formula}
use Rattle.meaning.specs.Laws.{Ordered, plain, now, stay, greatest}
use Rattle.meaning.proofs.Truths.{T-or, T-or-l, T-or-r, T_and, and_T, T-or-not, T_ext, ↔_trans, ↔_sym}
use Rattle.meaning.proofs.Poles.{Pole, from_next, pole_here, pole_on, unrolled}
use Rattle.meaning.proofs.Loops.{Repeats, window_stays}
use Rattle.meaning.proofs.Operators.{cases, formula_made, pole_of_node}
use Rattle.meaning.proofs.Decided.{truth, truth_repeats, truth_tells}
use Rattle.meaning.proofs.Valuation.{Valuation}

module _ (g : Bool) (now stay v : ℕ → Bool) (is_pole : (i : ℕ) → T (v i) ↔ Pole g (λ j. T (now j)) (λ j. T (stay j)) i) where
  pub pole_unrolls : (i : ℕ) → v i ≡ (now i || (stay i && v (suc i)))
  pole_unrolls i =
      T_ext (v i) (now i || (stay i && v (suc i)))
      (λ t.
      ⊎_elim
      (T-or-l (now i) (stay i && v (suc i)))
      (λ p. T-or-r (now i) (stay i && v (suc i)) (and_T (stay i) (v (suc i)) p.0 ((is_pole (suc i)).1 p.1)))
      (unrolled (λ j. T (now j)) (λ j. T (stay j)) i g ((is_pole i).0 t)))
      (λ t.
      (is_pole i).1
      (⊎_elim
      (pole_here (λ j. T (now j)) (λ j. T (stay j)) i g)
      (λ on.
      let p : T (stay i) × T (v (suc i)) = T_and (stay i) (v (suc i)) on in
      pole_on (λ j. T (now j)) (λ j. T (stay j)) i g p.0 ((is_pole (suc i)).0 p.1))
      (T-or (now i) (stay i && v (suc i)) t)))

-- some position of the next n does not stay, or all do
stays_or_not : (stay : ℕ → Bool) (n i : ℕ) → ((j : ℕ) × (i ≤ j) × T (not (stay j))) ⊎ ((j : ℕ) → i ≤ j → j < i + n → T (stay j))
stays_or_not stay zero i = inr (λ j h l. absurd (omega arith))
stays_or_not stay (suc n) i =
    ⊎_elim
    (λ t.
    ⊎_elim
    (λ p. inl (p.0, omega (arith, p.1), p.2))
    (λ f. inr (from_next (λ j. j < i + suc n → T (stay j)) i (λ _. t) (λ j h l. f j h (omega arith))))
    (stays_or_not stay n (suc i)))
    (λ f. inl (i, omega arith, not_T (stay i) f))
    (T-or-not (stay i))

module _ (now stay v : ℕ → Bool) (k m : ℕ) (loop : 1 ≤ m) (now_repeats : Repeats now k m) (stay_repeats : Repeats stay k m) where
  pub pole_keeps : (g : Bool) → ((i : ℕ) → T (v i) ↔ Pole g (λ j. T (now j)) (λ j. T (stay j)) i)
      → (i : ℕ) → (j : ℕ) × (i ≤ j) × T (cond g (v j || not (stay j)) (not (v j) || now j))
  pole_keeps false is_pole i =
      ⊎_elim
      (λ t. let (k, h, n, s) = (is_pole i).0 t in (k, h, T-or-r (not (v k)) (now k) n))
      (λ f. (i, omega arith, T-or-l (not (v i)) (now i) (not_T (v i) f)))
      (T-or-not (v i))
  pole_keeps true is_pole i =
      ⊎_elim
      (λ t. (i, omega arith, T-or-l (v i) (not (stay i)) t))
      (λ f.
      ⊎_elim
      (λ p. (p.0, p.1, T-or-r (v p.0) (not (stay p.0)) p.2))
      (λ s. absurd (f ((is_pole i).1 (inl (window_stays now stay k m loop now_repeats stay_repeats i s)))))
      (stays_or_not stay (k + m) i))
      (T-or-not (v i))

-- `truth` computes plain operators
truth_plain : (π : ℕ → ℕ) (w : ℕ) (a b : Formula) (atom operator : ℕ) → operator < 6 → (i : ℕ)
    → truth π w (formula_of operator atom a b) i ≡ plain operator (bit (π i) atom) (truth π w a i) (truth π w b i)
unfolding truth formula_of
truth_plain π w a b atom =
    cases
    (λ o. (i : ℕ) → truth π w (formula_of o atom a b) i ≡ plain o (bit (π i) atom) (truth π w a i) (truth π w b i))
    6
    ((((((tt, λ i. refl), λ i. refl), λ i. refl), λ i. refl), λ i. refl), λ i. refl)

truth_next : (π : ℕ → ℕ) (w : ℕ) (a b : Formula) (atom operator : ℕ) → operator ≡ 6 → (i : ℕ)
    → truth π w (formula_of operator atom a b) i ≡ truth π w a (suc i)
unfolding truth formula_of
truth_next π w a b atom operator e i =
    subst (λ (o : ℕ). truth π w (formula_of o atom a b) i ≡ truth π w a (suc i)) (sym e) refl

module _ (node : ℕ → Node) (n : ℕ) (ordered : Ordered node n) (π : ℕ → ℕ) (k m : ℕ) (loop : 1 ≤ m) (repeats : Repeats π k m) where
  -- truth of node x at position i
  abbrev pub truths : ℕ → ℕ → Bool
  truths x = truth π (k + m) (formula node x)

  truths_repeat : (x : ℕ) → Repeats (truths x) k m
  truths_repeat x = truth_repeats π k m loop repeats (formula node x)

  module _ (x : ℕ) (below : x < n) where
    abbrev operator : ℕ
    operator = (node x).operator

    abbrev a : ℕ
    a = (node x).first

    abbrev b : ℕ
    b = (node x).second

    abbrev nows : ℕ → Bool
    nows j = now operator (truths a j) (truths b j)

    abbrev stays : ℕ → Bool
    stays j = stay operator (truths a j) (truths b j)

    truths_made : (i : ℕ) → truths x i ≡ truth π (k + m) (formula_of operator a (formula node a) (formula node b)) i
    truths_made i = ap (λ (φ : Formula). truth π (k + m) φ i) (formula_made node n ordered x below)

    is_pole : 7 ≤ operator → (i : ℕ)
        → T (truths x i)
        ↔ Pole (greatest operator) (λ j. T (nows j)) (λ j. T (stays j)) i
    is_pole h i =
        ↔_trans
        (subst (λ (φ : Formula). T (truths x i) ↔ At π φ i) (formula_made node n ordered x below)
        (truth_tells π k m loop repeats (formula node x) i))
        (↔_sym
        (pole_of_node π (formula node a) (formula node b) (truths a) (truths b) a operator (ordered.known x below) h
        (λ p. truth_tells π k m loop repeats (formula node a))
        (λ q. truth_tells π k m loop repeats (formula node b)) i))

  -- it is a valuation
  pub truths_valuation : Valuation node n π k m truths
  truths_valuation =
      record {
        repeats = λ x below. truths_repeat x;
        computes = λ x below h i. truths_made x below i ∙ truth_plain π (k + m) _ _ (node x).first (node x).operator h i;
        reads_on = λ x below e i. truths_made x below i ∙ truth_next π (k + m) _ _ (node x).first (node x).operator e i;
        unrolls = λ x below h.
            pole_unrolls (greatest (node x).operator) (nows x below) (stays x below) (truths x) (is_pole x below h);
        keeps = λ x below h.
            pole_keeps (nows x below) (stays x below) (truths x) k m loop
            (λ i c. ap₂ (now (node x).operator) (truths_repeat (node x).first i c) (truths_repeat (node x).second i c))
            (λ i c. ap₂ (stay (node x).operator) (truths_repeat (node x).first i c) (truths_repeat (node x).second i c))
            (greatest (node x).operator) (is_pole x below h);
      }
