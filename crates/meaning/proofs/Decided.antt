-- On a looping shape every formula is decided at every position: `truth` looks k+m positions ahead and no further. By the formula;
-- a window of k+m is enough (`Loops`). Assumes nothing.
use Prim.Native.Nat.{ℕ, zero, suc, ◌+◌, ◌≤◌, ◌<◌}
use native.Mathlib.Omega.{arith}
use native.Mathlib.Nat.{eq-or-lt_of_le}
use mathlib.Core.Path.{◌≡◌, refl, sym, ap, ap₂, subst}
use mathlib.Core.Bool.{Bool, true, false, not, ◌&&◌, ◌||◌}
use mathlib.Core.Logic.{◌⊎◌, inl, inr, ⊎_elim, ◌↔◌}
use lib.Dec.{T}
use Rattle.bits.specs.Bits.{bit}
use Rattle.meaning.specs.Formula.{Formula, At, True, Atom, Not, And, Or, Implies, X, F, G, U, R, W}
use Rattle.meaning.specs.Table.{formula_of}
use Rattle.meaning.specs.Laws.{now, stay, greatest}
use Rattle.meaning.proofs.Truths.{T-or, T-or-l, T-or-r, T_and, and_T, T-or-not, ↔_trans}
use Rattle.meaning.proofs.Poles.{Reached, Stays, Pole, from_next, pole_here, pole_on}
use Rattle.meaning.proofs.Loops.{Repeats, repeats_next, window_stays, window_reaches}
use Rattle.meaning.proofs.Operators.{Tells, tells_true, pole_is_at, plain_is_at}

-- the pole as far as n positions show it
abbrev pub reach : Bool → (now stay : ℕ → Bool) → ℕ → ℕ → Bool
reach g now stay zero i = g
reach g now stay (suc n) i = now i || (stay i && reach g now stay n (suc i))

module _ (now stay : ℕ → Bool) where
  reach_found : (g : Bool) (n i x : ℕ) → i ≤ x → x < i + n → T (now x) → ((j : ℕ) → i ≤ j → j < x → T (stay j)) → T (reach g now stay n i)
  reach_found g zero i x h l t s = absurd (omega arith)
  reach_found g (suc n) i x h l t s =
      ⊎_elim
      (λ (e : i ≡ x). T-or-l (now i) _ (subst (λ (y : ℕ). T (now y)) (sym e) t))
      (λ (c : i < x).
      T-or-r (now i) _
      (and_T (stay i) _ (s i (omega arith) c) (reach_found g n (suc i) x c (omega arith) t (λ j p q. s j (omega arith) q))))
      (eq-or-lt_of_le h)

  reach_stayed : (n i : ℕ) → Stays (λ j. T (stay j)) i → T (reach true now stay n i)
  reach_stayed zero i s = tt
  reach_stayed (suc n) i s =
      T-or-r (now i) _ (and_T (stay i) _ (s i (omega arith)) (reach_stayed n (suc i) (λ j h. s j (omega arith))))

  -- what the window shows: reached, or the greatest pole and staying all along
  reach_shows : (g : Bool) (n i : ℕ) → T (reach g now stay n i)
      → Reached (λ j. T (now j)) (λ j. T (stay j)) i ⊎ (T g × ((j : ℕ) → i ≤ j → j < i + n → T (stay j)))
  reach_shows g zero i t = inr (t, λ j h l. absurd (omega arith))
  reach_shows g (suc n) i t =
      ⊎_elim
      (λ here. inl (pole_here (λ j. T (now j)) (λ j. T (stay j)) i false here))
      (λ on.
      let p : T (stay i) × T (reach g now stay n (suc i)) = T_and (stay i) (reach g now stay n (suc i)) on in
      ⊎_elim
      (λ r. inl (pole_on (λ j. T (now j)) (λ j. T (stay j)) i false p.0 r))
      (λ f. inr (f.0, from_next (λ j. j < i + suc n → T (stay j)) i (λ _. p.0) (λ j h l. f.1 j h (omega arith))))
      (reach_shows g n (suc i) p.1))
      (T-or (now i) (stay i && reach g now stay n (suc i)) t)

  module _ (k m : ℕ) (loop : 1 ≤ m) (now_repeats : Repeats now k m) (stay_repeats : Repeats stay k m) where
    reach_repeats : (g : Bool) (n : ℕ) → Repeats (reach g now stay n) k m
    reach_repeats g zero i h = refl
    reach_repeats g (suc n) i h =
        ap₂ ◌||◌ (now_repeats i h) (ap₂ ◌&&◌ (stay_repeats i h) (repeats_next (reach g now stay n) k m (reach_repeats g n) i h))

    reach_is_pole : (g : Bool) (i : ℕ) → T (reach g now stay (k + m) i) ↔ Pole g (λ j. T (now j)) (λ j. T (stay j)) i
    reach_is_pole false i = (
      λ t. ⊎_elim (λ r. r) (λ f. absurd f.0) (reach_shows false (k + m) i t),
      λ r.
          let (x, (h, l, t, s)) = window_reaches now stay k m loop now_repeats stay_repeats i r in
          reach_found false (k + m) i x h l t s,
    )
    reach_is_pole true i = (
      λ t.
          ⊎_elim inr (λ f. inl (window_stays now stay k m loop now_repeats stay_repeats i f.1)) (reach_shows true (k + m) i t),
      ⊎_elim
          (reach_stayed (k + m) i)
          (λ r.
          let (x, (h, l, t, s)) = window_reaches now stay k m loop now_repeats stay_repeats i r in
          reach_found true (k + m) i x h l t s),
    )

-- operator 7 to 11 of two tests, with a window of n
abbrev pole_truth : ℕ → (u v : ℕ → Bool) → ℕ → ℕ → Bool
pole_truth operator u v n i = reach (greatest operator) (λ j. now operator (u j) (v j)) (λ j. stay operator (u j) (v j)) n i

-- truth of a formula at a position of π, with a window of n
unfoldable pub truth : (ℕ → ℕ) → ℕ → Formula → ℕ → Bool
truth π n True i = true
truth π n (Atom j) i = bit (π i) j
truth π n (Not a) i = not (truth π n a i)
truth π n (And a b) i = truth π n a i && truth π n b i
truth π n (Or a b) i = truth π n a i || truth π n b i
truth π n (Implies a b) i = not (truth π n a i) || truth π n b i
truth π n (X a) i = truth π n a (suc i)
truth π n (F a) i = pole_truth 7 (truth π n a) (truth π n a) n i
truth π n (G a) i = pole_truth 8 (truth π n a) (truth π n a) n i
truth π n (U a b) i = pole_truth 9 (truth π n a) (truth π n b) n i
truth π n (R a b) i = pole_truth 10 (truth π n a) (truth π n b) n i
truth π n (W a b) i = pole_truth 11 (truth π n a) (truth π n b) n i

module _ (π : ℕ → ℕ) (k m : ℕ) (loop : 1 ≤ m) (repeats : Repeats π k m) where
  pole_repeats : (operator : ℕ) (u v : ℕ → Bool) → Repeats u k m → Repeats v k m → Repeats (pole_truth operator u v (k + m)) k m
  pole_repeats o u v ru rv =
      reach_repeats (λ j. now o (u j) (v j)) (λ j. stay o (u j) (v j)) k m loop
      (λ i h. ap₂ (now o) (ru i h) (rv i h)) (λ i h. ap₂ (stay o) (ru i h) (rv i h)) (greatest o) (k + m)

  -- truth repeats with the loop
  pub truth_repeats : (φ : Formula) → Repeats (truth π (k + m) φ) k m
  unfolding truth
  truth_repeats True i h = refl
  truth_repeats (Atom j) i h = ap (λ (l : ℕ). bit l j) (repeats i h)
  truth_repeats (Not a) i h = ap not (truth_repeats a i h)
  truth_repeats (And a b) i h = ap₂ ◌&&◌ (truth_repeats a i h) (truth_repeats b i h)
  truth_repeats (Or a b) i h = ap₂ ◌||◌ (truth_repeats a i h) (truth_repeats b i h)
  truth_repeats (Implies a b) i h = ap₂ (λ (s t : Bool). not s || t) (truth_repeats a i h) (truth_repeats b i h)
  truth_repeats (X a) i h = repeats_next (truth π (k + m) a) k m (truth_repeats a) i h
  truth_repeats (F a) i h = pole_repeats 7 (truth π (k + m) a) (truth π (k + m) a) (truth_repeats a) (truth_repeats a) i h
  truth_repeats (G a) i h = pole_repeats 8 (truth π (k + m) a) (truth π (k + m) a) (truth_repeats a) (truth_repeats a) i h
  truth_repeats (U a b) i h = pole_repeats 9 (truth π (k + m) a) (truth π (k + m) b) (truth_repeats a) (truth_repeats b) i h
  truth_repeats (R a b) i h = pole_repeats 10 (truth π (k + m) a) (truth π (k + m) b) (truth_repeats a) (truth_repeats b) i h
  truth_repeats (W a b) i h = pole_repeats 11 (truth π (k + m) a) (truth π (k + m) b) (truth_repeats a) (truth_repeats b) i h

  -- `truth` tells of a pole, from tests that tell of its operands
  pole_tells : (operator : ℕ) → operator < 12 → 7 ≤ operator → (a b : Formula) (u v : ℕ → Bool) → Tells π a u → Tells π b v
      → Repeats u k m → Repeats v k m → Tells π (formula_of operator 0 a b) (pole_truth operator u v (k + m))
  pole_tells o known h a b u v ua vb ru rv i =
      ↔_trans
      (reach_is_pole (λ j. now o (u j) (v j)) (λ j. stay o (u j) (v j)) k m loop
      (λ i h. ap₂ (now o) (ru i h) (rv i h)) (λ i h. ap₂ (stay o) (ru i h) (rv i h)) (greatest o) i)
      (pole_is_at π a b u v ua vb 0 o known h i)

  -- `truth` is truth
  pub truth_tells : (φ : Formula) → Tells π φ (truth π (k + m) φ)
  unfolding truth formula_of
  truth_tells True i = tells_true π i
  truth_tells (Atom j) i = (λ t. t, λ t. t)
  truth_tells (Not a) i =
      plain_is_at π a a (truth π (k + m) a) (truth π (k + m) a) (truth_tells a) (truth_tells a) 0 2 (omega arith) i
  truth_tells (And a b) i =
      plain_is_at π a b (truth π (k + m) a) (truth π (k + m) b) (truth_tells a) (truth_tells b) 0 3 (omega arith) i
  truth_tells (Or a b) i =
      plain_is_at π a b (truth π (k + m) a) (truth π (k + m) b) (truth_tells a) (truth_tells b) 0 4 (omega arith) i
  truth_tells (Implies a b) i =
      plain_is_at π a b (truth π (k + m) a) (truth π (k + m) b) (truth_tells a) (truth_tells b) 0 5 (omega arith) i
  truth_tells (X a) i = truth_tells a (suc i)
  truth_tells (F a) i =
      pole_tells 7 (omega arith) (omega arith) a a (truth π (k + m) a) (truth π (k + m) a)
      (truth_tells a) (truth_tells a) (truth_repeats a) (truth_repeats a) i
  truth_tells (G a) i =
      pole_tells 8 (omega arith) (omega arith) a a (truth π (k + m) a) (truth π (k + m) a)
      (truth_tells a) (truth_tells a) (truth_repeats a) (truth_repeats a) i
  truth_tells (U a b) i =
      pole_tells 9 (omega arith) (omega arith) a b (truth π (k + m) a) (truth π (k + m) b)
      (truth_tells a) (truth_tells b) (truth_repeats a) (truth_repeats b) i
  truth_tells (R a b) i =
      pole_tells 10 (omega arith) (omega arith) a b (truth π (k + m) a) (truth π (k + m) b)
      (truth_tells a) (truth_tells b) (truth_repeats a) (truth_repeats b) i
  truth_tells (W a b) i =
      pole_tells 11 (omega arith) (omega arith) a b (truth π (k + m) a) (truth π (k + m) b)
      (truth_tells a) (truth_tells b) (truth_repeats a) (truth_repeats b) i

  -- every formula is decided at every position
  pub decided : (φ : Formula) (i : ℕ) → Dec (At π φ i)
  decided φ i =
      ⊎_elim (λ t. yes ((truth_tells φ i).0 t)) (λ f. no (λ t. f ((truth_tells φ i).1 t))) (T-or-not (truth π (k + m) φ i))
