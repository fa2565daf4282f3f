-- Endless paths of the product on which marks recur, and lassos of it with a mark in the loop, which unroll to such paths. On them
-- every listed promise is met again and again, whatever the list. Assumes nothing.
use Prim.Native.Nat.{ℕ, zero, suc, ◌+◌, ◌-◌, ◌≤◌, ◌<◌}
use native.Mathlib.Omega.{arith}
use mathlib.Core.Path.{◌≡◌, sym, ◌∙◌, subst, subst₂}
use mathlib.Core.List.{List}
use lib.Dec.{T, eqb→eq}
use lib.ListN.{length, get_or}
use Rattle.meaning.specs.Runs.{position}
use Rattle.meaning.proofs.Loops.{position_in, position_loop, position_repeats}
use Rattle.meaning.proofs.Positions.{Onward, on, back, position_onward, position_below}
use Rattle.product.specs.Places.{Place}
use Rattle.product.specs.Product.{Product, top, size, place, initial, met, marked, successor}
use Rattle.product.proofs.Waiting.{From, Recurs, top_recurs→met_recurs}
use Rattle.product.proofs.Steps.{successor→stepped, stepped_moves}

-- an endless path from an initial place on which marks recur
pub record Path (g : Product) (π : ℕ → Place) : Type 0 where
  pub begins : T (initial g (π 0))
  pub goes_on : (i : ℕ) → T (successor g (π i) (π (suc i)))
  pub marks : Recurs (λ i. T (marked g (π i)))

-- a stem of k places and a loop of m, by their numbers, stored one after the other, with a mark in the loop
pub record Lasso (g : Product) (entries : List ℕ) (k m : ℕ) : Type 0 where
  pub loops : 1 ≤ m
  pub stored : k + m ≤ length entries
  pub places : (i : ℕ) → i < k + m → get_or entries i 0 < size g
  pub begins : T (initial g (place g (get_or entries 0 0)))
  pub steps : (i : ℕ) → suc i < k + m → T (successor g (place g (get_or entries i 0)) (place g (get_or entries (suc i) 0)))
  pub closes : T (successor g (place g (get_or entries (k + m - 1) 0)) (place g (get_or entries k 0)))
  pub marks : (i : ℕ) × (k ≤ i) × (i < k + m) × T (marked g (place g (get_or entries i 0)))

-- every entry of a loop comes again and again
position_recurs : (k m e : ℕ) → k ≤ e → e < k + m → Recurs (λ j. (k ≤ j) × (position k m j ≡ e))
position_recurs k m e h l zero = (e, omega arith, (h, position_in k m e l))
position_recurs k m e h l (suc i) = go (position_recurs k m e h l i)
  where
    go : From (λ j. (k ≤ j) × (position k m j ≡ e)) i → From (λ j. (k ≤ j) × (position k m j ≡ e)) (suc i)
    go (j, a, (b, p)) = (j + m, omega arith, (omega arith, position_repeats k m j b ∙ p))

-- the endless path of the places of stem k and loop m
abbrev pub unrolled : Product → List ℕ → ℕ → ℕ → ℕ → Place
unrolled g entries k m i = place g (get_or entries (position k m i) 0)

module _ (g : Product) (entries : List ℕ) (k m : ℕ) (lasso : Lasso g entries k m) where
  abbrev at : ℕ → Place
  at e = place g (get_or entries e 0)

  -- a lasso unrolls to such a path
  pub lasso_path : Path g (unrolled g entries k m)
  lasso_path =
      record {
        begins = subst (λ (e : ℕ). T (initial g (at e))) (sym (position_in k m 0 (omega (arith, lasso.loops)))) lasso.begins;
        goes_on = λ i. go (position_onward k m lasso.loops i);
        marks = λ i. recurs lasso.marks i;
      }
    where
      go : {e f : ℕ} → Onward k m e f → T (successor g (at e) (at f))
      go {e} (on l p) = subst (λ (f : ℕ). T (successor g (at e) (at f))) (sym p) (lasso.steps e l)
      go (back p q) = subst₂ (λ (e f : ℕ). T (successor g (at e) (at f))) (sym p) (sym q) lasso.closes

      recurs : (e : ℕ) × (k ≤ e) × (e < k + m) × T (marked g (at e)) → Recurs (λ i. T (marked g (unrolled g entries k m i)))
      recurs (e, a, b, t) i = here (position_recurs k m e a b i)
        where
          here : From (λ j. (k ≤ j) × (position k m j ≡ e)) i → From (λ j. T (marked g (unrolled g entries k m j))) i
          here (j, h, (l, p)) = (j, h, subst (λ (x : ℕ). T (marked g (at x))) (sym p) t)

pub marked→top : (g : Product) (p : Place) → T (marked g p) → p.waiting ≡ top g
unfolding marked
marked→top g p t = eqb→eq p.waiting (top g) t

module _ (g : Product) (π : ℕ → Place) (path : Path g π) where
  -- where marks recur, every listed promise is met again and again
  pub path_meets : (e : ℕ) → e < top g → Recurs (λ i. T (met g e (π i).state (π i).bits))
  path_meets =
      top_recurs→met_recurs (top g) (λ e i. met g e (π i).state (π i).bits) (λ i. (π i).waiting)
      (λ i. stepped_moves g (π i) (π (suc i)) (successor→stepped g (π i) (π (suc i)) (path.goes_on i)))
      at_top
    where
      at_top : Recurs (λ i. (π i).waiting ≡ top g)
      at_top i = go (path.marks i)
        where
          go : From (λ j. T (marked g (π j))) i → From (λ j. (π j).waiting ≡ top g) i
          go (j, h, t) = (j, h, marked→top g (π j) t)

-- so in a lasso with a mark in its loop, every listed promise is met somewhere in the loop
pub lasso_meets : (g : Product) (entries : List ℕ) (k m : ℕ) → Lasso g entries k m → (e : ℕ) → e < top g
    → (i : ℕ) × (k ≤ i) × (i < k + m) × T (met g e (place g (get_or entries i 0)).state (place g (get_or entries i 0)).bits)
lasso_meets g entries k m lasso e h = go (path_meets g _ (lasso_path g entries k m lasso) e h k)
  where
    go : From (λ j. T (met g e (unrolled g entries k m j).state (unrolled g entries k m j).bits)) k
        → (i : ℕ) × (k ≤ i) × (i < k + m) × T (met g e (place g (get_or entries i 0)).state (place g (get_or entries i 0)).bits)
    go (j, l, t) =
        (position k m j, omega (arith, position_loop k m j l), position_below k m lasso.loops j, t)
