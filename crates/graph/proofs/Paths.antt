-- Paths by positions: what an endless path and a lasso reach. Assumes nothing.
use Prim.Native.Nat.{ℕ, zero, suc, ◌+◌, ◌-◌, ◌≤◌, ◌<◌}
use native.Mathlib.Omega.{arith}
use mathlib.Core.Path.{◌≡◌}
use mathlib.Core.List.{List}
use Rattle.graph.proofs.Graph.{◌!◌, Graph, Step, Reaches, here, step, Leads, Recurs, Lasso}

pub step_inside : {g : Graph} {x y : ℕ} → x < g.P → Step g x y → y < g.P
step_inside {g} {x} {y} h s = g.inside x s.cursor y h s.below s.leads

pub reaches_on : {g : Graph} {x y z : ℕ} → Reaches g x y → Reaches g y z → Reaches g x z
reaches_on here q = q
reaches_on (step s p) q = step s (reaches_on p q)

pub reaches_leads : {g : Graph} {x y z : ℕ} → Reaches g x y → Leads g y z → Leads g x z
reaches_leads here l = l
reaches_leads (step {y = y} s p) l = record { next = y; first = s; rest = reaches_on p (step l.first l.rest) }

-- ---- an endless path

module _ {g : Graph} (f : ℕ → ℕ) (steps : (i : ℕ) → Step g (f i) (f (suc i))) where
  pub path_reaches : (i n : ℕ) → Reaches g (f i) (f (i + n))
  path_reaches i zero = rw (let q : i + 0 ≡ i = omega arith in q) here
  path_reaches i (suc n) = rw (let q : i + suc n ≡ suc i + n = omega arith in q) (step (steps i) (path_reaches (suc i) n))

  pub path_leads : (i j : ℕ) → i < j → Leads g (f i) (f j)
  path_leads i j h = record {
    next = f (suc i);
    first = steps i;
    rest = rw (let q : j ≡ suc i + (j - suc i) = omega arith in q) (path_reaches (suc i) (j - suc i));
  }

-- ---- a lasso

module _ {g : Graph} {track : List ℕ} {k m : ℕ} (l : Lasso g track k m) where
  pub lasso_reaches : (i n : ℕ) → i + n < k + m → Reaches g (track ! i) (track ! (i + n))
  lasso_reaches i zero h = rw (let q : i + 0 ≡ i = omega arith in q) here
  lasso_reaches i (suc n) h =
      rw (let q : i + suc n ≡ suc i + n = omega arith in q)
      (step (l.steps i (omega arith)) (lasso_reaches (suc i) n (omega arith)))

  lasso_between : (i j : ℕ) → i ≤ j → j < k + m → Reaches g (track ! i) (track ! j)
  lasso_between i j low high = rw (let q : j ≡ i + (j - i) = omega arith in q) (lasso_reaches i (j - i) (omega arith))

  -- its marked place is reached, and leads round the loop to itself
  pub lasso_recurs : Recurs g (track ! 0)
  lasso_recurs = record {
    place = track ! l.marks.0;
    reached = lasso_between 0 l.marks.0 (omega arith) l.marks.2;
    marked = l.marks.3;
    returns =
        reaches_leads
        (lasso_between l.marks.0 (k + m - 1) (omega (arith, l.marks.2)) (omega (arith, l.loops)))
        (record { next = track ! k; first = l.closes; rest = lasso_between k l.marks.0 l.marks.1 l.marks.2 });
  }
