-- Sound: on a looping path of the product with recurring marks the nodes' truth is a valuation of the states' labels, since the law
-- holds along every step and every promise is met again and again; so a lasso with a mark in its loop, from an initial place, where
-- the rule is false, is a run that violates. Over any list of promises in which each node's own is listed. Assumes nothing.
use Prim.Native.Nat.{ℕ, suc, ◌+◌, ◌-◌, ◌≤◌, ◌<◌}
use native.Mathlib.Omega.{arith}
use mathlib.Core.Path.{◌≡◌, sym, ap, subst, fun_ext}
use mathlib.Core.List.{List}
use lib.Dec.{T, T_not}
use lib.ListN.{length, get_or}
use Rattle.meaning.specs.Formula.{At}
use Rattle.meaning.specs.Table.{rule}
use Rattle.meaning.specs.Laws.{Ordered}
use Rattle.meaning.specs.Runs.{Run, position, path_of, Violates}
use Rattle.meaning.proofs.Truths.{T-along}
use Rattle.meaning.proofs.Valuation.{Valuation}
use Rattle.meaning.proofs.Loops.{position_repeats}
use Rattle.meaning.proofs.Hinge.{valuation_is_truth}
use Rattle.product.specs.Places.{Place}
use Rattle.product.specs.Product.{Product, truth, meets, place, met}
use Rattle.product.proofs.Waiting.{From}
use Rattle.meaning.proofs.Positions.{position_below}
use Rattle.product.proofs.Truth.{truth_plain}
use Rattle.product.proofs.Steps.{Stepped, successor→stepped, initial→, law_next, carried_own}
use Rattle.product.proofs.Numbers.{place_state}
use Rattle.product.proofs.Promises.{Listed}
use Rattle.product.proofs.Lassos.{Path, Lasso, unrolled, lasso_path, path_meets}

module _ (g : Product) (ordered : Ordered g.node g.count) (listed : Listed g) where
  -- the nodes' truth along a looping path with recurring marks is a valuation
  pub path_valuation : (π : ℕ → Place) (k m : ℕ) → Path g π → ((i : ℕ) → k ≤ i → π (i + m) ≡ π i)
      → Valuation g.node g.count (λ i. g.table.label (π i).state) k m
      (λ x i. truth g.table g.node x (π i).state (π i).bits)
  unfolding meets
  path_valuation π k m path repeats =
      record {
        repeats = λ x l i h. ap (λ (p : Place). truth g.table g.node x p.state p.bits) (repeats i h);
        computes = λ x l h i.
            truth_plain g.table g.node (π i).state (π i).bits x h (ordered.first_lower x l) (ordered.second_lower x l);
        reads_on = λ x l e i. (law_next g.table g.node x _ _ _ _ e).0 ((stepped i).laws x l (omega arith));
        unrolls = λ x l h i.
            rw (← carried_own g.table g.node x (π (suc i)).state (π (suc i)).bits h) ((stepped i).laws x l (omega arith));
        keeps = λ x l h i. kept_at x l h i (path_meets g π path (listed.promise x l h) (listed.listed x l h) i);
      }
    where
      stepped : (i : ℕ) → Stepped g (π i) (π (suc i))
      stepped i = successor→stepped g (π i) (π (suc i)) (path.goes_on i)

      kept_at : (x : ℕ) (l : x < g.count) (h : 7 ≤ (g.node x).operator) (i : ℕ)
          → From (λ j. T (met g (listed.promise x l h) (π j).state (π j).bits)) i
          → From (λ j. T (meets g.table g.node x (π j).state (π j).bits)) i
      kept_at x l h i (j, a, t) = (j, a, T-along (listed.is x l h (π j).state (π j).bits) t)

  module _ (entries track : List ℕ) (k m : ℕ) (lasso : Lasso g entries k m) (stored : k + m ≤ length track)
      (tracked : (i : ℕ) → i < k + m → get_or track i 0 ≡ (place g (get_or entries i 0)).state) where
    lasso_run : Run g.table track k m
    lasso_run =
        record {
          loops = lasso.loops;
          stored = stored;
          states = λ i l. rw (tracked i l) (place_state g (get_or entries i 0) (lasso.places i l));
          begins = rw (tracked 0 first) (initial→ g _ lasso.begins).begins;
          steps = λ i l. rw (tracked i (omega arith), tracked (suc i) l) (successor→stepped g _ _ (lasso.steps i l)).edge;
          closes = rw (tracked (k + m - 1) (omega arith), tracked k (omega arith)) (successor→stepped g _ _ lasso.closes).edge;
        }
      where
        first : 0 < k + m
        first = omega (arith, lasso.loops)

    path_is : (i : ℕ) → g.table.label (unrolled g entries k m i).state ≡ path_of g.table track k m i
    path_is i = ap g.table.label (sym (tracked (position k m i) (position_below k m lasso.loops i)))

    false_at_first : 1 ≤ g.count → At (λ i. g.table.label (unrolled g entries k m i).state) (rule g.node g.count) 0 → ⊥
    unfolding rule
    false_at_first h t =
        T_not (truth g.table g.node (g.count - 1) (unrolled g entries k m 0).state (unrolled g entries k m 0).bits)
        (initial→ g _ (lasso_path g entries k m lasso).begins).false_there
        ((valuation_is_truth g.node g.count ordered _ k m lasso.loops _
        (path_valuation (unrolled g entries k m) k m (lasso_path g entries k m lasso)
        (λ i l. ap (λ (x : ℕ). place g (get_or entries x 0)) (position_repeats k m i l)))
        (g.count - 1) (omega arith) 0).1 t)

    -- a lasso of the product with a mark in its loop: its states, as a track, violate the table and the rule
    pub lasso_violates : 1 ≤ g.count → Violates g.table (rule g.node g.count) track k m
    lasso_violates h =
        record {
          run = lasso_run;
          breaks = subst (λ (π : ℕ → ℕ). At π (rule g.node g.count) 0 → ⊥) (fun_ext path_is) (false_at_first h);
        }
