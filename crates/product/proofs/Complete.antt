-- Complete: a run that violates gives an endless path of the product from an initial place, on which marks recur. The bits are the
-- temporal nodes' values in the run's valuation, so that every node's truth is its value; waiting numbers go by the step. Over any
-- list of promises that the run meets again and again. Assumes nothing.
use Prim.Native.Nat.{ℕ, zero, suc, ◌-◌, ◌^◌, ◌≤◌, ◌<◌}
use native.Mathlib.Omega.{arith}
use native.Mathlib.Nat.{lt_trans}
use native.Mathlib.Decide.{dec_lt}
use mathlib.Core.Path.{◌≡◌, refl, sym, ap, ap₂, ◌∙◌, subst, subst₂, fun_ext}
use mathlib.Core.Bool.{Bool, not, ◌&&◌, ◌||◌}
use mathlib.Core.List.{List}
use lib.Dec.{T, lit≤}
use lib.ListN.{length, get_or}
use borrow.Author.Tests.{eq-eqb}
use Rattle.bits.specs.Bits.{number}
use Rattle.bits.proofs.Number.{number-below, bit-number}
use Rattle.meaning.specs.Table.{Node}
use Rattle.meaning.specs.Laws.{operands, Ordered, kept}
use Rattle.meaning.specs.Runs.{Run, position, path_of}
use Rattle.meaning.proofs.Truths.{T-along}
use Rattle.meaning.proofs.Loops.{by_lower, position_in}
use Rattle.meaning.proofs.Valuation.{Valuation}
use Rattle.meaning.proofs.Operators.{laws_operands}
use Rattle.product.specs.Places.{Place}
use Rattle.product.specs.Product.{Product, temporal, truth, meets, width, top, size, place, numbering, met, next, marked}
use Rattle.product.proofs.Waiting.{From, Recurs, Move, below_top, met_recurs→top_recurs}
use Rattle.meaning.proofs.Positions.{Onward, on, back, position_onward, position_below}
use Rattle.product.proofs.Numbers.{numbering_below, place_numbering}
use Rattle.product.proofs.Nodes.{numbered}
use Rattle.product.proofs.Operators.{plain_operands, kept_operands}
use Rattle.product.proofs.Truth.{truth_plain, truth_temporal}
use Rattle.product.proofs.Steps.{Stepped, stepped→successor, stepped_moves, Law, law_next, carried_own, initial←}
use Rattle.product.proofs.Lassos.{Path}

-- the state at position i of a run
abbrev pub state_at : List ℕ → ℕ → ℕ → ℕ → ℕ
state_at track k m i = get_or track (position k m i) 0

-- the temporal nodes' values at position i, by their numbers
pub bits_at : (ℕ → Node) → ℕ → (ℕ → ℕ → Bool) → ℕ → ℕ
bits_at node count u i = number (λ t. u (get_or (temporal node count) t 0) i) (length (temporal node count))

bits_at_below : (g : Product) (u : ℕ → ℕ → Bool) (i : ℕ) → bits_at g.node g.count u i < 2 ^ width g
unfolding bits_at width
bits_at_below g u i = number-below _ (length (temporal g.node g.count))

module _ (g : Product) (ordered : Ordered g.node g.count) (track : List ℕ) (k m : ℕ) (u : ℕ → ℕ → Bool)
    (val : Valuation g.node g.count (path_of g.table track k m) k m u) where
  abbrev node : ℕ → Node
  node = g.node

  abbrev state : ℕ → ℕ
  state i = state_at track k m i

  abbrev bits : ℕ → ℕ
  bits i = bits_at g.node g.count u i

  abbrev true_at : ℕ → ℕ → Bool
  true_at x i = truth g.table g.node x (state i) (bits i)

  temporal_is : (x : ℕ) → x < g.count → 6 ≤ (node x).operator → (i : ℕ) → true_at x i ≡ u x i
  unfolding bits_at
  temporal_is x l h i =
      let n = numbered 6 g.node g.count x l h in
      truth_temporal g.table g.node (state i) (bits i) x h
      ∙ (bit-number (λ t. u (get_or (temporal g.node g.count) t 0) i) (length (temporal g.node g.count))
      (length (temporal g.node x)) n.within
      ∙ ap (λ (y : ℕ). u y i) n.entry)

  -- every node's truth is its value
  pub truth_is : (x : ℕ) → x < g.count → (i : ℕ)
      → truth g.table g.node x (state_at track k m i) (bits_at g.node g.count u i) ≡ u x i
  truth_is =
      by_lower (λ x. x < g.count → (i : ℕ) → true_at x i ≡ u x i) (λ x lower l i. go x lower l i (dec_lt (node x).operator 6))
    where
      go : (x : ℕ) → ((y : ℕ) → y < x → y < g.count → (i : ℕ) → true_at y i ≡ u y i) → x < g.count → (i : ℕ)
          → Dec ((node x).operator < 6) → true_at x i ≡ u x i
      go x lower l i (yes h) =
          truth_plain g.table g.node (state i) (bits i) x h (ordered.first_lower x l) (ordered.second_lower x l)
          ∙ (plain_operands _ _ _ _ _ (node x).operator h
          (λ p. let k = ordered.first_lower x l p in lower (node x).first k (lt_trans k l) i)
          (λ q. let k = ordered.second_lower x l q in lower (node x).second k (lt_trans k l) i)
          ∙ sym (val.computes x l h i))
      go x lower l i (no h) = temporal_is x l (omega arith) i

  first_is : (x : ℕ) → x < g.count → (i : ℕ) → 1 ≤ operands (node x).operator
      → true_at (node x).first i ≡ u (node x).first i
  first_is x l i p = truth_is (node x).first (lt_trans (ordered.first_lower x l p) l) i

  second_is : (x : ℕ) → x < g.count → (i : ℕ) → 2 ≤ operands (node x).operator
      → true_at (node x).second i ≡ u (node x).second i
  second_is x l i q = truth_is (node x).second (lt_trans (ordered.second_lower x l q) l) i

  -- so the law of the valuation is the law of the step
  law : (x : ℕ) → x < g.count → 6 ≤ (node x).operator → (i : ℕ)
      → Law g.table g.node x (state i) (bits i) (state (suc i)) (bits (suc i))
  law x l h i = go (dec_lt 6 (node x).operator)
    where
      go : Dec (6 < (node x).operator) → Law g.table g.node x (state i) (bits i) (state (suc i)) (bits (suc i))
      go (yes c) =
          let (n, s) = laws_operands _ _ _ _ (node x).operator (ordered.known x l) (first_is x l i) (second_is x l i) c in
          truth_is x l i
          ∙ (val.unrolls x l c i
          ∙ ap₂ ◌||◌ (sym n)
          (ap₂ ◌&&◌ (sym s)
          (sym (truth_is x l (suc i)) ∙ sym (carried_own g.table g.node x (state (suc i)) (bits (suc i)) c))))
      go (no c) =
          let e : (node x).operator ≡ 6 = omega arith in
          (law_next g.table g.node x (state i) (bits i) (state (suc i)) (bits (suc i)) e).1
          (truth_is x l i
          ∙ (val.reads_on x l e i ∙ sym (first_is x l (suc i) (subst (λ (o : ℕ). 1 ≤ operands o) (sym e) (lit≤ tt)))))

  -- every node with an operator 7 to 11 is kept again and again
  pub node_meets : (x : ℕ) → x < g.count → 7 ≤ (node x).operator → Recurs (λ i. T (meets g.table g.node x (state i) (bits i)))
  unfolding meets
  node_meets x l h i = go (val.keeps x l h i)
    where
      go : From (λ j. T (kept (node x).operator (u x j) (u (node x).first j) (u (node x).second j))) i
          → From (λ j. T (kept (node x).operator (true_at x j) (true_at (node x).first j) (true_at (node x).second j))) i
      go (j, a, t) = (
        j,
        a,
        T-along
            (sym (kept_operands _ _ _ _ (u x j) (node x).operator (ordered.known x l) (first_is x l j) (second_is x l j) h)
            ∙ ap (λ (v : Bool). kept (node x).operator v (true_at (node x).first j) (true_at (node x).second j)) (sym (truth_is x l j)))
            t,
      )

  -- waiting numbers by the step, and the places
  pub waiting : ℕ → ℕ
  waiting zero = 0
  waiting (suc i) = next g (record { state = state i; bits = bits i; waiting = waiting i })

  pub along : ℕ → Place
  along i = record { state = state i; bits = bits i; waiting = waiting i }

  module _ (run : Run g.table track k m) where
    edges : (i : ℕ) → T (g.table.edge (state i) (state (suc i)))
    edges i = go (position_onward k m run.loops i)
      where
        go : {e f : ℕ} → Onward k m e f → T (g.table.edge (get_or track e 0) (get_or track f 0))
        go {e} (on l p) = subst (λ (f : ℕ). T (g.table.edge (get_or track e 0) (get_or track f 0))) (sym p) (run.steps e l)
        go (back p q) = subst₂ (λ (e f : ℕ). T (g.table.edge (get_or track e 0) (get_or track f 0))) (sym p) (sym q) run.closes

    stepped : (i : ℕ) → Stepped g (along i) (along (suc i))
    unfolding along waiting
    stepped i =
        record { edge = edges i; below = bits_at_below g u (suc i); laws = λ x l h. law x l h i; waits = refl }

    -- where the run meets each listed promise again and again
    module _ (recurs : (e : ℕ) → e < top g → Recurs (λ i. T (met g e (state i) (bits i)))) where
      moves : (i : ℕ) → Move (top g) (met g (waiting i) (state i) (bits i)) (waiting i) (waiting (suc i))
      unfolding along
      moves i = stepped_moves g (along i) (along (suc i)) (stepped i)

      bounded : (i : ℕ) → waiting i ≤ top g
      unfolding waiting
      bounded = below_top (top g) (λ e i. met g e (state i) (bits i)) waiting moves (omega arith)

      top_recurs : Recurs (λ i. waiting i ≡ top g)
      unfolding waiting
      top_recurs = met_recurs→top_recurs (top g) (λ e i. met g e (state i) (bits i)) waiting moves recurs (omega arith)

      -- from a run whose first position has the last node false, a path of the product
      along_path : T (not (u (g.count - 1) 0)) → 1 ≤ g.count → Path g along
      unfolding along waiting marked
      along_path f c =
          record {
            begins =
                initial← g (along 0)
                (record {
                  begins =
                      subst (λ (e : ℕ). T (g.table.initial (get_or track e 0)))
                      (sym (position_in k m 0 (omega (arith, run.loops))))
                      run.begins;
                  false_there = T-along (ap not (sym (truth_is (g.count - 1) (omega arith) 0))) f;
                  waits_first = refl;
                });
            goes_on = λ i. stepped→successor g (along i) (along (suc i)) (stepped i);
            marks = λ i. mark (top_recurs i);
          }
        where
          mark : {i : ℕ} → From (λ j. waiting j ≡ top g) i → From (λ j. T (marked g (along j))) i
          mark (j, h, e) = (j, h, T-along (sym (eq-eqb (waiting j) (top g) e)) tt)

      along_number : (i : ℕ) → numbering g (along i) < size g
      unfolding along
      along_number i =
          numbering_below g (along i) (run.states (position k m i) (position_below k m run.loops i)) (bits_at_below g u i) (bounded i)

      place_along : (i : ℕ) → along i ≡ place g (numbering g (along i))
      unfolding along
      place_along i = sym (place_numbering g (along i) (bits_at_below g u i) (bounded i))

      -- by the places' numbers, which are below P
      pub numbered_path : T (not (u (g.count - 1) 0)) → 1 ≤ g.count
          → (x : ℕ → ℕ) × ((i : ℕ) → x i < size g) × Path g (λ i. place g (x i))
      numbered_path f c =
          ((λ i. numbering g (along i)), along_number, subst (Path g) (fun_ext place_along) (along_path f c))
