-- The published product decides the rule: a lasso of it with a mark in its loop violates, and a run that violates gives an endless path
-- of it on which marks recur. Assumes nothing.
use Prim.Native.Nat.{ℕ, ◌+◌, ◌-◌, ◌≤◌, ◌<◌}
use native.Mathlib.Omega.{arith}
use mathlib.Core.Path.{◌≡◌, sym}
use mathlib.Core.Bool.{Bool, not}
use mathlib.Core.List.{List}
use lib.Dec.{T, not_T}
use lib.ListN.{length, get_or}
use Rattle.meaning.specs.Table.{Table, Node, rule}
use Rattle.meaning.specs.Laws.{Ordered}
use Rattle.meaning.specs.Runs.{path_of, Violates}
use Rattle.meaning.proofs.Truths.{T-along}
use Rattle.meaning.proofs.Loops.{Repeats, endless_repeats}
use Rattle.meaning.proofs.Valuation.{Valuation}
use Rattle.meaning.proofs.Hinge.{valuation_is_truth}
use Rattle.meaning.proofs.Exists.{truths, truths_valuation}
use Rattle.product.specs.Product.{Product, published, meets, top, size, place, met}
use Rattle.product.proofs.Waiting.{From, Recurs}
use Rattle.product.proofs.Promises.{Promise, published_listed, published_promise}
use Rattle.product.proofs.Lassos.{Lasso, Path}
use Rattle.product.proofs.Sound.{lasso_violates}
use Rattle.product.proofs.Complete.{state_at, bits_at, node_meets, numbered_path}

module _ (table : Table) (node : ℕ → Node) (count : ℕ) (ordered : Ordered node count) (some : 1 ≤ count) where
  abbrev g : Product
  g = published table node count

  -- sound: the states of a lasso's places, as a track, are a run that violates
  pub sound : (entries track : List ℕ) (k m : ℕ) → Lasso (published table node count) entries k m → k + m ≤ length track
      → ((i : ℕ) → i < k + m → get_or track i 0 ≡ (place (published table node count) (get_or entries i 0)).state)
      → Violates table (rule node count) track k m
  sound entries track k m lasso stored tracked =
      lasso_violates g ordered (published_listed table node count) entries track k m lasso stored tracked some

  module _ (track : List ℕ) (k m : ℕ) (violates : Violates table (rule node count) track k m) where
    repeats : Repeats (path_of table track k m) k m
    repeats = endless_repeats (λ e. table.label (get_or track e 0)) k m

    abbrev u : ℕ → ℕ → Bool
    u = truths node count ordered (path_of table track k m) k m violates.run.loops repeats

    valued : Valuation node count (path_of table track k m) k m u
    valued = truths_valuation node count ordered (path_of table track k m) k m violates.run.loops repeats

    recurs : (e : ℕ) → e < top g
        → Recurs (λ i. T (met g e (state_at track k m i) (bits_at node count u i)))
    recurs e h i = go (published_promise table node count e h)
      where
        go : (x : ℕ) × (x < count) × (7 ≤ (node x).operator) × Promise g e x
            → From (λ i. T (met g e (state_at track k m i) (bits_at node count u i))) i
        go (x, l, o, p) = met_at (node_meets g ordered track k m u valued x l o i)
          where
            met_at : From (λ i. T (meets table node x (state_at track k m i) (bits_at node count u i))) i
                → From (λ i. T (met g e (state_at track k m i) (bits_at node count u i))) i
            met_at (j, a, t) = (j, a, T-along (sym (p _ _)) t)

    false_first : T (not (u (count - 1) 0))
    unfolding rule
    false_first =
        not_T (u (count - 1) 0)
        (λ t. violates.breaks ((valuation_is_truth node count ordered _ k m violates.run.loops u valued (count - 1) (omega arith) 0).0 t))

    -- complete: an endless path of places from an initial one, by their numbers, on which marks recur
    pub complete : (x : ℕ → ℕ)
        × ((i : ℕ) → x i < size (published table node count))
        × Path (published table node count) (λ i. place (published table node count) (x i))
    complete = numbered_path g ordered track k m u valued violates.run recurs false_first some
