-- What the layers above conclude: `Holds` and a violating run exclude each other, and whether a run violates is decided by its
-- valuation. Assumes nothing.
use Prim.Native.Nat.{ℕ, ◌-◌, ◌≤◌}
use native.Mathlib.Omega.{arith}
use mathlib.Core.Bool.{Bool, not}
use mathlib.Core.List.{List}
use mathlib.Core.Logic.{◌↔◌}
use lib.Dec.{T, T_not, not_T}
use lib.ListN.{get_or}
use Rattle.meaning.specs.Table.{Table, Node, rule}
use Rattle.meaning.specs.Laws.{Ordered}
use Rattle.meaning.specs.Formula.{Formula, At}
use Rattle.meaning.specs.Runs.{Run, path_of, Violates, Holds}
use Rattle.meaning.proofs.Loops.{Repeats, endless_repeats}
use Rattle.meaning.proofs.Valuation.{Valuation}
use Rattle.meaning.proofs.Hinge.{valuation_is_truth}
use Rattle.meaning.proofs.Decided.{decided}
use Rattle.meaning.proofs.Exists.{truths, truths_valuation}

pub holds_excludes : (t : Table) (φ : Formula) (track : List ℕ) (k m : ℕ) → Holds t φ → Violates t φ track k m → ⊥
holds_excludes t φ track k m h v = h track k m v

module _ (t : Table) (track : List ℕ) (k m : ℕ) where
  pub path_repeats : Repeats (path_of t track k m) k m
  path_repeats = endless_repeats (λ e. t.label (get_or track e 0)) k m

  -- whether a run of the table violates is decided
  pub violates_decided : (φ : Formula) → Run t track k m → Dec (Violates t φ track k m)
  violates_decided φ r = go (decided (path_of t track k m) k m r.loops path_repeats φ 0)
    where
      go : Dec (At (path_of t track k m) φ 0) → Dec (Violates t φ track k m)
      go (yes a) = no (λ v. v.breaks a)
      go (no f) = yes (record { run = r; breaks = f })

  module _ (node : ℕ → Node) (n : ℕ) (some : 1 ≤ n) (ordered : Ordered node n) (r : Run t track k m) where
    -- by the rule's bit of any valuation of its path
    pub violates_by_valuation : (u : ℕ → ℕ → Bool) → Valuation node n (path_of t track k m) k m u
        → Violates t (rule node n) track k m ↔ T (not (u (n - 1) 0))
    unfolding rule
    violates_by_valuation u val =
        let is = valuation_is_truth node n ordered (path_of t track k m) k m r.loops u val (n - 1) (omega arith) 0 in (
          λ v. not_T (u (n - 1) 0) (λ t. v.breaks (is.0 t)),
          λ f. record { run = r; breaks = λ a. T_not (u (n - 1) 0) f (is.1 a) },
        )

    -- and there is one
    pub run_valuation : Valuation node n (path_of t track k m) k m (truths node n ordered (path_of t track k m) k m r.loops path_repeats)
    run_valuation = truths_valuation node n ordered (path_of t track k m) k m r.loops path_repeats
