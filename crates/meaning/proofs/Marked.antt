-- The marked cases M1 to M12 of the paper, as one table under one statement: labels as stem | loop, a rule, and its truth at
-- position 0. The path is made by the function that `Violates` uses; the table is computed by `truth`. Assumes nothing.
use Prim.Native.Nat.{ℕ, ◌+◌}
use mathlib.Core.Bool.{Bool, true, false, cond, beq, ◌&&◌}
use mathlib.Core.List.{List, [], ◌∷◌, ◌++◌}
use lib.ListN.{length, get_or}
use lib.Dec.{T, leb, leb→le}
use Rattle.bits.specs.Bits.{bit}
use Rattle.meaning.specs.Formula.{Formula, At, Atom, X, F, G, U, R, W}
use Rattle.meaning.specs.Runs.{position, endless}
use Rattle.meaning.proofs.Truths.{T_and}
use Rattle.meaning.proofs.Loops.{endless_repeats}
use Rattle.meaning.proofs.Decided.{truth, truth_tells}

-- a row: the labels of the stem and of the loop, the rule, and whether it is true at position 0
pub record Row : Type 0 where
  pub stem : List ℕ
  pub loop : List ℕ
  pub rule : Formula
  pub true_at_0 : Bool

-- the row's endless path
abbrev pub path : Row → ℕ → ℕ
path r = endless (λ e. get_or (r.stem ++ r.loop) e 0) (length r.stem) (length r.loop)

-- a true row is true, a false one is not
abbrev pub Right : Row → Type 0
Right r = cond r.true_at_0 (At (path r) r.rule 0) (At (path r) r.rule 0 → ⊥)

abbrev pub All : (Row → Type 0) → List Row → Type 0
All P [] = Unit {0}
All P (r ∷ rs) = P r × All P rs

-- labels: bit 0 is p, bit 1 is q
abbrev none : ℕ
none = 0

abbrev p : ℕ
p = 1

abbrev q : ℕ
q = 2

abbrev pq : ℕ
pq = 3

abbrev row : List ℕ → List ℕ → Formula → Bool → Row
row s l f t = record { stem = s; loop = l; rule = f; true_at_0 = t }

unfoldable pub marked : List Row
marked =
    row [] (p ∷ []) (G (Atom 0)) true  -- M1
    ∷ row (p ∷ []) (none ∷ []) (F (Atom 0)) true  -- M2
    ∷ row (p ∷ []) (none ∷ []) (G (Atom 0)) false  -- M3
    ∷ row (none ∷ []) (p ∷ []) (X (Atom 0)) true  -- M4
    ∷ row (p ∷ []) (q ∷ []) (U (Atom 0) (Atom 1)) true  -- M5
    ∷ row [] (p ∷ []) (U (Atom 0) (Atom 1)) false  -- M6
    ∷ row [] (p ∷ []) (W (Atom 0) (Atom 1)) true  -- M7
    ∷ row [] (p ∷ []) (R (Atom 1) (Atom 0)) true  -- M8
    ∷ row (p ∷ []) (q ∷ []) (R (Atom 1) (Atom 0)) false  -- M9
    ∷ row (p ∷ pq ∷ []) (none ∷ []) (R (Atom 1) (Atom 0)) true  -- M10
    ∷ row [] (p ∷ none ∷ []) (G (F (Atom 0))) true  -- M11
    ∷ row [] (p ∷ none ∷ []) (F (G (Atom 0))) false  -- M12
    ∷ []

-- a row as `truth` computes it: a loop of at least 1, and the value asked for
computed : Row → Bool
computed r =
    leb 1 (length r.loop)
    && beq (truth (path r) (length r.stem + length r.loop) r.rule 0) r.true_at_0

all_computed : List Row → Bool
all_computed [] = true
all_computed (r ∷ rs) = computed r && all_computed rs

right_if : (t value : Bool) (A : Type 0) → (T value → A) × (A → T value) → T (beq value t) → cond t A (A → ⊥)
right_if true true A is e = is.0 tt
right_if true false A is e = absurd e
right_if false true A is e = absurd e
right_if false false A is e = is.1

row_right : (r : Row) → T (computed r) → Right r
unfolding computed
row_right r c =
    let b = T_and (leb 1 (length r.loop)) _ c in
    right_if r.true_at_0 (truth (path r) (length r.stem + length r.loop) r.rule 0) _
    (truth_tells (path r) (length r.stem) (length r.loop) (leb→le 1 (length r.loop) b.0)
    (endless_repeats (λ e. get_or (r.stem ++ r.loop) e 0) (length r.stem) (length r.loop)) r.rule 0)
    b.1

rows_right : (rs : List Row) → T (all_computed rs) → All Right rs
unfolding all_computed
rows_right [] c = tt
rows_right (r ∷ rs) c = let b = T_and (computed r) (all_computed rs) c in (row_right r b.0, rows_right rs b.1)

-- M1 to M12
pub marked_right : All Right marked
unfolding all_computed computed truth bit position marked
marked_right = rows_right marked tt
