-- The rows of the table as a walk meets them: a state with an edge is no dead end, one with none is; a walk that ends at r
-- gives its row's refusal at r, or none. Assumes nothing.
use Rattle.std.specs.Prelude.{Ok, Err}
use Prim.Native.Nat.{ℕ, ◌<◌}
use mathlib.Core.Path.{◌≡◌, refl, sym, ap, ◌∙◌}
use mathlib.Core.Bool.{Bool, true, false, cond, not, ◌||◌}
use mathlib.Core.List.{List}
use lib.Dec.{eqb}
use borrow.Author.Tests.{eq-eqb}
use Rattle.reading.specs.Lowest.{lowest}
use Rattle.reading.specs.Parts.{edge_count, from_of}
use Rattle.reading.specs.Refusals.{refuse_at, starts_none}
use Rattle.reading.specs.declared.CaseRefusal.{CaseRefusal}
use native.Mathlib.Omega.{arith}
use Rattle.reading.proofs.Lowest.{lowest_is, any_found, any_none}

pub starts_one : (list : List ℕ) (s e : ℕ) → e < edge_count list → from_of list e ≡ s → starts_none list s ≡ false
unfolding starts_none
starts_one list s e h p = ap not (any_found _ _ e h (eq-eqb _ _ p))

pub starts_none_lem : (list : List ℕ) (s : ℕ) → ((e : ℕ) → e < edge_count list → eqb (from_of list e) s ≡ false) → starts_none list s ≡ true
unfolding starts_none
starts_none_lem list s h = ap not (any_none _ _ h)

module _ (bad : ℕ → Bool) (n : ℕ) (row : ℕ → CaseRefusal) where
  -- a walk that passed every number below r and stops there, since it is bad
  pub refused_at : (r : ℕ) → r < n → ((j : ℕ) → j < r → bad j ≡ false) → bad r ≡ true → Err (row r) ≡ refuse_at bad n row
  refused_at r h passed found =
      let there : r ≡ lowest bad n = lowest_is bad n r (omega arith) passed (λ _. found) in
      simp (any_found bad n r h found, ← there)

  -- a walk that passed them all
  pub none_refused : ((j : ℕ) → j < n → bad j ≡ false) → Ok tt ≡ refuse_at bad n row
  none_refused passed = simp (any_none bad n passed)

-- what a test of two gives
either_first : (a b : Bool) → a ≡ true → (a || b) ≡ true
either_first a b e = rw e refl

either_second : (a b : Bool) → b ≡ true → (a || b) ≡ true
either_second true b e = refl
either_second false b e = e

pub neither : (a b : Bool) → a ≡ false → b ≡ false → (a || b) ≡ false
neither a b e f = rw (e, f) refl

-- 21 before 22 of one edge, and 30 before 31 of one node: the first of two tests gives its row, the second its own
module _ (first second : ℕ → Bool) (n : ℕ) (one two : ℕ → CaseRefusal) (r : ℕ) (h : r < n)
    (passed : (j : ℕ) → j < r → (first j || second j) ≡ false) where
  pub refused_first : first r ≡ true → Err (one r) ≡ refuse_at (λ j. first j || second j) n (λ j. cond (first j) (one j) (two j))
  refused_first e =
      ap (λ (t : Bool). Err (cond t (one r) (two r))) (sym e)
      ∙ refused_at _ _ (λ j. cond (first j) (one j) (two j)) r h passed (either_first _ _ e)

  pub refused_second : first r ≡ false → second r ≡ true
      → Err (two r) ≡ refuse_at (λ j. first j || second j) n (λ j. cond (first j) (one j) (two j))
  refused_second e f =
      ap (λ (t : Bool). Err (cond t (one r) (two r))) (sym e)
      ∙ refused_at _ _ (λ j. cond (first j) (one j) (two j)) r h passed (either_second _ _ f)
