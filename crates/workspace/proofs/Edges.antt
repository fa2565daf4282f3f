-- The edges of a state are those from its start to the next state's, since edges rise. Assumes nothing.
use Prim.Native.Nat.{ℕ, zero, suc, ◌+◌, ◌-◌, ◌≤◌, ◌<◌}
use native.Mathlib.Omega.{arith}
use native.Mathlib.Decide.{dec_lt}
use mathlib.Core.Path.{◌≡◌, refl, sym}
use mathlib.Core.Bool.{Bool, ◌&&◌}
use mathlib.Core.List.{List}
use mathlib.Core.Logic.{⊎_elim}
use lib.Dec.{T, leb, eqb, eqb→eq}
use borrow.Author.Tests.{leb-true, leb-false, eq-eqb, le-leb, lt-leb}
use Rattle.meaning.proofs.Truths.{T-along, T_and, T_is_true}
use Rattle.reading.specs.Lowest.{lowest}
use Rattle.reading.specs.Parts.{Parts, edge_count, from_of, to_of, has_edge}
use Rattle.reading.proofs.Admitted.{Admitted}
use Rattle.reading.proofs.Lowest.{lowest_is, lowest_passed, lowest_found, any_true, any_found}
use Rattle.workspace.proofs.Setting.{start_of}
use Rattle.workspace.proofs.Case.{start_within}

-- ---- edges

pub record Edge (edges : List ℕ) (s s' : ℕ) : Type 0 where
  pub edge : ℕ
  pub below : edge < edge_count edges
  pub leaves : from_of edges edge ≡ s
  pub enters : to_of edges edge ≡ s'

-- a state has an edge to another exactly where some edge says so
pub edge_found : (edges : List ℕ) (s s' : ℕ) → T (has_edge edges s s') → Edge edges s s'
unfolding has_edge
edge_found edges s s' t =
    let test : ℕ → Bool = λ e. eqb (from_of edges e) s && eqb (to_of edges e) s' in
    let below = any_true test (edge_count edges) (T_is_true _ t) in
    let both = T_and (eqb (from_of edges (lowest test (edge_count edges))) s) (eqb (to_of edges (lowest test (edge_count edges))) s')
    (T-along (sym (lowest_found test (edge_count edges) below)) tt) in
    record {
      edge = lowest test (edge_count edges);
      below = below;
      leaves = eqb→eq _ _ both.0;
      enters = eqb→eq _ _ both.1;
    }

pub edge_there : (edges : List ℕ) (e : ℕ) → e < edge_count edges → T (has_edge edges (from_of edges e) (to_of edges e))
unfolding has_edge
edge_there edges e h =
    let found =
    any_found (λ i. eqb (from_of edges i) (from_of edges e) && eqb (to_of edges i) (to_of edges e)) (edge_count edges) e h
    (rw (eq-eqb (from_of edges e) (from_of edges e) refl, eq-eqb (to_of edges e) (to_of edges e) refl)) in
    T-along (sym found) tt

pub start_lower : (edges : List ℕ) (s e : ℕ) → e < start_of edges s → from_of edges e < s
start_lower edges s e h = leb-false s (from_of edges e) (lowest_passed (λ e. leb s (from_of edges e)) (edge_count edges) e h)

-- from the first edge that leaves s or a higher state, where there is one
pub start_found : (edges : List ℕ) (s : ℕ) → start_of edges s < edge_count edges → s ≤ from_of edges (start_of edges s)
start_found edges s h = leb-true s _ (lowest_found (λ e. leb s (from_of edges e)) (edge_count edges) h)

-- a higher state's edges start no earlier
pub start_rises : (edges : List ℕ) (s : ℕ) → start_of edges s ≤ start_of edges (suc s)
start_rises edges s = go (dec_lt (start_of edges (suc s)) (start_of edges s))
  where
    go : Dec (start_of edges (suc s) < start_of edges s) → start_of edges s ≤ start_of edges (suc s)
    go (yes l) =
        absurd (omega (arith, start_lower edges s (start_of edges (suc s)) l, start_found edges (suc s) (omega (arith, start_within edges s))))
    go (no n) = omega arith

module _ (p : Parts) (a : Admitted p) where
  from_rises : (e d : ℕ) → e + d < edge_count p.edge_list → from_of p.edge_list e ≤ from_of p.edge_list (e + d)
  from_rises e zero h = rw (let q : e + 0 ≡ e = omega arith in q) (omega arith)
  from_rises e (suc d) h =
      let l = from_rises e d (omega arith) in
      rw (let q : e + suc d ≡ suc (e + d) = omega arith in q)
      (⊎_elim (λ w. omega arith) (λ w. omega (arith, w.0)) (a.rises (e + d) (omega arith)))

  pub start_higher : (s e : ℕ) → start_of p.edge_list s ≤ e → e < edge_count p.edge_list → s ≤ from_of p.edge_list e
  start_higher s e h l =
      let first = start_found p.edge_list s (omega arith) in
      let q : start_of p.edge_list s + (e - start_of p.edge_list s) ≡ e = omega arith in
      omega (arith, rw q at (from_rises (start_of p.edge_list s) (e - start_of p.edge_list s) (omega arith)))

  -- the start of a state's edges is where all before leave lower states, and all from there on do not
  pub start_is : (s r : ℕ) → r ≤ edge_count p.edge_list → ((e : ℕ) → e < r → from_of p.edge_list e < s)
      → ((e : ℕ) → r ≤ e → e < edge_count p.edge_list → s ≤ from_of p.edge_list e) → r ≡ start_of p.edge_list s
  start_is s r h lower higher =
      lowest_is (λ e. leb s (from_of p.edge_list e)) (edge_count p.edge_list) r h (λ e l. lt-leb s _ (lower e l))
      (λ l. le-leb s _ (higher r (omega arith) l))

  -- the edges of state s
  pub edge_leaves : (s e : ℕ) → start_of p.edge_list s ≤ e → e < start_of p.edge_list (suc s) → from_of p.edge_list e ≡ s
  edge_leaves s e h l =
      omega (arith, start_lower p.edge_list (suc s) e l, start_higher s e h (omega (arith, start_within p.edge_list (suc s))))

  pub edge_from : (s e : ℕ) → e < edge_count p.edge_list → from_of p.edge_list e ≡ s → start_of p.edge_list s ≤ e
  edge_from s e h q = go (dec_lt e (start_of p.edge_list s))
    where
      go : Dec (e < start_of p.edge_list s) → start_of p.edge_list s ≤ e
      go (yes l) = absurd (omega (arith, start_lower p.edge_list s e l))
      go (no n) = omega arith

  pub edge_before : (s e : ℕ) → e < edge_count p.edge_list → from_of p.edge_list e ≡ s → e < start_of p.edge_list (suc s)
  edge_before s e h q = go (dec_lt e (start_of p.edge_list (suc s)))
    where
      go : Dec (e < start_of p.edge_list (suc s)) → e < start_of p.edge_list (suc s)
      go (yes l) = l
      go (no n) = absurd (omega (arith, start_higher (suc s) e (omega arith) h))
