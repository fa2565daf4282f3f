-- Where each state's edges start: each entry is found by skipping on from the entry before it, and the edges from there on leave
-- the state or higher ones, since edges rise by the state that they leave. Assumes nothing.
use Prim.Native.Nat.{ℕ, zero, suc, ◌+◌, ◌≤◌, ◌<◌}
use native.Mathlib.Omega.{arith}
use native.Mathlib.Nat.{eq-or-lt_of_le}
use native.Mathlib.Decide.{ℕ_discrete, dec_lt}
use mathlib.Core.Path.{◌≡◌}
use mathlib.Core.Logic.{◌⊎◌, inl, inr, ⊎_elim}
use mathlib.Core.List.{List}
use lib.ListN.{length, get_or, set}
use lib.Seq.{get_or-set_same, get_or-set_other}
use Rattle.reading.specs.Parts.{Parts, edge_count, from_of}
use Rattle.reading.proofs.Admitted.{Admitted}
use Rattle.product.proofs.Lanes.{Starts}
use Rattle.filled.proofs.Filling.{Leaving, Skipped, Parted, Started}

pub leaving : {p : Parts} → Admitted p → Leaving p.edge_list p.states
leaving a =
    record {
      few_states = a.few_states;
      few_edges = a.few_edges;
      bytes = a.edge_bytes;
      rises = λ e h. ⊎_elim (λ l. omega arith) (λ w. omega arith) (a.rises e h);
    }

module _ {edges : List ℕ} {count : ℕ} (h : Leaving edges count) where
  from_grows : (d e : ℕ) → e ≤ d → d < edge_count edges → from_of edges e ≤ from_of edges d
  from_grows zero e l k = let q : e ≡ 0 = omega arith in rw q (omega arith)
  from_grows (suc d) e l k = go (eq-or-lt_of_le l) (from_grows d e)
    where
      go : (e ≡ suc d) ⊎ (e < suc d) → (e ≤ d → d < edge_count edges → from_of edges e ≤ from_of edges d)
          → from_of edges e ≤ from_of edges (suc d)
      go (inl q) before = rw q (omega arith)
      go (inr q) before = omega (arith, before (omega arith) (omega arith), h.rises d k)

  module _ (s e r : ℕ) (starts : List ℕ) (skipped : Skipped edges s e r) (old : Started edges s e starts) where
    parted_here : Parted edges s r
    parted_here =
        record {
          within = skipped.within;
          lower = λ i l. go i l (dec_lt i e);
          higher = λ i l k. omega (arith, skipped.reached (omega arith), from_grows i r l k);
        }
      where
        go : (i : ℕ) → i < r → Dec (i < e) → from_of edges i < s
        go i l (yes k) = old.passed i k
        go i l (no k) = skipped.passed i (omega arith) l

    pub started_more : s < length starts → Started edges (s + 1) r (set starts s r)
    started_more fits =
        record {
          within = skipped.within;
          passed = λ i l. omega (arith, parted_here.lower i l);
          parted = λ x l. go x (ℕ_discrete x s) l;
        }
      where
        go : (x : ℕ) → Dec (x ≡ s) → x < s + 1 → Parted edges x (get_or (set starts s r) x 0)
        go x (yes q) l = rw (q, get_or-set_same starts s r 0) parted_here
        go x (no ne) l = rw (get_or-set_other starts s x r 0 ne) (old.parted x (omega arith))

  pub started_all : (starts : List ℕ) (e : ℕ) → Started edges (count + 1) e starts
      → Starts (from_of edges) (edge_count edges) count starts
  started_all starts e all =
      record {
        within = λ s l. (all.parted s (omega arith)).within;
        lower = λ s e l. (all.parted s (omega arith)).lower e;
        higher = λ s e l. (all.parted s (omega arith)).higher e;
      }
