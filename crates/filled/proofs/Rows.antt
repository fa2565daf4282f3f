-- A row is added state by state, each store the next state's lane, and nothing below the row changes; so the rows of nodes 0 to n-1
-- with row n added are those of nodes 0 to n. Assumes nothing.
use Prim.Native.Nat.{ℕ, suc, ◌+◌, ◌*◌, ◌≤◌, ◌<◌}
use native.Mathlib.Omega.{arith}
use native.Mathlib.Decide.{ℕ_discrete, dec_lt}
use mathlib.Core.Path.{◌≡◌, ◌∙◌}
use mathlib.Core.Logic.{◌⊎◌, inl, inr}
use mathlib.Core.Bool.{Bool}
use mathlib.Core.List.{List}
use lib.ListN.{length, get_or, set, length-set, replicate, get_or-replicate, length-replicate, get_or-eq_default}
use lib.Seq.{get_or-set_same, get_or-set_other}
use Rattle.bits.specs.Bits.{bit}
use Rattle.meaning.specs.Table.{Table, Node}
use Rattle.product.specs.Product.{truth}
use Rattle.product.proofs.Lanes.{Words16, Rows}
use Rattle.filled.proofs.Lane.{Lane}
use Rattle.filled.proofs.Filling.{Blank, RowAdded}

-- ---- stores

pub get_d_set : (list : List ℕ) (i v j : ℕ) → (j ≡ i → i < length list)
    → (get_or (set list i v) j 0 ≡ v) ⊎ (get_or (set list i v) j 0 ≡ get_or list j 0)
get_d_set list i v j h = go (ℕ_discrete j i)
  where
    go : Dec (j ≡ i) → (get_or (set list i v) j 0 ≡ v) ⊎ (get_or (set list i v) j 0 ≡ get_or list j 0)
    go (yes e) = inl (rw e (get_or-set_same list i v 0 (h e)))
    go (no ne) = inr (get_or-set_other list i j v 0 ne)

pub words_set : (list : List ℕ) (i v : ℕ) → i < length list → v < 65536 → Words16 list → Words16 (set list i v)
words_set list i v l h words j = go (get_d_set list i v j (λ e. l))
  where
    go : (get_or (set list i v) j 0 ≡ v) ⊎ (get_or (set list i v) j 0 ≡ get_or list j 0) → get_or (set list i v) j 0 < 65536
    go (inl e) = rw e h
    go (inr e) = rw e (words j)

-- what `[0; n]` is
pub blank_zeros : (n : ℕ) → Blank n (replicate n 0)
blank_zeros n = record { size_is = length-replicate n 0; zero_at = λ i. go i (dec_lt i n) }
  where
    go : (i : ℕ) → Dec (i < n) → ◌≡◌ {A = ℕ} (get_or (replicate n 0) i 0) 0
    go i (yes l) = get_or-replicate n i 0 0 l
    go i (no k) = get_or-eq_default (replicate n 0) 0 (rw (length-replicate {A = ℕ} n 0) (omega arith))

pub blank_words : {size : ℕ} {list : List ℕ} → Blank size list → Words16 list
blank_words blank i = rw (blank.zero_at i) (omega arith)

-- ---- a row

module _ (n : ℕ) (f : ℕ → ℕ → Bool) (rows : List ℕ) where
  pub row_more : (s lane : ℕ) (rows' : List ℕ) → RowAdded n s f rows rows' → n * 64 + s < length rows' → Lane (f s) lane
      → RowAdded n (s + 1) f rows (set rows' (n * 64 + s) lane)
  row_more s lane rows' r l h =
      record {
        size_kept = length-set rows' (n * 64 + s) lane ∙ r.size_kept;
        lower = λ i k. get_or-set_other rows' (n * 64 + s) i lane 0 (λ e. omega arith) ∙ r.lower i k;
        words = λ w. words_set rows' (n * 64 + s) lane l h.within (r.words w);
        added = λ x k. go x (ℕ_discrete x s) k;
      }
    where
      go : (x : ℕ) → Dec (x ≡ s) → x < s + 1 → Lane (f x) (get_or (set rows' (n * 64 + s) lane) (n * 64 + x) 0)
      go x (yes e) k = rw (e, get_or-set_same rows' (n * 64 + s) lane 0) h
      go x (no ne) k =
          rw (get_or-set_other rows' (n * 64 + s) (n * 64 + x) lane 0 (λ e. ne (omega arith))) (r.added x (omega arith))

-- ---- the rows

module _ (table : Table) (node : ℕ → Node) where
  pub rows_none : {size : ℕ} {rows : List ℕ} → Blank size rows → Rows table node 0 rows
  rows_none blank = record { words = blank_words blank; row = λ x s b h. absurd (omega arith) }

  module _ (n : ℕ) (rows rows' : List ℕ) (few : table.states ≤ 64) (all : Rows table node n rows) where
    -- what is added from row n on leaves the lower rows
    pub rows_kept : {count : ℕ} {f : ℕ → ℕ → Bool} → RowAdded n count f rows rows' → Rows table node n rows'
    rows_kept r =
        record {
          words = r.words all.words;
          row = λ x s b h k l. rw (r.lower (x * 64 + s) (omega arith)) (all.row x s b h k l);
        }

    pub rows_more : RowAdded n table.states (truth table node n) rows rows' → Rows table node (suc n) rows'
    rows_more r =
        record {
          words = r.words all.words;
          row = λ x s b h k l. go x s b (ℕ_discrete x n) h k l;
        }
      where
        go : (x s b : ℕ) → Dec (x ≡ n) → x < suc n → s < table.states → b < 16
            → bit (get_or rows' (x * 64 + s) 0) b ≡ truth table node x s b
        go x s b (yes e) h k l = rw e ((r.added s k).bits b l)
        go x s b (no ne) h k l = (rows_kept r).row x s b (omega arith) k l
