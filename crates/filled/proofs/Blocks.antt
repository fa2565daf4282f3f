-- The lanes of one state are its block of sixteen words: `Lanes` block by block, what a plain node leaves, and the states passed one by
-- one while node n is added. Assumes nothing.
use Prim.Native.Nat.{ℕ, suc, ◌+◌, ◌*◌, ◌≤◌, ◌<◌}
use native.Mathlib.Omega.{arith}
use native.Mathlib.Decide.{ℕ_discrete}
use mathlib.Core.Path.{◌≡◌, sym, ◌∙◌}
use mathlib.Core.Logic.{inl, inr}
use mathlib.Core.Bool.{true, false}
use mathlib.Core.List.{List}
use lib.ListN.{length, get_or}
use Rattle.bits.proofs.Bit.{bit_of_zero}
use Rattle.meaning.specs.Table.{Table, Node}
use Rattle.product.specs.Product.{temporal, nodes_from}
use Rattle.product.proofs.Nodes.{nodes_from_length}
use Rattle.product.proofs.Lanes.{Words16, Lanes}
use Rattle.filled.proofs.Filling.{Blank, Block, BlockAdded, Partly}
use Rattle.filled.proofs.Nodes.{list_same, promises_fewer}
use Rattle.filled.proofs.Rows.{blank_words}

-- ---- blocks make lanes

module _ (table : Table) (node : ℕ → Node) where
  pub blocks_lanes : (n : ℕ) (lanes : List ℕ) → Words16 lanes
      → ((s : ℕ) → s < table.states → Block table node n s lanes) → Lanes table node n lanes
  blocks_lanes n lanes words h =
      record {
        words = words;
        need = λ t s b k l m. (h s l).need t b k m;
        need_no_more = λ t s k m l. (h s l).need_no_more t k m;
        carry = λ t s b k l m. (h s l).carry t b k m;
        met = λ e s b k l m. (h s l).met e b k m;
        fail = λ s b l m. (h s l).fail b m;
        no_fail = λ s b l m. (h s l).no_fail b m;
      }

  pub lanes_none : {size : ℕ} {lanes : List ℕ} → Blank size lanes → Lanes table node 0 lanes
  unfolding nodes_from
  lanes_none blank =
      record {
        words = blank_words blank;
        need = λ t s b k l m. absurd (omega arith);
        need_no_more = λ t s k m l. blank.zero_at (s * 16 + t);
        carry = λ t s b k l m. absurd (omega arith);
        met = λ e s b k l m. absurd (omega arith);
        fail = λ s b l m e. absurd (never b (sym (rw (blank.zero_at (s * 16 + 12)) at e) ∙ bit_of_zero b));
        no_fail = λ s b l m e t k. absurd (omega arith);
      }
    where
      never : (b : ℕ) → true ≡ false → ⊥
      never b e = let z : ◌≡◌ {A = ℕ} 0 1 = cc in omega arith

  -- a plain node adds none
  pub lanes_plain : (n : ℕ) (lanes : List ℕ) → (node n).operator < 6 → Lanes table node n lanes → Lanes table node (suc n) lanes
  lanes_plain n lanes plain h =
      record {
        words = h.words;
        need = rw (list_same 6 node n plain) h.need;
        need_no_more = rw (list_same 6 node n plain) h.need_no_more;
        carry = rw (list_same 6 node n plain) h.carry;
        met = rw (list_same 7 node n (omega arith)) h.met;
        fail = rw (list_same 6 node n plain) h.fail;
        no_fail = rw (list_same 6 node n plain) h.no_fail;
      }

  -- a block is what its sixteen words are
  pub block_kept : (n s : ℕ) (lanes lanes' : List ℕ) → length (temporal node n) ≤ 4
      → ((i : ℕ) → s * 16 ≤ i → i < s * 16 + 16 → get_or lanes' i 0 ≡ get_or lanes i 0)
      → Block table node n s lanes → Block table node n s lanes'
  block_kept n s lanes lanes' few same h =
      record {
        need = λ t b k m. rw (same (s * 16 + t) (omega arith) (omega arith)) (h.need t b k m);
        need_no_more = λ t k m. rw (same (s * 16 + t) (omega arith) (omega arith)) (h.need_no_more t k m);
        carry = λ t b k m. rw (same (s * 16 + 4 + t) (omega arith) (omega arith)) (h.carry t b k m);
        met = λ e b k m.
            rw (same (s * 16 + 8 + e) (omega arith) (omega (arith, promises_fewer node n))) (h.met e b k m);
        fail = λ b m. rw (same (s * 16 + 12) (omega arith) (omega arith)) (h.fail b m);
        no_fail = λ b m. rw (same (s * 16 + 12) (omega arith) (omega arith)) (h.no_fail b m);
      }

-- ---- the lanes, state by state

module _ (table : Table) (node : ℕ → Node) (n : ℕ) where
  pub partly_all : (lanes : List ℕ) → Partly table node n table.states lanes → Lanes table node (suc n) lanes
  partly_all lanes h = blocks_lanes table node (suc n) lanes h.words (λ s l. h.done s l l)

  pub partly_more : (s : ℕ) (lanes lanes' : List ℕ) → length (temporal node (suc n)) ≤ 4 → s < table.states
      → Partly table node n s lanes → BlockAdded table node n s lanes lanes' → Partly table node n (s + 1) lanes'
  partly_more s lanes lanes' few here h added =
      record {
        words = added.words h.words;
        done = λ x l k. go x (ℕ_discrete x s) l k;
        left = λ x l k.
            block_kept table node n x lanes lanes' (omega (arith, nodes_from_length 6 node n))
            (λ i a b. added.others i (inr (omega arith)))
            (h.left x (omega arith) k);
      }
    where
      go : (x : ℕ) → Dec (x ≡ s) → x < s + 1 → x < table.states → Block table node (suc n) x lanes'
      go x (yes e) l k = rw e (added.block (h.left s (omega arith) here))
      go x (no ne) l k =
          let lower : x < s = omega arith in
          block_kept table node (suc n) x lanes lanes' few (λ i a b. added.others i (inl (omega arith))) (h.done x lower k)
