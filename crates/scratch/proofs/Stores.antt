-- A loop that stores one entry a turn, upward or downward. Assumes nothing.
use Prim.Native.Nat.{ℕ, ◌+◌, ◌-◌, ◌^◌, ◌≤◌, ◌<◌}
use mathlib.Core.Path.{◌≡◌, sym, ap, ◌∙◌, subst}
use mathlib.Core.Bool.{Bool}
use mathlib.Core.List.{List}
use native.Mathlib.Decide.{ℕ_discrete, dec_lt}
use native.Mathlib.Omega.{arith}
use lib.ListN.{length, set}
use lib.Seq.{get_or-set_same, get_or-set_other}
use Rattle.bits.specs.Bits.{bit}
use Rattle.bits.proofs.Number.{bit-added-below}
use Rattle.scratch.proofs.Scratch.{at, added, Stored}

module _ {f : ℕ → ℕ} {before after : List ℕ} (v : ℕ) where
  pub stored_up : {lo i : ℕ} → Stored lo i f before after → lo ≤ i → i < length after → v ≡ f i
      → Stored lo (i + 1) f before (set after i v)
  stored_up {lo} {i} s l h e =
      record {
        stored = λ j low high. here j low high (ℕ_discrete j i);
        under = λ j low. get_or-set_other after i j v 0 (omega arith) ∙ s.under j low;
        over = λ j high. get_or-set_other after i j v 0 (omega arith) ∙ s.over j (omega arith);
      }
    where
      here : (j : ℕ) → lo ≤ j → j < i + 1 → Dec (j ≡ i) → at (set after i v) j ≡ f j
      here j low high (yes p) =
          subst (λ (x : ℕ). at (set after i v) x ≡ f x) (sym p)
          (get_or-set_same after i v 0 (omega arith) ∙ e)
      here j low high (no p) = get_or-set_other after i j v 0 p ∙ s.stored j low (omega arith)

  pub stored_down : {i hi : ℕ} → Stored i hi f before after → 0 < i → i ≤ hi → hi ≤ length after → v ≡ f (i - 1)
      → Stored (i - 1) hi f before (set after (i - 1) v)
  stored_down {i} {hi} s z l h e =
      record {
        stored = λ j low high. here j low high (ℕ_discrete j (i - 1));
        under = λ j low. get_or-set_other after (i - 1) j v 0 (omega arith) ∙ s.under j (omega arith);
        over = λ j high. get_or-set_other after (i - 1) j v 0 (omega arith) ∙ s.over j high;
      }
    where
      here : (j : ℕ) → i - 1 ≤ j → j < hi → Dec (j ≡ i - 1) → at (set after (i - 1) v) j ≡ f j
      here j low high (yes p) =
          subst (λ (x : ℕ). at (set after (i - 1) v) x ≡ f x) (sym p)
          (get_or-set_same after (i - 1) v 0 (omega arith) ∙ e)
      here j low high (no p) = get_or-set_other after (i - 1) j v 0 p ∙ s.stored j (omega arith) high

-- adding bit n moves no bit below n, wherever the loop has come to
pub lower_bit_kept : {before after : List ℕ} {i : ℕ} (n : ℕ) (b : ℕ → Bool)
    → Stored 0 i (λ j. added (at before j) n (b j)) before after → (j : ℕ) → at before j < 2 ^ n
    → (x : ℕ) → x < n → bit (at after j) x ≡ bit (at before j) x
lower_bit_kept {before} {after} {i} n b s j h x l = go (dec_lt j i)
  where
    go : Dec (j < i) → bit (at after j) x ≡ bit (at before j) x
    go (yes p) =
        ap (λ (v : ℕ). bit v x) (s.stored j (omega arith) p) ∙ bit-added-below (at before j) n (b j) h x l
    go (no p) = ap (λ (v : ℕ). bit v x) (s.over j (omega arith))
