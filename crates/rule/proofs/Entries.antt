-- The value of the nodes at each entry of a looping shape, node after node: plain nodes compute, X reads the next entry, and the
-- others take the two passes. Its bits, along the endless path, are a valuation: so a looping shape has one, over any labels.
-- Assumes nothing.
use Prim.Native.Nat.{ℕ, zero, suc, ◌+◌, ◌*◌, ◌^◌, ◌≤◌, ◌<◌}
use mathlib.Core.Path.{◌≡◌, refl, sym, ap, ap₂, ◌∙◌, subst, fun_ext}
use mathlib.Core.Bool.{Bool, cond, ◌&&◌, ◌||◌}
use native.Mathlib.Nat.{mul-le-mul_left}
use native.Mathlib.Omega.{arith}
use lib.Dec.{T, eqb}
use borrow.Author.Tests.{eq-eqb, ne_eqb}
use Rattle.bits.specs.Bits.{bit}
use Rattle.meaning.specs.Table.{Node}
use Rattle.meaning.specs.Laws.{Ordered, plain, now, stay, greatest, kept, operands}
use Rattle.meaning.specs.Runs.{position, endless}
use Rattle.meaning.proofs.Truths.{T-along}
use Rattle.meaning.proofs.Loops.{position_in, position_repeats}
use Rattle.meaning.proofs.Valuation.{Valuation}
use Rattle.rule.proofs.Operands.{now_operands, stay_operands}
use Rattle.rule.proofs.Values.{truth, value, value_below, value_lower, value_guessed, value_computes}
use Rattle.meaning.proofs.Positions.{position_turns, position_below, position_next}
use Rattle.rule.proofs.Passes.{lasting, lasting_unrolls, lasting_kept}

-- `now` and `stay` of a node at entry i, where the entries have these values
abbrev pub now_at : Node → (ℕ → ℕ) → ℕ → Bool
now_at x entry i = now x.operator (bit (entry i) x.first) (bit (entry i) x.second)

abbrev pub stay_at : Node → (ℕ → ℕ) → ℕ → Bool
stay_at x entry i = stay x.operator (bit (entry i) x.first) (bit (entry i) x.second)

-- the truth of a node with an operator of 6 to 11 at entry i: X is its operand at the next entry, the others take two passes
unfoldable pub ahead : (k m : ℕ) → Node → (ℕ → ℕ) → ℕ → Bool
ahead k m x entry i =
    cond (eqb x.operator 6) (bit (entry (position k m (suc i))) x.first)
    (lasting (now_at x entry) (stay_at x entry) (greatest x.operator) k m i)

-- the value of the first n nodes at entry i: that of the first n-1 with node n-1's added
unfoldable pub entries : (ℕ → Node) → (ℕ → ℕ) → (k m : ℕ) → ℕ → ℕ → ℕ
entries node labels k m zero i = 0
entries node labels k m (suc n) i =
    let lower = entries node labels k m n in
    lower i + cond (truth (node n) (labels i) (ahead k m (node n) lower i) (lower i)) (2 ^ n) 0

module _ (node : ℕ → Node) (labels : ℕ → ℕ) (k m : ℕ) where
  abbrev E : ℕ → ℕ → ℕ
  E = entries node labels k m

  -- what the temporal nodes are guessed to be at entry i
  abbrev guess : ℕ → ℕ → Bool
  guess i x = ahead k m (node x) (E x) i

  pub entries_are_values : (n i : ℕ) → E n i ≡ value node (labels i) (guess i) n
  unfolding entries value
  entries_are_values zero i = refl
  entries_are_values (suc n) i =
      ap (λ (lower : ℕ). lower + cond (truth (node n) (labels i) (guess i n) lower) (2 ^ n) 0) (entries_are_values n i)

  pub entries_below : (n i : ℕ) → E n i < 2 ^ n
  entries_below n i = rw (entries_are_values n i) (value_below node (labels i) (guess i) n)

  module _ (n : ℕ) (loop : 1 ≤ m) (ordered : Ordered node n) where
    -- a lower node's truth is the same when more nodes have been added
    lower_bit : (x y i : ℕ) → y < x → x ≤ n → bit (E x i) y ≡ bit (E n i) y
    lower_bit x y i l h =
        rw (entries_are_values x i, entries_are_values n i) (value_lower node (labels i) (guess i) n x y l h)

    guessed_bit : (x i : ℕ) → x < n → 6 ≤ (node x).operator → bit (E n i) x ≡ guess i x
    guessed_bit x i h t = rw (entries_are_values n i) (value_guessed node (labels i) (guess i) n x h t)

    pub plain_bit : (x i : ℕ) → x < n → (node x).operator < 6
        → bit (E n i) x
        ≡ plain (node x).operator (bit (labels i) (node x).first) (bit (E n i) (node x).first) (bit (E n i) (node x).second)
    plain_bit x i h p = rw (entries_are_values n i) (value_computes node (labels i) (guess i) n ordered x h p)

    now_same : (x : ℕ) → x < n → now_at (node x) (E x) ≡ now_at (node x) (E n)
    now_same x h =
        fun_ext λ i.
        now_operands _ _ _ _ (node x).operator (ordered.known x h)
        (λ q. lower_bit x (node x).first i (ordered.first_lower x h q) (omega arith))
        (λ q. lower_bit x (node x).second i (ordered.second_lower x h q) (omega arith))

    stay_same : (x : ℕ) → x < n → stay_at (node x) (E x) ≡ stay_at (node x) (E n)
    stay_same x h =
        fun_ext λ i.
        stay_operands _ _ _ _ (node x).operator (ordered.known x h)
        (λ q. lower_bit x (node x).first i (ordered.first_lower x h q) (omega arith))
        (λ q. lower_bit x (node x).second i (ordered.second_lower x h q) (omega arith))

    pub next_bit : (x i : ℕ) → x < n → (node x).operator ≡ 6 → bit (E n i) x ≡ bit (E n (position k m (suc i))) (node x).first
    unfolding ahead
    next_bit x i h e =
        let one : 1 ≤ operands (node x).operator = rw e (omega arith) in
        guessed_bit x i h (omega arith)
        ∙ (rw (eq-eqb (node x).operator 6 e)
        (lower_bit x (node x).first (position k m (suc i)) (ordered.first_lower x h one) (omega arith)))

    -- the two passes, over the bits as they are in the end
    lasting_bit : (x : ℕ) → x < n → 7 ≤ (node x).operator → (i : ℕ)
        → bit (E n i) x ≡ lasting (now_at (node x) (E n)) (stay_at (node x) (E n)) (greatest (node x).operator) k m i
    unfolding ahead
    lasting_bit x h t i =
        guessed_bit x i h (omega arith)
        ∙ (rw (ne_eqb (node x).operator 6 (λ e. omega arith))
        (ap₂ (λ (a b : ℕ → Bool). lasting a b (greatest (node x).operator) k m i) (now_same x h) (stay_same x h)))

    pub lasting_law : (x : ℕ) → x < n → 7 ≤ (node x).operator → (i : ℕ) → i < k + m
        → bit (E n i) x ≡ (now_at (node x) (E n) i || (stay_at (node x) (E n) i && bit (E n (position k m (suc i))) x))
    lasting_law x h t i l =
        lasting_bit x h t i
        ∙ (lasting_unrolls (now_at (node x) (E n)) (stay_at (node x) (E n)) (greatest (node x).operator) k m loop i l
        ∙ ap (λ (v : Bool). now_at (node x) (E n) i || (stay_at (node x) (E n) i && v))
        (sym (lasting_bit x h t (position k m (suc i)))))

    kept_at : ℕ → ℕ → Type 0
    kept_at x j = T (kept (node x).operator (bit (E n j) x) (bit (E n j) (node x).first) (bit (E n j) (node x).second))

    kept_in_loop : (x : ℕ) → x < n → 7 ≤ (node x).operator → (j : ℕ) × (k ≤ j) × (j < k + m) × kept_at x j
    unfolding kept_at
    kept_in_loop x h t =
        let found = lasting_kept (now_at (node x) (E n)) (stay_at (node x) (E n)) (greatest (node x).operator) k m loop in
        let j = found.0 in (
          j,
          found.1,
          found.2,
          T-along
              (ap (λ (v : Bool). kept (node x).operator v (bit (E n j) (node x).first) (bit (E n j) (node x).second))
              (sym (lasting_bit x h t j)))
              found.3,
        )

    kept_again : (x : ℕ) → x < n → 7 ≤ (node x).operator → (i : ℕ) → (j : ℕ) × (i ≤ j) × kept_at x (position k m j)
    kept_again x h t i =
        let found = kept_in_loop x h t in
        let j = found.0 in (
          j + i * m,
          omega (arith, mul-le-mul_left i loop),
          subst (kept_at x) (sym (position_turns k m j found.1 i ∙ position_in k m j found.2)) found.3,
        )

    pub entries_valuation : Valuation node n (endless labels k m) k m (λ x i. bit (E n (position k m i)) x)
    unfolding kept_at
    entries_valuation =
        record {
          repeats = λ x h i l. ap (λ (p : ℕ). bit (E n p) x) (position_repeats k m i l);
          computes = λ x h p i. plain_bit x (position k m i) h p;
          reads_on = λ x h e i.
              next_bit x (position k m i) h e ∙ ap (λ (p : ℕ). bit (E n p) (node x).first) (position_next k m loop i);
          unrolls = λ x h t i.
              lasting_law x h t (position k m i) (position_below k m loop i)
              ∙ ap
              (λ (p : ℕ). now_at (node x) (E n) (position k m i) || (stay_at (node x) (E n) (position k m i) && bit (E n p) x))
              (position_next k m loop i);
          keeps = kept_again;
        }
