-- From "not refused" to the named facts of `Admitted`, once for all: passing the fields gives the sizes, passing a walk gives
-- its test at every number. Assumes nothing.
use Rattle.std.specs.Prelude.{Ok}
use Prim.Native.Nat.{ℕ, suc, ◌-◌, ◌/◌, ◌^◌, ◌≤◌, ◌<◌}
use mathlib.Core.Path.{◌≡◌, refl, subst}
use mathlib.Core.Logic.{◌⊎◌, inl, inr}
use mathlib.Core.Bool.{Bool, true, false, cond, not, ◌&&◌, ◌||◌}
use mathlib.Core.List.{List}
use native.Mathlib.Omega.{arith}
use native.Mathlib.Nat.{div-lt_iff_lt-mul, div-eq_of_lt, lt_of_lt_of_le, one-mul}
use lib.Dec.{ltb, leb, eqb}
use lib.Pow.{pow_pos, pow_mono}
use borrow.Author.Tests.{lt-ltb, le-leb, lt-leb, ltb-true, ltb-false, leb-true, leb-false, eqb-true, eq-eqb, ne_eqb, not-false}
use Rattle.bits.specs.Bits.{bit}
use Rattle.meaning.specs.Laws.{operands}
use Rattle.reading.specs.Parts.{label_of, flags_of, edge_count, from_of, to_of, node_count, node_of, operator_from, operators_from}
use Rattle.reading.specs.Refusals.{refuse_at, bad_state, bad_end, above, not_above, unknown, first_limit, second_limit, wrong_byte, states_refusal, edges_refusal, nodes_refusal}
use Rattle.reading.specs.declared.CaseRefusal.{CaseRefusal}
use Rattle.reading.specs.declared.CaseRefusal.TheVariants.{Bits, End, Order, Operator, Operand}
use Rattle.reading.proofs.Lowest.{any_false, count_mono}
use Rattle.reading.proofs.Fields.{not_refused, and_first, and_second, or_first, or_second}

-- ---- a walk that refuses nothing

pub nowhere : (bad : ℕ → Bool) (n : ℕ) (row : ℕ → CaseRefusal) → refuse_at bad n row ≡ Ok tt → (j : ℕ) → j < n → bad j ≡ false
nowhere bad n row e = any_false bad n (not_refused _ _ e)

-- ---- states

module _ (states atoms : ℕ) (list : List ℕ) (passed : states_refusal states atoms list ≡ Ok tt) (s : ℕ) (h : s < states) where
  good : bad_state atoms list s ≡ false
  unfolding states_refusal
  good = nowhere (bad_state atoms list) states Bits passed s h

  pub label_low : label_of list s < 2 ^ atoms
  unfolding bad_state
  label_low =
      rw one-mul at
      ((div-lt_iff_lt-mul {k = 2 ^ atoms} {x = label_of list s} {y = 1} (pow_pos atoms)).0
      (omega (arith, eqb-true (label_of list s / 2 ^ atoms) 0 (not-false _ (or_first _ _ good)))))

  pub flag_low : flags_of list s ≤ 1
  unfolding bad_state
  flag_low = ltb-false _ _ (or_second (not (eqb (label_of list s / 2 ^ atoms) 0)) _ good)

pub no_bit_above : (label a j : ℕ) → label < 2 ^ a → a ≤ j → bit label j ≡ false
unfolding bit
no_bit_above label a j h l = rw (div-eq_of_lt (lt_of_lt_of_le h (pow_mono l))) refl

-- ---- edges

module _ (states : ℕ) (list : List ℕ) (passed : edges_refusal states list ≡ Ok tt) (e : ℕ) (h : e < edge_count list) where
  good_edge : (bad_end states list e || not_above list e) ≡ false
  unfolding edges_refusal
  good_edge = nowhere (λ e. bad_end states list e || not_above list e) (edge_count list) (λ e. cond (bad_end states list e) (End e) (Order e)) passed e h

  pub from_below : from_of list e < states
  unfolding bad_end
  from_below = leb-false _ _ (or_first _ _ (or_first _ _ good_edge))

  pub to_below : to_of list e < states
  unfolding bad_end
  to_below = leb-false _ _ (or_second (leb states (from_of list e)) _ (or_first _ _ good_edge))

  pub in_order : not_above list e ≡ false
  in_order = or_second (bad_end states list e) _ good_edge

above_rises : (list : List ℕ) (e d : ℕ) → above list e d ≡ true → (from_of list d < from_of list e) ⊎ ((from_of list d ≡ from_of list e) × (to_of list d < to_of list e))
unfolding above
above_rises list e d t = go (ltb (from_of list d) (from_of list e)) refl t
  where
    go : (b : Bool) → ltb (from_of list d) (from_of list e) ≡ b → (b || (eqb (from_of list d) (from_of list e) && ltb (to_of list d) (to_of list e))) ≡ true
        → (from_of list d < from_of list e) ⊎ ((from_of list d ≡ from_of list e) × (to_of list d < to_of list e))
    go true p q = inl (ltb-true _ _ p)
    go false p q = inr (eqb-true _ _ (and_first _ _ q), ltb-true _ _ (and_second (eqb (from_of list d) (from_of list e)) _ q))

pub edges_rise : (list : List ℕ) (e : ℕ) → not_above list (suc e) ≡ false
    → (from_of list e < from_of list (suc e)) ⊎ ((from_of list e ≡ from_of list (suc e)) × (to_of list e < to_of list (suc e)))
unfolding not_above
edges_rise list e p =
    let before : suc e - 1 ≡ e = omega arith in
    above_rises list (suc e) e
    (subst (λ (d : ℕ). above list (suc e) d ≡ true) before (not-false _ (rw (lt-ltb 0 (suc e) (omega arith)) at p)))

-- ---- nodes

-- the limits, where the operator's operands are known
first_limit_operand : (o a n : ℕ) → 1 ≤ operands o → first_limit o a n ≡ n
unfolding first_limit
first_limit_operand o a n h =
    rw (ne_eqb o 1 (λ e. no_operand (subst (λ (x : ℕ). 1 ≤ operands x) e h)), le-leb 1 (operands o) h) refl
  where
    no_operand : 1 ≤ operands 1 → ⊥
    no_operand l = omega arith

first_limit_atom : (o a n : ℕ) → o ≡ 1 → first_limit o a n ≡ a
unfolding first_limit
first_limit_atom o a n e = rw (eq-eqb o 1 e) refl

first_limit_unused : (o a n : ℕ) → operands o ≤ 0 → (o ≡ 1 → ⊥) → first_limit o a n ≡ 1
unfolding first_limit
first_limit_unused o a n h e = rw (ne_eqb o 1 e, lt-leb 1 (operands o) (omega arith)) refl

second_limit_operand : (o n : ℕ) → 2 ≤ operands o → second_limit o n ≡ n
unfolding second_limit
second_limit_operand o n h = rw (le-leb 2 (operands o) h) refl

second_limit_unused : (o n : ℕ) → operands o ≤ 1 → second_limit o n ≡ 1
unfolding second_limit
second_limit_unused o n h = rw (lt-leb 2 (operands o) (omega arith)) refl

module _ (atoms : ℕ) (list : List ℕ) (passed : nodes_refusal atoms list ≡ Ok tt) (n : ℕ) (h : n < node_count list) where
  good_node : (unknown list n || wrong_byte atoms list n) ≡ false
  unfolding nodes_refusal
  good_node = nowhere (λ n. unknown list n || wrong_byte atoms list n) (node_count list) (λ n. cond (unknown list n) (Operator n) (Operand n)) passed n h

  pub known_operator : (node_of list n).operator < 12
  unfolding unknown
  known_operator = omega (arith, ltb-false 11 (node_of list n).operator (or_first _ _ good_node))

  first_right : (node_of list n).first < first_limit (node_of list n).operator atoms n
  unfolding wrong_byte
  first_right = leb-false _ _ (or_first _ _ (or_second (unknown list n) _ good_node))

  second_right : (node_of list n).second < second_limit (node_of list n).operator n
  unfolding wrong_byte
  second_right = leb-false _ _ (or_second (leb (first_limit (node_of list n).operator atoms n) (node_of list n).first) _ (or_second (unknown list n) _ good_node))

  pub first_operand_lower : 1 ≤ operands (node_of list n).operator → (node_of list n).first < n
  first_operand_lower o = rw (first_limit_operand (node_of list n).operator atoms n o) at first_right

  pub atom_below : (node_of list n).operator ≡ 1 → (node_of list n).first < atoms
  atom_below o = rw (first_limit_atom (node_of list n).operator atoms n o) at first_right

  pub first_zero : operands (node_of list n).operator ≤ 0 → ((node_of list n).operator ≡ 1 → ⊥) → (node_of list n).first ≡ 0
  first_zero o e = let low : (node_of list n).first < 1 = rw (first_limit_unused (node_of list n).operator atoms n o e) at first_right in omega arith

  pub second_operand_lower : 2 ≤ operands (node_of list n).operator → (node_of list n).second < n
  second_operand_lower o = rw (second_limit_operand (node_of list n).operator n o) at second_right

  pub second_zero : operands (node_of list n).operator ≤ 1 → (node_of list n).second ≡ 0
  second_zero o = let low : (node_of list n).second < 1 = rw (second_limit_unused (node_of list n).operator n o) at second_right in omega arith

pub eventualities_temporal : (list : List ℕ) → operators_from 7 list ≤ operators_from 6 list
unfolding operators_from operator_from
eventualities_temporal list = count_mono _ _ (λ i e. also (node_of list i).operator e) _
  where
    also : (o : ℕ) → (leb 7 o && leb o 11) ≡ true → (leb 6 o && leb o 11) ≡ true
    also o e = rw (le-leb 6 o (omega (arith, leb-true 7 o (and_first _ _ e)))) (and_second (leb 7 o) _ e)
