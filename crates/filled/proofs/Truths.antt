-- What the words of node n in state s are: a plain node's from its atom and its operands' lanes, the four lanes of a temporal node
-- from its operands' and its own. Assumes nothing.
use Prim.Native.Nat.{ℕ, suc, ◌+◌, ◌-◌, ◌*◌, ◌≤◌, ◌<◌}
use native.Mathlib.Omega.{arith}
use mathlib.Core.Path.{◌≡◌, refl, sym, ap, ◌∙◌}
use mathlib.Core.Bool.{Bool, cond, not, ◌||◌}
use mathlib.Core.List.{List}
use lib.Bits.{bit_and, bit_xor}
use lib.Dec.{eqb}
use lib.ListN.{get_or}
use borrow.Author.Tests.{eq-eqb, ne_eqb}
use Rattle.bits.specs.Bits.{bit}
use Rattle.meaning.specs.Table.{Table, Node}
use Rattle.meaning.specs.Laws.{operands, plain, now, stay, greatest}
use Rattle.meaning.proofs.Operators.{cases}
use Rattle.bits.proofs.Word.{Word}
use Rattle.rule.proofs.Operands.{plain_operands, now_operands, stay_operands}
use Rattle.product.specs.Product.{truth, meets, now_at, stay_at, carried}
use Rattle.product.proofs.Truth.{truth_plain}
use Rattle.product.proofs.Lanes.{Rows, needs}
use Rattle.filled.proofs.Lane.{Lane, lane_of_word, lane_same, lane_not, lane_and, lane_xor}
use Rattle.filled.proofs.Filling.{Ready, NodeLanes}

-- a plain operator looks at the atom only where it is an atom
plain_atom : (x y a b : Bool) (operator : ℕ) → operator < 6 → (operator ≡ 1 → x ≡ y) → plain operator x a b ≡ plain operator y a b
plain_atom x y a b =
    cases (λ o. (o ≡ 1 → x ≡ y) → plain o x a b ≡ plain o y a b) 6
    ((((((tt, λ e. refl), λ e. e refl), λ e. refl), λ e. refl), λ e. refl), λ e. refl)

module _ (table : Table) (node : ℕ → Node) (n s : ℕ) (rows : List ℕ) (here : s < table.states) where
  abbrev lane_of : ℕ → ℕ
  lane_of x = get_or rows (x * 64 + s) 0

  pub row_lane : (m : ℕ) → Rows table node m rows → (x : ℕ) → x < m → Lane (truth table node x s) (lane_of x)
  row_lane m all x l = record { within = all.words (x * 64 + s); bits = λ b k. all.row x s b l here k }

  -- node n is x, as it is read
  module _ {x : Node} (is : node n ≡ x) (x_ready : Ready x n) (a b : ℕ)
      (x_first : 1 ≤ operands x.operator → a ≡ lane_of x.first) (x_second : 2 ≤ operands x.operator → b ≡ lane_of x.second) where
    ready : Ready (node n) n
    ready = rw is x_ready

    first : 1 ≤ operands (node n).operator → a ≡ lane_of (node n).first
    first = rw is x_first

    second : 2 ≤ operands (node n).operator → b ≡ lane_of (node n).second
    second = rw is x_second

    -- the operands' bits are their truth
    module _ (m : ℕ) (all : Rows table node m rows) (lower : n ≤ m) (j : ℕ) (l : j < 16) where
      first_bit : 1 ≤ operands (node n).operator → bit a j ≡ truth table node (node n).first s j
      first_bit p =
          rw (first p) ((row_lane m all (node n).first (omega (arith, ready.first_lower p))).bits j l)

      second_bit : 2 ≤ operands (node n).operator → bit b j ≡ truth table node (node n).second s j
      second_bit p =
          rw (second p) ((row_lane m all (node n).second (omega (arith, ready.second_lower p))).bits j l)

    pub plain_lane : (atom r : ℕ) → Rows table node n rows → x.operator < 6
        → (x.operator ≡ 1 → Lane (λ j. bit (table.label s) x.first) atom)
        → Word 65535 (λ j. plain x.operator (bit atom j) (bit a j) (bit b j)) r
        → Lane (truth table node n s) r
    plain_lane atom r all x_low x_is_atom x_word =
        let low : (node n).operator < 6 = rw is x_low in
        let is_atom : (node n).operator ≡ 1 → Lane (λ j. bit (table.label s) (node n).first) atom = rw is x_is_atom in
        let word : Word 65535 (λ j. plain (node n).operator (bit atom j) (bit a j) (bit b j)) r = rw is x_word in
        lane_same (lane_of_word word)
        (λ j l.
        plain_operands (bit a j) _ (bit b j) _ (bit atom j) (node n).operator low
        (first_bit n all (omega arith) j l)
        (second_bit n all (omega arith) j l)
        ∙ (plain_atom (bit atom j) _ (truth table node (node n).first s j) (truth table node (node n).second s j)
        (node n).operator low (λ e. (is_atom e).bits j l)
        ∙ sym (truth_plain table node s j n low ready.first_lower ready.second_lower)))

    module _ (all : Rows table node (suc n) rows) (once staying : ℕ)
        (x_once : Word 65535 (λ j. now x.operator (bit a j) (bit b j)) once)
        (x_stays : Word 65535 (λ j. stay x.operator (bit a j) (bit b j)) staying) where
      once_word : Word 65535 (λ j. now (node n).operator (bit a j) (bit b j)) once
      once_word = rw is x_once

      stay_word : Word 65535 (λ j. stay (node n).operator (bit a j) (bit b j)) staying
      stay_word = rw is x_stays

      now_lane : Lane (now_at table node n s) once
      now_lane =
          lane_same (lane_of_word once_word)
          (λ j l.
          now_operands (bit a j) _ (bit b j) _ (node n).operator ready.known
          (first_bit (suc n) all (omega arith) j l)
          (second_bit (suc n) all (omega arith) j l))

      stay_lane : Lane (stay_at table node n s) staying
      stay_lane =
          lane_same (lane_of_word stay_word)
          (λ j l.
          stay_operands (bit a j) _ (bit b j) _ (node n).operator ready.known
          (first_bit (suc n) all (omega arith) j l)
          (second_bit (suc n) all (omega arith) j l))

      need_lane : Lane (needs table node n s) (bit_and staying (65535 - once))
      need_lane = lane_and stay_lane (lane_not now_lane)

      pub node_lanes : (v carry met : ℕ) → v ≡ lane_of n
          → Lane (carried table node n s) carry
          → Lane (λ j. cond (greatest x.operator) (bit v j || not (bit staying j)) (not (bit v j) || bit once j)) met
          → NodeLanes table node n s (bit_and staying (65535 - once)) carry met
          (bit_and (65535 - bit_and staying (65535 - once)) (bit_xor v once))
      unfolding meets
      node_lanes v carry met v_is carry_is x_met =
          record {
            need_is = need_lane;
            carry_is = carry_is;
            met_is = lane_same met_is kept_at;
            fail_is = lane_and (lane_not need_lane) (lane_xor truth_lane now_lane);
          }
        where
          met_is : Lane (λ j. cond (greatest (node n).operator) (bit v j || not (bit staying j)) (not (bit v j) || bit once j)) met
          met_is = rw is x_met

          truth_lane : Lane (truth table node n s) v
          truth_lane = rw v_is (row_lane (suc n) all n (omega arith))

          kept_at : (j : ℕ) → j < 16
              → cond (greatest (node n).operator) (bit v j || not (bit staying j)) (not (bit v j) || bit once j)
              ≡ meets table node n s j
          kept_at j l =
              rw (truth_lane.bits j l, stay_lane.bits j l, now_lane.bits j l)

  module _ {x : Node} (is : node n ≡ x) (x_ready : Ready x n) (all : Rows table node (suc n) rows) where
    carried_of : (y r : ℕ) → cond (eqb x.operator 6) x.first n ≡ y → y < suc n → r ≡ lane_of y → Lane (carried table node n s) r
    unfolding carried
    carried_of y r q l r_is =
        let from : y ≡ cond (eqb (node n).operator 6) (node n).first n = rw is (sym q) in
        rw r_is (lane_same (row_lane (suc n) all y l) (λ j k. ap (λ (z : ℕ). truth table node z s j) from))

    pub carry_next : (r : ℕ) → x.operator ≡ 6 → r ≡ lane_of x.first → Lane (carried table node n s) r
    carry_next r e r_is =
        carried_of x.first r
        (ap (λ (b : Bool). cond b x.first n) (eq-eqb x.operator 6 e))
        (omega (arith, x_ready.first_lower (rw e (omega arith))))
        r_is

    pub carry_self : (r : ℕ) → (x.operator ≡ 6 → ⊥) → r ≡ lane_of n → Lane (carried table node n s) r
    carry_self r ne r_is =
        carried_of n r (ap (λ (b : Bool). cond b x.first n) (ne_eqb x.operator 6 ne)) (omega arith) r_is
