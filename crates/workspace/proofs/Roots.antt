-- What the root loop reads: the states, and the rows of the rule's nodes; and that the rule's row tells the initial places. Assumes nothing.
use Prim.Native.Nat.{ℕ, ◌+◌, ◌-◌, ◌*◌, ◌^◌, ◌≤◌, ◌<◌}
use native.Mathlib.Omega.{arith}
use mathlib.Core.Path.{◌≡◌, ◌∙◌}
use mathlib.Core.Bool.{Bool, true, false, not, ◌&&◌, and-true, and-false}
use mathlib.Core.List.{List}
use lib.Dec.{ltb}
use lib.ListN.{length, get_or}
use borrow.Author.Tests.{lt-ltb}
use Rattle.bits.specs.Bits.{bit}
use Rattle.reading.specs.Parts.{Parts, table_of, initial_of, node_count, node_of, temporals}
use Rattle.reading.proofs.Admitted.{Admitted}
use Rattle.product.specs.Product.{initial}
use Rattle.product.proofs.Lanes.{Rows}
use Rattle.workspace.proofs.Setting.{product_of, code_of, number_of}
use Rattle.workspace.proofs.Case.{graph_of, guesses_within, coded_place, code_coded, code_decoded}

-- the arrays and the sizes are those of one admitted case; the rule's row starts at `last`
pub record Rooting (states rows : List ℕ) (last guesses : ℕ) : Type 0 where
  pub parts : Parts
  pub admitted : Admitted parts
  pub states_are : states ≡ parts.state_list
  pub rows_are : Rows (table_of parts) (node_of parts.node_list) (node_count parts.node_list) rows
  pub last_is : last ≡ (node_count parts.node_list - 1) * 64
  pub guesses_are : guesses ≡ 2 ^ temporals parts

-- state s with bits b and waiting number 0 is an initial place of the case
abbrev pub root_at : Parts → ℕ → ℕ → ℕ → Bool
root_at p guesses s b = ltb b guesses && initial (product_of p) (record { state = s; bits = b; waiting = 0 })

module _ {states rows : List ℕ} {last guesses : ℕ} (c : Rooting states rows last guesses) where
  pub rooting_guesses : guesses ≤ 16
  rooting_guesses = omega (arith, c.guesses_are, guesses_within c.parts c.admitted)

  pub rooting_state : (s : ℕ) → s < c.parts.states → 3 * s + 2 < length states
  rooting_state s h = rw (c.states_are, c.admitted.state_bytes) (omega arith)

  module _ (s b : ℕ) where
    root_row : s < c.parts.states → b < guesses
        → root_at c.parts guesses s b ≡ (initial_of states s && not (bit (get_or rows (last + s) 0) b))
    unfolding initial
    root_row h l =
        let row = c.rows_are.row (node_count c.parts.node_list - 1) s b (omega (arith, c.admitted.some_node)) h (omega (arith, rooting_guesses)) in
        rw (lt-ltb b guesses l, c.last_is, row, c.states_are) (and-true _)

    -- where the rule's row has bit b set no place begins, elsewhere one does if the state is initial
    pub root_true : s < c.parts.states → b < guesses → bit (get_or rows (last + s) 0) b ≡ true → root_at c.parts guesses s b ≡ false
    root_true h l e = root_row h l ∙ rw e (and-false (initial_of states s))

    pub root_false : s < c.parts.states → b < guesses → bit (get_or rows (last + s) 0) b ≡ false
        → root_at c.parts guesses s b ≡ initial_of states s
    root_false h l e = root_row h l ∙ rw e (and-true (initial_of states s))

-- the graph's initial place of that state and these bits
pub root_initial : (p : Parts) (a : Admitted p) (s b : ℕ) → s < p.states → b < 2 ^ temporals p
    → (graph_of p a).initial (number_of p (code_of s b 0)) ≡ initial (product_of p) (record { state = s; bits = b; waiting = 0 })
root_initial p a s b h l =
    let small : b < 16 = omega (arith, guesses_within p a) in
    let none : 0 < 8 = omega arith in
    rw (coded_place p a (code_coded p a s b 0 h l (omega arith)), code_decoded p a s b 0 small none)
