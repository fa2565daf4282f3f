-- `lanes::TemporalNode::add_lanes` meets its contract: each turn adds the next state's words. Assumes nothing.
use mathlib.Core.Path.{◌≡◌}
use Prim.Native.Nat.{◌≤◌}
use native.Mathlib.Omega.{arith}
use Rattle.rule.proofs.Codes.{temporal_code_within}
use Rattle.filled.proofs.Nodes.{length_more}
use Rattle.filled.proofs.Stores.{block_added}
use Rattle.filled.proofs.Blocks.{partly_more, partly_all}
use Rattle.lanes.proofs.TemporalNode.add_lanes.Goals as goal

pub loop-s-preserved : goal.loop-s-preserved
loop-s-preserved c =
    let at = c.loop-s in
    let n = c.args.self.numbered.number in
    record {
      size = c.store.array_long;
      added = λ table node is states counted rows all.
          let high : 6 ≤ (node n).operator = rw (is, c.args.self.operator_is) (temporal_code_within c.args.self.operator).0 in
          let more = block_added table node n at.s _ _ _ _ at.lanes high (omega (arith, c.requires.few_states, at.invariant.size))
          (c.words.ensures table node is (omega (arith, states)) rows) _ _ counted c.requires.few in
          partly_more table node n at.s at.lanes _
          (omega (arith, length_more 6 node n high, c.requires.few, counted.temporals_are))
          (omega (arith, states))
          (at.invariant.added table node is states counted rows all)
          (rw c.store.ensures more);
    }

pub returns : goal.returns
returns c table node is states counted rows all =
    let at = c.loop-s in
    let passed : at.s ≡ table.states = omega (arith, states) in
    partly_all table _ _ _ (rw passed at (at.invariant.added table node is states counted rows all))
