-- Whichever of the three ways the node takes, the entries are then the values with its bit added (`Added`).
use Rattle.std.proofs.Common.{refl, arith}
use Rattle.rule.proofs.Codes.{plain_code_below}
use Rattle.scratch.proofs.Added.{takes_passes, adding, left_by_plain, left_by_next, left_by_passes}
use Rattle.judge.proofs.truths.Judging.add_node.Goals as goal

pub add_plain-requires-clause-adding : goal.add_plain-requires-clause-adding
add_plain-requires-clause-adding c = adding _ _ _ _ _ _ (omega (arith, c.args.self.now.tellable.few_nodes)) c.requires.lower.values

pub add_next-requires-clause-adding : goal.add_next-requires-clause-adding
add_next-requires-clause-adding c = adding _ _ _ _ _ _ (omega (arith, c.args.self.now.tellable.few_nodes)) c.requires.lower.values

pub add_passes-requires-clause-adding : goal.add_passes-requires-clause-adding
add_passes-requires-clause-adding c = adding _ _ _ _ _ _ (omega (arith, c.args.self.now.tellable.few_nodes)) c.requires.lower.values

pub returns-in-Plain : goal.returns-in-Plain
returns-in-Plain c =
    let run = c.args.self.now.run in
    let lower = c.requires.lower in
    record {
      whole = omega arith;
      values = λ i h.
          left_by_plain _ _ _ _ _ _ (rw c.in-Plain.is at c.node_at-node.ensures) run.some_loop _ lower.whole lower.values _
          (plain_code_below c.in-Plain.operator) c.add_plain.ensures i (omega arith);
    }

pub returns-in-X : goal.returns-in-X
returns-in-X c =
    let run = c.args.self.now.run in
    let lower = c.requires.lower in
    record {
      whole = omega arith;
      values = λ i h.
          left_by_next _ _ _ _ _ _ (rw (c.in-Temporal.is, c.in-X.is) at c.node_at-node.ensures) run.some_loop _ lower.whole lower.values _
          refl c.add_next.ensures i (omega arith);
    }

pub returns-in_default : goal.returns-in_default
returns-in_default c =
    let run = c.args.self.now.run in
    let lower = c.requires.lower in
    record {
      whole = omega arith;
      values = λ i h.
          left_by_passes _ _ _ _ _ _ (rw c.in-Temporal.is at c.node_at-node.ensures) run.some_loop _ lower.whole lower.values _
          (takes_passes _ c.in_default.not-X) _ refl c.add_passes.ensures i (omega arith);
    }
