-- Below i each entry has the node's truth added, and the others are as they were.
use Rattle.rule.specs.Operator.{plain_code}
use Rattle.scratch.proofs.Scratch.{node_with, at, added, labels_of, plain_in, Stored}
use Rattle.judge.proofs.truths.Judging.add_plain.Given as goal

abbrev pub invariant-loop-i : goal.invariant-loop-i
invariant-loop-i l =
    let node = node_with (plain_code l.operator) l.operands.first l.operands.second in
    let truth = plain_in node (labels_of l.self.states.now l.self.run.track.now) l.initial.entries in
    Stored 0 l.i (λ j. added (at l.initial.entries j) l.n (truth j)) l.initial.entries l.entries
