-- `next` is the truth that a pass from the pole has carried over the last entries, and those that are left stand before them.
use Rattle.std.proofs.Common.{ℕ, ◌+◌, ◌-◌, ◌≡◌, List, ◌++◌, length, drop}
use Rattle.meaning.specs.Laws.{greatest}
use Rattle.rule.proofs.Passes.{pass}
use Rattle.rule.specs.Operator.{temporal_code}
use Rattle.scratch.proofs.Scratch.{node_with, now_in, stay_in}
use Rattle.judge.proofs.truths.Judging.loop_seed.Given as goal

abbrev pub invariant-loop-entry : goal.invariant-loop-entry
invariant-loop-entry l =
    let node = node_with (temporal_code l.operator) l.operands.first l.operands.second in
    let left = l.entry-iterator.iter.rest.now in
    let i = l.self.run.k + length left in
    record {
      before : (passed : List ℕ) × (left ++ passed ≡ drop l.self.run.k l.entries);
      next : l.next ≡ pass (now_in node l.entries) (stay_in node l.entries) (greatest (temporal_code l.operator)) i (length l.entries - i);
    }
