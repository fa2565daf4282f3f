-- Below i each entry has its operand's truth at the next entry added, and the others are as they were.
use Rattle.std.proofs.Common.{ℕ, suc}
use Rattle.bits.specs.Bits.{bit}
use Rattle.meaning.specs.Runs.{position}
use Rattle.scratch.proofs.Scratch.{at, added, Stored}
use Rattle.judge.proofs.truths.Judging.add_next.Given as goal

abbrev pub invariant-loop-i : goal.invariant-loop-i
invariant-loop-i l =
    let next = λ (j : ℕ). bit (at l.initial.entries (position l.self.run.k l.self.run.m (suc j))) l.operand in
    Stored 0 l.i (λ j. added (at l.initial.entries j) l.n (next j)) l.initial.entries l.entries
