-- `next` is the truth at entry i that a pass from the seed has carried there; from i on it is added to each entry, and the entries below
-- i are as they were.
use Rattle.std.proofs.Common.{ℕ, ◌-◌, ◌≡◌, List, Bool, length}
use Rattle.rule.proofs.Passes.{pass}
use Rattle.rule.specs.declared.Temporal as T
use Rattle.rule.specs.Operator.{temporal_code}
use Rattle.judge.specs.declared.word.Operands.{Operands}
use Rattle.scratch.proofs.Scratch.{node_with, at, added, now_in, stay_in, Stored}
use Rattle.judge.proofs.truths.add_lasting.Given as goal

-- the truth that the pass carries to entry i of a list
abbrev pub carried_to : T.Temporal → Operands → Bool → List ℕ → ℕ → Bool
carried_to operator operands seed l i =
    let node = node_with (temporal_code operator) operands.first operands.second in
    pass (now_in node l) (stay_in node l) seed i (length l - i)

abbrev pub invariant-loop-i : goal.invariant-loop-i
invariant-loop-i l =
    let truth = carried_to l.operator l.operands l.seed l.initial.entries in
    record {
      next : l.next ≡ truth l.i;
      done : Stored l.i (length l.initial.entries) (λ i. added (at l.initial.entries i) l.n (truth i)) l.initial.entries l.entries;
    }
