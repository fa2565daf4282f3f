-- One turn of the pass after another, each added to its entry.
use Rattle.std.proofs.Common.{ℕ, ◌-◌, ap₂, Bool, ◌∙◌, arith}
use Rattle.scratch.proofs.Scratch.{added}
use Rattle.scratch.proofs.Bits.{pass_down}
use Rattle.scratch.proofs.Stores.{stored_down}
use Rattle.judge.proofs.truths.add_lasting.Goals as goal

pub loop-i-preserved : goal.loop-i-preserved
loop-i-preserved c =
    let here = c.loop-i.invariant.done.under (c.loop-i.i - 1) (omega arith) in
    let turn = pass_down _ _ _ _ c.loop-i.i c.loop-i.invariant.next (rw here at c.carried-next.ensures) (omega arith) (omega arith) in
    record {
      next = turn;
      done =
          stored_down _ c.loop-i.invariant.done (omega arith) (omega arith) (omega arith)
          (c.with_bit.ensures ∙ ap₂ (λ (w : ℕ) (b : Bool). added w c.args.n b) here turn);
    }
