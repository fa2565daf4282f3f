-- A lower bit of the next entry is the same as it was.
use Rattle.std.proofs.Common.{ℕ, ap, ap₂, Bool, ◌∙◌, arith}
use Rattle.bits.specs.Bits.{bit}
use Rattle.scratch.proofs.Scratch.{at, added}
use Rattle.scratch.proofs.Stores.{stored_up, lower_bit_kept}
use Rattle.judge.proofs.truths.Judging.add_next.Goals as goal

pub loop-i-preserved : goal.loop-i-preserved
loop-i-preserved c =
    let done = c.loop-i.invariant in
    let next = c.after.result in
    let operand = c.args.operand in
    stored_up _ done (omega arith) (omega arith)
    (c.with_bit.ensures
    ∙ ap₂ (λ (w : ℕ) (b : Bool). added w c.args.n b) (done.over _ (omega arith))
    (c.is_set.ensures
    ∙ (lower_bit_kept _ _ done next (c.requires.adding.below next (omega arith)) operand c.requires.lower
    ∙ ap (λ (j : ℕ). bit (at c.args.entries.now j) operand) c.after.ensures.next)))
