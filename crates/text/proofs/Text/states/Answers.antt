-- The space and the digits of the state at hand are one part more.
use Rattle.std.proofs.Common.{arith}
use Rattle.text.proofs.Laws.{adds_both, states_more}
use Rattle.text.proofs.Text.states.Goals as goal

pub loop-state-preserved : goal.loop-state-preserved
loop-state-preserved c =
    rw (states_more c.args.states.now c.loop-state.state-index (omega arith))
    (adds_both (adds_both c.loop-state.invariant c.word.ensures) (rw c.from.ensures at c.number.ensures))
