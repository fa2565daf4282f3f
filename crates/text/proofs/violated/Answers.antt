-- The three lines are five parts, one behind the other.
use Rattle.std.proofs.Common.{refl}
use Rattle.text.specs.Text.{violated_text}
use Rattle.text.proofs.Laws.{five_printed}
use Rattle.text.proofs.violated.Goals as goal

pub returns : goal.returns
unfolding violated_text
returns c =
    five_printed refl c.word.ensures c.states.ensures c.word-2.ensures c.states-2.ensures c.word-3.ensures
