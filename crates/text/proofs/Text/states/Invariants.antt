-- The text of the states passed stands behind what was filled when the loop began.
use Rattle.std.proofs.Common.{take}
use Rattle.text.specs.Text.{states_text}
use Rattle.text.specs.Parts.{Adds}
use Rattle.text.proofs.Text.states.Given as goal

abbrev pub invariant-loop-state : goal.invariant-loop-state
invariant-loop-state l = Adds (states_text (take l.state-index l.states)) l.initial.self l.self
