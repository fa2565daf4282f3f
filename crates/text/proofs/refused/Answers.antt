-- The line is five parts, one behind the other.
use Rattle.std.proofs.Common.{refl}
use Rattle.text.specs.Text.{refused_text}
use Rattle.text.proofs.Laws.{five_printed}
use Rattle.text.proofs.refused.Goals as goal

pub returns : goal.returns
unfolding refused_text
returns c =
    five_printed refl c.word.ensures c.number.ensures c.word-2.ensures c.number-2.ensures c.word-3.ensures
