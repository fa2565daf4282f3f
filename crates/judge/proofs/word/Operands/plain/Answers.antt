-- One truth value of words of one.
use Rattle.meaning.specs.Laws.{plain}
use Rattle.rule.specs.Operator.{plain_code}
use Rattle.scratch.proofs.Bits.{one_of_three}
use Rattle.judge.proofs.word.Operands.plain.Goals as goal

pub returns : goal.returns
returns c =
    rw (← c.from.ensures)
    (one_of_three (plain (plain_code c.args.operator)) _ _ _ c.word.ensures c.truth-atom.ensures c.truth.ensures c.truth-2.ensures)
