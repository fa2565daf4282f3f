-- `now` and `stay` of one truth value.
use mathlib.Core.Path.{ap₂}
use mathlib.Core.Bool.{Bool, ◌&&◌, ◌||◌}
use Rattle.meaning.specs.Laws.{now, stay}
use Rattle.rule.specs.Operator.{temporal_code}
use Rattle.scratch.proofs.Bits.{one_of_two}
use Rattle.judge.proofs.word.Operands.carried.Goals as goal

pub returns : goal.returns
returns c =
    ap₂ (λ (at_once stays : Bool). at_once || (stays && c.args.next))
    (one_of_two (now (temporal_code c.args.operator)) _ _ c.now_word-now.ensures c.truth-first.ensures c.truth-second.ensures)
    (one_of_two (stay (temporal_code c.args.operator)) _ _ c.stay_word-stay.ensures c.truth-first.ensures c.truth-second.ensures)
