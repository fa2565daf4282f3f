-- Below ten the last digit alone, and from ten on the digits of the tenth and then the last digit.
use Rattle.std.proofs.Common.{ap, arith, length}
use Rattle.text.proofs.Laws.{adds_both, digits_below_ten, digits_from_ten, tenth_shorter}
use Rattle.text.proofs.Text.+number.Goals as goal

pub word-requires : goal.word-requires
word-requires t c = omega (arith, ap length (digits_below_ten c.args.n c.if-n-lt10.true), c.requires)

pub returns-then-n-lt10 : goal.returns-then-n-lt10
returns-then-n-lt10 t c = rw (digits_below_ten c.args.n c.if-n-lt10.true) c.word.ensures

pub number-requires : goal.number-requires
number-requires t c = (omega arith, omega (arith, tenth_shorter c.args.n c.if-n-lt10.false, c.requires))

pub word-requires-2 : goal.word-requires-2
word-requires-2 t c = omega (arith, tenth_shorter c.args.n c.if-n-lt10.false, c.number.ensures.filled, c.requires)

pub returns : goal.returns
returns t c = rw (digits_from_ten c.args.n c.if-n-lt10.false) (adds_both c.number.ensures c.word-2.ensures)
