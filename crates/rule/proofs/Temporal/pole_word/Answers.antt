-- `rule::Temporal::pole_word` meets its contract: each arm makes the word that its row of the table says. Assumes nothing.
use Rattle.bits.proofs.Word.{word_false, word_true}
use Rattle.rule.proofs.Temporal.pole_word.Goals as goal

pub returns-in-X : goal.returns-in-X
returns-in-X c = rw c.in-X.is word_false

pub returns-in-F : goal.returns-in-F
returns-in-F c = rw c.in-F.is word_false

pub returns-in-G : goal.returns-in-G
returns-in-G c = rw c.in-G.is word_true

pub returns-in-U : goal.returns-in-U
returns-in-U c = rw c.in-U.is word_false

pub returns-in-R : goal.returns-in-R
returns-in-R c = rw c.in-R.is word_true

pub returns-in-W : goal.returns-in-W
returns-in-W c = rw c.in-W.is word_true
