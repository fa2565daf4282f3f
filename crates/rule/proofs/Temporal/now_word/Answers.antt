-- `rule::Temporal::now_word` meets its contract: each arm makes the word that its row of the table says. Assumes nothing.
use Rattle.bits.proofs.Word.{word_and, word_false, word_itself}
use Rattle.rule.proofs.Temporal.now_word.Goals as goal

pub returns-in-X : goal.returns-in-X
returns-in-X c = rw c.in-X.is word_false

pub returns-in-F : goal.returns-in-F
returns-in-F c = rw c.in-F.is (word_itself c.requires.a_fits)

pub returns-in-G : goal.returns-in-G
returns-in-G c = rw c.in-G.is word_false

pub returns-in-U : goal.returns-in-U
returns-in-U c = rw c.in-U.is (word_itself c.requires.b_fits)

pub returns-in-R : goal.returns-in-R
returns-in-R c = rw c.in-R.is (word_and (word_itself c.requires.a_fits) (word_itself c.requires.b_fits))

pub returns-in-W : goal.returns-in-W
returns-in-W c = rw c.in-W.is (word_itself c.requires.b_fits)
