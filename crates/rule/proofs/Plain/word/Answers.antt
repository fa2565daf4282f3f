-- `rule::Plain::word` meets its contract: each arm makes the word that its row of the table says. Assumes nothing.
use Rattle.bits.proofs.Word.{word_and, word_itself, word_not, word_or, word_true}
use Rattle.rule.proofs.Plain.word.Goals as goal

pub returns-in-True : goal.returns-in-True
returns-in-True c = rw c.in-True.is word_true

pub returns-in-Atom : goal.returns-in-Atom
returns-in-Atom c = rw c.in-Atom.is (word_itself c.requires.atom_fits)

pub returns-in-Not : goal.returns-in-Not
returns-in-Not c = rw c.in-Not.is (word_not c.requires.a_fits)

pub returns-in-And : goal.returns-in-And
returns-in-And c = rw c.in-And.is (word_and (word_itself c.requires.a_fits) (word_itself c.requires.b_fits))

pub returns-in-Or : goal.returns-in-Or
returns-in-Or c = rw c.in-Or.is (word_or (word_itself c.requires.a_fits) (word_itself c.requires.b_fits))

pub returns-in-Implies : goal.returns-in-Implies
returns-in-Implies c = rw c.in-Implies.is (word_or (word_not c.requires.a_fits) (word_itself c.requires.b_fits))
