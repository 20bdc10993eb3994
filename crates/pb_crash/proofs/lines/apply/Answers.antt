use Rattle.pb_crash.proofs.lines.apply.Goals as goal

pub returns-in-Word : goal.returns-in-Word
returns-in-Word c = rw c.in-Word.is c.set_word.ensures
