use Rattle.std.proofs.Common.{refl}
use Rattle.pb_pmem.proofs.Lines.{set-with_word}
use Rattle.pb_crash.proofs.lines.set_word.Goals as goal

pub returns : goal.returns
returns c =
    set-with_word c.args.lines.now c.args.line c.args.word c.args.value c.index-lines-line.result _ c.requires.line refl
