-- Where each word is as the format has it, the line is the header's.
use Rattle.std.proofs.Common.{arith, rules, refl}
use Rattle.pb_layout.proofs.Lines.{line_from_words, kind_code-of}
use Rattle.pb_layout.proofs.header.header_of.Goals as goal

pub returns-clause-ok : goal.returns-clause-ok
returns-clause-ok c =
    (search rules, line_from_words _ _ _ _ _ _ _ _ _ (search rules) (search rules) (kind_code-of _ _ (search rules)) refl refl (omega arith) (omega arith) (search rules))
