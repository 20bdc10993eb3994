use Rattle.std.proofs.Common.{rules, tests}
use Rattle.std.proofs.lemmas.Iterator.{YieldsList-from_slice}
use Rattle.std.proofs.lemmas.Iterator.Search.{position_from_yields_List}
use Rattle.pb_script.specs.Words.{is_blank}
use Rattle.pb_script.proofs.Cuts.{unwrap_or-position}
use Rattle.pb_script.proofs.words.word_len.Goals as goal

pub returns-clause-len : goal.returns-clause-len
returns-clause-len c =
    unwrap_or-position is_blank c.args.text.now c.position.result c.unwrap_or.result
    (position_from_yields_List is_blank _ _ c.position.result c.position.ensures.ran (YieldsList-from_slice c.args.text.now cc) (λ x b q k. search (rules, tests)))
    (search rules)
