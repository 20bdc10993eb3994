use Rattle.std.proofs.Common.{rules, tests}
use Rattle.std.proofs.lemmas.Iterator.{YieldsList-from_slice}
use Rattle.std.proofs.lemmas.Iterator.Search.{any_from_yields_List}
use Rattle.pb_run.specs.Run.{is_doubt}
use Rattle.pb_broker.proofs.print.has_doubt.Goals as goal

pub returns : goal.returns
returns c =
    any_from_yields_List is_doubt _ _ c.any.result c.any.ensures.ran (YieldsList-from_slice c.args.outcomes.now cc) (λ x b q k. search (rules, tests))
