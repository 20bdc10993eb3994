use Rattle.pb_report.proofs.TextLemmas.{texts_tell}
use Rattle.pb_report.proofs.laws.texts_tell_outcomes_apart.Goals as goal

pub returns : goal.returns
returns c = texts_tell c.args.asks.now c.args.first.now c.args.second.now
