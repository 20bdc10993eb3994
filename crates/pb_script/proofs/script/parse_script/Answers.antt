use Rattle.pb_script.specs.Words.{lines}
use Rattle.pb_script.proofs.Asked.{asks_of_read}
use Rattle.pb_script.proofs.Sources.{only}
use Rattle.pb_script.proofs.script.parse_script.Goals as goal

pub returns-clause-only : goal.returns-clause-only
returns-clause-only c = only c.args.kind c.args.clients (lines c.args.bytes.now) c.read_script.result c.read_script.ensures

pub returns-clause-asks : goal.returns-clause-asks
returns-clause-asks c = asks_of_read c.args.kind c.args.clients (lines c.args.bytes.now) c.read_script.result c.read_script.ensures
