use Rattle.pb_play.proofs.Scanning.{scans_first}
use Rattle.pb_play.proofs.scan.scan_first.Goals as goal

pub returns : goal.returns
returns c = scans_first c.args.client c.args.number c.args.code c.args.side c.requires.there c.requires.at c.scan_on.ensures.after c.scan_on.ensures.says
