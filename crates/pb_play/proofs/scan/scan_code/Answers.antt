use Rattle.pb_play.proofs.Scanning.{scans_code}
use Rattle.pb_play.proofs.scan.scan_code.Goals as goal

pub returns : goal.returns
returns c = scans_code c.args.client c.args.number c.args.side c.requires.there c.requires.at c.scan_on.ensures.after c.scan_on.ensures.says
