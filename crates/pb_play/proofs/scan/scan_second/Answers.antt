use Rattle.pb_play.proofs.Scanning.{scans_second}
use Rattle.pb_play.proofs.scan.scan_second.Goals as goal

pub returns : goal.returns
returns c = scans_second c.args.client c.args.number c.args.code c.args.a c.args.side c.requires.there c.requires.at c.scan_on.ensures.after c.scan_on.ensures.says
