use Rattle.std.proofs.Common.{sym, ◌∙◌}
use Rattle.pb_play.proofs.Scanning.{scans_own, scans_other}
use Rattle.pb_play.proofs.scan.scan_third.Goals as goal

pub returns-then-side_of-side : goal.returns-then-side_of-side
returns-then-side_of-side c = scans_own c.args.client c.args.number c.args.op c.args.side c.requires.there c.requires.at c.requires.last (sym c.side_of.ensures ∙ c.if-side_of-side.true) c.see.ensures.after c.see.ensures.says

pub returns-else-side_of-side : goal.returns-else-side_of-side
returns-else-side_of-side c = scans_other c.args.client c.args.number c.args.op c.args.side c.requires.there c.requires.at c.requires.last (λ same. c.if-side_of-side.false (c.side_of.ensures ∙ same)) c.scan_on.ensures.after c.scan_on.ensures.says
