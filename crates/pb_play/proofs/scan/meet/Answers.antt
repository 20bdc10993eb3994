use Rattle.std.proofs.Common.{refl}
use Rattle.std.proofs.lemmas.Bool.{false≢true}
use Rattle.pb_play.proofs.Scanning.{meets_due, passes_over}
use Rattle.pb_play.proofs.scan.meet.Goals as goal

pub returns-then-follows : goal.returns-then-follows
returns-then-follows c = meets_due c.args.client c.args.side c.row-last.result c.row-last.ensures c.requires.there c.requires.at (c.if-follows.ensures.0 refl) c.scan_on.ensures.after c.scan_on.ensures.says

pub returns-else-follows : goal.returns-else-follows
returns-else-follows c = passes_over c.args.client c.args.side c.row-last.result c.row-last.ensures c.requires.there c.requires.at (λ same. false≢true (c.if-follows.ensures.1 same)) c.scan_on-else-follows.ensures.after c.scan_on-else-follows.ensures.says
