use Rattle.std.proofs.Common.{◌≢◌, rules}
use Rattle.pb_layout.specs.Region.{record_place}
use Rattle.pb_object.specs.Standing.{side_count}
use Rattle.pb_object.proofs.Sides.{not_two_sides}
use Rattle.pb_pair.proofs.Formatting.{no_writes}
use Rattle.pb_pair.proofs.format.write_second.Goals as goal

pub returns-else-sides-eq2-clause-ok : goal.returns-else-sides-eq2-clause-ok
returns-else-sides-eq2-clause-ok g c =
    let other : side_count c.args.head.now.kind ≢ 2 = search rules in
    no_writes (record_place c.args.head.now 1 0) c.args.second.now (g.P.Pmem.seen c.args.device.now) (c.requires.no_second (not_two_sides c.args.head.now.kind other))
