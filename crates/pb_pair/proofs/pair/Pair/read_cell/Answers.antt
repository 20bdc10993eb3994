use Rattle.std.proofs.Common.{subst}
use Rattle.pb_pair.specs.Cells.{IsNothing}
use Rattle.pb_pair.specs.View.{PairView, HasFailed, pair_view}
use Rattle.pb_pair.proofs.HeldRecords.{none_spares}
use Rattle.pb_pair.proofs.Pairs.{fails_keeping, has_failed_beside, room_left, stops_by, failed_read}
use Rattle.pb_pair.proofs.pair.Pair.read_cell.Goals as goal

pub invariant_of-self-in-Err : goal.invariant_of-self-in-Err
invariant_of-self-in-Err g c =
    let i = c.self.inside in
    let old : PairView = pair_view (g.P.Pmem.seen i.device) i.head i.sides i.known i.doubt in
    let are = fails_keeping (g.P.Pmem.seen i.device) i.head i.sides c.fail.new.sides i.known c.fail.new.known i.doubt c.self.invariant.0 c.fail.ensures.sides c.fail.ensures.known in
    ((has_failed_beside IsNothing old (g.P.Pmem.seen c.read.new.device) c.fail.new.sides c.fail.new.known i.doubt c.fail.result c.self.invariant.0 are (none_spares i.head) (stops_by IsNothing (g.P.Pmem.seen i.device) (g.P.Pmem.seen c.read.new.device) c.fail.result c.faults-from.result c.faults-to.result c.fail.ensures.fault c.faults-from.ensures c.faults-to.ensures (failed_read (g.P.Pmem.seen i.device) (g.P.Pmem.seen c.read.new.device) c.in-Err.ensures.err))).sound, room_left i.sides c.fail.new.sides c.self.invariant.1 c.fail.ensures.sides)

pub returns-in-Err-clause-err : goal.returns-in-Err-clause-err
returns-in-Err-clause-err g c =
    let i = c.self.inside in
    let old : PairView = pair_view (g.P.Pmem.seen i.device) i.head i.sides i.known i.doubt in
    let are = fails_keeping (g.P.Pmem.seen i.device) i.head i.sides c.fail.new.sides i.known c.fail.new.known i.doubt c.self.invariant.0 c.fail.ensures.sides c.fail.ensures.known in
    subst (λ (was : PairView). HasFailed IsNothing was.doubt was c.fail.result (pair_view (g.P.Pmem.seen c.read.new.device) i.head c.fail.new.sides c.fail.new.known i.doubt)) c.self.view_is
    (has_failed_beside IsNothing old (g.P.Pmem.seen c.read.new.device) c.fail.new.sides c.fail.new.known i.doubt c.fail.result c.self.invariant.0 are (none_spares i.head) (stops_by IsNothing (g.P.Pmem.seen i.device) (g.P.Pmem.seen c.read.new.device) c.fail.result c.faults-from.result c.faults-to.result c.fail.ensures.fault c.faults-from.ensures c.faults-to.ensures (failed_read (g.P.Pmem.seen i.device) (g.P.Pmem.seen c.read.new.device) c.in-Err.ensures.err)))
