use Rattle.std.proofs.Common.{Option, None, refl, sym, subst}
use Rattle.pb_pmem.specs.Operations.{IsFailedPrefix}
use Rattle.pb_pair.specs.Cells.{IsFree, HasPut}
use Rattle.pb_layout.specs.PutCell.{put_ops}
use Rattle.pb_pair.specs.View.{PairView, DoubtView, HasFailed, pair_view}
use Rattle.pb_pair.proofs.HeldRecords.{cut_spares}
use Rattle.pb_pair.proofs.Pairs.{fails_keeping, has_failed_beside, room_left, stops_by, put_spares, put_pair, put_none}
use Rattle.pb_pair.proofs.Safe.{put_covers, failed_put_covers}
use Rattle.pb_pair.proofs.pair.Pair.put_cell.Goals as goal

pub invariant_of-self : goal.invariant_of-self
invariant_of-self g c =
    let i = c.self.inside in
    let old : PairView = pair_view (g.P.Pmem.seen i.device) i.head i.sides i.known i.doubt in
    let free : IsFree old c.args.position = subst (λ (was : PairView). IsFree was c.args.position) (sym c.self.view_is) c.requires in
    (put_pair old (g.P.Pmem.seen c.put.new.device) c.args.position c.args.value c.self.invariant.0 free c.in-Ok.ensures.ok, c.self.invariant.1)

pub invariant_of-self-in-Err : goal.invariant_of-self-in-Err
invariant_of-self-in-Err g c =
    let i = c.self.inside in
    let old : PairView = pair_view (g.P.Pmem.seen i.device) i.head i.sides i.known i.doubt in
    let new = g.P.Pmem.seen c.put.new.device in
    let free : IsFree old c.args.position = subst (λ (was : PairView). IsFree was c.args.position) (sym c.self.view_is) c.requires in
    let spares = put_spares i.head c.args.position c.args.value c.self.invariant.0.valid free.queue in
    let are = fails_keeping (g.P.Pmem.seen i.device) i.head i.sides c.fail.new.sides i.known c.fail.new.known i.doubt c.self.invariant.0 c.fail.ensures.sides c.fail.ensures.known in
    let stops = stops_by (IsFailedPrefix (put_ops i.head c.args.position c.args.value)) old.device new c.fail.result c.faults-from.result c.faults-to.result c.fail.ensures.fault c.faults-from.ensures c.faults-to.ensures c.in-Err.ensures.err in
    ((has_failed_beside (IsFailedPrefix (put_ops i.head c.args.position c.args.value)) old new c.fail.new.sides c.fail.new.known i.doubt c.fail.result c.self.invariant.0 are (λ ops. cut_spares i.head (put_ops i.head c.args.position c.args.value) ops spares) stops).sound, room_left i.sides c.fail.new.sides c.self.invariant.1 c.fail.ensures.sides)

pub returns-in-Ok-clause-ok : goal.returns-in-Ok-clause-ok
returns-in-Ok-clause-ok g c =
    let i = c.self.inside in
    let old : PairView = pair_view (g.P.Pmem.seen i.device) i.head i.sides i.known i.doubt in
    let free : IsFree old c.args.position = subst (λ (was : PairView). IsFree was c.args.position) (sym c.self.view_is) c.requires in
    let new = g.P.Pmem.seen c.put.new.device in
    let put : HasPut c.args.position c.args.value old (pair_view new i.head i.sides i.known i.doubt) = record {
      sound = put_pair old new c.args.position c.args.value c.self.invariant.0 free c.in-Ok.ensures.ok;
      device = c.in-Ok.ensures.ok;
      head = refl;
      first = refl;
      second = refl;
      known = free.known;
      doubt = put_none old c.args.position c.self.invariant.0 free;
    } in
    subst (λ (was : PairView). HasPut c.args.position c.args.value was (pair_view new i.head i.sides i.known i.doubt)) c.self.view_is put

pub returns-in-Err-clause-err : goal.returns-in-Err-clause-err
returns-in-Err-clause-err g c =
    let i = c.self.inside in
    let old : PairView = pair_view (g.P.Pmem.seen i.device) i.head i.sides i.known i.doubt in
    let free : IsFree old c.args.position = subst (λ (was : PairView). IsFree was c.args.position) (sym c.self.view_is) c.requires in
    let new = g.P.Pmem.seen c.put.new.device in
    let final : PairView = pair_view new i.head c.fail.new.sides c.fail.new.known i.doubt in
    let spares = put_spares i.head c.args.position c.args.value c.self.invariant.0.valid free.queue in
    let are = fails_keeping (g.P.Pmem.seen i.device) i.head i.sides c.fail.new.sides i.known c.fail.new.known i.doubt c.self.invariant.0 c.fail.ensures.sides c.fail.ensures.known in
    let stops = stops_by (IsFailedPrefix (put_ops i.head c.args.position c.args.value)) old.device new c.fail.result c.faults-from.result c.faults-to.result c.fail.ensures.fault c.faults-from.ensures c.faults-to.ensures c.in-Err.ensures.err in
    let failed = has_failed_beside (IsFailedPrefix (put_ops i.head c.args.position c.args.value)) old new c.fail.new.sides c.fail.new.known i.doubt c.fail.result c.self.invariant.0 are (λ ops. cut_spares i.head (put_ops i.head c.args.position c.args.value) ops spares) stops in
    let none : HasFailed (IsFailedPrefix (put_ops i.head c.args.position c.args.value)) None old c.fail.result final = subst (λ (left : Option DoubtView). HasFailed (IsFailedPrefix (put_ops i.head c.args.position c.args.value)) left old c.fail.result final) (put_none old c.args.position c.self.invariant.0 free) failed in
    subst (λ (was : PairView). HasFailed (IsFailedPrefix (put_ops was.head c.args.position c.args.value)) None was c.fail.result final) c.self.view_is none

pub returns-in-Ok-clause-safe : goal.returns-in-Ok-clause-safe
returns-in-Ok-clause-safe g c = put_covers c.args.self.now (g.P.Pmem.seen c.put.new.device) c.args.position c.args.value c.requires (returns-in-Ok-clause-ok g c).device

pub returns-in-Err-clause-safe : goal.returns-in-Err-clause-safe
returns-in-Err-clause-safe g c = failed_put_covers c.args.self.now (g.P.Pmem.seen c.put.new.device) c.args.position c.args.value c.requires (returns-in-Err-clause-err g c).device.stops
