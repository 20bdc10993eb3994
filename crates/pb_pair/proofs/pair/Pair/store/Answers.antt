use Rattle.std.proofs.Common.{◌≡◌, Some, sym, ap, subst, ◌∙◌}
use Rattle.pb_pmem.specs.Device.{IsWhole, IsReplay}
use Rattle.pb_pair.specs.declared.known.Known.TheVariants.{Sure}
use Rattle.pb_pair.specs.Store.{IsNext, IsStored, IsFailedStore, HasFailedStore}
use Rattle.pb_pair.specs.View.{PairView, IsPair, view_of_side, pair_view}
use Rattle.pb_pair.proofs.Pairs.{room_left, stops_by}
use Rattle.pb_pair.proofs.Stored.{is_stored, has_failed_store}
use Rattle.pb_pair.proofs.Safe.{store_covers, failed_store_covers}
use Rattle.pb_pair.proofs.pair.Pair.store.Goals as goal

pub invariant_of-self : goal.invariant_of-self
invariant_of-self g c =
    let i = c.self.inside in
    let old : PairView = pair_view (g.P.Pmem.seen i.device) i.head i.sides i.known i.doubt in
    let whole : IsWhole (g.P.Pmem.seen i.device) = g.met.P.Pmem.is_whole i.device in
    let replay : IsReplay (g.P.Pmem.seen i.device) = g.met.P.Pmem.is_replay i.device in
    let next : IsNext old c.args.side c.args.lines.now = subst (λ (was : PairView). IsNext was c.args.side c.args.lines.now) (sym c.self.view_is) c.requires.next in
    let sure : i.known ≡ Sure = ap (λ (was : PairView). was.known) c.self.view_is ∙ c.requires.sure in
    ((is_stored (g.P.Pmem.seen i.device) (g.P.Pmem.seen c.store.new.device) i.head i.sides c.store.new.self i.known i.doubt c.args.side c.args.lines.now c.self.invariant.0 whole replay sure next c.in-Ok.ensures.ok).sound, c.in-Ok.ensures.room)

pub returns-in-Ok-clause-ok : goal.returns-in-Ok-clause-ok
returns-in-Ok-clause-ok g c =
    let i = c.self.inside in
    let old : PairView = pair_view (g.P.Pmem.seen i.device) i.head i.sides i.known i.doubt in
    let whole : IsWhole (g.P.Pmem.seen i.device) = g.met.P.Pmem.is_whole i.device in
    let replay : IsReplay (g.P.Pmem.seen i.device) = g.met.P.Pmem.is_replay i.device in
    let next : IsNext old c.args.side c.args.lines.now = subst (λ (was : PairView). IsNext was c.args.side c.args.lines.now) (sym c.self.view_is) c.requires.next in
    let sure : i.known ≡ Sure = ap (λ (was : PairView). was.known) c.self.view_is ∙ c.requires.sure in
    subst (λ (was : PairView). IsStored c.args.side c.args.lines.now was (pair_view (g.P.Pmem.seen c.store.new.device) i.head c.store.new.self i.known i.doubt)) c.self.view_is
    (is_stored (g.P.Pmem.seen i.device) (g.P.Pmem.seen c.store.new.device) i.head i.sides c.store.new.self i.known i.doubt c.args.side c.args.lines.now c.self.invariant.0 whole replay sure next c.in-Ok.ensures.ok)

pub invariant_of-self-in-Err : goal.invariant_of-self-in-Err
invariant_of-self-in-Err g c =
    let i = c.self.inside in
    let device = g.P.Pmem.seen i.device in
    let new = g.P.Pmem.seen c.store.new.device in
    let whole : IsWhole device = g.met.P.Pmem.is_whole i.device in
    let replay : IsReplay device = g.met.P.Pmem.is_replay i.device in
    let old : PairView = pair_view device i.head i.sides i.known i.doubt in
    let next : IsNext old c.args.side c.args.lines.now = subst (λ (was : PairView). IsNext was c.args.side c.args.lines.now) (sym c.self.view_is) c.requires.next in
    let by = stops_by (IsFailedStore i.head c.args.side (view_of_side old c.args.side) c.args.lines.now c.in-Err.called) device new c.fail.result c.faults-from.result c.faults-to.result c.fail.ensures.fault c.faults-from.ensures c.faults-to.ensures c.in-Err.ensures.err.device in
    ((has_failed_store device new i.head i.sides c.store.new.self c.fail.new.sides i.known c.fail.new.known i.doubt c.args.side c.args.lines.now c.in-Err.called c.fail.result c.self.invariant.0 whole replay next c.in-Err.ensures.err c.fail.ensures.sides c.fail.ensures.known by).failed.sound, room_left c.store.new.self c.fail.new.sides c.in-Err.ensures.room c.fail.ensures.sides)

pub returns-in-Err-clause-err : goal.returns-in-Err-clause-err
returns-in-Err-clause-err g c =
    let i = c.self.inside in
    let device = g.P.Pmem.seen i.device in
    let new = g.P.Pmem.seen c.store.new.device in
    let whole : IsWhole device = g.met.P.Pmem.is_whole i.device in
    let replay : IsReplay device = g.met.P.Pmem.is_replay i.device in
    let old : PairView = pair_view device i.head i.sides i.known i.doubt in
    let next : IsNext old c.args.side c.args.lines.now = subst (λ (was : PairView). IsNext was c.args.side c.args.lines.now) (sym c.self.view_is) c.requires.next in
    let by = stops_by (IsFailedStore i.head c.args.side (view_of_side old c.args.side) c.args.lines.now c.in-Err.called) device new c.fail.result c.faults-from.result c.faults-to.result c.fail.ensures.fault c.faults-from.ensures c.faults-to.ensures c.in-Err.ensures.err.device in
    subst (λ (was : PairView). HasFailedStore c.args.side c.args.lines.now was c.fail.result (pair_view new i.head c.fail.new.sides c.fail.new.known (Some (record { side = c.args.side; called = c.in-Err.called })))) c.self.view_is
    (has_failed_store device new i.head i.sides c.store.new.self c.fail.new.sides i.known c.fail.new.known i.doubt c.args.side c.args.lines.now c.in-Err.called c.fail.result c.self.invariant.0 whole replay next c.in-Err.ensures.err c.fail.ensures.sides c.fail.ensures.known by)

pub returns-in-Ok-clause-safe : goal.returns-in-Ok-clause-safe
returns-in-Ok-clause-safe g c =
    let i = c.self.inside in
    let old = c.args.self.now in
    let sound : IsPair old = subst IsPair c.self.view_is c.self.invariant.0 in
    let whole : IsWhole old.device = subst (λ (was : PairView). IsWhole was.device) c.self.view_is (g.met.P.Pmem.is_whole i.device) in
    let replay : IsReplay old.device = subst (λ (was : PairView). IsReplay was.device) c.self.view_is (g.met.P.Pmem.is_replay i.device) in
    store_covers c.args.side c.args.lines.now old _ sound whole replay c.requires.next (returns-in-Ok-clause-ok g c)

pub returns-in-Err-clause-fails_safe : goal.returns-in-Err-clause-fails_safe
returns-in-Err-clause-fails_safe g c =
    let i = c.self.inside in
    let old = c.args.self.now in
    let sound : IsPair old = subst IsPair c.self.view_is c.self.invariant.0 in
    let whole : IsWhole old.device = subst (λ (was : PairView). IsWhole was.device) c.self.view_is (g.met.P.Pmem.is_whole i.device) in
    let replay : IsReplay old.device = subst (λ (was : PairView). IsReplay was.device) c.self.view_is (g.met.P.Pmem.is_replay i.device) in
    failed_store_covers c.args.side c.args.lines.now old c.fail.result _ sound whole replay c.requires.next (returns-in-Err-clause-err g c)
