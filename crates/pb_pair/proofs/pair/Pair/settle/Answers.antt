use Rattle.std.proofs.Common.{◌≢◌, None, sym, ap, subst, ◌∙◌, Ok}
use Rattle.pb_pmem.specs.Operations.{IsFailedPrefix, Does, Stops}
use Rattle.pb_pair.specs.declared.known.Known.TheVariants.{Sure}
use Rattle.pb_pair.specs.Settle.{settled_ops, was_called, IsSettled}
use Rattle.pb_pair.specs.View.{PairView, HasFailed, pair_view}
use Rattle.pb_pair.proofs.HeldRecords.{cut_spares}
use Rattle.pb_pair.proofs.Pairs.{fails_keeping, has_failed_beside, room_left, stops_by}
use Rattle.pb_pair.proofs.Settled.{next_of_side, answered, SettlesTo, settles_to, does_settle, stops_settle, settled_spares, is_settled}
use Rattle.pb_pair.proofs.Safe.{settle_covers, failed_settle_covers}
use Rattle.pb_pair.proofs.pair.Pair.settle.Goals as goal

pub round_to_settle-first-requires-clause-some : goal.round_to_settle-first-requires-clause-some
round_to_settle-first-requires-clause-some g c = λ called.
    (next_of_side (g.P.Pmem.seen c.self.inside.device) c.self.inside.head c.self.inside.sides c.self.inside.known c.self.inside.doubt 0 c.self.invariant.0 (sym c.is_called_on-on_first.ensures ∙ called)).some

pub round_to_settle-first-requires-clause-next : goal.round_to_settle-first-requires-clause-next
round_to_settle-first-requires-clause-next g c = λ called.
    (next_of_side (g.P.Pmem.seen c.self.inside.device) c.self.inside.head c.self.inside.sides c.self.inside.known c.self.inside.doubt 0 c.self.invariant.0 (sym c.is_called_on-on_first.ensures ∙ called)).next

pub round_to_settle-second-requires-clause-some : goal.round_to_settle-second-requires-clause-some
round_to_settle-second-requires-clause-some g c = λ called.
    (next_of_side (g.P.Pmem.seen c.self.inside.device) c.self.inside.head c.self.inside.sides c.self.inside.known c.self.inside.doubt 1 c.self.invariant.0 (sym c.is_called_on-on_second.ensures ∙ called)).some

pub round_to_settle-second-requires-clause-next : goal.round_to_settle-second-requires-clause-next
round_to_settle-second-requires-clause-next g c = λ called.
    (next_of_side (g.P.Pmem.seen c.self.inside.device) c.self.inside.head c.self.inside.sides c.self.inside.known c.self.inside.doubt 1 c.self.invariant.0 (sym c.is_called_on-on_second.ensures ∙ called)).next

pub settle-requires-clause-some : goal.settle-requires-clause-some
settle-requires-clause-some g c = λ called.
    (next_of_side (g.P.Pmem.seen c.self.inside.device) c.self.inside.head c.self.inside.sides c.self.inside.known c.self.inside.doubt 0 c.self.invariant.0 (sym c.is_called_on-on_first.ensures ∙ called)).some

pub settle-requires-clause-next : goal.settle-requires-clause-next
settle-requires-clause-next g c = λ called.
    (next_of_side (g.P.Pmem.seen c.self.inside.device) c.self.inside.head c.self.inside.sides c.self.inside.known c.self.inside.doubt 0 c.self.invariant.0 (sym c.is_called_on-on_first.ensures ∙ called)).next

pub settle-requires-in-Ok-clause-some : goal.settle-requires-in-Ok-clause-some
settle-requires-in-Ok-clause-some g c = λ called.
    (next_of_side (g.P.Pmem.seen c.self.inside.device) c.self.inside.head c.self.inside.sides c.self.inside.known c.self.inside.doubt 1 c.self.invariant.0 (sym c.is_called_on-on_second.ensures ∙ called)).some

pub settle-requires-in-Ok-clause-next : goal.settle-requires-in-Ok-clause-next
settle-requires-in-Ok-clause-next g c = λ called.
    (next_of_side (g.P.Pmem.seen c.self.inside.device) c.self.inside.head c.self.inside.sides c.self.inside.known c.self.inside.doubt 1 c.self.invariant.0 (sym c.is_called_on-on_second.ensures ∙ called)).next

pub returns-in-Ok-clause-answer : goal.returns-in-Ok-clause-answer
returns-in-Ok-clause-answer g c =
    ap (λ b. Ok b) (c.is_called-called.ensures ∙ (answered c.self.inside.sides c.self.inside.doubt ∙ ap (λ (p : PairView). was_called p.doubt) c.self.view_is))

pub invariant_of-self : goal.invariant_of-self
invariant_of-self g c =
    let i = c.self.inside in
    let old : PairView = pair_view (g.P.Pmem.seen i.device) i.head i.sides i.known i.doubt in
    let new = g.P.Pmem.seen c.settle_rounds.new.device in
    let unsure : i.known ≢ Sure = λ sure. c.requires (sym (ap (λ (p : PairView). p.known) c.self.view_is) ∙ sure) in
    let one = c.is_called_on-on_first.ensures in
    let two = c.is_called_on-on_second.ensures in
    let are : SettlesTo (g.P.Pmem.seen i.device) i.head i.sides i.known i.doubt c.settle.new.self c.settle-in-Ok.new.self = settles_to (g.P.Pmem.seen i.device) i.head i.sides i.known i.doubt c.settle.new.self c.settle-in-Ok.new.self c.is_called_on-on_first.result c.is_called_on-on_second.result one two c.settle.ensures.view c.settle-in-Ok.ensures.view in
    let does : Does (settled_ops old) old.device new = does_settle (g.P.Pmem.seen i.device) new i.head i.sides i.known i.doubt c.is_called_on-on_first.result c.is_called_on-on_second.result one two c.round_to_settle-first.result c.round_to_settle-second.result c.round_to_settle-first.ensures c.round_to_settle-second.ensures c.in-Ok.ensures.ok in
    ((is_settled (g.P.Pmem.seen i.device) new i.head i.sides i.known i.doubt c.settle.new.self c.settle-in-Ok.new.self c.self.invariant.0 unsure are does).sound, record { first = c.settle.ensures.room; second = c.settle-in-Ok.ensures.room })

pub returns-in-Ok-clause-ok : goal.returns-in-Ok-clause-ok
returns-in-Ok-clause-ok g c =
    let i = c.self.inside in
    let old : PairView = pair_view (g.P.Pmem.seen i.device) i.head i.sides i.known i.doubt in
    let new = g.P.Pmem.seen c.settle_rounds.new.device in
    let final : PairView = pair_view new i.head (record { first = c.settle.new.self; second = c.settle-in-Ok.new.self }) Sure None in
    let unsure : i.known ≢ Sure = λ sure. c.requires (sym (ap (λ (p : PairView). p.known) c.self.view_is) ∙ sure) in
    let one = c.is_called_on-on_first.ensures in
    let two = c.is_called_on-on_second.ensures in
    let are : SettlesTo (g.P.Pmem.seen i.device) i.head i.sides i.known i.doubt c.settle.new.self c.settle-in-Ok.new.self = settles_to (g.P.Pmem.seen i.device) i.head i.sides i.known i.doubt c.settle.new.self c.settle-in-Ok.new.self c.is_called_on-on_first.result c.is_called_on-on_second.result one two c.settle.ensures.view c.settle-in-Ok.ensures.view in
    let does : Does (settled_ops old) old.device new = does_settle (g.P.Pmem.seen i.device) new i.head i.sides i.known i.doubt c.is_called_on-on_first.result c.is_called_on-on_second.result one two c.round_to_settle-first.result c.round_to_settle-second.result c.round_to_settle-first.ensures c.round_to_settle-second.ensures c.in-Ok.ensures.ok in
    subst (λ (was : PairView). IsSettled was final) c.self.view_is (is_settled (g.P.Pmem.seen i.device) new i.head i.sides i.known i.doubt c.settle.new.self c.settle-in-Ok.new.self c.self.invariant.0 unsure are does)

pub invariant_of-self-in-Err : goal.invariant_of-self-in-Err
invariant_of-self-in-Err g c =
    let i = c.self.inside in
    let old : PairView = pair_view (g.P.Pmem.seen i.device) i.head i.sides i.known i.doubt in
    let new = g.P.Pmem.seen c.settle_rounds.new.device in
    let are = fails_keeping (g.P.Pmem.seen i.device) i.head i.sides c.fail.new.sides i.known c.fail.new.known i.doubt c.self.invariant.0 c.fail.ensures.sides c.fail.ensures.known in
    let stops : Stops (IsFailedPrefix (settled_ops old)) old.device new = stops_settle (g.P.Pmem.seen i.device) new i.head i.sides i.known i.doubt c.is_called_on-on_first.result c.is_called_on-on_second.result c.is_called_on-on_first.ensures c.is_called_on-on_second.ensures c.round_to_settle-first.result c.round_to_settle-second.result c.round_to_settle-first.ensures c.round_to_settle-second.ensures c.in-Err.ensures.err in
    ((has_failed_beside (IsFailedPrefix (settled_ops old)) old new c.fail.new.sides c.fail.new.known i.doubt c.fail.result c.self.invariant.0 are (λ ops. cut_spares old.head (settled_ops old) ops (settled_spares old)) (stops_by (IsFailedPrefix (settled_ops old)) old.device new c.fail.result c.faults-from.result c.faults-to.result c.fail.ensures.fault c.faults-from.ensures c.faults-to.ensures stops)).sound, room_left i.sides c.fail.new.sides c.self.invariant.1 c.fail.ensures.sides)

pub returns-in-Err-clause-err : goal.returns-in-Err-clause-err
returns-in-Err-clause-err g c =
    let i = c.self.inside in
    let old : PairView = pair_view (g.P.Pmem.seen i.device) i.head i.sides i.known i.doubt in
    let new = g.P.Pmem.seen c.settle_rounds.new.device in
    let are = fails_keeping (g.P.Pmem.seen i.device) i.head i.sides c.fail.new.sides i.known c.fail.new.known i.doubt c.self.invariant.0 c.fail.ensures.sides c.fail.ensures.known in
    let stops : Stops (IsFailedPrefix (settled_ops old)) old.device new = stops_settle (g.P.Pmem.seen i.device) new i.head i.sides i.known i.doubt c.is_called_on-on_first.result c.is_called_on-on_second.result c.is_called_on-on_first.ensures c.is_called_on-on_second.ensures c.round_to_settle-first.result c.round_to_settle-second.result c.round_to_settle-first.ensures c.round_to_settle-second.ensures c.in-Err.ensures.err in
    subst (λ (was : PairView). HasFailed (IsFailedPrefix (settled_ops was)) was.doubt was c.fail.result (pair_view new i.head c.fail.new.sides c.fail.new.known i.doubt)) c.self.view_is
    (has_failed_beside (IsFailedPrefix (settled_ops old)) old new c.fail.new.sides c.fail.new.known i.doubt c.fail.result c.self.invariant.0 are (λ ops. cut_spares old.head (settled_ops old) ops (settled_spares old)) (stops_by (IsFailedPrefix (settled_ops old)) old.device new c.fail.result c.faults-from.result c.faults-to.result c.fail.ensures.fault c.faults-from.ensures c.faults-to.ensures stops))

pub returns-in-Ok-clause-safe : goal.returns-in-Ok-clause-safe
returns-in-Ok-clause-safe g c = settle_covers c.args.self.now (g.P.Pmem.seen c.settle_rounds.new.device) (returns-in-Ok-clause-ok g c).device

pub returns-in-Err-clause-fails_safe : goal.returns-in-Err-clause-fails_safe
returns-in-Err-clause-fails_safe g c = failed_settle_covers c.args.self.now (g.P.Pmem.seen c.settle_rounds.new.device) (returns-in-Err-clause-err g c).device.stops
