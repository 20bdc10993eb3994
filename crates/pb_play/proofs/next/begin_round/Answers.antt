use Rattle.std.proofs.Common.{◌+◌, ◌++◌, List, Some, ap, sym, subst, ◌∙◌, arith}
use Rattle.pb_object.specs.declared.request.Ask.{Ask}
use Rattle.pb_layout.specs.RegionOps.{store_over}
use Rattle.pb_layout.specs.Represents.{record_in_use}
use Rattle.pb_core.specs.Memory.{shown}
use Rattle.pb_engine.specs.Asks.{asked_round}
use Rattle.pb_play.specs.declared.calls.Calls.{Calls}
use Rattle.pb_play.specs.declared.memory.Memory.{Memory}
use Rattle.pb_round_play.specs.declared.rounds.Rounds.{Rounds}
use Rattle.pb_play.specs.declared.world.World.{World}
use Rattle.pb_round_play.specs.Rounds.{MayBegin, MakesRecord}
use Rattle.pb_play.specs.Rounds.{scanned_asks}
use Rattle.pb_play.specs.Seats.{begins_round}
use Rattle.pb_play.proofs.Beginning.{may_begin, begins_on}
use Rattle.pb_round_play.proofs.NextRecords.{side_is_there, few_rounds}
use Rattle.pb_play.proofs.next.begin_round.Goals as goal

pub make_record-requires-clause-may : goal.make_record-requires-clause-may
make_record-requires-clause-may c =
    let held = c.requires.held in
    let repeated = c.repeat_rows.ensures.is in (
      shown held.world.memory,
      subst (λ (r : Rounds). MayBegin c.args.world.now.head c.args.world.now.device.lines.items r (scanned_asks c.repeat_rows.new.memory) c.args.side (shown held.world.memory)) (ap (λ (m : Memory). m.rounds) (sym repeated))
          (subst (λ (asks : List Ask). MayBegin c.args.world.now.head c.args.world.now.device.lines.items c.args.world.now.memory.rounds asks c.args.side (shown held.world.memory)) (ap scanned_asks (sym repeated))
          (may_begin (record { is = held.is; shows = held.shows; holds = held.holds; there = held.there; over = c.requires.over; idle = c.requires.idle }))),
    )

pub plan_store-requires-clause-side : goal.plan_store-requires-clause-side
plan_store-requires-clause-side c =
    let held = c.requires.held in
    side_is_there (shown held.world.memory) (may_begin (record { is = held.is; shows = held.shows; holds = held.holds; there = held.there; over = c.requires.over; idle = c.requires.idle }))

pub plan_store-requires-clause-rounds : goal.plan_store-requires-clause-rounds
plan_store-requires-clause-rounds c =
    let held = c.requires.held in
    omega (arith, c.of-rounds.ensures, few_rounds (shown held.world.memory) (may_begin (record { is = held.is; shows = held.shows; holds = held.holds; there = held.there; over = c.requires.over; idle = c.requires.idle })))

pub returns-clause-on : goal.returns-clause-on
returns-clause-on c = λ w client is s holds there.
    let old = c.args.world.now in
    let new = c.make_record.new.world in
    let frame = c.make_record.ensures.frame in
    let repeated = c.repeat_rows.ensures.is in
    begins_on (record { is = is; shows = s; holds = holds; there = there; over = c.requires.over; idle = c.requires.idle }) (record {
      repeated = c.repeat_rows.new.memory;
      repeats = c.repeat_rows.ensures;
      long = c.repeat_rows.ensures.places;
      rows = new.memory.seats;
      cells = new.calls.plan.items;
      made = λ standing may.
          subst (λ (asks : List Ask). MakesRecord old.device.lines.items standing (asked_round standing asks) c.repeat_rows.new.memory.seats new.next.items new.memory.seats new.calls.plan.items) (ap scanned_asks repeated)
          (c.make_record.ensures.made standing
          (subst (λ (r : Rounds). MayBegin old.head old.device.lines.items r (scanned_asks c.repeat_rows.new.memory) c.args.side standing) (ap (λ (m : Memory). m.rounds) (sym repeated))
          (subst (λ (asks : List Ask). MayBegin old.head old.device.lines.items old.memory.rounds asks c.args.side standing) (ap scanned_asks (sym repeated)) may)));
      count = c.of-rounds.result;
      counted = c.of-rounds.ensures;
      plan = ap (λ (q : Calls). q.plan.items) c.begin.ensures
          ∙ (c.plan_store.ensures.plan
          ∙ (λ i. new.calls.plan.items ++ store_over old.head c.args.side c.of-rounds.result (Some (record_in_use ((c.deref.ensures.value ∙ ap (λ (v : World). v.device.lines.items) frame) i) old.head c.args.side (c.of-rounds.result + 1))) (c.deref-2.ensures.value i)));
      going = ap (λ (q : Calls). q.going) c.begin.ensures;
      none = ap (λ (q : Calls). q.made) c.begin.ensures;
      memory = c.write_ahead.ensures ∙ ap (λ (v : World). begins_round c.args.side v.memory) frame;
      device = ap (λ (v : World). v.device) frame;
      head = ap (λ (v : World). v.head) frame;
    })
