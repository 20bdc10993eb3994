-- The round is prepared, stored, and then known for sure.
use Rattle.std.proofs.Common.{List, sym, ap, subst, ◌∙◌}
use Rattle.pb_pmem.specs.declared.line.Line.{Line}
use Rattle.pb_object.specs.declared.kind.Kind.TheVariants.{Queue}
use Rattle.pb_object.specs.Queue.{tail_of}
use Rattle.pb_pair.specs.Store.{IsNext}
use Rattle.pb_engine.specs.View.{EngineView, IsEngine}
use Rattle.pb_queue.specs.Rounds.{added, HasStoredRound, HasFailedRound}
use Rattle.pb_queue.specs.View.{twin_view}
use Rattle.pb_queue.proofs.Finished.{HasBegun, next_of, IsFinished, finished, IsGivenUp, given_up}
use Rattle.pb_queue.proofs.Sound.{engine_of, none_in_doubt, nothing_ahead}
use Rattle.pb_engine.proofs.SameKind.{of_kind_before}
use Rattle.pb_queue.proofs.twin.TwinQueueEngine.round.Goals as goal

pub prepare-requires-clause-none : goal.prepare-requires-clause-none
prepare-requires-clause-none g c =
    let i = c.self.inside in
    nothing_ahead i.pair i.items i.next i.asked.items c.self.invariant (none_in_doubt i.pair i.items i.next i.asked.items c.self.invariant (ap (λ (e : EngineView). e.sure) c.self.view_is ∙ c.requires.sure))

pub store_round-requires-clause-next : goal.store_round-requires-clause-next
store_round-requires-clause-next g c =
    let i = c.self.inside in
    let begun : HasBegun i.pair i.items c.prepare.new.items i.asked.items c.as_slice-in_order.result.now c.args.asks.now.items i.next c.prepare.new.next c.args.self.now c.side_of-side.result = record {
      is = c.self.invariant;
      shown = c.self.view_is;
      sure = c.requires.sure;
      may = c.requires.asks;
      same = c.as_slice-in_order.ensures.value;
      side_is = c.side_of-side.ensures;
      served = c.prepare.ensures.items;
      bounded = c.prepare.ensures.bounded;
      next = c.prepare.ensures.lines;
    } in
    subst (λ (ls : List Line). IsNext i.pair c.side_of-side.result ls) (sym c.lines.ensures) (next_of i.pair i.items c.prepare.new.items i.asked.items c.as_slice-in_order.result.now c.args.asks.now.items i.next c.prepare.new.next c.args.self.now c.side_of-side.result begun)

pub invariant_of-self : goal.invariant_of-self
invariant_of-self g c =
    let i = c.self.inside in
    let begun : HasBegun i.pair i.items c.prepare.new.items i.asked.items c.as_slice-in_order.result.now c.args.asks.now.items i.next c.prepare.new.next c.args.self.now c.side_of-side.result = record {
      is = c.self.invariant;
      shown = c.self.view_is;
      sure = c.requires.sure;
      may = c.requires.asks;
      same = c.as_slice-in_order.ensures.value;
      side_is = c.side_of-side.ensures;
      served = c.prepare.ensures.items;
      bounded = c.prepare.ensures.bounded;
      next = c.prepare.ensures.lines;
    } in
    let stored = subst (λ (ls : List Line). HasStoredRound (tail_of c.prepare.new.items.sure) (added c.prepare.new.items) c.side_of-side.result ls i.pair c.store_round.new.pair) c.lines.ensures c.in-Ok.ensures.ok in
    let is : IsFinished c.args.self.now (twin_view c.store_round.new.pair c.confirm.new.self i.asked.items) c.store_round.new.pair c.confirm.new.self c.args.asks.now.items i.asked.items c.prepare.new.next =
    finished i.pair c.store_round.new.pair i.items c.prepare.new.items c.confirm.new.self i.asked.items c.as_slice-in_order.result.now c.args.asks.now.items i.next c.prepare.new.next c.args.self.now c.side_of-side.result begun stored c.confirm.ensures in
    is.twin

pub returns-in-Ok-clause-ok : goal.returns-in-Ok-clause-ok
returns-in-Ok-clause-ok g c =
    let i = c.self.inside in
    let begun : HasBegun i.pair i.items c.prepare.new.items i.asked.items c.as_slice-in_order.result.now c.args.asks.now.items i.next c.prepare.new.next c.args.self.now c.side_of-side.result = record {
      is = c.self.invariant;
      shown = c.self.view_is;
      sure = c.requires.sure;
      may = c.requires.asks;
      same = c.as_slice-in_order.ensures.value;
      side_is = c.side_of-side.ensures;
      served = c.prepare.ensures.items;
      bounded = c.prepare.ensures.bounded;
      next = c.prepare.ensures.lines;
    } in
    let stored = subst (λ (ls : List Line). HasStoredRound (tail_of c.prepare.new.items.sure) (added c.prepare.new.items) c.side_of-side.result ls i.pair c.store_round.new.pair) c.lines.ensures c.in-Ok.ensures.ok in
    let is : IsFinished c.args.self.now (twin_view c.store_round.new.pair c.confirm.new.self i.asked.items) c.store_round.new.pair c.confirm.new.self c.args.asks.now.items i.asked.items c.prepare.new.next =
    finished i.pair c.store_round.new.pair i.items c.prepare.new.items c.confirm.new.self i.asked.items c.as_slice-in_order.result.now c.args.asks.now.items i.next c.prepare.new.next c.args.self.now c.side_of-side.result begun stored c.confirm.ensures in
    is.made

pub returns-in-Ok-clause-safe : goal.returns-in-Ok-clause-safe
returns-in-Ok-clause-safe g c =
    let i = c.self.inside in
    let begun : HasBegun i.pair i.items c.prepare.new.items i.asked.items c.as_slice-in_order.result.now c.args.asks.now.items i.next c.prepare.new.next c.args.self.now c.side_of-side.result = record {
      is = c.self.invariant;
      shown = c.self.view_is;
      sure = c.requires.sure;
      may = c.requires.asks;
      same = c.as_slice-in_order.ensures.value;
      side_is = c.side_of-side.ensures;
      served = c.prepare.ensures.items;
      bounded = c.prepare.ensures.bounded;
      next = c.prepare.ensures.lines;
    } in
    let stored = subst (λ (ls : List Line). HasStoredRound (tail_of c.prepare.new.items.sure) (added c.prepare.new.items) c.side_of-side.result ls i.pair c.store_round.new.pair) c.lines.ensures c.in-Ok.ensures.ok in
    let is : IsFinished c.args.self.now (twin_view c.store_round.new.pair c.confirm.new.self i.asked.items) c.store_round.new.pair c.confirm.new.self c.args.asks.now.items i.asked.items c.prepare.new.next =
    finished i.pair c.store_round.new.pair i.items c.prepare.new.items c.confirm.new.self i.asked.items c.as_slice-in_order.result.now c.args.asks.now.items i.next c.prepare.new.next c.args.self.now c.side_of-side.result begun stored c.confirm.ensures in
    is.safe

pub returns-in-Ok-clause-sound : goal.returns-in-Ok-clause-sound
returns-in-Ok-clause-sound g c =
    let i = c.self.inside in
    let begun : HasBegun i.pair i.items c.prepare.new.items i.asked.items c.as_slice-in_order.result.now c.args.asks.now.items i.next c.prepare.new.next c.args.self.now c.side_of-side.result = record {
      is = c.self.invariant;
      shown = c.self.view_is;
      sure = c.requires.sure;
      may = c.requires.asks;
      same = c.as_slice-in_order.ensures.value;
      side_is = c.side_of-side.ensures;
      served = c.prepare.ensures.items;
      bounded = c.prepare.ensures.bounded;
      next = c.prepare.ensures.lines;
    } in
    let stored = subst (λ (ls : List Line). HasStoredRound (tail_of c.prepare.new.items.sure) (added c.prepare.new.items) c.side_of-side.result ls i.pair c.store_round.new.pair) c.lines.ensures c.in-Ok.ensures.ok in
    let is : IsFinished c.args.self.now (twin_view c.store_round.new.pair c.confirm.new.self i.asked.items) c.store_round.new.pair c.confirm.new.self c.args.asks.now.items i.asked.items c.prepare.new.next =
    finished i.pair c.store_round.new.pair i.items c.prepare.new.items c.confirm.new.self i.asked.items c.as_slice-in_order.result.now c.args.asks.now.items i.next c.prepare.new.next c.args.self.now c.side_of-side.result begun stored c.confirm.ensures in
    of_kind_before Queue c.args.self.now _ (subst (IsEngine Queue) c.self.view_is (engine_of i.pair i.items i.next i.asked.items c.self.invariant))
    (is.sound)

pub invariant_of-self-in-Err : goal.invariant_of-self-in-Err
invariant_of-self-in-Err g c =
    let i = c.self.inside in
    let begun : HasBegun i.pair i.items c.prepare.new.items i.asked.items c.as_slice-in_order.result.now c.args.asks.now.items i.next c.prepare.new.next c.args.self.now c.side_of-side.result = record {
      is = c.self.invariant;
      shown = c.self.view_is;
      sure = c.requires.sure;
      may = c.requires.asks;
      same = c.as_slice-in_order.ensures.value;
      side_is = c.side_of-side.ensures;
      served = c.prepare.ensures.items;
      bounded = c.prepare.ensures.bounded;
      next = c.prepare.ensures.lines;
    } in
    let fails = subst (λ (ls : List Line). HasFailedRound (tail_of c.prepare.new.items.sure) (added c.prepare.new.items) c.side_of-side.result ls i.pair c.in-Err.fault c.store_round.new.pair) c.lines.ensures c.in-Err.ensures.err in
    let is : IsGivenUp c.in-Err.fault c.args.self.now (twin_view c.store_round.new.pair c.prepare.new.items c.keep.new.asked.items) c.store_round.new.pair c.prepare.new.items c.args.asks.now.items c.keep.new.asked.items c.prepare.new.next =
    given_up i.pair c.store_round.new.pair c.in-Err.fault i.items c.prepare.new.items i.asked.items c.keep.new.asked.items c.as_slice-in_order.result.now c.args.asks.now.items i.next c.prepare.new.next c.args.self.now c.side_of-side.result begun fails c.keep.ensures in
    is.twin

pub returns-in-Err-clause-err : goal.returns-in-Err-clause-err
returns-in-Err-clause-err g c =
    let i = c.self.inside in
    let begun : HasBegun i.pair i.items c.prepare.new.items i.asked.items c.as_slice-in_order.result.now c.args.asks.now.items i.next c.prepare.new.next c.args.self.now c.side_of-side.result = record {
      is = c.self.invariant;
      shown = c.self.view_is;
      sure = c.requires.sure;
      may = c.requires.asks;
      same = c.as_slice-in_order.ensures.value;
      side_is = c.side_of-side.ensures;
      served = c.prepare.ensures.items;
      bounded = c.prepare.ensures.bounded;
      next = c.prepare.ensures.lines;
    } in
    let fails = subst (λ (ls : List Line). HasFailedRound (tail_of c.prepare.new.items.sure) (added c.prepare.new.items) c.side_of-side.result ls i.pair c.in-Err.fault c.store_round.new.pair) c.lines.ensures c.in-Err.ensures.err in
    let is : IsGivenUp c.in-Err.fault c.args.self.now (twin_view c.store_round.new.pair c.prepare.new.items c.keep.new.asked.items) c.store_round.new.pair c.prepare.new.items c.args.asks.now.items c.keep.new.asked.items c.prepare.new.next =
    given_up i.pair c.store_round.new.pair c.in-Err.fault i.items c.prepare.new.items i.asked.items c.keep.new.asked.items c.as_slice-in_order.result.now c.args.asks.now.items i.next c.prepare.new.next c.args.self.now c.side_of-side.result begun fails c.keep.ensures in
    is.failed

pub returns-in-Err-clause-fails_safe : goal.returns-in-Err-clause-fails_safe
returns-in-Err-clause-fails_safe g c =
    let i = c.self.inside in
    let begun : HasBegun i.pair i.items c.prepare.new.items i.asked.items c.as_slice-in_order.result.now c.args.asks.now.items i.next c.prepare.new.next c.args.self.now c.side_of-side.result = record {
      is = c.self.invariant;
      shown = c.self.view_is;
      sure = c.requires.sure;
      may = c.requires.asks;
      same = c.as_slice-in_order.ensures.value;
      side_is = c.side_of-side.ensures;
      served = c.prepare.ensures.items;
      bounded = c.prepare.ensures.bounded;
      next = c.prepare.ensures.lines;
    } in
    let fails = subst (λ (ls : List Line). HasFailedRound (tail_of c.prepare.new.items.sure) (added c.prepare.new.items) c.side_of-side.result ls i.pair c.in-Err.fault c.store_round.new.pair) c.lines.ensures c.in-Err.ensures.err in
    let is : IsGivenUp c.in-Err.fault c.args.self.now (twin_view c.store_round.new.pair c.prepare.new.items c.keep.new.asked.items) c.store_round.new.pair c.prepare.new.items c.args.asks.now.items c.keep.new.asked.items c.prepare.new.next =
    given_up i.pair c.store_round.new.pair c.in-Err.fault i.items c.prepare.new.items i.asked.items c.keep.new.asked.items c.as_slice-in_order.result.now c.args.asks.now.items i.next c.prepare.new.next c.args.self.now c.side_of-side.result begun fails c.keep.ensures in
    is.safe

pub returns-in-Err-clause-sound : goal.returns-in-Err-clause-sound
returns-in-Err-clause-sound g c =
    let i = c.self.inside in
    let begun : HasBegun i.pair i.items c.prepare.new.items i.asked.items c.as_slice-in_order.result.now c.args.asks.now.items i.next c.prepare.new.next c.args.self.now c.side_of-side.result = record {
      is = c.self.invariant;
      shown = c.self.view_is;
      sure = c.requires.sure;
      may = c.requires.asks;
      same = c.as_slice-in_order.ensures.value;
      side_is = c.side_of-side.ensures;
      served = c.prepare.ensures.items;
      bounded = c.prepare.ensures.bounded;
      next = c.prepare.ensures.lines;
    } in
    let fails = subst (λ (ls : List Line). HasFailedRound (tail_of c.prepare.new.items.sure) (added c.prepare.new.items) c.side_of-side.result ls i.pair c.in-Err.fault c.store_round.new.pair) c.lines.ensures c.in-Err.ensures.err in
    let is : IsGivenUp c.in-Err.fault c.args.self.now (twin_view c.store_round.new.pair c.prepare.new.items c.keep.new.asked.items) c.store_round.new.pair c.prepare.new.items c.args.asks.now.items c.keep.new.asked.items c.prepare.new.next =
    given_up i.pair c.store_round.new.pair c.in-Err.fault i.items c.prepare.new.items i.asked.items c.keep.new.asked.items c.as_slice-in_order.result.now c.args.asks.now.items i.next c.prepare.new.next c.args.self.now c.side_of-side.result begun fails c.keep.ensures in
    of_kind_before Queue c.args.self.now _ (subst (IsEngine Queue) c.self.view_is (engine_of i.pair i.items i.next i.asked.items c.self.invariant))
    (is.sound)
