use Rattle.std.proofs.Common.{◌≡◌, ◌≢◌, ◌-◌, List, [], arith, ap, sym, subst, ◌∙◌}
use Rattle.pb_pmem.specs.declared.line.Line.{Line}
use Rattle.pb_pmem.specs.declared.log.LogOp.{LogOp}
use Rattle.pb_pmem.specs.Lines.{word_of}
use Rattle.pb_object.specs.declared.kind.Kind.TheVariants.{Queue}
use Rattle.pb_object.specs.declared.request.Ask.{Ask}
use Rattle.pb_layout.specs.Header.{record_length}
use Rattle.pb_layout.specs.Represents.{record_in_use}
use Rattle.pb_pair.proofs.Opened.{written_whole}
use Rattle.pb_layout.specs.Represents.{object_part}
use Rattle.pb_core.specs.Play.{ListsRising}
use Rattle.pb_engine.specs.Asks.{state_from, asked_round}
use Rattle.pb_comb.specs.Serving as comb
use Rattle.pb_queue.specs.Serving as queue
use Rattle.pb_round_play.specs.Items.{ItemsFit}
use Rattle.pb_round_play.specs.Rounds.{MakesRecord}
use Rattle.pb_play.specs.Rounds.{scanned_asks}
use Rattle.pb_round_play.specs.Serving.{HasServed, HoldsQueue, HasServedQueue}
use Rattle.pb_round_play.proofs.NextRecords.{side_is_there, few_rounds, comb_servable, queue_servable, before_is, kind_in, size_in, object_stands, one_made, queue_region, holds_queue, queue_made, apart_map, apart_stack, apart_heap, map_or_heap, stack_or_heap}
use Rattle.pb_play.proofs.next.make_record.Goals as goal

pub split_at-requires : goal.split_at-requires
split_at-requires c = omega (arith, c.requires.met)

pub record-before-requires-clause-side : goal.record-before-requires-clause-side
record-before-requires-clause-side c = side_is_there c.requires.may.0 c.requires.may.1

pub overflow_add-of : goal.overflow_add-of
overflow_add-of c = omega (arith, c.of-2.ensures, few_rounds c.requires.may.0 c.requires.may.1)

pub serve-requires-clause-asks : goal.serve-requires-clause-asks
serve-requires-clause-asks c =
    subst (comb.AreServable c.args.world.now.head.kind c.record-before.result.now) (sym c.split_at.ensures.front)
    (comb_servable c.requires.may.0 c.record-before.result.now c.requires.may.1 c.record-before.ensures.long)

pub serve-requires-in-Stack-clause-asks : goal.serve-requires-in-Stack-clause-asks
serve-requires-in-Stack-clause-asks c =
    subst (comb.AreServable c.args.world.now.head.kind c.record-before.result.now) (sym c.split_at.ensures.front)
    (comb_servable c.requires.may.0 c.record-before.result.now c.requires.may.1 c.record-before.ensures.long)

pub serve_heap-requires-clause-asks : goal.serve_heap-requires-clause-asks
serve_heap-requires-clause-asks c =
    subst (comb.AreServable c.args.world.now.head.kind c.record-before.result.now) (sym c.split_at.ensures.front)
    (comb_servable c.requires.may.0 c.record-before.result.now c.requires.may.1 c.record-before.ensures.long)

pub serve_queue-requires-clause-asks : goal.serve_queue-requires-clause-asks
serve_queue-requires-clause-asks c =
    subst (queue.AreServable c.args.side c.record-before.result.now) (sym c.split_at.ensures.front)
    (queue_servable c.requires.may.0 c.record-before.result.now c.requires.may.1 c.record-before.ensures.long)

pub returns-in-Map-clause-made : goal.returns-in-Map-clause-made
returns-in-Map-clause-made c = λ s may.
    let lines = c.args.world.now.device.lines.items in
    let head = c.args.world.now.head in
    let before = c.record-before.result.now in
    let asks : c.split_at.result.0.now ≡ scanned_asks c.args.world.now.memory = c.split_at.ensures.front in
    let no_queue : head.kind ≢ Queue = λ queue. absurd (apart_map (sym (subst (ItemsFit head) c.in-Map.is c.requires.items).0 ∙ queue)) in
    let is = before_is s c.of.result before may c.of.ensures (c.record-before.ensures.is ∙ ap (λ (ls : List Line). record_in_use ls head c.args.side c.of.result) c.as_slice-lines.ensures.value) in
    let did = c.serve.ensures.served s.state (kind_in s may) (size_in s may) (object_stands s before may no_queue is) in
    subst (λ (ls : List Line). MakesRecord lines s (asked_round s (scanned_asks c.args.world.now.memory)) c.args.world.now.memory.seats ls c.serve.new.seats c.args.world.now.calls.plan.items)
    (sym (written_whole c.args.world.now.next.len c.serve.new.next c.args.world.now.next.items (c.serve.ensures.next ∙ sym c.requires.next) c.args.world.now.next.ok.0))
    (one_made s c.of-2.result may no_queue is c.record-before.ensures.long c.of-2.ensures c.begin_record.ensures
    (subst (λ (l : List Ask). HasServed head before s.state l c.begin_record.new.next c.serve.new.next c.args.world.now.memory.seats c.serve.new.seats) asks did.0) (λ heap. absurd (map_or_heap (sym (subst (ItemsFit head) c.in-Map.is c.requires.items).0 ∙ heap))) c.requires.plan)

pub returns-in-Stack-clause-made : goal.returns-in-Stack-clause-made
returns-in-Stack-clause-made c = λ s may.
    let lines = c.args.world.now.device.lines.items in
    let head = c.args.world.now.head in
    let before = c.record-before.result.now in
    let asks : c.split_at.result.0.now ≡ scanned_asks c.args.world.now.memory = c.split_at.ensures.front in
    let no_queue : head.kind ≢ Queue = λ queue. absurd (apart_stack (sym (subst (ItemsFit head) c.in-Stack.is c.requires.items).0 ∙ queue)) in
    let is = before_is s c.of.result before may c.of.ensures (c.record-before.ensures.is ∙ ap (λ (ls : List Line). record_in_use ls head c.args.side c.of.result) c.as_slice-lines.ensures.value) in
    let did = c.serve-in-Stack.ensures.served s.state (kind_in s may) (size_in s may) (object_stands s before may no_queue is) in
    subst (λ (ls : List Line). MakesRecord lines s (asked_round s (scanned_asks c.args.world.now.memory)) c.args.world.now.memory.seats ls c.serve-in-Stack.new.seats c.args.world.now.calls.plan.items)
    (sym (written_whole c.args.world.now.next.len c.serve-in-Stack.new.next c.args.world.now.next.items (c.serve-in-Stack.ensures.next ∙ sym c.requires.next) c.args.world.now.next.ok.0))
    (one_made s c.of-2.result may no_queue is c.record-before.ensures.long c.of-2.ensures c.begin_record.ensures
    (subst (λ (l : List Ask). HasServed head before s.state l c.begin_record.new.next c.serve-in-Stack.new.next c.args.world.now.memory.seats c.serve-in-Stack.new.seats) asks did.0) (λ heap. absurd (stack_or_heap (sym (subst (ItemsFit head) c.in-Stack.is c.requires.items).0 ∙ heap))) c.requires.plan)

pub returns-in-Heap-clause-made : goal.returns-in-Heap-clause-made
returns-in-Heap-clause-made c = λ s may.
    let lines = c.args.world.now.device.lines.items in
    let head = c.args.world.now.head in
    let before = c.record-before.result.now in
    let asks : c.split_at.result.0.now ≡ scanned_asks c.args.world.now.memory = c.split_at.ensures.front in
    let no_queue : head.kind ≢ Queue = λ queue. absurd (apart_heap (sym (subst (ItemsFit head) c.in-Heap.is c.requires.items).0 ∙ queue)) in
    let is = before_is s c.of.result before may c.of.ensures (c.record-before.ensures.is ∙ ap (λ (ls : List Line). record_in_use ls head c.args.side c.of.result) c.as_slice-lines.ensures.value) in
    let did = c.serve_heap.ensures.served s.state (kind_in s may) (size_in s may) (object_stands s before may no_queue is) in
    subst (λ (ls : List Line). MakesRecord lines s (asked_round s (scanned_asks c.args.world.now.memory)) c.args.world.now.memory.seats ls c.serve_heap.new.seats c.args.world.now.calls.plan.items)
    (sym (written_whole c.args.world.now.next.len c.serve_heap.new.next c.args.world.now.next.items (c.serve_heap.ensures.next ∙ sym c.requires.next) c.args.world.now.next.ok.0))
    (one_made s c.of-2.result may no_queue is c.record-before.ensures.long c.of-2.ensures c.begin_record.ensures
    (subst (λ (l : List Ask). HasServed head before s.state l c.begin_record.new.next c.serve_heap.new.next c.args.world.now.memory.seats c.serve_heap.new.seats) asks did.0) (λ heap. subst (λ (l : List Ask). ListsRising (state_from s.state l) (object_part head c.serve_heap.new.next)) asks did.1) c.requires.plan)

pub returns-in-Queue-clause-made : goal.returns-in-Queue-clause-made
returns-in-Queue-clause-made c = λ s may.
    let lines = c.args.world.now.device.lines.items in
    let head = c.args.world.now.head in
    let before = c.record-before.result.now in
    let asks : c.split_at.result.0.now ≡ scanned_asks c.args.world.now.memory = c.split_at.ensures.front in
    let is_queue = subst (ItemsFit head) c.in-Queue.is c.requires.items in
    let region = queue_region s may is_queue in
    let same : c.as_slice-lines.result.now ≡ lines = c.as_slice-lines.ensures.value in
    let is = before_is s c.of.result before may c.of.ensures (c.record-before.ensures.is ∙ ap (λ (ls : List Line). record_in_use ls head c.args.side c.of.result) same) in
    let did = c.serve_queue.ensures.served region.0
    (subst (λ (ls : List Line). HoldsQueue head ls c.ends_in-ends.result region.0) (sym same)
    (holds_queue s region.0 c.ends_in-ends.result may region.1 (c.ends_in-ends.ensures.head ∙ ap (λ (ls : List Line). word_of (record_in_use ls head 1 c.args.world.now.memory.rounds.second) (record_length head - 1) 0) same)
    (c.ends_in-ends.ensures.tail ∙ ap (λ (ls : List Line). word_of (record_in_use ls head 0 c.args.world.now.memory.rounds.first) (record_length head - 1) 0) same))) in
    subst (λ (ls : List Line). MakesRecord lines s (asked_round s (scanned_asks c.args.world.now.memory)) c.args.world.now.memory.seats ls c.serve_queue.new.seats c.serve_queue.new.plan.items)
    (sym (written_whole c.args.world.now.next.len c.serve_queue.new.next c.args.world.now.next.items (c.serve_queue.ensures.next ∙ sym c.requires.next) c.args.world.now.next.ok.0))
    (queue_made s region.0 c.of-2.result may region.1 is c.of-2.ensures c.begin_record.ensures
    (subst (λ (l : List Ask). HasServedQueue head before c.args.side region.0 l c.begin_record.new.next c.serve_queue.new.next c.args.world.now.memory.seats c.serve_queue.new.seats [] c.serve_queue.new.plan.items) asks
    (subst (λ (l : List LogOp). HasServedQueue head before c.args.side region.0 c.split_at.result.0.now c.begin_record.new.next c.serve_queue.new.next c.args.world.now.memory.seats c.serve_queue.new.seats l c.serve_queue.new.plan.items) c.requires.plan did)))
