use Rattle.std.proofs.Common.{ℕ, ◌+◌, ◌*◌, ◌<◌, [], ◌∷◌, sym, subst}
use Rattle.pb_object.specs.declared.kind.Kind.TheVariants.{Queue}
use Rattle.pb_object.specs.ObjectLines.{IsAllowedLine, IsFirstRefused}
use Rattle.pb_layout.specs.Record.{IsFirstWithout}
use Rattle.pb_layout.specs.Represents.{IsApart}
use Rattle.pb_layout.specs.declared.header.Header.{Header}
use Rattle.pb_pair.specs.View.{at_side}
use Rattle.pb_queue.specs.Recovery.{IsBadRecordLine}
use Rattle.pb_queue.proofs.QueueRecords.{AreJudged, bad_count_is, shared_is, good_records}
use Rattle.pb_queue.proofs.recovery.first_bad_line.Goals as goal

pub returns-in-Some : goal.returns-in-Some
returns-in-Some g c =
    let are : AreJudged c.args.pair.now c.header-head.result c.lines_of-puts.result.now c.lines_of-takes.result.now c.counted.result c.counted-2.result = record { queue = c.requires; sound = c.header-head.ensures.sound; head_is = c.header-head.ensures.head; puts_are = c.lines_of-puts.ensures; takes_are = c.lines_of-takes.ensures; first_is = c.counted.ensures; second_is = c.counted-2.ensures } in
    let refused = subst (λ (h : Header). IsFirstRefused Queue h.size (c.counted.result ∷ c.counted-2.result ∷ []) c.in-Some.side) c.head.view_is c.in-Some.ensures in
    subst (λ (h : Header). IsBadRecordLine c.args.pair.now (c.record_begin.result + 1 + 8 * h.clients)) (sym c.head.view_is)
    (bad_count_is c.args.pair.now c.header-head.result c.lines_of-puts.result.now c.lines_of-takes.result.now c.counted.result c.counted-2.result c.in-Some.side c.record_begin.result are c.record_begin.ensures.place refused)

pub returns-in-Some-first_shared : goal.returns-in-Some-first_shared
returns-in-Some-first_shared g c =
    let are : AreJudged c.args.pair.now c.header-head.result c.lines_of-puts.result.now c.lines_of-takes.result.now c.counted.result c.counted-2.result = record { queue = c.requires; sound = c.header-head.ensures.sound; head_is = c.header-head.ensures.head; puts_are = c.lines_of-puts.ensures; takes_are = c.lines_of-takes.ensures; first_is = c.counted.ensures; second_is = c.counted-2.ensures } in
    let allowed = subst (λ (h : Header). (line : ℕ) → line < 2 → IsAllowedLine Queue h.size (c.counted.result ∷ c.counted-2.result ∷ []) line) c.head.view_is c.in_default.ensures in
    let shared = subst (λ (h : Header). IsFirstWithout (IsApart (at_side c.lines_of-puts.result.now c.lines_of-takes.result.now)) (8 * h.clients) c.in-Some-first_shared.slot) c.head.view_is c.in-Some-first_shared.ensures in
    shared_is c.args.pair.now c.header-head.result c.lines_of-puts.result.now c.lines_of-takes.result.now c.counted.result c.counted-2.result c.in-Some-first_shared.slot c.record_begin-in-Some-first_shared.result are allowed c.record_begin-in-Some-first_shared.ensures.place shared

pub returns-in-None : goal.returns-in-None
returns-in-None g c =
    let are : AreJudged c.args.pair.now c.header-head.result c.lines_of-puts.result.now c.lines_of-takes.result.now c.counted.result c.counted-2.result = record { queue = c.requires; sound = c.header-head.ensures.sound; head_is = c.header-head.ensures.head; puts_are = c.lines_of-puts.ensures; takes_are = c.lines_of-takes.ensures; first_is = c.counted.ensures; second_is = c.counted-2.ensures } in
    let allowed = subst (λ (h : Header). (line : ℕ) → line < 2 → IsAllowedLine Queue h.size (c.counted.result ∷ c.counted-2.result ∷ []) line) c.head.view_is c.in_default.ensures in
    let apart = subst (λ (h : Header). (slot : ℕ) → slot < 8 * h.clients → IsApart (at_side c.lines_of-puts.result.now c.lines_of-takes.result.now) slot) c.head.view_is c.in-None.ensures in
    good_records c.args.pair.now c.header-head.result c.lines_of-puts.result.now c.lines_of-takes.result.now c.counted.result c.counted-2.result are allowed apart
