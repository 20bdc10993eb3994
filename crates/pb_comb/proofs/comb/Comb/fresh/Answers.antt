-- The first record is zeros and the fresh object's lines.
use Rattle.std.proofs.Common.{List, [], sym, subst, ◌∙◌, ap}
use Rattle.pb_pmem.specs.declared.line.Line.{Line}
use Rattle.pb_object.specs.declared.kind.Kind.{Kind}
use Rattle.pb_object.specs.declared.request.Ask.{Ask}
use Rattle.pb_layout.specs.declared.header.Header.{Header}
use Rattle.pb_layout.specs.Shape.{IsHeader}
use Rattle.pb_pair.specs.Format.{IsFormatted, AreFirst, IsFormatRefusal}
use Rattle.pb_pair.specs.Safe.{FormatCovers, FailedFormatCovers}
use Rattle.pb_pair.specs.View.{SideView}
use Rattle.pb_engine.specs.Opening.{IsFreshEngine, IsFreshRefusal}
use Rattle.pb_comb.specs.View.{comb_view, IsComb}
use Rattle.pb_comb.proofs.Opening.{AreFirstLines, first_lines, are_first, fresh_records, fresh_is, fresh_refusal, no_memory, resting, long_first}
use Rattle.pb_comb.proofs.comb.Comb.fresh.Goals as goal

pub returns-in_default-clause-err : goal.returns-in_default-clause-err
returns-in_default-clause-err g c =
    let head : Header = record { kind = g.O.Object.KIND; clients = c.args.clients; size = c.args.size } in
    no_memory head (g.P.Pmem.seen c.args.device) (g.met.P.Pmem.is_whole c.args.device) (g.met.P.Pmem.is_replay c.args.device)

pub format-requires : goal.format-requires
format-requires g c =
    let head : Header = record { kind = c.KIND.result; clients = c.args.clients; size = c.args.size } in
    let valid : IsHeader head = record { some_clients = c.requires.some_clients; few_clients = c.requires.few_clients; some_size = c.requires.some_size; small_size = c.requires.small_size } in
    let state = g.O.Object.state c.in-Ok.memory.object in
    let zeros : List Line = c.in-Ok.memory.next in
    let lines : List Line = c.put_object.new.self in
    let is : AreFirstLines head state zeros lines = first_lines g.O.Object.KIND c.KIND.result c.args.clients c.args.size state zeros lines c.KIND.ensures g.met.O.Object.is_no_queue valid c.in-Ok.ensures.object c.in-Ok.ensures.next c.put_object.ensures.others c.put_object.ensures.objects in
    subst (λ (ls : List Line). AreFirst head ls []) (sym c.lines.ensures) (are_first head state zeros lines is)

pub invariant_of-result : goal.invariant_of-result
invariant_of-result g c =
    let head : Header = record { kind = c.KIND.result; clients = c.args.clients; size = c.args.size } in
    let valid : IsHeader head = record { some_clients = c.requires.some_clients; few_clients = c.requires.few_clients; some_size = c.requires.some_size; small_size = c.requires.small_size } in
    let state = g.O.Object.state c.in-Ok.memory.object in
    let zeros : List Line = c.in-Ok.memory.next in
    let lines : List Line = c.put_object.new.self in
    let is : AreFirstLines head state zeros lines = first_lines g.O.Object.KIND c.KIND.result c.args.clients c.args.size state zeros lines c.KIND.ensures g.met.O.Object.is_no_queue valid c.in-Ok.ensures.object c.in-Ok.ensures.next c.put_object.ensures.others c.put_object.ensures.objects in
    let formatted : IsFormatted head lines [] (g.P.Pmem.seen c.args.device) c.in-Ok-format.pair = subst (λ (ls : List Line). IsFormatted head ls [] (g.P.Pmem.seen c.args.device) c.in-Ok-format.pair) c.lines.ensures c.in-Ok-format.ensures.ok in
    subst (IsComb g.O.Object.KIND c.in-Ok-format.pair state (g.O.Object.state c.in-Ok.memory.ahead) lines) (sym c.new.ensures)
    (resting g.O.Object.KIND c.in-Ok-format.pair state (g.O.Object.state c.in-Ok.memory.ahead) lines formatted.sound (ap (λ (h : Header). h.kind) formatted.head ∙ c.KIND.ensures) g.met.O.Object.is_no_queue (fresh_records head c.in-Ok-format.pair state zeros lines (g.P.Pmem.seen c.args.device) is formatted) (c.in-Ok.ensures.ahead ∙ sym c.in-Ok.ensures.object)
    (long_first head state zeros lines c.in-Ok-format.pair (g.P.Pmem.seen c.args.device) is formatted) (λ sure. sym (ap (λ (part : SideView). part.lines) formatted.first_side)) formatted.doubt)

pub returns-in-Ok-format-clause-ok : goal.returns-in-Ok-format-clause-ok
returns-in-Ok-format-clause-ok g c =
    let head : Header = record { kind = c.KIND.result; clients = c.args.clients; size = c.args.size } in
    let valid : IsHeader head = record { some_clients = c.requires.some_clients; few_clients = c.requires.few_clients; some_size = c.requires.some_size; small_size = c.requires.small_size } in
    let state = g.O.Object.state c.in-Ok.memory.object in
    let zeros : List Line = c.in-Ok.memory.next in
    let lines : List Line = c.put_object.new.self in
    let is : AreFirstLines head state zeros lines = first_lines g.O.Object.KIND c.KIND.result c.args.clients c.args.size state zeros lines c.KIND.ensures g.met.O.Object.is_no_queue valid c.in-Ok.ensures.object c.in-Ok.ensures.next c.put_object.ensures.others c.put_object.ensures.objects in
    let formatted : IsFormatted head lines [] (g.P.Pmem.seen c.args.device) c.in-Ok-format.pair = subst (λ (ls : List Line). IsFormatted head ls [] (g.P.Pmem.seen c.args.device) c.in-Ok-format.pair) c.lines.ensures c.in-Ok-format.ensures.ok in
    let safely = subst (λ (ls : List Line). FormatCovers head ls [] (g.P.Pmem.seen c.args.device) c.in-Ok-format.pair.device) c.lines.ensures c.in-Ok-format.ensures.safe in
    let fresh = fresh_is head c.in-Ok-format.pair state zeros lines (g.P.Pmem.seen c.args.device) is formatted safely (g.met.P.Pmem.is_whole c.args.device) in
    subst (λ (asked : List Ask). IsFreshEngine (record { kind = g.O.Object.KIND; clients = c.args.clients; size = c.args.size }) (g.P.Pmem.seen c.args.device) (comb_view c.in-Ok-format.pair state asked)) (sym c.new.ensures)
    (subst (λ (kind : Kind). IsFreshEngine (record { kind = kind; clients = c.args.clients; size = c.args.size }) (g.P.Pmem.seen c.args.device) (comb_view c.in-Ok-format.pair state [])) c.KIND.ensures fresh)

pub returns-in-Err-clause-err : goal.returns-in-Err-clause-err
returns-in-Err-clause-err g c =
    let head : Header = record { kind = c.KIND.result; clients = c.args.clients; size = c.args.size } in
    let valid : IsHeader head = record { some_clients = c.requires.some_clients; few_clients = c.requires.few_clients; some_size = c.requires.some_size; small_size = c.requires.small_size } in
    let state = g.O.Object.state c.in-Ok.memory.object in
    let zeros : List Line = c.in-Ok.memory.next in
    let lines : List Line = c.put_object.new.self in
    let is : AreFirstLines head state zeros lines = first_lines g.O.Object.KIND c.KIND.result c.args.clients c.args.size state zeros lines c.KIND.ensures g.met.O.Object.is_no_queue valid c.in-Ok.ensures.object c.in-Ok.ensures.next c.put_object.ensures.others c.put_object.ensures.objects in
    let old = g.P.Pmem.seen c.args.device in
    let new = g.P.Pmem.seen c.in-Err.refused.device in
    let refusal = subst (λ (ls : List Line). IsFormatRefusal head ls [] old new c.in-Err.refused.why) c.lines.ensures c.in-Err.ensures.err in
    let safely = subst (λ (ls : List Line). FailedFormatCovers head ls [] old new) c.lines.ensures c.in-Err.ensures.fails_safe in
    subst (λ (kind : Kind). IsFreshRefusal (record { kind = kind; clients = c.args.clients; size = c.args.size }) old new c.in-Err.refused.why) c.KIND.ensures (fresh_refusal head state zeros lines old new c.in-Err.refused.why is refusal safely)
