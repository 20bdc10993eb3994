-- The first records are zeros.
use Rattle.std.proofs.Common.{ℕ, List, ap, sym, subst, replicate, ◌∙◌}
use Rattle.pb_pmem.specs.declared.line.Line.{Line}
use Rattle.pb_pmem.specs.Lines.{zero_line}
use Rattle.pb_object.specs.declared.request.Ask.{Ask}
use Rattle.pb_layout.specs.declared.header.Header.{Header}
use Rattle.pb_pair.specs.Format.{IsFormatted, IsFormatRefusal}
use Rattle.pb_pair.specs.Safe.{FormatCovers, FailedFormatCovers}
use Rattle.pb_engine.specs.Opening.{IsFreshEngine}
use Rattle.pb_queue.specs.View.{twin_view, IsTwin}
use Rattle.pb_queue.proofs.Opening.{queue_header, AreFirstLines, HasFormatted, fresh_twin, fresh_is, fresh_refusal, fresh_memory}
use Rattle.pb_queue.proofs.twin.TwinQueue.fresh.Goals as goal

pub returns-in_default-clause-err : goal.returns-in_default-clause-err
returns-in_default-clause-err g c = fresh_memory c.args.clients c.args.size (g.P.Pmem.seen c.args.device) (g.met.P.Pmem.is_whole c.args.device) (g.met.P.Pmem.is_replay c.args.device)

pub returns-in_default-fresh-clause-err : goal.returns-in_default-fresh-clause-err
returns-in_default-fresh-clause-err g c = fresh_memory c.args.clients c.args.size (g.P.Pmem.seen c.args.device) (g.met.P.Pmem.is_whole c.args.device) (g.met.P.Pmem.is_replay c.args.device)

pub invariant_of-result : goal.invariant_of-result
invariant_of-result g c =
    let old = g.P.Pmem.seen c.args.device in
    let head : Header = queue_header c.args.clients c.args.size in
    let lines : List Line = c.in-Ok-fresh.next in
    let first : AreFirstLines c.args.clients c.args.size lines = record {
      valid = record { some_clients = c.requires.some_clients; few_clients = c.requires.few_clients; some_size = c.requires.some_size; small_size = c.requires.small_size };
      zero = c.in-Ok-fresh.ensures ∙ ap (λ (n : ℕ). replicate n zero_line) c.record_len.ensures.length;
    } in
    let pair = c.in-Ok-format.pair in
    let formatted = subst (λ (ls : List Line). IsFormatted head ls lines old pair) c.lines.ensures (subst (λ (ls : List Line). IsFormatted head c.lines.result.now ls old pair) c.lines-2.ensures c.in-Ok-format.ensures.ok) in
    let has : HasFormatted c.args.clients c.args.size lines old pair c.in-Ok.items = record { first = first; formatted = formatted; items_are = c.in-Ok.ensures } in
    subst (IsTwin pair c.in-Ok.items lines) (sym c.new.ensures) (fresh_twin c.args.clients c.args.size lines old pair c.in-Ok.items has)

pub returns-in-Ok-format-clause-ok : goal.returns-in-Ok-format-clause-ok
returns-in-Ok-format-clause-ok g c =
    let old = g.P.Pmem.seen c.args.device in
    let head : Header = queue_header c.args.clients c.args.size in
    let lines : List Line = c.in-Ok-fresh.next in
    let first : AreFirstLines c.args.clients c.args.size lines = record {
      valid = record { some_clients = c.requires.some_clients; few_clients = c.requires.few_clients; some_size = c.requires.some_size; small_size = c.requires.small_size };
      zero = c.in-Ok-fresh.ensures ∙ ap (λ (n : ℕ). replicate n zero_line) c.record_len.ensures.length;
    } in
    let pair = c.in-Ok-format.pair in
    let formatted = subst (λ (ls : List Line). IsFormatted head ls lines old pair) c.lines.ensures (subst (λ (ls : List Line). IsFormatted head c.lines.result.now ls old pair) c.lines-2.ensures c.in-Ok-format.ensures.ok) in
    let has : HasFormatted c.args.clients c.args.size lines old pair c.in-Ok.items = record { first = first; formatted = formatted; items_are = c.in-Ok.ensures } in
    let safely = subst (λ (ls : List Line). FormatCovers head ls lines old pair.device) c.lines.ensures (subst (λ (ls : List Line). FormatCovers head c.lines.result.now ls old pair.device) c.lines-2.ensures c.in-Ok-format.ensures.safe) in
    subst (λ (a : List Ask). IsFreshEngine head old (twin_view pair c.in-Ok.items a)) (sym c.new.ensures) (fresh_is c.args.clients c.args.size lines old pair c.in-Ok.items has safely (g.met.P.Pmem.is_whole c.args.device))

pub returns-in-Err-clause-err : goal.returns-in-Err-clause-err
returns-in-Err-clause-err g c =
    let old = g.P.Pmem.seen c.args.device in
    let head : Header = queue_header c.args.clients c.args.size in
    let lines : List Line = c.in-Ok-fresh.next in
    let first : AreFirstLines c.args.clients c.args.size lines = record {
      valid = record { some_clients = c.requires.some_clients; few_clients = c.requires.few_clients; some_size = c.requires.some_size; small_size = c.requires.small_size };
      zero = c.in-Ok-fresh.ensures ∙ ap (λ (n : ℕ). replicate n zero_line) c.record_len.ensures.length;
    } in
    let new = g.P.Pmem.seen c.in-Err.refused.device in
    let why = c.in-Err.refused.why in
    let refusal = subst (λ (ls : List Line). IsFormatRefusal head ls lines old new why) c.lines.ensures (subst (λ (ls : List Line). IsFormatRefusal head c.lines.result.now ls old new why) c.lines-2.ensures c.in-Err.ensures.err) in
    let safely = subst (λ (ls : List Line). FailedFormatCovers head ls lines old new) c.lines.ensures (subst (λ (ls : List Line). FailedFormatCovers head c.lines.result.now ls old new) c.lines-2.ensures c.in-Err.ensures.fails_safe) in
    fresh_refusal c.args.clients c.args.size lines old new why first refusal safely
