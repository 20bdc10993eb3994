use Rattle.std.proofs.Common.{rules, ◌≡◌, Some, None, refl}
use Rattle.std.proofs.KnownBytes.{Keeps-refl}
use Rattle.pb_script.specs.declared.command.Command.{Command}
use Rattle.pb_script.specs.declared.command.Command.TheVariants.{Fresh, Run, Report, Replay, Drill}
use Rattle.pb_script.specs.Command.{command_of, texts}
use Rattle.pb_broker.proofs.Answered.{call_of, served_or_stopped, no_command, replayed, reported, drilled}
use Rattle.pb_broker.proofs.Recovering.{recoverable}
use Rattle.pb_broker.proofs.program.top.Goals as goal
use Rattle.pb_broker.specs.Stream.{stream}

pub returns-in-Some-Fresh-clause-answered : goal.returns-in-Some-Fresh-clause-answered
returns-in-Some-Fresh-clause-answered g c =
    let words = texts c.args.words.now in
    let command : Command = Fresh c.in-Some-Fresh.kind c.in-Some-Fresh.clients c.in-Some-Fresh.size in
    let is : command_of words ≡ Some command = search rules in
    served_or_stopped words (Some command)
    (stream (g.S.Source.rest c.args.source.now) (g.S.Source.rest c.fresh.new.source) (g.S.Source.fault_count c.args.source.now) (g.S.Source.fault_count c.fresh.new.source))
    (g.P.Pmem.seen c.args.device) (g.P.Pmem.seen c.fresh.result.device) (g.P.Pmem.seen c.finish.result.device)
    (stream (g.K.Sink.bytes c.args.sink.now) (g.K.Sink.bytes c.finish.new.sink) (g.K.Sink.fault_count c.args.sink.now) (g.K.Sink.fault_count c.finish.new.sink))
    c.finish.result.status c.fresh.result.served is c.finish.ensures.device c.fresh.ensures c.finish.ensures.said

pub returns-in-Some-Run-clause-answered : goal.returns-in-Some-Run-clause-answered
returns-in-Some-Run-clause-answered g c =
    let words = texts c.args.words.now in
    let is : command_of words ≡ Some Run = search rules in
    served_or_stopped words (Some Run)
    (stream (g.S.Source.rest c.args.source.now) (g.S.Source.rest c.run.new.source) (g.S.Source.fault_count c.args.source.now) (g.S.Source.fault_count c.run.new.source))
    (g.P.Pmem.seen c.args.device) (g.P.Pmem.seen c.run.result.device) (g.P.Pmem.seen c.finish-in-Some-Run.result.device)
    (stream (g.K.Sink.bytes c.args.sink.now) (g.K.Sink.bytes c.finish-in-Some-Run.new.sink) (g.K.Sink.fault_count c.args.sink.now) (g.K.Sink.fault_count c.finish-in-Some-Run.new.sink))
    c.finish-in-Some-Run.result.status c.run.result.served is c.finish-in-Some-Run.ensures.device c.run.ensures c.finish-in-Some-Run.ensures.said

pub returns-in-Some-Replay-clause-answered : goal.returns-in-Some-Replay-clause-answered
returns-in-Some-Replay-clause-answered g c =
    let words = texts c.args.words.now in
    let command : Command = Replay c.in-Some-Replay.kind c.in-Some-Replay.clients c.in-Some-Replay.size in
    let is : command_of words ≡ Some command = search rules in
    replayed words c.in-Some-Replay.kind c.in-Some-Replay.clients c.in-Some-Replay.size
    (stream (g.S.Source.rest c.args.source.now) (g.S.Source.rest c.replay.new.source) (g.S.Source.fault_count c.args.source.now) (g.S.Source.fault_count c.replay.new.source))
    (g.P.Pmem.seen c.args.device) (g.P.Pmem.seen c.args.device)
    (stream (g.K.Sink.bytes c.args.sink.now) (g.K.Sink.bytes c.replay.new.sink) (g.K.Sink.fault_count c.args.sink.now) (g.K.Sink.fault_count c.replay.new.sink))
    c.replay.result is refl c.replay.ensures

pub returns-in-Some-Drill-clause-answered : goal.returns-in-Some-Drill-clause-answered
returns-in-Some-Drill-clause-answered g c =
    let words = texts c.args.words.now in
    let seed = c.in-Some-Drill.seed in
    let clients = c.in-Some-Drill.clients in
    let count = c.in-Some-Drill.count in
    let is : command_of words ≡ Some (Drill seed clients count) = search rules in
    drilled words seed clients count
    (call_of (stream (g.S.Source.rest c.args.source.now) (g.S.Source.rest c.args.source.now) (g.S.Source.fault_count c.args.source.now) (g.S.Source.fault_count c.args.source.now)) (g.P.Pmem.seen c.args.device) (g.P.Pmem.seen c.drill.result.device))
    (stream (g.K.Sink.bytes c.args.sink.now) (g.K.Sink.bytes c.drill.new.sink) (g.K.Sink.fault_count c.args.sink.now) (g.K.Sink.fault_count c.drill.new.sink))
    c.drill.result.status is (record { same = Keeps-refl (g.S.Source.rest c.args.source.now); reads = refl }) c.drill.ensures

pub returns-in-None-clause-answered : goal.returns-in-None-clause-answered
returns-in-None-clause-answered g c =
    let words = texts c.args.words.now in
    let is : command_of words ≡ None = search rules in
    no_command words None
    (call_of (stream (g.S.Source.rest c.args.source.now) (g.S.Source.rest c.args.source.now) (g.S.Source.fault_count c.args.source.now) (g.S.Source.fault_count c.args.source.now)) (g.P.Pmem.seen c.args.device) (g.P.Pmem.seen c.no_command.result.device))
    (stream (g.K.Sink.bytes c.args.sink.now) (g.K.Sink.bytes c.no_command.new.sink) (g.K.Sink.fault_count c.args.sink.now) (g.K.Sink.fault_count c.no_command.new.sink))
    c.no_command.result.status is (λ usage. (refl, usage.0, usage.1))
    (record { same = Keeps-refl (g.S.Source.rest c.args.source.now); reads = refl }, c.no_command.ensures.device)
    c.no_command.ensures.said

-- What is answered is recoverable

pub returns-in-Some-Fresh-clause-recovers : goal.returns-in-Some-Fresh-clause-recovers
returns-in-Some-Fresh-clause-recovers g c = recoverable _ _ _ _ (returns-in-Some-Fresh-clause-answered g c) ((g.met.P.Pmem g.world.𝓛 g.world.𝓜 g.world.𝓡 ((λ s x. x), (λ x. x), (λ x. x), λ x. x)).is_replay c.args.device)

pub returns-in-Some-Run-clause-recovers : goal.returns-in-Some-Run-clause-recovers
returns-in-Some-Run-clause-recovers g c = recoverable _ _ _ _ (returns-in-Some-Run-clause-answered g c) ((g.met.P.Pmem g.world.𝓛 g.world.𝓜 g.world.𝓡 ((λ s x. x), (λ x. x), (λ x. x), λ x. x)).is_replay c.args.device)

pub returns-in-Some-Replay-clause-recovers : goal.returns-in-Some-Replay-clause-recovers
returns-in-Some-Replay-clause-recovers g c = recoverable _ _ _ _ (returns-in-Some-Replay-clause-answered g c) ((g.met.P.Pmem g.world.𝓛 g.world.𝓜 g.world.𝓡 ((λ s x. x), (λ x. x), (λ x. x), λ x. x)).is_replay c.args.device)

pub returns-in-Some-Drill-clause-recovers : goal.returns-in-Some-Drill-clause-recovers
returns-in-Some-Drill-clause-recovers g c = recoverable _ _ _ _ (returns-in-Some-Drill-clause-answered g c) ((g.met.P.Pmem g.world.𝓛 g.world.𝓜 g.world.𝓡 ((λ s x. x), (λ x. x), (λ x. x), λ x. x)).is_replay c.args.device)

pub returns-in-None-clause-recovers : goal.returns-in-None-clause-recovers
returns-in-None-clause-recovers g c = recoverable _ _ _ _ (returns-in-None-clause-answered g c) ((g.met.P.Pmem g.world.𝓛 g.world.𝓜 g.world.𝓡 ((λ s x. x), (λ x. x), (λ x. x), λ x. x)).is_replay c.args.device)

pub returns-in-Some-Report-clause-recovers : goal.returns-in-Some-Report-clause-recovers
returns-in-Some-Report-clause-recovers g c =
    let words = texts c.args.words.now in
    let is : command_of words ≡ Some Report = search rules in
    let read = stream (g.S.Source.rest c.args.source.now) (g.S.Source.rest c.args.source.now) (g.S.Source.fault_count c.args.source.now) (g.S.Source.fault_count c.args.source.now) in
    let out = stream (g.K.Sink.bytes c.args.sink.now) (g.K.Sink.bytes c.report.new.sink) (g.K.Sink.fault_count c.args.sink.now) (g.K.Sink.fault_count c.report.new.sink) in
    recoverable words (call_of read (g.P.Pmem.seen c.args.device) (g.P.Pmem.seen c.report.result.device)) out c.report.result.status
    (reported words (call_of read (g.P.Pmem.seen c.args.device) (g.P.Pmem.seen c.report.result.device)) out c.report.result.status is (record { same = Keeps-refl (g.S.Source.rest c.args.source.now); reads = refl }) c.report.ensures)
    ((g.met.P.Pmem g.world.𝓛 g.world.𝓜 g.world.𝓡 ((λ s x. x), (λ x. x), (λ x. x), λ x. x)).is_replay c.args.device)
