use Rattle.std.proofs.Common.{sym, ap, refl, ◌∙◌}
use Rattle.pb_layout.specs.Shape.{Shape}
use Rattle.pb_script.specs.Events.{event_line}
use Rattle.pb_script.specs.Words.{fields}
use Rattle.pb_script.specs.declared.event.EventLine.TheVariants.{Nothing, Refused, Events}
use Rattle.pb_replay.specs.Replay.{events_of}
use Rattle.pb_replay.proofs.Playings.{played_nothing, refused_line, played_events, stuck_line, all_made, stuck_at}
use Rattle.pb_replay.proofs.Surveys.{said_as}
use Rattle.pb_replay.proofs.playing.Playing.play_line.Goals as goal

pub returns-in-Nothing-clause-played : goal.returns-in-Nothing-clause-played
returns-in-Nothing-clause-played c read played =
    played_nothing (said_as Nothing (sym c.in-Nothing.is ∙ (c.read_event_line.ensures ∙ ap (λ (h : Shape). event_line h.kind h.clients (fields c.args.line.now)) c.head.view_is))) played

pub returns-in-Refused-clause-played : goal.returns-in-Refused-clause-played
returns-in-Refused-clause-played c read played =
    (refl, refused_line (said_as Refused (sym c.in-Refused.is ∙ (c.read_event_line.ensures ∙ ap (λ (h : Shape). event_line h.kind h.clients (fields c.args.line.now)) c.head.view_is))) played)

pub returns-in-Ok-true-clause-played : goal.returns-in-Ok-true-clause-played
returns-in-Ok-true-clause-played c read played =
    played_events (said_as (Events c.in-Events.repeat) (sym c.in-Events.is ∙ (c.read_event_line.ensures ∙ ap (λ (h : Shape). event_line h.kind h.clients (fields c.args.line.now)) c.head.view_is))) played
    (all_made c.args.head.now (events_of played.repeats) c.in-Events.repeat c.make_all.new.self c.in-Ok-true.field-0 c.in-Ok-true.field-0-test (c.in-Ok-true.ensures.made c.args.head.now (events_of played.repeats) played.made))

pub returns-in-Ok-false-clause-played : goal.returns-in-Ok-false-clause-played
returns-in-Ok-false-clause-played c read played = (
  refl,
  stuck_line (said_as (Events c.in-Events.repeat) (sym c.in-Events.is ∙ (c.read_event_line.ensures ∙ ap (λ (h : Shape). event_line h.kind h.clients (fields c.args.line.now)) c.head.view_is))) played
      (stuck_at c.args.head.now (events_of played.repeats) c.in-Events.repeat c.make_all.new.self c.in-Ok-false.field-0 c.in-Ok-false.field-0-test (c.in-Ok-false.ensures.made c.args.head.now (events_of played.repeats) played.made)),
)
