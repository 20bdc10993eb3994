use Rattle.std.specs.Prelude.{List}
use Rattle.pb_events.specs.declared.event.Event.{Event}
use Rattle.pb_layout.specs.declared.header.Header.{Header}
use Rattle.pb_play.specs.Worlds.{IsShaped}
use Rattle.pb_replay.specs.Playing.{HasMade, TakesRoom}
use Rattle.pb_replay.proofs.Making.{MadeSoFar}
use Rattle.pb_replay.proofs.playing.Playing.make_all.Given as goal

abbrev pub invariant-loop : goal.invariant-loop
invariant-loop l = record {
  shaped : IsShaped l.self.world;
  room : TakesRoom l.counter l.fn.self l.self;
  made : (head : Header) (events : List Event) → HasMade head events l.fn.self → MadeSoFar head events l.fn.repeat.event l.counter l.self;
}
