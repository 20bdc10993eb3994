use Rattle.std.specs.Prelude.{◌≤◌, ◌+◌, [], length}
use Rattle.pb_play.specs.Worlds.{IsShaped}
use Rattle.pb_script.specs.Script.{request_lines}
use Rattle.pb_script.specs.Words.{lines}
use Rattle.pb_replay.specs.Playing.{HasMade, HasRoomFor}
use Rattle.pb_replay.specs.Survey.{count_events}
use Rattle.pb_replay.proofs.Playings.{HasPlayedTo}
use Rattle.pb_replay.proofs.playing.Playing.play.Given as goal

abbrev pub invariant-loop-rest : goal.invariant-loop-rest
invariant-loop-rest l = record {
  shaped : IsShaped l.self.world;
  room : HasRoomFor (count_events l.fn.head.kind l.fn.head.clients (request_lines (lines l.rest))) l.self;
  bound : l.number + length l.rest ≤ length l.fn.bytes;
  played : HasMade l.fn.head [] l.fn.self → HasPlayedTo l.fn.head l.fn.bytes l.rest l.number l.self;
}

abbrev pub decreases-loop-rest : goal.decreases-loop-rest
decreases-loop-rest l = length l.rest
