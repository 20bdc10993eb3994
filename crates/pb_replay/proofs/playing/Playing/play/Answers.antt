use Rattle.std.proofs.Common.{◌≡◌, [], arith}
use Rattle.std.proofs.lemmas.Bool.Decides.{nat_tests}
use Rattle.std.proofs.lemmas.List.{nil_from_length}
use Rattle.pb_replay.proofs.Playings.{played_none, played_one, fault_at, played_all}
use Rattle.pb_replay.proofs.Surveys.{room_for, room_after}
use Rattle.pb_replay.proofs.playing.Playing.play.Goals as goal

pub loop-rest-init : goal.loop-rest-init
loop-rest-init c = record {
  shaped = c.requires.shaped;
  room = c.requires.room;
  bound = omega arith;
  played = λ made. played_none c.args.bytes.now made;
}

pub overflow_add-number : goal.overflow_add-number
overflow_add-number c = omega (arith, c.loop-rest.invariant.bound, c.requires.source, c.cut_line.ensures.shorter)

pub play_line-requires-clause-shaped : goal.play_line-requires-clause-shaped
play_line-requires-clause-shaped c = c.loop-rest.invariant.shaped

pub play_line-requires-clause-room : goal.play_line-requires-clause-room
play_line-requires-clause-room c =
    omega (arith, c.loop-rest.invariant.room, room_for c.args.head.now.kind c.args.head.now.clients c.loop-rest.rest.now c.cut_line.result.0.now c.cut_line.result.1.now c.cut_line.ensures.cut)

pub returns-in_err-play_line-clause-played : goal.returns-in_err-play_line-clause-played
returns-in_err-play_line-clause-played c made =
    let before = c.loop-rest.invariant.played made in
    fault_at c.cut_line.result.1.now c.play_line.new.self c.from_residual.result c.in_err-play_line.field-0.0 before c.cut_line.ensures.cut (c.in_err-play_line.ensures.played before.read before.played) c.from_residual.ensures.1

pub loop-rest-smaller : goal.loop-rest-smaller
loop-rest-smaller c = c.cut_line.ensures.shorter

pub loop-rest-preserved : goal.loop-rest-preserved
loop-rest-preserved c = record {
  shaped = c.play_line.ensures.shaped;
  room = omega (arith, c.loop-rest.invariant.room, c.play_line.ensures.room.0, c.play_line.ensures.room.1, room_after c.args.head.now.kind c.args.head.now.clients c.loop-rest.rest.now c.cut_line.result.0.now c.cut_line.result.1.now c.cut_line.ensures.cut c.in_ok-play_line.ensures.accepted);
  bound = omega (arith, c.loop-rest.invariant.bound, c.cut_line.ensures.shorter);
  played = λ made.
      let before = c.loop-rest.invariant.played made in
      played_one before c.cut_line.ensures.cut (c.in_ok-play_line.ensures.played before.read before.played);
}

pub returns-clause-shaped : goal.returns-clause-shaped
returns-clause-shaped c = c.loop-rest.invariant.shaped

pub returns-clause-played : goal.returns-clause-played
returns-clause-played c made =
    let empty : c.loop-rest.rest.now ≡ [] = nil_from_length c.loop-rest.rest.now (grind (arith, nat_tests)) in
    played_all empty (c.loop-rest.invariant.played made)
