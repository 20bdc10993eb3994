use Rattle.std.proofs.Common.{subst}
use Rattle.pb_layout.specs.Shape.{Shape}
use Rattle.pb_play.specs.Worlds.{IsBegun}
use Rattle.pb_replay.proofs.Making.{none_made, begun_room}
use Rattle.pb_replay.proofs.playing.Playing.fresh.Goals as goal

pub returns-clause-room : goal.returns-clause-room
returns-clause-room c = begun_room c.in_ok-world.world c.args.room c.in_ok-world.ensures.room c.in_ok-world.ensures.begun

pub returns-clause-made : goal.returns-clause-made
returns-clause-made c =
    let begun = subst (λ (h : Shape). IsBegun h c.in_ok-world.world) c.head.view_is c.in_ok-world.ensures.begun in
    none_made (record { world = c.in_ok-world.world; answers = c.new.result }) begun c.new.ensures.items
