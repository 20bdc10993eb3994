use Rattle.std.proofs.Common.{◌∙◌, refl, ap}
use Rattle.pb_engines.specs.AnyEngine.{view_of}
use Rattle.pb_replay.proofs.Playings.{not_replayed}
use Rattle.pb_replay.proofs.played.play_schedule.Goals as goal

pub returns-in_err-play : goal.returns-in_err-play
returns-in_err-play c =
    not_replayed c.args.head.now c.args.bytes.now c.play.new.self c.from_residual-in_err-play.result c.in_err-play.field-0.0 c.from_residual-in_err-play.ensures.1 c.in_ok-room.ensures.0 (c.in_err-play.ensures.played c.in-Ok.ensures.made)

pub returns-in-Ok-left_by : goal.returns-in-Ok-left_by
returns-in-Ok-left_by c =
    let few = c.in_ok-room.ensures.0 in
    let all = c.in_ok-play.ensures.played c.in-Ok.ensures.made in (
      all.made.answers,
      (view_of c.in-Ok-left_by.played.engine).standing,
      record {
        few = few;
        repeats = all.repeats;
        schedule = all.schedule;
        last = all.made.last;
        made = all.made.made;
        stands = c.in-Ok-left_by.ensures.stands all.made.last all.made.shows;
      },
      record {
        answers_are = ap (λ v. v.items) c.in-Ok-left_by.ensures.answers ∙ all.made.listed;
        standing = refl;
        rising = c.in-Ok-left_by.ensures.rising;
      },
    )
