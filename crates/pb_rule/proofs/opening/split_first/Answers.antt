use Rattle.pb_rule.proofs.Seats.{splits}
use Rattle.pb_rule.proofs.opening.split_first.Goals as goal

pub split_seat-requires : goal.split_seat-requires
split_seat-requires g c =
    (c.requires.table.0, c.requires.table.1, splits g.E.Engine.seen (g.E.Engine.seen c.args.board.now.key.value).standing.kind (g.E.Engine.seen c.args.board.now.key.value) _ _)
