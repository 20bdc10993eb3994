use Rattle.pb_rule.proofs.Seats.{joins}
use Rattle.pb_rule.proofs.opening.join_views.Goals as goal

pub join_seat-requires : goal.join_seat-requires
join_seat-requires g c =
    (c.requires.table.0, c.requires.table.1, c.requires.plain, c.requires.table.2, joins g.E.Engine.seen (g.E.Engine.seen c.args.board.now.key.value).standing.kind (g.E.Engine.seen c.args.board.now.key.value) _ _ _ _)
