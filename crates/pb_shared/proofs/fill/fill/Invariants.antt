use Rattle.std.proofs.Common.{◌≡◌, ◌*◌, Option}
use Rattle.pb_engine.specs.View.{EngineView}
use Rattle.pb_rule.specs.View.{OwnRound, PassView}
use Rattle.pb_shared.specs.Filling.{IsFilling}
use Rattle.pb_shared.proofs.fill.fill.Given as goal

abbrev pub invariant-loop-client : goal.invariant-loop-client
invariant-loop-client g l =
    (l.seat.table_id ≡ l.initial.seat.table_id)
    × ((start : PassView) (engine : EngineView) (own : Option OwnRound) → IsFilling g.E.Engine.seen (g.E.Engine.seen l.board.key.value).standing.kind start engine own 0 l.initial.seat.me → IsFilling g.E.Engine.seen (g.E.Engine.seen l.board.key.value).standing.kind start engine own (4 * l.client) l.seat.me)
