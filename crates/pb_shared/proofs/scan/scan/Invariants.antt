use Rattle.std.proofs.Common.{◌≡◌, ◌≤◌, [], length}
use Rattle.pb_engine.specs.View.{EngineView}
use Rattle.pb_rule.specs.View.{PassView}
use Rattle.pb_shared.specs.Scanning.{IsScanning}
use Rattle.pb_shared.proofs.scan.scan.Given as goal

abbrev pub invariant-loop-client : goal.invariant-loop-client
invariant-loop-client g l =
    (l.seat.table_id ≡ l.initial.seat.table_id)
    × (length l.asks.items ≤ l.client)
    × ((start : PassView) (engine : EngineView) → IsScanning g.E.Engine.seen (g.E.Engine.seen l.board.key.value).standing.kind start engine 0 [] l.initial.seat.me → IsScanning g.E.Engine.seen (g.E.Engine.seen l.board.key.value).standing.kind start engine l.client l.asks.items l.seat.me)
