use Rattle.std.proofs.Common.{◌≡◌, ◌*◌, map}
use Rattle.std.specs.List.{range_with_len}
use Rattle.pb_script.specs.Drill.{draw, drill_ask}
use Rattle.pb_script.proofs.drill.generate.Given as goal

abbrev pub invariant-loop-place : goal.invariant-loop-place
invariant-loop-place l = record {
  drawn : l.draws.last ≡ draw l.seed (3 * l.place);
  asks : l.asks.items ≡ map (drill_ask l.seed l.clients) (range_with_len 0 l.place);
}
