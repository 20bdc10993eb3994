use Rattle.std.proofs.Common.{◌≡◌, length, take}
use Rattle.pb_comb.specs.Serving.{IsServing}
use Rattle.pb_engine.specs.Asks.{answered_from}
use Rattle.pb_round_play.specs.Rounds.{with_rows}
use Rattle.pb_round_play.proofs.serving.answer.Given as goal

abbrev pub invariant-loop-ask : goal.invariant-loop-ask
invariant-loop-ask g l = record {
  serving : IsServing (take l.ask-index l.asks) l.before (g.O.Object.state l.fn.object) (g.O.Object.state l.object) l.fn.next l.next;
  rows : l.seats ≡ with_rows (answered_from (g.O.Object.state l.fn.object) (take l.ask-index l.asks)) l.fn.seats;
  seats : length l.seats ≡ 16;
}
