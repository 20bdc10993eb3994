use Rattle.std.proofs.Common.{List, ap, subst, ◌∙◌, arith}
use Rattle.std.proofs.lemmas.List.{take_all}
use Rattle.std.proofs.lemmas.List.Elements.{All-get_or}
use Rattle.pb_object.specs.declared.request.Ask.{Ask}
use Rattle.pb_engine.specs.Asks.{answered_from, state_from}
use Rattle.pb_engine.specs.Next.{PutsEntries}
use Rattle.pb_comb.specs.Serving.{IsServable}
use Rattle.pb_comb.proofs.Serving.{no_ask, serving_none, serving_more}
use Rattle.pb_round_play.specs.Rounds.{with_rows}
use Rattle.pb_round_play.proofs.Rows.{rows_none, rows_more}
use Rattle.pb_round_play.proofs.serving.answer.Goals as goal

pub loop-ask-init : goal.loop-ask-init
loop-ask-init g c = record {
  serving = serving_none c.args.asks.now c.args.before.now (g.O.Object.state c.args.object.now) c.args.next.now;
  rows = rows_none (g.O.Object.state c.args.object.now) c.args.seats.now;
  seats = c.requires.seats;
}

pub put-requires-clause-room : goal.put-requires-clause-room
put-requires-clause-room g c =
    omega (arith, (All-get_or (IsServable g.O.Object.KIND c.args.next.now) c.args.asks.now c.loop-ask.ask-index no_ask c.loop-ask-test.true c.requires.room.each).room, c.loop-ask.invariant.serving.entries.long)

pub loop-ask-preserved : goal.loop-ask-preserved
loop-ask-preserved g c = record {
  serving = serving_more c.args.asks.now c.loop-ask.ask-index _ c.args.before.now (g.O.Object.state c.args.object.now) (g.O.Object.state c.loop-ask.object) (g.O.Object.state c.apply-reply.new.self) c.args.next.now c.loop-ask.next c.put.new.next c.apply-reply.result c.loop-ask-test.true c.requires.before.rising c.loop-ask.invariant.serving c.apply-reply.ensures.after c.apply-reply.ensures.reply c.put.ensures.slots c.put.ensures.long;
  rows = rows_more (g.O.Object.state c.args.object.now) (g.O.Object.state c.loop-ask.object) c.args.asks.now c.loop-ask.ask-index _ c.apply-reply.result c.args.seats.now c.loop-ask.seats c.put.new.seats c.loop-ask-test.true c.loop-ask.invariant.serving.state c.apply-reply.ensures.reply c.loop-ask.invariant.rows c.put.ensures.seats;
  seats = search;
}

pub returns-clause-state : goal.returns-clause-state
returns-clause-state g c =
    c.loop-ask.invariant.serving.state ∙ ap (state_from (g.O.Object.state c.args.object.now)) (take_all c.loop-ask.ask-index c.args.asks.now c.loop-ask-test.false)

pub returns-clause-entries : goal.returns-clause-entries
returns-clause-entries g c =
    subst (λ (asks : List Ask). PutsEntries c.args.before.now (answered_from (g.O.Object.state c.args.object.now) asks) c.args.next.now c.loop-ask.next) (take_all c.loop-ask.ask-index c.args.asks.now c.loop-ask-test.false) c.loop-ask.invariant.serving.entries

pub returns-clause-rows : goal.returns-clause-rows
returns-clause-rows g c =
    c.loop-ask.invariant.rows ∙ ap (λ (asks : List Ask). with_rows (answered_from (g.O.Object.state c.args.object.now) asks) c.args.seats.now) (take_all c.loop-ask.ask-index c.args.asks.now c.loop-ask-test.false)
