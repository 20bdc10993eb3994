use Rattle.std.proofs.Common.{◌∙◌, List, subst, arith}
use Rattle.std.proofs.lemmas.List.{take_all}
use Rattle.pb_object.specs.declared.request.Ask.{Ask}
use Rattle.pb_round_play.specs.Serving.{HasAnswered}
use Rattle.pb_round_play.proofs.Answering.{answered_none, answered_more, counted}
use Rattle.pb_round_play.proofs.queue.serve_queue.Goals as goal

pub loop-ask-init : goal.loop-ask-init
loop-ask-init c = record {
  long = search;
  seats = c.requires.seats;
  few = omega arith;
  within = c.requires.within;
  capacity = omega arith;
  answered = λ start holds. answered_none c.args.head.now c.args.lines.now c.args.before.now c.args.side start c.args.plan.now.items c.args.next.now c.args.seats.now c.args.ends holds;
}

pub loop-ask-preserved : goal.loop-ask-preserved
loop-ask-preserved c =
    let inside = c.loop-ask-test.true in
    let have = c.loop-ask.invariant in
    record {
      long = c.put.ensures.long ∙ have.long;
      seats = search;
      few = omega (arith, c.apply-reply.ensures.few, have.few);
      within = c.apply-reply.ensures.within;
      capacity = omega (arith, c.apply-reply.ensures.capacity, have.capacity);
      answered = λ start holds. answered_more c.args.asks.now c.loop-ask.ask-index _ inside c.requires.asks.rising (have.answered start holds) (record {
        applied = λ queue s. c.apply-reply.ensures.applied c.args.side start queue c.args.plan.now.items ((c.requires.asks.each c.loop-ask.ask-index _ inside).of_side) s;
        slots = c.put.ensures.slots;
        long = c.put.ensures.long;
        row = c.put.ensures.seats;
      });
    }

pub returns-clause-served : goal.returns-clause-served
returns-clause-served c = λ start holds.
    counted c.count_of.result c.count_line.result (omega (arith, c.loop-ask.invariant.long, c.requires.next)) c.count_of.ensures c.count_line.ensures
    (subst (λ (asks : List Ask). HasAnswered c.args.head.now c.args.lines.now c.args.before.now c.args.side start asks c.args.plan.now.items c.args.next.now c.args.seats.now c.loop-ask.ends c.loop-ask.plan.items c.loop-ask.next c.loop-ask.seats)
    (take_all c.loop-ask.ask-index c.args.asks.now c.loop-ask-test.false) (c.loop-ask.invariant.answered start holds))
