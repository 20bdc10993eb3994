use Rattle.std.proofs.Common.{List, sym, subst}
use Rattle.pb_object.specs.History.{Entry}
use Rattle.pb_object.specs.Object.{Waits}
use Rattle.pb_engine.specs.Next.{PutsEntries}
use Rattle.pb_engine.proofs.Served.{answered_from-none}
use Rattle.pb_engine.proofs.Entries.{puts_none}
use Rattle.pb_queue.proofs.Served.{none_served, more_served, more_entries}
use Rattle.pb_queue.proofs.serve.serve.Goals as goal

pub loop-ask-init : goal.loop-ask-init
loop-ask-init c = record {
  items = none_served c.args.side c.args.items.now c.requires.none;
  entries = subst (λ (es : List Entry). PutsEntries c.args.before.now es c.args.next.now c.args.next.now) (sym (answered_from-none (Waits c.args.items.now.size c.args.items.now.sure))) (puts_none c.args.before.now c.args.next.now);
}

pub loop-ask-preserved : goal.loop-ask-preserved
loop-ask-preserved c =
    let start = c.args.items.now in
    let have = c.loop-ask.invariant.items in
    let inside = c.loop-ask-test.true in
    record {
      items = more_served c.args.side c.args.asks.now c.loop-ask.ask-index _ start c.loop-ask.items c.apply-reply.new.self have inside ((c.requires.before.each c.loop-ask.ask-index _ inside).of_side) c.apply-reply.ensures.after;
      entries = more_entries c.args.side c.args.asks.now c.loop-ask.ask-index _ c.args.before.now c.args.next.now c.loop-ask.next c.put.new.self start c.loop-ask.items c.apply-reply.result have c.loop-ask.invariant.entries c.requires.before.rising inside c.apply-reply.ensures.reply c.put.ensures.slots c.put.ensures.long;
    }
