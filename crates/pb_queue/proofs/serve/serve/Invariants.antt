use Rattle.std.proofs.Common.{take}
use Rattle.pb_object.specs.Object.{Waits}
use Rattle.pb_engine.specs.Asks.{answered_from}
use Rattle.pb_engine.specs.Next.{PutsEntries}
use Rattle.pb_queue.specs.Serving.{HasServed}
use Rattle.pb_queue.proofs.serve.serve.Given as goal

abbrev pub invariant-loop-ask : goal.invariant-loop-ask
invariant-loop-ask l =
    record {
      items : HasServed l.side (take l.ask-index l.asks) l.fn.items l.items;
      entries : PutsEntries l.before (answered_from (Waits l.fn.items.size l.fn.items.sure) (take l.ask-index l.asks)) l.fn.next l.next;
    }
