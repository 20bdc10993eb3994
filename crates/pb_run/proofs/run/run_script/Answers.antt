use Rattle.std.proofs.Common.{ℕ, List, length, map, arith, sym, subst, ap, ◌∙◌}
use Rattle.std.specs.List.{All}
use Rattle.pb_engine.specs.View.{EngineView, IsEngine}
use Rattle.pb_rule.specs.Opening.{HasEnded}
use Rattle.pb_script.specs.Script.{IsAskOf}
use Rattle.pb_shared.specs.Passes.{PassSeen, AreAll, view_of}
use Rattle.pb_run.specs.declared.worker.Worker.{Worker}
use Rattle.pb_run.specs.Crew.{HaveAsksOf, AreBroughtTogether}
use Rattle.pb_run.specs.Lists.{AreListsOf}
use Rattle.pb_run.proofs.Hired.{passes_many, all_ready, have_asks, asks_below, all_back, comes_to_run}
use Rattle.pb_run.proofs.run.run_script.Goals as goal

pub hire-requires-clause-many : goal.hire-requires-clause-many
hire-requires-clause-many g c =
    omega (arith, c.in-Ok.ensures.long, c.clients-clients.ensures.count, passes_many c.in_ok-object.ensures.ok c.clients-clients.ensures.sound)

pub hire-requires-clause-room : goal.hire-requires-clause-room
hire-requires-clause-room g c =
    omega (arith, c.in-Ok-with_capacity.ensures.capacity, c.clients-clients.ensures.count, passes_many c.in_ok-object.ensures.ok c.clients-clients.ensures.sound)

pub work_all-requires-after_bounds : goal.work_all-requires-after_bounds
work_all-requires-after_bounds g c κs within =
    let begun = sym c.in_ok-object.ensures.ok.of in
    let sound = subst (λ (start : EngineView). IsEngine start.standing.kind (g.E.Engine.seen c.args.engine)) begun c.clients-clients.ensures.sound in
    let asked = subst (λ (start : EngineView). All (IsAskOf start.standing.kind (g.E.Engine.seen c.args.engine).standing.clients) c.args.asks.now) begun c.requires.asks in
    all_ready (λ worker. worker.pass) (λ worker. worker.lines) c.in_ok-object.ensures.ok sound c.args.asks.now asked
    c.in-Ok.lists.items (subst (λ (n : ℕ). AreListsOf c.args.asks.now n c.in-Ok.lists.items) c.clients-clients.ensures.count c.in-Ok.ensures.lists) c.hire.new.workers.items c.hire.ensures.passes c.hire.ensures.lists

pub put_together-requires-clause-lines : goal.put_together-requires-clause-lines
put_together-requires-clause-lines g c =
    subst (HaveAsksOf (λ worker. worker.lines) c.args.asks.now) (sym c.as_slice.ensures.value)
    (have_asks (λ worker. worker.pass) (λ worker. worker.lines) c.in_ok-object.ensures.ok c.clients-clients.ensures.sound c.args.asks.now c.requires.asks
    c.in-Ok.lists.items (subst (λ (n : ℕ). AreListsOf c.args.asks.now n c.in-Ok.lists.items) c.clients-clients.ensures.count c.in-Ok.ensures.lists) c.hire.new.workers.items c.hire.ensures.passes c.hire.ensures.lists
    c.work_all.new.workers.items c.work_all.ensures.long c.work_all.ensures.through)

pub put_together-requires-clause-clients : goal.put_together-requires-clause-clients
put_together-requires-clause-clients g c k d inside =
    let below = asks_below (λ worker. worker.pass) (λ worker. worker.lines) c.in_ok-object.ensures.ok c.clients-clients.ensures.sound c.args.asks.now c.requires.asks
    c.in-Ok.lists.items (subst (λ (n : ℕ). AreListsOf c.args.asks.now n c.in-Ok.lists.items) c.clients-clients.ensures.count c.in-Ok.ensures.lists) c.hire.new.workers.items c.hire.ensures.passes c.hire.ensures.lists
    c.work_all.new.workers.items c.work_all.ensures.long c.work_all.ensures.through k d inside in
    omega (arith, below, ap length c.as_slice.ensures.value)

pub close-requires : goal.close-requires
close-requires g c = record {
  all = subst (AreAll c.in_ok-object.object) (sym c.dismiss.ensures)
      (all_back (λ worker. worker.pass) (λ worker. worker.lines) c.in_ok-object.ensures.ok c.clients-clients.ensures.sound c.args.asks.now c.requires.asks
      c.in-Ok.lists.items (subst (λ (n : ℕ). AreListsOf c.args.asks.now n c.in-Ok.lists.items) c.clients-clients.ensures.count c.in-Ok.ensures.lists) c.hire.new.workers.items c.hire.ensures.passes c.hire.ensures.lists
      c.work_all.new.workers.items c.work_all.ensures.long c.work_all.ensures.through);
}

pub returns-clause-run : goal.returns-clause-run
returns-clause-run g c =
    comes_to_run (λ worker. worker.pass) (λ worker. worker.lines) c.in_ok-object.ensures.ok c.clients-clients.ensures.sound c.args.asks.now c.requires.asks
    c.in-Ok.lists.items (subst (λ (n : ℕ). AreListsOf c.args.asks.now n c.in-Ok.lists.items) c.clients-clients.ensures.count c.in-Ok.ensures.lists) c.hire.new.workers.items c.hire.ensures.passes c.hire.ensures.lists
    c.work_all.new.workers.items c.work_all.ensures.long c.work_all.ensures.through
    (g.E.Engine.seen c.close.result) c.put_together.new.outcomes (c.put_together.ensures.long ∙ c.requires.places)
    (subst (λ (workers : List (Worker g.row.E.Denot)). AreBroughtTogether (λ worker. worker.lines) c.args.asks.now workers c.put_together.new.outcomes) c.as_slice.ensures.value c.put_together.ensures.together)
    (subst (λ (start : EngineView). HasEnded start.standing.kind start (g.E.Engine.seen c.close.result) (map view_of (map (λ worker. worker.pass) c.work_all.new.workers.items))) c.in_ok-object.ensures.ok.of
    (subst (λ (passes : List PassSeen). HasEnded c.in_ok-object.object.start.standing.kind c.in_ok-object.object.start (g.E.Engine.seen c.close.result) (map view_of passes)) c.dismiss.ensures c.close.ensures))
