use Rattle.std.proofs.Common.{◌≡◌, ◌+◌, Bool, List, length, get_or, refl, sym, ap, subst, ◌∙◌, arith}
use Rattle.std.specs.Prelude.{slice_set}
use Rattle.pb_object.specs.declared.request.Ask.{Ask}
use Rattle.pb_run.specs.Line.{RunsLine}
use Rattle.pb_run.specs.Worker.{IsLineOf}
use Rattle.pb_run.proofs.Stepping.{IsRunTo, at_start, one_further}
use Rattle.pb_run.proofs.worker.work.Goals as goal

pub loop-place-init : goal.loop-place-init
loop-place-init g c = (
  refl,
  c.requires.of,
  refl,
  at_start c.args.worker.now.lines.asks.items c.args.worker.now.lines.outcomes.items c.args.worker.now.lines.same_length c.requires,
)

pub loop-place-preserved : goal.loop-place-preserved
loop-place-preserved g c =
    let i = c.loop-place.invariant in
    let asks : List Ask = c.loop-place.worker.lines.asks.items in
    let ask : Ask = c.index.result.now in
    let is : ask ≡ get_or asks c.loop-place.place ask = c.index.ensures in
    let line : IsLineOf c.args.object.now.start.standing.kind c.args.object.now c.args.worker.now.pass (get_or c.args.worker.now.lines.asks.items c.loop-place.place ask) = c.requires.asks_are c.loop-place.place ask (omega (arith, c.loop-place-test.true, ap length i.0)) in
    let few = (subst (λ (all : List Ask). IsLineOf c.args.object.now.start.standing.kind c.args.object.now c.args.worker.now.pass (get_or all c.loop-place.place ask)) (sym i.0) line).asked.few in (
      i.0,
      c.next_outcome-outcome.ensures.of.0,
      c.next_outcome-outcome.ensures.of.1 ∙ i.2,
      subst (λ (b : Bool). IsRunTo c.args.worker.now.pass.view.body.kept asks (slice_set c.loop-place.worker.lines.outcomes.items c.loop-place.place c.next_outcome-outcome.result) (c.loop-place.place + 1) b c.next_outcome-outcome.new.pass.view) (sym c.ends-left.ensures)
          (one_further c.args.worker.now.pass.view.body.kept asks c.loop-place.worker.lines.outcomes.items c.loop-place.place c.loop-place.left c.loop-place.worker.pass.view c.next_outcome-outcome.new.pass.view ask c.next_outcome-outcome.result (omega (arith, c.loop-place-test.true, c.len-place-end.ensures, ap length i.0)) few
          (subst (λ (a : Ask). RunsLine c.loop-place.left a c.loop-place.worker.pass.view c.next_outcome-outcome.new.pass.view c.next_outcome-outcome.result) is c.next_outcome-outcome.ensures.next) i.3),
    )
