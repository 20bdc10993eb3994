use Rattle.std.proofs.Common.{◌<◌, ◌++◌, refl, take, drop, sym, ap, ◌∙◌, arith}
use Rattle.std.proofs.lemmas.List.{append-nil}
use Rattle.pb_pmem.specs.Crash.{through_mark, after_mark}
use Rattle.pb_pmem.proofs.Marks.{through_mark-zero, after_mark-zero}
use Rattle.pb_crash.proofs.Steps.{through_step, after_step, through_all, after_all}
use Rattle.pb_crash.proofs.cuts.mark_end.Goals as goal

pub returns-then-left-eq0-clause-through : goal.returns-then-left-eq0-clause-through
returns-then-left-eq0-clause-through c =
    let rest = drop c.loop-i.i c.args.log.now in
    sym (c.loop-i.invariant.0 ∙ (ap (λ left. take c.loop-i.i c.args.log.now ++ through_mark left rest) c.if-left-eq0.true ∙ (ap (λ l. take c.loop-i.i c.args.log.now ++ l) (through_mark-zero rest) ∙ append-nil (take c.loop-i.i c.args.log.now))))

pub returns-then-left-eq0-clause-after : goal.returns-then-left-eq0-clause-after
returns-then-left-eq0-clause-after c =
    let rest = drop c.loop-i.i c.args.log.now in
    sym (c.loop-i.invariant.1 ∙ (ap (λ left. after_mark left rest) c.if-left-eq0.true ∙ after_mark-zero rest))

pub loop-i-preserved : goal.loop-i-preserved
loop-i-preserved c =
    let op = c.index-log-i.result in
    let some : 0 < c.loop-i.left = omega arith in (
      c.loop-i.invariant.0 ∙ (through_step c.loop-i.left c.args.log.now c.loop-i.i op some (omega arith) c.index-log-i.is ∙ rw (← c.marks_of-left.ensures) refl),
      c.loop-i.invariant.1 ∙ (after_step c.loop-i.left c.args.log.now c.loop-i.i op some (omega arith) c.index-log-i.is ∙ rw (← c.marks_of-left.ensures) refl),
    )

pub returns-clause-through : goal.returns-clause-through
returns-clause-through c =
    sym (c.loop-i.invariant.0 ∙ through_all c.loop-i.left c.args.log.now c.loop-i.i c.loop-i-test.false)

pub returns-clause-after : goal.returns-clause-after
returns-clause-after c =
    sym (c.loop-i.invariant.1 ∙ after_all c.loop-i.left c.args.log.now c.loop-i.i c.loop-i-test.false)
