use Rattle.std.proofs.Common.{◌≡◌, ◌+◌, cond, refl, take, sym, ◌∙◌, arith}
use Rattle.pb_pmem.specs.Crash.{is_mark, is_sync, marks}
use Rattle.pb_pmem.proofs.Marks.{least_cut_push, marks_push, marks-none, least_cut-none}
use Rattle.pb_crash.proofs.Steps.{up_to_place, at_most_one}
use Rattle.pb_crash.proofs.cuts.cuts_of.Goals as goal
use Rattle.pb_crash.proofs.cuts.cuts_of.Goals.{then-is_sync, else-is_sync}

pub loop-op-init : goal.loop-op-init
loop-op-init c = (sym least_cut-none, sym marks-none, omega arith)

pub loop-op-preserved : goal.loop-op-preserved
loop-op-preserved c =
    let longer = up_to_place c.args.log.now c.loop-op.op-index c.op-item.result c.loop-op-test.true c.op-item.is in
    let before = take c.loop-op.op-index c.args.log.now in
    let op = c.op-item.result in
    let count : c.loop-op.count + c.marks_of-count.result ≡ marks (take (c.loop-op.op-index + 1) c.args.log.now) = rw (longer, marks_push, ← c.loop-op.invariant.1, ← c.marks_of-count.ensures) refl in
    let least : c.if-is_sync.least ≡ cond (is_sync op) (c.loop-op.count + c.marks_of-count.result) c.loop-op.least = elim c.if-is_sync.branch [ then-is_sync w ↦ rw (← c.is_sync.ensures, w.if-is_sync.true) w.least-is | else-is_sync w ↦ rw (← c.is_sync.ensures, w.if-is_sync.false) w.least-is ] in
    (least ∙ rw (longer, least_cut_push, ← longer, ← count, ← c.loop-op.invariant.0) refl, count, omega (arith, c.marks_of-count.ensures, at_most_one (is_mark op)))
