use Rattle.std.proofs.Common.{◌++◌, ap, sym, ◌∙◌}
use Rattle.pb_pmem.specs.Crash.{unbacked_writes}
use Rattle.pb_crash.specs.Picked.{with_loose}
use Rattle.pb_crash.proofs.Leaving.{flood_pick, flood_both, both_done}
use Rattle.pb_crash.proofs.image.leave_loose.Goals as goal

pub returns-then-pick-eq1 : goal.returns-then-pick-eq1
returns-then-pick-eq1 c =
    let loose = unbacked_writes c.args.log.now in
    both_done c.args.lines.now c.apply_loose.new.lines c.apply_all.new.lines loose c.args.next.now c.apply_loose.ensures c.apply_all.ensures
    ∙ sym (ap (λ pick. with_loose pick (loose ++ c.args.next.now) c.args.lines.now) c.if-pick-eq1.true)

pub returns : goal.returns
returns c =
    let loose = unbacked_writes c.args.log.now in
    flood_both c.args.pick c.args.lines.now c.apply_all.new.lines c.flood_loose.new.lines c.flood.new.lines loose c.args.next.now
    (both_done c.args.lines.now c.apply_loose.new.lines c.apply_all.new.lines loose c.args.next.now c.apply_loose.ensures c.apply_all.ensures) c.flood_loose.ensures c.flood.ensures
    ∙ sym (flood_pick c.args.pick (loose ++ c.args.next.now) c.args.lines.now c.if-pick-eq0.false c.if-pick-eq1.false)
