-- The object is what the lines say.
use Rattle.std.proofs.Common.{◌≢◌, List, ap, sym, subst, ◌∙◌}
use Rattle.pb_object.specs.declared.kind.Kind.TheVariants.{Queue}
use Rattle.pb_object.specs.declared.request.Ask.{Ask}
use Rattle.pb_pair.specs.View.{PairView}
use Rattle.pb_engine.specs.Opening.{IsAdopted}
use Rattle.pb_engine.specs.Pairs.{is_sure}
use Rattle.pb_comb.specs.View.{comb_view, IsComb}
use Rattle.pb_comb.proofs.Opening.{TakesLines, taken_length, taken_records, refused_within, resting, adopted_is, refused_told, next_length}
use Rattle.pb_comb.proofs.comb.Comb.adopt.Goals as goal

pub take_lines-requires : goal.take_lines-requires
take_lines-requires g c =
    let pair : PairView = c.args.pair in
    let fresh = g.O.Object.state c.in-Ok.memory.object in
    let takes : TakesLines g.O.Object.KIND pair fresh c.header-head.result c.lines_of.result.now c.object_lines.result.now = record { sound = c.requires.opened.sound; kind_is = c.requires.kind; not_queue = g.met.O.Object.is_no_queue; head_is = c.header-head.ensures.head; fresh_is = c.in-Ok.ensures.object; lines_are = c.lines_of.ensures; part_is = c.object_lines.ensures } in
    taken_length g.O.Object.KIND pair fresh c.header-head.result c.lines_of.result.now c.object_lines.result.now takes

pub invariant_of-result : goal.invariant_of-result
invariant_of-result g c =
    let pair : PairView = c.args.pair in
    let fresh = g.O.Object.state c.in-Ok.memory.object in
    let takes : TakesLines g.O.Object.KIND pair fresh c.header-head.result c.lines_of.result.now c.object_lines.result.now = record { sound = c.requires.opened.sound; kind_is = c.requires.kind; not_queue = g.met.O.Object.is_no_queue; head_is = c.header-head.ensures.head; fresh_is = c.in-Ok.ensures.object; lines_are = c.lines_of.ensures; part_is = c.object_lines.ensures } in
    let state = g.O.Object.state c.take_lines.new.self in
    let records = taken_records g.O.Object.KIND pair fresh state c.header-head.result c.lines_of.result.now c.object_lines.result.now takes (g.met.O.Object.is_of_kind c.take_lines.new.self) c.in-Ok-take_lines.ensures.size c.in-Ok-take_lines.ensures.taken in
    subst (IsComb g.O.Object.KIND pair state (g.O.Object.state c.copy_from.new.self) c.in-Ok.memory.next) (sym c.new.ensures)
    (resting g.O.Object.KIND pair state (g.O.Object.state c.copy_from.new.self) c.in-Ok.memory.next c.requires.opened.sound c.requires.kind g.met.O.Object.is_no_queue records c.copy_from.ensures (next_length pair c.header-head.result c.in-Ok.memory.next c.header-head.ensures.head c.in-Ok.ensures.next) (λ sure. absurd (cc (ap is_sure c.requires.opened.known, sure))) c.requires.opened.doubt)

pub object_line_at-line-requires-clause-place : goal.object_line_at-line-requires-clause-place
object_line_at-line-requires-clause-place g c =
    let pair : PairView = c.args.pair in
    let fresh = g.O.Object.state c.in-Ok.memory.object in
    let takes : TakesLines g.O.Object.KIND pair fresh c.header-head.result c.lines_of.result.now c.object_lines.result.now = record { sound = c.requires.opened.sound; kind_is = c.requires.kind; not_queue = g.met.O.Object.is_no_queue; head_is = c.header-head.ensures.head; fresh_is = c.in-Ok.ensures.object; lines_are = c.lines_of.ensures; part_is = c.object_lines.ensures } in
    refused_within g.O.Object.KIND pair fresh c.header-head.result c.lines_of.result.now c.object_lines.result.now c.in-Err.refused.line takes c.in-Err.ensures.refused

pub returns-in-Ok-take_lines-clause-ok : goal.returns-in-Ok-take_lines-clause-ok
returns-in-Ok-take_lines-clause-ok g c =
    let pair : PairView = c.args.pair in
    let fresh = g.O.Object.state c.in-Ok.memory.object in
    let takes : TakesLines g.O.Object.KIND pair fresh c.header-head.result c.lines_of.result.now c.object_lines.result.now = record { sound = c.requires.opened.sound; kind_is = c.requires.kind; not_queue = g.met.O.Object.is_no_queue; head_is = c.header-head.ensures.head; fresh_is = c.in-Ok.ensures.object; lines_are = c.lines_of.ensures; part_is = c.object_lines.ensures } in
    let state = g.O.Object.state c.take_lines.new.self in
    let records = taken_records g.O.Object.KIND pair fresh state c.header-head.result c.lines_of.result.now c.object_lines.result.now takes (g.met.O.Object.is_of_kind c.take_lines.new.self) c.in-Ok-take_lines.ensures.size c.in-Ok-take_lines.ensures.taken in
    let not_queue : pair.head.kind ≢ Queue = λ queue. g.met.O.Object.is_no_queue (sym c.requires.kind ∙ queue) in
    subst (λ (asked : List Ask). IsAdopted pair.device (comb_view pair state asked)) (sym c.new.ensures) (adopted_is pair state not_queue c.requires.opened records)

pub returns-in-Err-clause-err : goal.returns-in-Err-clause-err
returns-in-Err-clause-err g c =
    let pair : PairView = c.args.pair in
    let fresh = g.O.Object.state c.in-Ok.memory.object in
    let takes : TakesLines g.O.Object.KIND pair fresh c.header-head.result c.lines_of.result.now c.object_lines.result.now = record { sound = c.requires.opened.sound; kind_is = c.requires.kind; not_queue = g.met.O.Object.is_no_queue; head_is = c.header-head.ensures.head; fresh_is = c.in-Ok.ensures.object; lines_are = c.lines_of.ensures; part_is = c.object_lines.ensures } in
    (c.close-in-Err.ensures, refused_told g.O.Object.KIND pair fresh c.header-head.result c.lines_of.result.now c.object_lines.result.now c.in-Err.refused.line c.round.result c.object_line_at-line.result takes c.requires.opened c.in-Err.ensures.refused c.round.ensures c.object_line_at-line.ensures)
