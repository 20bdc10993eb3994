use Rattle.std.proofs.Common.{ap, subst, ◌∙◌}
use Rattle.pb_layout.specs.Region.{cell_place}
use Rattle.pb_layout.specs.declared.header.Header.{Header}
use Rattle.pb_pair.specs.View.{PairView}
use Rattle.pb_queue.proofs.ReadCells.{WasRead, cells_more, bad_cell_is}
use Rattle.pb_queue.proofs.recovery.read_cells.Goals as goal

pub returns-in-None-clause-err : goal.returns-in-None-clause-err
returns-in-None-clause-err g c =
    let same = c.loop-position.invariant.0 in
    let was = subst (λ (pair : PairView). WasRead pair c.loop-position.position c.in-Ok.line) same c.in-Ok.ensures.ok in
    let at = c.cell_line-line.ensures ∙ ap (λ (h : Header). cell_place h c.loop-position.position) c.header-head.ensures.head in (
      c.in-Ok.ensures.same ∙ same,
      bad_cell_is c.args.pair.now c.args.items.now c.loop-position.items c.loop-position.position c.args.tail c.cell_line-line.result c.in-Ok.line c.loop-position.invariant.1 c.loop-position-test.true was c.in-None.ensures at,
    )

pub loop-position-preserved : goal.loop-position-preserved
loop-position-preserved g c =
    let same = c.loop-position.invariant.0 in
    let was = subst (λ (pair : PairView). WasRead pair c.loop-position.position c.in-Ok.line) same c.in-Ok.ensures.ok in (
      c.in-Ok.ensures.same ∙ same,
      cells_more c.args.pair.now c.args.items.now c.loop-position.items c.append.new.self c.loop-position.position c.in-Some.item c.in-Ok.line c.loop-position.invariant.1 was c.in-Some.ensures c.append.ensures,
    )
