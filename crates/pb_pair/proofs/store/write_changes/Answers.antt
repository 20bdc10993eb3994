use Rattle.std.proofs.Common.{◌≡◌, not, sym, ap, ◌∙◌, arith}
use Rattle.pb_pmem.specs.declared.line.Line.{Line}
use Rattle.pb_pmem.proofs.OperationSteps.{does_none, on_err}
use Rattle.pb_layout.specs.RegionOps.{is_same}
use Rattle.pb_layout.proofs.Lines.{same_from_eq}
use Rattle.pb_layout.proofs.SparseWrites.{changes_from-none}
use Rattle.pb_pair.proofs.Changes.{IsPlace, does_same, does_change, stops_change, differs, agrees, still_there, none_written, written_more, same_more}
use Rattle.pb_pair.proofs.store.write_changes.Goals as goal
use Rattle.pb_pair.proofs.store.write_changes.Goals.{then-differs+in_ok-make, else-differs}

pub loop-place-init : goal.loop-place-init
loop-place-init g c =
    (rw (changes_from-none c.args.first c.args.spare.now) (does_none (g.P.Pmem.seen c.args.device.now)), none_written c.args.spare.now c.args.lines.now c.requires.spare)

pub returns-in_err-make-clause-err : goal.returns-in_err-make-clause-err
returns-in_err-make-clause-err g c =
    let old = c.args.spare.now in
    let lines = c.args.lines.now in
    let place = c.loop-place.place in
    let at : IsPlace old lines place c.index-spare-place.result c.index-lines-place.result = record {
      within = c.loop-place-test.true;
      old_within = omega (arith, c.requires.spare, c.loop-place-test.true);
      old_is = still_there old lines c.loop-place.spare place c.index-spare-place.result c.loop-place.invariant.1 c.loop-place-test.true c.index-spare-place.is;
      is = c.index-lines-place.is;
    } in
    on_err c.from_residual.result
    (stops_change c.args.first old lines place c.index-spare-place.result c.index-lines-place.result (g.P.Pmem.seen c.args.device.now) (g.P.Pmem.seen c.loop-place.device) (g.P.Pmem.seen c.make.new.device) at (differs c.differs.result (is_same c.index-spare-place.result c.index-lines-place.result) (c.differs.ensures ∙ ap (λ (l : Line). not (is_same l c.index-lines-place.result)) (sym c.index-spare-place.is)) c.if-differs.true) c.loop-place.invariant.0 c.in_err-make.ensures.err)

pub loop-place-preserved : goal.loop-place-preserved
loop-place-preserved g c =
    let old = c.args.spare.now in
    let lines = c.args.lines.now in
    let place = c.loop-place.place in
    let written = c.loop-place.invariant.1 in
    let within = c.loop-place-test.true in
    let at : IsPlace old lines place c.index-spare-place.result c.index-lines-place.result = record {
      within = within;
      old_within = omega (arith, c.requires.spare, within);
      old_is = still_there old lines c.loop-place.spare place c.index-spare-place.result written within c.index-spare-place.is;
      is = c.index-lines-place.is;
    } in
    let compared : c.differs.result ≡ not (is_same c.index-spare-place.result c.index-lines-place.result) = c.differs.ensures ∙ ap (λ (l : Line). not (is_same l c.index-lines-place.result)) (sym c.index-spare-place.is) in
    elim c.if-differs.branch [
      | then-differs+in_ok-make w ↦ rw (w.device-is, w.spare-is) (
        does_change c.args.first old lines place c.index-spare-place.result c.index-lines-place.result (g.P.Pmem.seen c.args.device.now) (g.P.Pmem.seen c.loop-place.device) (g.P.Pmem.seen w.make.new.device) at (differs c.differs.result (is_same c.index-spare-place.result c.index-lines-place.result) compared w.if-differs.true) c.loop-place.invariant.0 w.in_ok-make.ensures.ok,
        written_more old lines c.loop-place.spare place c.index-lines-place.result written within c.index-lines-place.is,
      )
      | else-differs w ↦
          let same = agrees c.differs.result (is_same c.index-spare-place.result c.index-lines-place.result) compared w.if-differs.false in
          rw (w.device-is, w.spare-is) (
            does_same c.args.first old lines place c.index-spare-place.result c.index-lines-place.result (g.P.Pmem.seen c.args.device.now) (g.P.Pmem.seen c.loop-place.device) at same c.loop-place.invariant.0,
            same_more old lines c.loop-place.spare place c.index-spare-place.result c.index-lines-place.result written within c.index-spare-place.is c.index-lines-place.is (same_from_eq c.index-spare-place.result c.index-lines-place.result (sym same)),
          )
    ]
