use Rattle.std.proofs.Common.{◌≡◌, refl, ap, ◌∙◌, arith}
use Rattle.std.proofs.lemmas.Result.{err_from_is_err_and}
use Rattle.pb_layout.specs.declared.header.Header.{Header}
use Rattle.pb_queue.specs.Items.{ItemsView, empty_items}
use Rattle.pb_queue.proofs.RecoveredRegion.{counts_fit, count_read, bad_line_told, cells_refused, recovered_is}
use Rattle.pb_queue.proofs.recovery.recover.Goals as goal

pub returns-in-Some-clause-err : goal.returns-in-Some-clause-err
returns-in-Some-clause-err g c =
    (refl, bad_line_told c.args.pair.now c.in-Some.line c.requires.queue c.requires.opened c.in-Some.ensures)

pub fresh-requires-clause-taken : goal.fresh-requires-clause-taken
fresh-requires-clause-taken g c =
    let pair = c.args.pair.now in
    let head = c.header-head.ensures.head in
    let fit = counts_fit pair c.requires.queue c.requires.opened.sound c.in_default.ensures.counts in
    let taken = count_read pair c.header-head.result c.lines_of-2.result.now 1 c.counted-2.result head c.lines_of-2.ensures c.counted-2.ensures in
    omega (arith, fit.last, fit.fits, taken)

pub read_cells-requires-clause-fits : goal.read_cells-requires-clause-fits
read_cells-requires-clause-fits g c =
    let pair = c.args.pair.now in
    let head = c.header-head.ensures.head in
    let fit = counts_fit pair c.requires.queue c.requires.opened.sound c.in_default.ensures.counts in
    let taken = count_read pair c.header-head.result c.lines_of-2.result.now 1 c.counted-2.result head c.lines_of-2.ensures c.counted-2.ensures in
    let tail = count_read pair c.header-head.result c.lines_of.result.now 0 c.counted.result head c.lines_of.ensures c.counted.ensures in
    let start = ap (λ (v : ItemsView). v.next.taken) c.in-Ok.ensures in
    omega (arith, fit.fits, taken, tail, start)

pub read_cells-requires-clause-room : goal.read_cells-requires-clause-room
read_cells-requires-clause-room g c =
    let pair = c.args.pair.now in
    let head = c.header-head.ensures.head in
    let fit = counts_fit pair c.requires.queue c.requires.opened.sound c.in_default.ensures.counts in
    let taken = count_read pair c.header-head.result c.lines_of-2.result.now 1 c.counted-2.result head c.lines_of-2.ensures c.counted-2.ensures in
    let tail = count_read pair c.header-head.result c.lines_of.result.now 0 c.counted.result head c.lines_of.ensures c.counted.ensures in
    let start = ap (λ (v : ItemsView). v.next.taken) c.in-Ok.ensures in
    let size = ap (λ (v : ItemsView). v.size) c.in-Ok.ensures ∙ (ap (λ (h : Header). h.size) c.head.view_is ∙ ap (λ (h : Header). h.size) head) in
    omega (arith, fit.room, taken, tail, start, size)

pub read_cells-requires-clause-last : goal.read_cells-requires-clause-last
read_cells-requires-clause-last g c =
    let pair = c.args.pair.now in
    let head = c.header-head.ensures.head in
    let fit = counts_fit pair c.requires.queue c.requires.opened.sound c.in_default.ensures.counts in
    let tail = count_read pair c.header-head.result c.lines_of.result.now 0 c.counted.result head c.lines_of.ensures c.counted.ensures in
    omega (arith, fit.last, tail)

pub returns-in_err-read_cells-clause-err : goal.returns-in_err-read_cells-clause-err
returns-in_err-read_cells-clause-err g c =
    let pair = c.args.pair.now in
    let head = c.header-head.ensures.head in
    let taken = count_read pair c.header-head.result c.lines_of-2.result.now 1 c.counted-2.result head c.lines_of-2.ensures c.counted-2.ensures in
    let tail = count_read pair c.header-head.result c.lines_of.result.now 0 c.counted.result head c.lines_of.ensures c.counted.ensures in
    let start = ap (λ (v : ItemsView). v.next.taken) c.in-Ok.ensures in
    let p = err_from_is_err_and c.from_residual.result c.from_residual.ensures.1 in
    rw (p.1, p.2) (cells_refused pair c.read_cells.new.pair c.in-Ok.items.next.taken _ c.in_err-read_cells.field-0.0 c.requires.queue c.requires.opened c.in_default.ensures (start ∙ taken) tail c.in_err-read_cells.ensures.err)

pub returns-clause-ok : goal.returns-clause-ok
returns-clause-ok g c =
    let pair = c.args.pair.now in
    let head = c.header-head.ensures.head in
    let taken = count_read pair c.header-head.result c.lines_of-2.result.now 1 c.counted-2.result head c.lines_of-2.ensures c.counted-2.ensures in
    let tail = count_read pair c.header-head.result c.lines_of.result.now 0 c.counted.result head c.lines_of.ensures c.counted.ensures in
    let size = ap (λ (h : Header). h.size) c.head.view_is ∙ ap (λ (h : Header). h.size) head in
    let start : c.in-Ok.items ≡ empty_items pair.head.size _ = c.in-Ok.ensures ∙ (λ i. empty_items (size i) (taken i)) in
    recovered_is pair _ c.in-Ok.items c.read_cells.new.items c.confirm.new.self c.requires.queue c.requires.opened c.in_default.ensures start tail c.in_ok-read_cells.ensures.ok c.confirm.ensures
