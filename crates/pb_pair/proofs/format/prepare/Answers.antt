use Rattle.std.proofs.Common.{◌++◌}
use Rattle.pb_layout.specs.Region.{record_place}
use Rattle.pb_pmem.specs.Operations.{writes_from, Does}
use Rattle.pb_layout.specs.RegionOps.{front_ops, write_backs}
use Rattle.pb_pmem.proofs.OperationSteps.{ok_then, err_then, stops_early, stops_late, on_err}
use Rattle.pb_pair.proofs.format.prepare.Goals as goal

pub returns-in_err-write_second-clause-err : goal.returns-in_err-write_second-clause-err
returns-in_err-write_second-clause-err g c =
    let head = c.args.head.now in
    let first = writes_from (record_place head 0 0) c.args.first.now in
    let second = writes_from (record_place head 1 0) c.args.second.now in
    let start = g.P.Pmem.seen c.args.device.now in
    let one = g.P.Pmem.seen c.write_lines.new.device in
    let end = g.P.Pmem.seen c.write_second.new.device in
    let does : Does first start one = rw (← c.record_line.ensures) c.in_ok-write_lines.ensures.ok in
    on_err c.from_residual-in_err-write_second.result
    (stops_late first (second ++ (front_ops head ++ write_backs head)) start one end does (stops_early second (front_ops head ++ write_backs head) one end c.in_err-write_second.ensures.err))

pub returns-in_err-write_front-clause-err : goal.returns-in_err-write_front-clause-err
returns-in_err-write_front-clause-err g c =
    let head = c.args.head.now in
    let first = writes_from (record_place head 0 0) c.args.first.now in
    let second = writes_from (record_place head 1 0) c.args.second.now in
    let start = g.P.Pmem.seen c.args.device.now in
    let one = g.P.Pmem.seen c.write_lines.new.device in
    let two = g.P.Pmem.seen c.write_second.new.device in
    let end = g.P.Pmem.seen c.write_front.new.device in
    let does : Does first start one = rw (← c.record_line.ensures) c.in_ok-write_lines.ensures.ok in
    on_err c.from_residual-in_err-write_front.result
    (stops_late first (second ++ (front_ops head ++ write_backs head)) start one end does (stops_late second (front_ops head ++ write_backs head) one two end c.in_ok-write_second.ensures.ok (stops_early (front_ops head) (write_backs head) two end c.in_err-write_front.ensures.err)))

pub returns-clause-ok : goal.returns-clause-ok
returns-clause-ok g c =
    let head = c.args.head.now in
    let first = writes_from (record_place head 0 0) c.args.first.now in
    let second = writes_from (record_place head 1 0) c.args.second.now in
    let start = g.P.Pmem.seen c.args.device.now in
    let one = g.P.Pmem.seen c.write_lines.new.device in
    let two = g.P.Pmem.seen c.write_second.new.device in
    let three = g.P.Pmem.seen c.write_front.new.device in
    let end = g.P.Pmem.seen c.give.new.device in
    let does : Does first start one = rw (← c.record_line.ensures) c.in_ok-write_lines.ensures.ok in
    ok_then c.give.result first (second ++ (front_ops head ++ write_backs head)) start one end does (ok_then c.give.result second (front_ops head ++ write_backs head) one two end c.in_ok-write_second.ensures.ok (ok_then c.give.result (front_ops head) (write_backs head) two three end c.in_ok-write_front.ensures.ok c.give.ensures.ok))

pub returns-clause-err : goal.returns-clause-err
returns-clause-err g c =
    let head = c.args.head.now in
    let first = writes_from (record_place head 0 0) c.args.first.now in
    let second = writes_from (record_place head 1 0) c.args.second.now in
    let start = g.P.Pmem.seen c.args.device.now in
    let one = g.P.Pmem.seen c.write_lines.new.device in
    let two = g.P.Pmem.seen c.write_second.new.device in
    let three = g.P.Pmem.seen c.write_front.new.device in
    let end = g.P.Pmem.seen c.give.new.device in
    let does : Does first start one = rw (← c.record_line.ensures) c.in_ok-write_lines.ensures.ok in
    err_then c.give.result first (second ++ (front_ops head ++ write_backs head)) start one end does (err_then c.give.result second (front_ops head ++ write_backs head) one two end c.in_ok-write_second.ensures.ok (err_then c.give.result (front_ops head) (write_backs head) two three end c.in_ok-write_front.ensures.ok c.give.ensures.err))
