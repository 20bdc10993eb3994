-- One more client: its newest number is added.
use Rattle.std.proofs.Common.{ℕ, sym, ap, arith, add-one}
use Rattle.pb_layout.specs.Record.{number_sum}
use Rattle.pb_layout.proofs.Records.{number_sum-none, number_sum-more, number_read}
use Rattle.pb_layout.proofs.record.sum_numbers.Goals as goal

pub loop-client-init : goal.loop-client-init
loop-client-init c = record { sum = sym (number_sum-none c.args.lines.now); few = omega arith }

pub overflow_add-sum-in-loop-client : goal.overflow_add-sum-in-loop-client
overflow_add-sum-in-loop-client c =
    let small = c.requires.small c.loop-client.client c.loop-client-test.true in
    let read = number_read c.args.lines.now c.loop-client.client c.index-lines-client.result (omega arith) c.index-lines-client.is in
    omega arith

pub loop-client-preserved : goal.loop-client-preserved
loop-client-preserved c =
    let small = c.requires.small c.loop-client.client c.loop-client-test.true in
    let read = number_read c.args.lines.now c.loop-client.client c.index-lines-client.result (omega arith) c.index-lines-client.is in
    let more = number_sum-more c.args.lines.now c.loop-client.client in
    let next = ap (λ (n : ℕ). number_sum c.args.lines.now n) (add-one c.loop-client.client) in
    record { sum = omega arith; few = omega arith }
