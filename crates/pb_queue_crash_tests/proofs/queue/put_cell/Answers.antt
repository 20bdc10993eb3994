use Rattle.std.proofs.Common.{ap, arith, rules, length, ◌≡◌, ◌∙◌, List, sym}
use Rattle.pb_pmem.specs.declared.line.Line.{Line}
use Rattle.pb_pmem.specs.Lines.{word_of}
use Rattle.pb_pair.specs.View.{lines_of}
use Rattle.pb_queue_crash_tests.proofs.Counts.{free_is}
use Rattle.pb_queue_crash_tests.proofs.queue.put_cell.Goals as goal

pub put_cell-requires : goal.put_cell-requires
put_cell-requires g c =
    let puts : c.lines_of.result.now ≡ lines_of c.args.pair.now 0 = c.lines_of.ensures in
    let takes : c.lines_of-2.result.now ≡ lines_of c.args.pair.now 1 = c.lines_of-2.ensures in
    let tail : c.count-tail.result ≡ word_of (lines_of c.args.pair.now 0) 17 0 = c.count-tail.ensures.count ∙ ap (λ (ls : List Line). word_of ls 17 0) puts in
    let taken : c.count-taken.result ≡ word_of (lines_of c.args.pair.now 1) 17 0 = c.count-taken.ensures.count ∙ ap (λ (ls : List Line). word_of ls 17 0) takes in
    let long : length (lines_of c.args.pair.now 0) ≡ 18 = ap (λ (ls : List Line). length ls) (sym puts) ∙ c.count-tail.ensures.long in
    free_is c.args.pair.now c.args.position (search rules) (search rules) long (omega arith) (omega arith)
