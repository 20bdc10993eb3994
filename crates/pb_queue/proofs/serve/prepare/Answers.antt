use Rattle.std.proofs.Common.{◌≡◌, ℕ, ◌+◌, List, ap, subst, ◌∙◌, arith}
use Rattle.pb_pmem.specs.declared.line.Line.{Line}
use Rattle.pb_object.specs.Object.{Waits}
use Rattle.pb_layout.specs.Record.{count_line_of}
use Rattle.pb_pair.specs.View.{round_of_side, lines_of}
use Rattle.pb_engine.specs.Asks.{side_asked, answered_from}
use Rattle.pb_engine.specs.Next.{IsBegun, PutsEntries}
use Rattle.pb_queue.specs.Serving.{HasServed, count_of}
use Rattle.pb_queue.specs.Standing.{standing_of}
use Rattle.pb_layout_laws.proofs.FewRounds.{records_few}
use Rattle.pb_queue.proofs.Prepared.{rounds_are, side_there, prepared_is_next}
use Rattle.pb_queue.proofs.serve.prepare.Goals as goal

pub overflow_add-round : goal.overflow_add-round
overflow_add-round g c =
    let pair = c.args.pair.now in
    let s = standing_of pair c.args.items.now.sure in
    let here = side_there s c.args.asks.now c.requires.asks in
    let round = c.round.ensures ∙ (ap (round_of_side pair) c.requires.side ∙ rounds_are pair c.args.items.now.sure (side_asked c.args.asks.now) here) in
    omega (arith, round, records_few (lines_of pair) s c.requires.records (side_asked c.args.asks.now))

pub returns-clause-lines : goal.returns-clause-lines
returns-clause-lines g c =
    let pair = c.args.pair.now in
    let old = c.args.items.now in
    let new = c.serve.new.items in
    let side = c.requires.side in
    let before : c.lines_of-before.result.now ≡ lines_of pair (side_asked c.args.asks.now) = c.lines_of-before.ensures ∙ ap (lines_of pair) side in
    let round : c.round.result + 1 ≡ round_of_side pair (side_asked c.args.asks.now) + 1 = ap (λ (n : ℕ). n + 1) (c.round.ensures ∙ ap (round_of_side pair) side) in
    prepared_is_next pair old new c.args.asks.now c.begin.new.self c.serve.new.next c.put_count.new.self
    (record { sound = c.requires.sound; queue = c.requires.queue; records = c.requires.records; size = c.requires.size; may = c.requires.asks })
    (subst (λ (n : ℕ). HasServed n c.args.asks.now old new) side c.serve.ensures.items)
    c.count.ensures.bounded
    (record {
      begins = subst (λ (ls : List Line). IsBegun ls (round_of_side pair (side_asked c.args.asks.now) + 1) c.begin.new.self) before (subst (λ (n : ℕ). IsBegun c.lines_of-before.result.now n c.begin.new.self) round c.begin.ensures);
      puts = subst (λ (ls : List Line). PutsEntries ls (answered_from (Waits old.size old.sure) c.args.asks.now) c.begin.new.self c.serve.new.next) before c.serve.ensures.entries;
      keeps = c.put_count.ensures.others;
      counts = c.put_count.ensures.count ∙ ap count_line_of (c.count.ensures.count ∙ ap (λ (n : ℕ). count_of n new.next) side);
    })
