use Rattle.std.proofs.Common.{◌≡◌, ◌+◌, ◌*◌, ◌++◌, List, length, drop, ap, sym, subst, ◌∙◌, arith, length-append}
use Rattle.pb_pmem.specs.declared.line.Line.{Line}
use Rattle.pb_object.specs.Object.{State}
use Rattle.pb_object.specs.ObjectLines.{size_of, object_line_count, LinesRepresent}
use Rattle.pb_layout.specs.Header.{slot_count}
use Rattle.pb_layout.specs.Represents.{object_part}
use Rattle.pb_layout.specs.declared.header.Header.{Header}
use Rattle.pb_engine.specs.Asks.{answered_from, state_from}
use Rattle.pb_engine.specs.Next.{PutsEntries}
use Rattle.pb_comb.proofs.Settling.{size_from}
use Rattle.pb_round_play.specs.Rounds.{with_rows}
use Rattle.pb_round_play.proofs.Serves.{takes, front_stays, back_is}
use Rattle.pb_round_play.proofs.serving.serve.Goals as goal

pub put_lines-requires : goal.put_lines-requires
put_lines-requires g c =
    let size : size_of (g.O.Object.state c.answer.new.object) ≡ c.args.head.now.size = ap size_of c.answer.ensures.state ∙ (size_from c.args.asks.now (g.O.Object.state c.take_lines.new.self) ∙ (c.take_lines.ensures.size ∙ c.requires.size)) in
    let lines : object_line_count g.O.Object.KIND (size_of (g.O.Object.state c.answer.new.object)) ≡ object_line_count c.args.head.now.kind c.args.head.now.size = λ i. object_line_count (c.requires.kind i) (size i) in
    omega (arith, lines, c.split_at_mut.ensures.front_len, ap length c.split_at_mut.ensures.value, length-append c.split_at_mut.result.0.now c.split_at_mut.result.1.now, c.answer.ensures.entries.long, c.requires.next, ap (λ (h : Header). h.clients) c.head.view_is)

pub returns-clause-size : goal.returns-clause-size
returns-clause-size g c = ap size_of c.answer.ensures.state ∙ (size_from c.args.asks.now (g.O.Object.state c.take_lines.new.self) ∙ (c.take_lines.ensures.size ∙ c.requires.size))

pub returns-clause-served : goal.returns-clause-served
returns-clause-served g c = λ state kind size stand.
    let first : 1 + slot_count c.args.head.now ≡ length c.split_at_mut.result.0.now = omega (arith, c.split_at_mut.ensures.front_len, ap (λ (h : Header). h.clients) c.head.view_is) in
    let part : object_part c.args.head.now c.args.before.now ≡ c.split_at.result.1.now = ap (λ (h : Header). drop (1 + 8 * h.clients) c.args.before.now) (sym c.head.view_is) ∙ sym c.split_at.ensures.back in
    let same : g.O.Object.state c.take_lines.new.self ≡ state = takes c.take_lines.result c.split_at.result.1.now g.O.Object.KIND (size_of (g.O.Object.state c.args.object.now)) (g.O.Object.state c.take_lines.new.self) state
    g.met.O.Object.is_no_queue (g.met.O.Object.is_of_kind c.take_lines.new.self) c.take_lines.ensures.size (kind ∙ sym c.requires.kind) (size ∙ sym c.requires.size)
    (subst (λ (ls : List Line). LinesRepresent ls state) part stand) c.take_lines.ensures.taken c.take_lines.ensures.refused in (
      record {
        between = c.answer.new.next;
        puts = subst (λ (st : State). PutsEntries c.args.before.now (answered_from st c.args.asks.now) c.args.next.now c.answer.new.next) same c.answer.ensures.entries;
        keeps = front_stays c.answer.new.next c.split_at_mut.result.0.now c.split_at_mut.result.1.now c.put_lines.new.into (1 + slot_count c.args.head.now) c.split_at_mut.ensures.value (sym first) (omega (arith, c.put_lines.auto.into));
        object = subst (LinesRepresent (object_part c.args.head.now (c.split_at_mut.result.0.now ++ c.put_lines.new.into))) (c.answer.ensures.state ∙ ap (λ (st : State). state_from st c.args.asks.now) same)
            (subst (λ (ls : List Line). LinesRepresent ls (g.O.Object.state c.answer.new.object)) (sym (back_is c.split_at_mut.result.0.now c.put_lines.new.into (1 + slot_count c.args.head.now) (sym first))) c.put_lines.ensures);
        rows_are = c.answer.ensures.rows ∙ ap (λ (st : State). with_rows (answered_from st c.args.asks.now) c.args.seats.now) same;
      },
      c.answer.ensures.state ∙ ap (λ (st : State). state_from st c.args.asks.now) same,
    )
