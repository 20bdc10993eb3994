use Rattle.std.proofs.Common.{◌≡◌, ◌+◌, ◌*◌, List, length, ap, subst, sym, arith}
use Rattle.pb_pmem.specs.declared.line.Line.{Line}
use Rattle.pb_object.specs.Object.{State}
use Rattle.pb_object.specs.ObjectLines.{LinesRepresent}
use Rattle.pb_layout.specs.declared.header.Header.{Header}
use Rattle.pb_layout.specs.Header.{slot_count}
use Rattle.pb_core.specs.Play.{ListsRising}
use Rattle.pb_engine.specs.Asks.{state_from}
use Rattle.pb_round_play.proofs.Serves.{back_is, written_again}
use Rattle.pb_round_play.proofs.serving.serve_heap.Goals as goal

pub returns-clause-served : goal.returns-clause-served
returns-clause-served c = λ state kind size stand.
    let first : length c.split_at_mut.result.0.now ≡ 1 + slot_count c.args.head.now = omega (arith, c.split_at_mut.ensures.front_len, ap (λ (h : Header). h.clients) c.head.view_is) in
    let did = c.serve.ensures.served state kind size stand in (
      written_again c.split_at_mut.result.0.now c.split_at_mut.result.1.now c.write_rising.new.into (1 + 8 * c.head.inside.clients) did.0 (omega (arith, ap (λ (h : Header). h.clients) c.head.view_is)) c.split_at_mut.ensures.value c.split_at_mut.ensures.front_len c.write_rising.ensures.lines
          (subst (λ (st : State). LinesRepresent c.write_rising.new.into st) did.1 c.write_rising.ensures.stands),
      subst (λ (ls : List Line). ListsRising (state_from state c.args.asks.now) ls) (sym (back_is c.split_at_mut.result.0.now c.write_rising.new.into (1 + slot_count c.args.head.now) first))
          (subst (λ (st : State). ListsRising st c.write_rising.new.into) did.1 c.write_rising.ensures.rises),
    )
