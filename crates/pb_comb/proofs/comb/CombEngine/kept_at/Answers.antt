-- A client's list is what its slots hold.
use Rattle.std.proofs.Common.{get_or, sym, ap, subst, ◌∙◌, List, ◌<◌}
use Rattle.pb_pmem.specs.declared.line.Line.{Line}
use Rattle.pb_object.specs.Request.{none_kept}
use Rattle.pb_object.specs.Standing.{kept_list_of}
use Rattle.pb_layout.specs.ClientLine.{kept_in}
use Rattle.pb_layout.specs.Record.{slot_line_at}
use Rattle.pb_engine.specs.View.{EngineView}
use Rattle.pb_comb.proofs.Sound.{kept_at_place}
use Rattle.pb_comb.proofs.comb.CombEngine.kept_at.Goals as goal

pub returns : goal.returns
returns g c =
    let i = c.self.inside in
    let inside = subst (λ (e : EngineView). c.args.client < e.standing.clients) (sym c.self.view_is) c.requires.client in
    let place = kept_at_place g.O.Object.KIND i.pair (g.O.Object.state i.object) (g.O.Object.state i.ahead) i.next i.asked.items c.args.client c.args.place c.self.invariant inside c.requires.place in
    c.kept_in_slot.ensures ∙ (ap (λ (lines : List Line). kept_in (slot_line_at lines c.args.client c.args.place)) c.lines_of.ensures
    ∙ (sym place ∙ ap (λ (e : EngineView). get_or (kept_list_of e.standing c.args.client) c.args.place none_kept) c.self.view_is))
