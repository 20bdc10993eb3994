use Rattle.std.proofs.Common.{ℕ, List, [], ◌∷◌, Some, sym, ap, ◌∙◌, subst}
use Rattle.pb_engine.specs.View.{EngineView, IsEngine}
use Rattle.pb_rule.specs.Opening.{HasStart}
use Rattle.pb_rule.proofs.Opens.{opens}
use Rattle.pb_rule.proofs.opening.make_table.Goals as goal

pub new-requires : goal.new-requires
new-requires g c =
    let same = sym c.of-about.ensures in
    let seen = ap g.E.Engine.seen same in
    opens g.E.Engine.seen (g.E.Engine.seen c.of-about.result.value).standing.kind c.of-about.result.value c.as_slice.result.now c.in-Ok-one_slot.slots.items (c.in-Ok-one_slot.ensures.ok ∙ ap (λ (x : g.row.E.Denot). Some x ∷ []) same) (ap (λ (e : EngineView). e.sure) (sym seen) ∙ c.requires.sure) (subst (λ (e : EngineView). IsEngine e.standing.kind e) seen c.in-Ok.ensures.sound)
    (subst (λ (words : List ℕ). HasStart (g.E.Engine.seen c.of-about.result.value).standing (g.E.Engine.seen c.of-about.result.value).standing.clients 0 words) (sym c.as_slice.ensures.value) (subst (λ (e : EngineView). HasStart e.standing e.standing.clients 0 c.in-Ok.start.items) seen c.in-Ok.ensures.ok))
