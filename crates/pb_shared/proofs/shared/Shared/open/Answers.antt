use Rattle.std.proofs.Common.{◌≡◌, length, ap, sym, ◌∙◌, subst}
use Rattle.pb_engine.specs.View.{EngineView}
use Rattle.pb_rule.specs.View.{fresh_views}
use Rattle.pb_shared.specs.Passes.{lists_kept, passes_over}
use Rattle.pb_shared.proofs.PassLemmas.{all_opened}
use Rattle.pb_shared.proofs.shared.Shared.open.Goals as goal

pub returns-clause-all : goal.returns-clause-all
returns-clause-all g c =
    let table = c.in_ok-table.table.shared.table_id in
    let same = ap g.E.Engine.seen c.in_ok-table.ensures.ok.3 in
    let clients = c.clients-clients.ensures.count ∙ ap (λ (e : EngineView). e.standing.clients) (sym same) in
    let kept = ap lists_kept c.as_slice.ensures.value ∙ (c.in-Ok.ensures.kept ∙ ap (λ (e : EngineView). e.standing.kept) (sym same)) in
    let count = subst (λ (e : EngineView). length e.standing.kept ≡ e.standing.clients) (sym same) c.clients-clients.ensures.sound.kept.count in
    all_opened (record { table = table; start = g.E.Engine.seen c.in_ok-table.table.shared.key.value }) _ count
    (c.add_passes.ensures ∙ (λ i. passes_over table (fresh_views (clients i) 0 (kept i))))
