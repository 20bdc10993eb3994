use Rattle.pb_layout_laws.proofs.StoreExits.{store_by_while_committing}
use Rattle.pb_layout_laws.proofs.laws.store.store_failing_while_committing.Goals as goal

pub returns : goal.returns
returns c base log writes tail s round lines ready next cells stages cut =
    store_by_while_committing (record { ready = ready; next = next; cells = cells; stages = stages }) tail cut
