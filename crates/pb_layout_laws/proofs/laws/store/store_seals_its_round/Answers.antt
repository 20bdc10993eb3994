use Rattle.pb_layout_laws.proofs.StoreExits.{store_by_whole}
use Rattle.pb_layout_laws.proofs.laws.store.store_seals_its_round.Goals as goal

pub returns : goal.returns
returns c base log writes s round lines ready next cells stages =
    store_by_whole (record { ready = ready; next = next; cells = cells; stages = stages })
