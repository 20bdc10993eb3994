use Rattle.pb_layout_laws.proofs.StoreExits.{store_by_while_staging}
use Rattle.pb_layout_laws.proofs.laws.store.store_failing_while_staging.Goals as goal

pub returns : goal.returns
returns c = store_by_while_staging
