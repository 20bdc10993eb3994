use Rattle.pb_layout.proofs.Places.{history_by_places}
use Rattle.pb_layout.proofs.laws.history_by_places.Goals as goal

pub returns : goal.returns
returns c = history_by_places
