use Rattle.pb_layout_laws.proofs.Compose.{coverings-compose}
use Rattle.pb_layout_laws.proofs.laws.calls.coverings_compose.Goals as goal

pub returns : goal.returns
returns c = λ base log from middle s first second low.
    coverings-compose base log from middle s _ _ second.within first second
