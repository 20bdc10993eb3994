use Rattle.pb_core.proofs.Holding.{begins_due, begins_legal, begins_own}
use Rattle.pb_core.proofs.laws.a_scan_sees_a_legal_round.Goals as goal

pub returns : goal.returns
returns c = λ old client new is there begins.
    record { due = begins_due is begins; own = begins_own is there begins; legal = begins_legal is there begins }
