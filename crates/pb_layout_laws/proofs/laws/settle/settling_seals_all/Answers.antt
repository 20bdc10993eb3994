use Rattle.pb_layout_laws.proofs.Sealing.{sealed_by_settling}
use Rattle.pb_layout_laws.proofs.laws.settle.settling_seals_all.Goals as goal

pub returns : goal.returns
returns c = sealed_by_settling
