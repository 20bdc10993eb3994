use Rattle.std.proofs.Common.{refl}
use Rattle.pb_play.proofs.Devices.{makes_call}
use Rattle.pb_play.proofs.calls.Calls.make.Goals as goal

pub returns-clause-made : goal.returns-clause-made
returns-clause-made c = λ tale progress s due. (refl, makes_call c.index.result.now c.index.result.now c.index.ensures c.add.ensures.adds s due)
