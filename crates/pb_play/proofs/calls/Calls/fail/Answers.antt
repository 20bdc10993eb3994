use Rattle.std.proofs.Common.{refl, option_to_list, subst}
use Rattle.pb_play.proofs.Devices.{fails_call}
use Rattle.pb_play.specs.Shape.{AddsTo}
use Rattle.pb_play.proofs.calls.Calls.fail.Goals as goal

pub returns-clause-failed : goal.returns-clause-failed
returns-clause-failed c = λ tale progress s due. (refl, fails_call c.args.how c.index.result.now c.index.result.now c.index.ensures (subst (λ o. AddsTo (option_to_list o) c.args.device.now c.add.new.self) c.left_by.ensures c.add.ensures.adds) s due)
