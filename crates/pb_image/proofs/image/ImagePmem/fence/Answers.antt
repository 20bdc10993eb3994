use Rattle.pb_pmem.specs.declared.log.LogOp.TheVariants.{Fence}
use Rattle.pb_pmem.specs.Device.{Is}
use Rattle.pb_image.proofs.Answer.{OnErr-Fails-allowed, allowed-Fence}
use Rattle.pb_image.proofs.image.ImagePmem.fence.Goals as goal

pub returns-clause-err : goal.returns-clause-err
returns-clause-err c =
    OnErr-Fails-allowed _ _ (Fence) (Is Fence) c.call.result (allowed-Fence) c.call.ensures.err
