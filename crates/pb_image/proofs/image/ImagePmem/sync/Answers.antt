use Rattle.pb_pmem.specs.declared.log.LogOp.TheVariants.{Sync}
use Rattle.pb_pmem.specs.Device.{IsMark}
use Rattle.pb_image.proofs.Answer.{OnErr-Fails-allowed, allowed-Sync}
use Rattle.pb_image.proofs.image.ImagePmem.sync.Goals as goal

pub returns-clause-err : goal.returns-clause-err
returns-clause-err c =
    OnErr-Fails-allowed _ _ (Sync) (IsMark) c.call.result (allowed-Sync) c.call.ensures.err
