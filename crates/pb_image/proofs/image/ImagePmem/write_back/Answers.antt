use Rattle.pb_pmem.specs.declared.log.LogOp.TheVariants.{Back}
use Rattle.pb_pmem.specs.Device.{Is}
use Rattle.pb_image.proofs.Answer.{OnErr-Fails-allowed, allowed-Back}
use Rattle.pb_image.proofs.image.ImagePmem.write_back.Goals as goal

pub returns-clause-err : goal.returns-clause-err
returns-clause-err c =
    OnErr-Fails-allowed _ _ (Back c.args.first c.args.count) (Is (Back c.args.first c.args.count)) c.call.result (allowed-Back c.args.first c.args.count) c.call.ensures.err
