use Rattle.pb_pmem.specs.declared.log.LogOp.TheVariants.{Whole}
use Rattle.pb_pmem.specs.Device.{IsWholeOf}
use Rattle.pb_image.proofs.Answer.{OnErr-Fails-allowed, allowed-Whole}
use Rattle.pb_image.proofs.image.ImagePmem.write.Goals as goal

pub returns-clause-err : goal.returns-clause-err
returns-clause-err c =
    OnErr-Fails-allowed _ _ (Whole c.args.line c.args.from.now) (IsWholeOf c.args.line) c.call.result (allowed-Whole c.args.line c.args.from.now) c.call.ensures.err
