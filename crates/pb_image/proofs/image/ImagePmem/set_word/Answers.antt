use Rattle.pb_pmem.specs.declared.log.LogOp.TheVariants.{Word}
use Rattle.pb_pmem.specs.Device.{Is}
use Rattle.pb_image.proofs.Answer.{OnErr-Fails-allowed, allowed-Word}
use Rattle.pb_image.proofs.image.ImagePmem.set_word.Goals as goal

pub returns-clause-err : goal.returns-clause-err
returns-clause-err c =
    OnErr-Fails-allowed _ _ (Word c.args.line c.args.word c.args.value) (Is (Word c.args.line c.args.word c.args.value)) c.call.result (allowed-Word c.args.line c.args.word c.args.value) c.call.ensures.err
