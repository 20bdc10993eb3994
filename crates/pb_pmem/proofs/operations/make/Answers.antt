use Rattle.pb_pmem.specs.declared.log.LogOp.TheVariants.{Whole, Word, Back, Fence, Sync}
use Rattle.pb_pmem.proofs.OperationSteps.{ok_one, err_one}
use Rattle.pb_pmem.proofs.operations.make.Goals as goal

pub returns-in-Whole-clause-ok : goal.returns-in-Whole-clause-ok
returns-in-Whole-clause-ok g c = ok_one c.write.result c.args.op.now (Whole c.in-Whole.line c.in-Whole.to) (g.P.Pmem.seen c.args.device.now) (g.P.Pmem.seen c.write.new.self) c.in-Whole.is c.write.ensures.ok

pub returns-in-Whole-clause-err : goal.returns-in-Whole-clause-err
returns-in-Whole-clause-err g c = err_one c.write.result c.args.op.now (Whole c.in-Whole.line c.in-Whole.to) (g.P.Pmem.seen c.args.device.now) (g.P.Pmem.seen c.write.new.self) c.in-Whole.is c.write.ensures.err

pub returns-in-Word-clause-ok : goal.returns-in-Word-clause-ok
returns-in-Word-clause-ok g c = ok_one c.set_word.result c.args.op.now (Word c.in-Word.line c.in-Word.word c.in-Word.to) (g.P.Pmem.seen c.args.device.now) (g.P.Pmem.seen c.set_word.new.self) c.in-Word.is c.set_word.ensures.ok

pub returns-in-Word-clause-err : goal.returns-in-Word-clause-err
returns-in-Word-clause-err g c = err_one c.set_word.result c.args.op.now (Word c.in-Word.line c.in-Word.word c.in-Word.to) (g.P.Pmem.seen c.args.device.now) (g.P.Pmem.seen c.set_word.new.self) c.in-Word.is c.set_word.ensures.err

pub returns-in-Back-clause-ok : goal.returns-in-Back-clause-ok
returns-in-Back-clause-ok g c = ok_one c.write_back.result c.args.op.now (Back c.in-Back.first c.in-Back.count) (g.P.Pmem.seen c.args.device.now) (g.P.Pmem.seen c.write_back.new.self) c.in-Back.is c.write_back.ensures.ok

pub returns-in-Back-clause-err : goal.returns-in-Back-clause-err
returns-in-Back-clause-err g c = err_one c.write_back.result c.args.op.now (Back c.in-Back.first c.in-Back.count) (g.P.Pmem.seen c.args.device.now) (g.P.Pmem.seen c.write_back.new.self) c.in-Back.is c.write_back.ensures.err

pub returns-in-Fence-clause-ok : goal.returns-in-Fence-clause-ok
returns-in-Fence-clause-ok g c = ok_one c.fence.result c.args.op.now Fence (g.P.Pmem.seen c.args.device.now) (g.P.Pmem.seen c.fence.new.self) c.in-Fence.is c.fence.ensures.ok

pub returns-in-Fence-clause-err : goal.returns-in-Fence-clause-err
returns-in-Fence-clause-err g c = err_one c.fence.result c.args.op.now Fence (g.P.Pmem.seen c.args.device.now) (g.P.Pmem.seen c.fence.new.self) c.in-Fence.is c.fence.ensures.err

pub returns-in-Sync-clause-ok : goal.returns-in-Sync-clause-ok
returns-in-Sync-clause-ok g c = ok_one c.sync.result c.args.op.now Sync (g.P.Pmem.seen c.args.device.now) (g.P.Pmem.seen c.sync.new.self) c.in-Sync.is c.sync.ensures.ok

pub returns-in-Sync-clause-err : goal.returns-in-Sync-clause-err
returns-in-Sync-clause-err g c = err_one c.sync.result c.args.op.now Sync (g.P.Pmem.seen c.args.device.now) (g.P.Pmem.seen c.sync.new.self) c.in-Sync.is c.sync.ensures.err
