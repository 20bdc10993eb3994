use Rattle.std.proofs.Common.{sym, ◌∙◌, arith}
use Rattle.pb_crash.proofs.Steps.{until_step, until_end, until_all}
use Rattle.pb_crash.proofs.cuts.first_mark.Goals as goal

pub returns-then-is_mark-clause-until : goal.returns-then-is_mark-clause-until
returns-then-is_mark-clause-until c =
    sym (c.loop-i.invariant ∙ until_end c.args.log.now c.loop-i.i c.index-log-i.result (sym c.is_mark.ensures ∙ c.if-is_mark.true) (omega arith) c.index-log-i.is)

pub loop-i-preserved : goal.loop-i-preserved
loop-i-preserved c =
    c.loop-i.invariant ∙ until_step c.args.log.now c.loop-i.i c.index-log-i.result (sym c.is_mark.ensures ∙ c.if-is_mark.false) (omega arith) c.index-log-i.is

pub returns-clause-until : goal.returns-clause-until
returns-clause-until c = sym (c.loop-i.invariant ∙ until_all c.args.log.now c.loop-i.i c.loop-i-test.false)
