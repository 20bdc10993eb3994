use Rattle.std.proofs.Common.{refl, inl, inr, ap, arith}
use Rattle.pb_pmem.specs.Crash.{least_cut, greatest_cut}
use Rattle.pb_play.proofs.events.step_crash.Goals as goal

pub returns-then-cut-least-clause-plays : goal.returns-then-cut-least-clause-plays
returns-then-cut-least-clause-plays c = λ w is s.
    inr (refl, refl, λ may. omega (arith, c.if-cut-least.true, c.cuts_of-least.ensures.least, ap least_cut c.deref.ensures.value, ap least_cut s.device.log, may.low))

pub returns-then-greatest-cut-clause-plays : goal.returns-then-greatest-cut-clause-plays
returns-then-greatest-cut-clause-plays c = λ w is s.
    inr (refl, refl, λ may. omega (arith, c.if-greatest-cut.true, c.cuts_of-least.ensures.greatest, ap greatest_cut c.deref.ensures.value, ap greatest_cut s.device.log, may.high))

pub returns-clause-plays : goal.returns-clause-plays
returns-clause-plays c = λ w is s.
    inl (c.crash.ensures.stepped w is s (record {
      low = omega (arith, c.if-cut-least.false, c.cuts_of-least.ensures.least, ap least_cut c.deref.ensures.value, ap least_cut s.device.log);
      high = omega (arith, c.if-greatest-cut.false, c.cuts_of-least.ensures.greatest, ap greatest_cut c.deref.ensures.value, ap greatest_cut s.device.log);
    }))
