use Rattle.std.proofs.Common.{subst, sym}
use Rattle.pb_core.specs.Play.{IsCalling}
use Rattle.pb_core.specs.Memory as core
use Rattle.pb_core.proofs.Turns.{work_suits}
use Rattle.pb_play.proofs.Holding.{word_moves, holder_runs, call_moves, ready_at}
use Rattle.pb_play.proofs.Scanning.{holds_turn, works_at}
use Rattle.pb_play.proofs.hold.act.Goals as goal

pub returns-in-NoWork-clause-moved : goal.returns-in-NoWork-clause-moved
returns-in-NoWork-clause-moved c = λ w is s there ready.
    absurd (work_suits core.NoWork is.memory_is (holds_turn c.args.client c.args.side s.memory c.requires.holds) (works_at s.memory c.in-NoWork.is))

pub returns-in-Settling-clause-moved : goal.returns-in-Settling-clause-moved
returns-in-Settling-clause-moved c = λ w is s there ready.
    call_moves c.args.client c.args.side (holds_turn c.args.client c.args.side s.memory c.requires.holds) there (subst IsCalling (sym (works_at s.memory c.in-Settling.is)) tt) (c.call.ensures.made w s (ready_at w core.Settling (works_at s.memory c.in-Settling.is) ready))

pub returns-in-Calling-clause-moved : goal.returns-in-Calling-clause-moved
returns-in-Calling-clause-moved c = λ w is s there ready.
    call_moves c.args.client c.args.side (holds_turn c.args.client c.args.side s.memory c.requires.holds) there (subst IsCalling (sym (works_at s.memory c.in-Calling.is)) tt) (c.call-in-Calling.ensures.made w s (ready_at w core.Calling (works_at s.memory c.in-Calling.is) ready))

pub returns-in-Filling-clause-moved : goal.returns-in-Filling-clause-moved
returns-in-Filling-clause-moved c = λ w is s there ready.
    word_moves {old = c.args.world.now} c.args.client is s (holder_runs c.args.client c.args.side (holds_turn c.args.client c.args.side s.memory c.requires.holds)) there c.fill.ensures

pub returns-in-Noting-clause-moved : goal.returns-in-Noting-clause-moved
returns-in-Noting-clause-moved c = λ w is s there ready.
    word_moves {old = c.args.world.now} c.args.client is s (holder_runs c.args.client c.args.side (holds_turn c.args.client c.args.side s.memory c.requires.holds)) there c.note.ensures

pub returns-in-GivingUp-clause-moved : goal.returns-in-GivingUp-clause-moved
returns-in-GivingUp-clause-moved c = λ w is s there ready.
    word_moves {old = c.args.world.now} c.args.client is s (holder_runs c.args.client c.args.side (holds_turn c.args.client c.args.side s.memory c.requires.holds)) there c.give_up.ensures
