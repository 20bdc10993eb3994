use Rattle.std.proofs.Common.{sym, ap, ◌∙◌}
use Rattle.std.specs.Prelude.{◌++◌}
use Rattle.std.proofs.lemmas.List.{append-nil}
use Rattle.pb_events.specs.declared.event.Stepped.{Stepped}
use Rattle.pb_replay.specs.AnswerText.{given_by}
use Rattle.pb_replay.proofs.Making.{happened, stuck, made_one, gives, went_on, is_done, is_busy, is_fault, given_done, given_busy, given_fault}
use Rattle.pb_replay.proofs.playing.Playing.make.Goals as goal

pub returns-in-Went-clause-made : goal.returns-in-Went-clause-made
returns-in-Went-clause-made c head events made =
    let stepped = happened made c.step-answer.ensures.plays (went_on c.in-Went.is) in
    made_one made stepped (sym (append-nil c.args.self.now.answers.items) ∙ ap (λ (a : Stepped). c.args.self.now.answers.items ++ given_by a) (sym c.in-Went.is))

pub returns-in-Done-clause-made : goal.returns-in-Done-clause-made
returns-in-Done-clause-made c head events made =
    gives c.give.new.self made c.give.result (happened made c.step-answer.ensures.plays (is_done c.in-Done.is)) c.give.ensures.world (given_done c.in-Done.is) c.give.ensures.given

pub returns-in-Busy-clause-made : goal.returns-in-Busy-clause-made
returns-in-Busy-clause-made c head events made =
    gives c.give-in-Busy.new.self made c.give-in-Busy.result (happened made c.step-answer.ensures.plays (is_busy c.in-Busy.is)) c.give-in-Busy.ensures.world (given_busy c.in-Busy.is) c.give-in-Busy.ensures.given

pub returns-in-Fault-clause-made : goal.returns-in-Fault-clause-made
returns-in-Fault-clause-made c head events made =
    gives c.give-in-Fault.new.self made c.give-in-Fault.result (happened made c.step-answer.ensures.plays (is_fault c.in-Fault.is)) c.give-in-Fault.ensures.world (given_fault c.in-Fault.is) c.give-in-Fault.ensures.given

pub returns-in-Impossible-clause-made : goal.returns-in-Impossible-clause-made
returns-in-Impossible-clause-made c head events made = stuck made c.step-answer.ensures.plays c.in-Impossible.is
