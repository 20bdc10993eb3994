use Rattle.std.proofs.Common.{sym, ◌∙◌}
use Rattle.pb_rule.specs.Plays.{confirms}
use Rattle.pb_shared.specs.Reads.{with_reply}
use Rattle.pb_shared.proofs.ReadLemmas.{plain_with, confirm_stage, counts, other_round, same_pass}
use Rattle.pb_shared.proofs.reading.read_reply.Goals as goal

pub confirm-to-requires-clause-plain : goal.confirm-to-requires-clause-plain
confirm-to-requires-clause-plain g c =
    plain_with c.args.seat.now.me c.load_reply-reply.new.seat.me (with_reply c.args.turn c.load_reply-reply.result) c.requires.plain c.load_reply-reply.ensures.read

pub confirm-to-requires-clause-stage : goal.confirm-to-requires-clause-stage
confirm-to-requires-clause-stage g c =
    confirm_stage c.args.seat.now.me c.load_reply-reply.new.seat.me c.args.turn c.load_reply-reply.result c.load_reply-reply.ensures.read

pub returns-then-round_of-clause-plain : goal.returns-then-round_of-clause-plain
returns-then-round_of-clause-plain g c =
    plain_with c.load_reply-reply.new.seat.me c.confirm-to.new.seat.me (confirms c.confirm-to.result) (plain_with c.args.seat.now.me c.load_reply-reply.new.seat.me (with_reply c.args.turn c.load_reply-reply.result) c.requires.plain c.load_reply-reply.ensures.read) c.confirm-to.ensures.seen

pub returns-then-round_of-clause-read : goal.returns-then-round_of-clause-read
returns-then-round_of-clause-read g c =
    counts c.args.seat.now.me c.load_reply-reply.new.seat.me c.confirm-to.new.seat.me c.args.turn c.confirm-to.result c.load_reply-reply.result c.load_reply-reply.ensures.read c.confirm-to.ensures.seen c.confirm-to.ensures.later (sym c.round_of.ensures ∙ (c.if-round_of.true ∙ c.round_of-2.ensures))

pub returns-then-round_of-clause-same : goal.returns-then-round_of-clause-same
returns-then-round_of-clause-same g c =
    same_pass c.args.seat.now.me c.load_reply-reply.new.seat.me c.confirm-to.new.seat.me c.args.turn c.confirm-to.result c.load_reply-reply.result c.load_reply-reply.ensures.read c.confirm-to.ensures.seen c.confirm-to.ensures.later

pub returns-clause-plain : goal.returns-clause-plain
returns-clause-plain g c =
    plain_with c.load_reply-reply.new.seat.me c.confirm-to.new.seat.me (confirms c.confirm-to.result) (plain_with c.args.seat.now.me c.load_reply-reply.new.seat.me (with_reply c.args.turn c.load_reply-reply.result) c.requires.plain c.load_reply-reply.ensures.read) c.confirm-to.ensures.seen

pub returns-clause-read : goal.returns-clause-read
returns-clause-read g c =
    other_round c.args.seat.now.me c.load_reply-reply.new.seat.me c.confirm-to.new.seat.me c.args.turn c.confirm-to.result c.load_reply-reply.result c.load_reply-reply.ensures.read c.confirm-to.ensures.seen c.confirm-to.ensures.later (λ e. c.if-round_of.false (c.round_of.ensures ∙ (e ∙ sym c.round_of-2.ensures)))

pub returns-clause-same : goal.returns-clause-same
returns-clause-same g c =
    same_pass c.args.seat.now.me c.load_reply-reply.new.seat.me c.confirm-to.new.seat.me c.args.turn c.confirm-to.result c.load_reply-reply.result c.load_reply-reply.ensures.read c.confirm-to.ensures.seen c.confirm-to.ensures.later
