use Rattle.std.proofs.Common.{◌%◌, refl, sym, ap, ◌∙◌}
use Rattle.pb_core.specs.Client.{Stage, LoadsCode, LoadsValue}
use Rattle.pb_core.specs.Memory.{round_of_turn}
use Rattle.pb_rule.specs.Plays.{first_turn}
use Rattle.pb_rule.specs.Seats.{at_code, at_value, at_extra}
use Rattle.pb_shared.proofs.ReadLemmas.{stage_after, whole_reply}
use Rattle.pb_shared.proofs.reading.load_reply.Goals as goal

pub load_reply_word-code-requires-clause-row : goal.load_reply_word-code-requires-clause-row
load_reply_word-code-requires-clause-row g c =
    c.requires.row ∙ ap (λ (s : Stage). round_of_turn (first_turn s) % 2) (sym c.requires.stage)

pub load_reply_word-code-requires-clause-place : goal.load_reply_word-code-requires-clause-place
load_reply_word-code-requires-clause-place g c = at_code c.args.turn c.requires.stage refl

pub load_reply_word-value-requires-clause-row : goal.load_reply_word-value-requires-clause-row
load_reply_word-value-requires-clause-row g c =
    let s = stage_after c.args.seat.now.me c.load_reply_word-code.new.seat.me c.load_reply_word-code.result (LoadsCode c.args.turn) c.requires.stage c.load_reply_word-code.ensures.seen in
    c.requires.row ∙ ap (λ (s : Stage). round_of_turn (first_turn s) % 2) (sym s)

pub load_reply_word-value-requires-clause-place : goal.load_reply_word-value-requires-clause-place
load_reply_word-value-requires-clause-place g c =
    at_value c.args.turn c.load_reply_word-code.result (stage_after c.args.seat.now.me c.load_reply_word-code.new.seat.me c.load_reply_word-code.result (LoadsCode c.args.turn) c.requires.stage c.load_reply_word-code.ensures.seen) refl

pub load_reply_word-extra-requires-clause-row : goal.load_reply_word-extra-requires-clause-row
load_reply_word-extra-requires-clause-row g c =
    let s = stage_after c.args.seat.now.me c.load_reply_word-code.new.seat.me c.load_reply_word-code.result (LoadsCode c.args.turn) c.requires.stage c.load_reply_word-code.ensures.seen in
    let t = stage_after c.load_reply_word-code.new.seat.me c.load_reply_word-value.new.seat.me c.load_reply_word-value.result (LoadsValue c.args.turn c.load_reply_word-code.result) s c.load_reply_word-value.ensures.seen in
    c.requires.row ∙ ap (λ (s : Stage). round_of_turn (first_turn s) % 2) (sym t)

pub load_reply_word-extra-requires-clause-place : goal.load_reply_word-extra-requires-clause-place
load_reply_word-extra-requires-clause-place g c =
    let s = stage_after c.args.seat.now.me c.load_reply_word-code.new.seat.me c.load_reply_word-code.result (LoadsCode c.args.turn) c.requires.stage c.load_reply_word-code.ensures.seen in
    at_extra c.args.turn c.load_reply_word-code.result c.load_reply_word-value.result (stage_after c.load_reply_word-code.new.seat.me c.load_reply_word-value.new.seat.me c.load_reply_word-value.result (LoadsValue c.args.turn c.load_reply_word-code.result) s c.load_reply_word-value.ensures.seen) refl

pub returns-clause-read : goal.returns-clause-read
returns-clause-read g c =
    whole_reply c.args.seat.now.me c.load_reply_word-code.new.seat.me c.load_reply_word-value.new.seat.me c.load_reply_word-extra.new.seat.me c.args.turn c.load_reply_word-code.result c.load_reply_word-value.result c.load_reply_word-extra.result c.requires.stage c.load_reply_word-code.ensures.seen c.load_reply_word-value.ensures.seen c.load_reply_word-extra.ensures.seen
