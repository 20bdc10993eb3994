use Rattle.std.proofs.Common.{◌≡◌, ℕ, ◌≤◌, sym, ap, ◌∙◌, subst}
use Rattle.std.proofs.lemmas.Bool.{eqb-true}
use Rattle.pb_object.specs.declared.request.Ask.{Ask}
use Rattle.pb_core.specs.Memory.{round_of_turn}
use Rattle.pb_rule.specs.Plays.{the_view, first_look, last_look, row_number}
use Rattle.pb_rule.specs.View.{PassView}
use Rattle.pb_shared.specs.Reads.{HasReadReply}
use Rattle.pb_shared.specs.Tries.{HasTried}
use Rattle.pb_shared.proofs.TryLemmas.{with_same, looked_at, read_tried, lacked_tried, rest_tried}
use Rattle.pb_shared.proofs.tries.make_try.Goals as goal

pub returns-then-found-ask-clause-tried : goal.returns-then-found-ask-clause-tried
returns-then-found-ask-clause-tried g c =
    let v = the_view c.args.seat.now.me in
    let me1 = c.look_first-turn.new.seat.me in
    let me2 = c.load_number-found.new.seat.me in
    let number = c.if-found-ask.true ∙ ap (λ (a : Ask). a.number) c.requires.ask in
    let both : the_view me2 ≡ looked_at c.look_first-turn.result v.body.ask.number v = with_same me1 me2 (row_number c.load_number-found.result) c.load_number-found.ensures.seen ∙ (ap (row_number c.load_number-found.result) (with_same c.args.seat.now.me me1 (first_look c.look_first-turn.result) c.look_first-turn.ensures.seen) ∙ ap (λ (n : ℕ). looked_at c.look_first-turn.result n v) number) in
    read_tried v (the_view c.read_reply.new.seat.me) c.look_first-turn.result c.read_reply.result c.look_first-turn.ensures.later (subst (λ (u : PassView). HasReadReply c.look_first-turn.result u (the_view c.read_reply.new.seat.me) c.read_reply.result) both c.read_reply.ensures.read)

pub returns-then-held-clause-tried : goal.returns-then-held-clause-tried
returns-then-held-clause-tried g c =
    let v = the_view c.args.seat.now.me in
    let number = ap (λ (a : Ask). a.number) c.requires.ask in
    let me1 = c.look_first-turn.new.seat.me in
    let me2 = c.load_number-found.new.seat.me in
    let both : the_view me2 ≡ looked_at c.look_first-turn.result c.load_number-found.result v = with_same me1 me2 (row_number c.load_number-found.result) c.load_number-found.ensures.seen ∙ ap (row_number c.load_number-found.result) (with_same c.args.seat.now.me me1 (first_look c.look_first-turn.result) c.look_first-turn.ensures.seen) in
    let is = with_same me2 c.look_last-to.new.seat.me (last_look c.look_last-to.result) c.look_last-to.ensures.seen ∙ ap (last_look c.look_last-to.result) both in
    let later : round_of_turn c.look_first-turn.result ≤ round_of_turn c.look_last-to.result = subst (λ (u : PassView). u.body.front ≤ round_of_turn c.look_last-to.result) both c.look_last-to.ensures.later in
    lacked_tried v (the_view c.look_last-to.new.seat.me) c.look_first-turn.result c.load_number-found.result c.look_last-to.result c.look_first-turn.ensures.later later (λ e. c.if-found-ask.false (e ∙ sym number)) (eqb-true _ _ (sym c.held.ensures ∙ c.if-held.true)) is

pub returns-clause-tried : goal.returns-clause-tried
returns-clause-tried g c =
    let v = the_view c.args.seat.now.me in
    let me1 = c.look_first-turn.new.seat.me in
    let me2 = c.load_number-found.new.seat.me in
    let both : the_view me2 ≡ looked_at c.look_first-turn.result c.load_number-found.result v = with_same me1 me2 (row_number c.load_number-found.result) c.load_number-found.ensures.seen ∙ ap (row_number c.load_number-found.result) (with_same c.args.seat.now.me me1 (first_look c.look_first-turn.result) c.look_first-turn.ensures.seen) in
    rest_tried v (the_view c.take_and_hold.new.seat.me) c.look_first-turn.result c.load_number-found.result c.take_and_hold.result c.look_first-turn.ensures.later (subst (λ (u : PassView). HasTried u (the_view c.take_and_hold.new.seat.me) c.take_and_hold.result) both c.take_and_hold.ensures.tried)
