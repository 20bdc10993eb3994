use Rattle.std.proofs.Common.{None, refl, sym, ap, ◌∙◌}
use Rattle.pb_object.specs.declared.request.Ask.{Ask}
use Rattle.pb_object.specs.Standing.{newest_of}
use Rattle.pb_rule.specs.Plays.{Seated, the_view, engine_now}
use Rattle.pb_shared.proofs.Held.{plain_of, same_published, done_by, settled_busy, settled_serves}
use Rattle.pb_shared.proofs.holder.publish_settled.Goals as goal

pub returns-then-kept-ask-clause-plain : goal.returns-then-kept-ask-clause-plain
returns-then-kept-ask-clause-plain g c =
    plain_of _ _ (c.finish-kept.ensures.published (the_view c.args.seat.now.me) (engine_now g.E.Engine.seen c.args.seat.now.me) None c.requires.filling).0

pub returns-then-kept-ask-clause-held : goal.returns-then-kept-ask-clause-held
returns-then-kept-ask-clause-held g c =
    let p = c.finish-kept.ensures.published (the_view c.args.seat.now.me) (engine_now g.E.Engine.seen c.args.seat.now.me) None c.requires.filling in
    done_by (the_view c.args.seat.now.me) (the_view c.args.seat.now.me) (the_view c.finish-kept.new.seat.me) (engine_now g.E.Engine.seen c.args.seat.now.me) None c.finish-kept.result refl refl refl (ap (λ (m : Seated g.row.E.Denot). the_view m) p.0) (p.1 ∙ ap (newest_of (engine_now g.E.Engine.seen c.args.seat.now.me).standing) c.requires.client.0) (c.if-kept-ask.true ∙ ap (λ (a : Ask). a.number) c.requires.ask) (settled_serves (the_view c.args.seat.now.me) (the_view c.finish-kept.new.seat.me) (engine_now g.E.Engine.seen c.args.seat.now.me) (ap (λ (m : Seated g.row.E.Denot). the_view m) p.0))

pub returns-then-kept-ask-clause-same : goal.returns-then-kept-ask-clause-same
returns-then-kept-ask-clause-same g c =
    let p = c.finish-kept.ensures.published (the_view c.args.seat.now.me) (engine_now g.E.Engine.seen c.args.seat.now.me) None c.requires.filling in
    same_published (the_view c.args.seat.now.me) _ (engine_now g.E.Engine.seen c.args.seat.now.me) None (ap (λ (m : Seated g.row.E.Denot). the_view m) p.0)

pub returns-clause-plain : goal.returns-clause-plain
returns-clause-plain g c =
    plain_of _ _ (c.finish-kept.ensures.published (the_view c.args.seat.now.me) (engine_now g.E.Engine.seen c.args.seat.now.me) None c.requires.filling).0

pub returns-clause-held : goal.returns-clause-held
returns-clause-held g c =
    let p = c.finish-kept.ensures.published (the_view c.args.seat.now.me) (engine_now g.E.Engine.seen c.args.seat.now.me) None c.requires.filling in
    settled_busy (the_view c.args.seat.now.me) (the_view c.finish-kept.new.seat.me) (engine_now g.E.Engine.seen c.args.seat.now.me) c.finish-kept.result c.args.turn (ap (λ (m : Seated g.row.E.Denot). the_view m) p.0) (p.1 ∙ ap (newest_of (engine_now g.E.Engine.seen c.args.seat.now.me).standing) c.requires.client.0) (λ e. c.if-kept-ask.false (e ∙ sym (ap (λ (a : Ask). a.number) c.requires.ask))) c.requires.turn

pub returns-clause-same : goal.returns-clause-same
returns-clause-same g c =
    let p = c.finish-kept.ensures.published (the_view c.args.seat.now.me) (engine_now g.E.Engine.seen c.args.seat.now.me) None c.requires.filling in
    same_published (the_view c.args.seat.now.me) _ (engine_now g.E.Engine.seen c.args.seat.now.me) None (ap (λ (m : Seated g.row.E.Denot). the_view m) p.0)
