use Rattle.std.proofs.Common.{ap}
use Rattle.pb_rule.specs.Plays.{Seated, the_view, engine_now}
use Rattle.pb_shared.proofs.Fills.{after_store}
use Rattle.pb_shared.proofs.fill.fill_word.Goals as goal

pub store_row-requires-clause-ready : goal.store_row-requires-clause-ready
store_row-requires-clause-ready g c = c.requires.filling.is.ready

pub store_row-requires-clause-place : goal.store_row-requires-clause-place
store_row-requires-clause-place g c = (c.requires.place, c.requires.filling.is.at)

pub returns-clause-filled : goal.returns-clause-filled
returns-clause-filled g c = λ start engine own at.
    after_store g.E.Engine.seen (g.E.Engine.seen c.args.board.now.key.value).standing.kind _ _ at c.store_row.ensures.seen

pub returns-clause-same : goal.returns-clause-same
returns-clause-same g c = (
  ap (λ (m : Seated g.row.E.Denot). (the_view m).clients) c.store_row.ensures.seen,
  ap (λ (m : Seated g.row.E.Denot). (the_view m).body) c.store_row.ensures.seen,
  ap (engine_now g.E.Engine.seen) c.store_row.ensures.seen,
)
