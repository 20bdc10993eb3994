use Rattle.pb_rule.proofs.Holds.{stores_row}
use Rattle.pb_rule.proofs.WordLemmas.{row_within, odd_below}
use Rattle.pb_rule.proofs.holding.store_row.Goals as goal

pub store-requires : goal.store-requires
store-requires g c = (
  c.requires.at.same,
  row_within c.args.client c.args.row c.args.place _ _ _ c.row_word-at.ensures c.requires.client.1 (odd_below _ c.args.row c.requires.row) c.requires.place.0 c.requires.at.words,
  stores_row g.E.Engine.seen (g.E.Engine.seen c.args.board.now.key.value).standing.kind (g.E.Engine.seen c.args.board.now.key.value) _ _ _ c.args.client c.args.row c.args.place c.args.word c.args.seat.now.me c.row_word-at.ensures c.requires.ready c.requires.client.1 c.requires.row c.requires.place.0 c.requires.place.1 c.requires.word,
)
