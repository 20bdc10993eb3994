use Rattle.pb_rule.proofs.Waits.{finds_word_at, place_few}
use Rattle.pb_rule.proofs.WordLemmas.{row_within, odd_below}
use Rattle.pb_rule.proofs.waiting.load_reply_word.Goals as goal

pub load-requires : goal.load-requires
load-requires g c = (
  c.requires.at.same,
  row_within c.args.client c.args.row c.args.place _ _ _ c.row_word-word.ensures c.requires.client.2 (odd_below _ c.args.row c.requires.row) (place_few c.requires.place) c.requires.at.words,
  finds_word_at g.E.Engine.seen (g.E.Engine.seen c.args.board.now.key.value).standing.kind (g.E.Engine.seen c.args.board.now.key.value) _ _ _ c.args.client c.args.row c.args.place c.args.seat.now.me c.row_word-word.ensures c.requires.plain c.requires.client.0 c.requires.row c.requires.place,
)
