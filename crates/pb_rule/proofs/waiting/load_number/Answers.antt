use Rattle.std.proofs.Common.{arith}
use Rattle.pb_rule.proofs.Waits.{finds_number_at}
use Rattle.pb_rule.proofs.WordLemmas.{row_within, odd_below}
use Rattle.pb_rule.proofs.waiting.load_number.Goals as goal

pub load-requires : goal.load-requires
load-requires g c = (
  c.requires.at.same,
  row_within c.args.client c.args.row 0 _ _ _ c.row_word-word.ensures c.requires.client.2 (odd_below _ c.args.row c.requires.row) (omega arith) c.requires.at.words,
  finds_number_at g.E.Engine.seen (g.E.Engine.seen c.args.board.now.key.value).standing.kind (g.E.Engine.seen c.args.board.now.key.value) _ _ _ c.args.client c.args.row c.args.seat.now.me c.row_word-word.ensures c.requires.plain c.requires.client.0 c.requires.row c.requires.stage,
)
