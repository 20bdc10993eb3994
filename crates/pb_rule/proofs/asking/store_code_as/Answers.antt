use Rattle.std.proofs.Common.{arith}
use Rattle.pb_rule.proofs.Asks.{stores_code_as}
use Rattle.pb_rule.proofs.WordLemmas.{request_within}
use Rattle.pb_rule.proofs.asking.store_code_as.Goals as goal

pub store-requires : goal.store-requires
store-requires g c = (
  c.requires.at.same,
  request_within c.args.ask.now.client 1 _ _ _ c.request_word-word.ensures c.requires.next.there (omega arith) c.requires.at.words,
  stores_code_as g.E.Engine.seen (g.E.Engine.seen c.args.board.now.key.value).standing.kind (g.E.Engine.seen c.args.board.now.key.value) _ _ _ c.args.seat.now.me c.args.ask.now g.A.Asking.ask c.requires.said c.request_word-word.ensures c.requires.plain c.requires.idle c.requires.next,
)
