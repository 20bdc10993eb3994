use Rattle.std.proofs.Common.{arith}
use Rattle.pb_rule.proofs.Asks.{announces}
use Rattle.pb_rule.proofs.WordLemmas.{request_within}
use Rattle.pb_rule.proofs.asking.announce_number.Goals as goal

pub store-requires : goal.store-requires
store-requires g c = (
  c.requires.at.same,
  request_within c.args.client 0 _ _ _ c.request_word-word.ensures c.requires.client.2 (omega arith) c.requires.at.words,
  announces g.E.Engine.seen (g.E.Engine.seen c.args.board.now.key.value).standing.kind (g.E.Engine.seen c.args.board.now.key.value) _ _ _ c.args.client c.args.number c.args.seat.now.me c.request_word-word.ensures c.requires.client.0 c.requires.plain c.requires.storing c.requires.number,
)
