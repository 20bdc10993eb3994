use Rattle.pb_rule.proofs.Holds.{loads_request, scan_place_few}
use Rattle.pb_rule.proofs.WordLemmas.{request_within}
use Rattle.pb_rule.proofs.holding.load_request.Goals as goal

pub load-requires : goal.load-requires
load-requires g c = (
  c.requires.at.same,
  request_within c.args.client c.args.place _ _ _ c.request_word-word.ensures c.requires.client.1 (scan_place_few c.requires.place) c.requires.at.words,
  loads_request g.E.Engine.seen (g.E.Engine.seen c.args.board.now.key.value).standing.kind (g.E.Engine.seen c.args.board.now.key.value) _ _ _ c.args.client c.args.place c.args.seat.now.me c.request_word-word.ensures c.requires.ready c.requires.client.1 c.requires.place,
)
