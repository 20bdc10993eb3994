use Rattle.pb_shared.proofs.Parts.{scan_place, after_load}
use Rattle.pb_shared.proofs.scan.load_part.Goals as goal

pub load_request-requires-clause-ready : goal.load_request-requires-clause-ready
load_request-requires-clause-ready g c = c.requires.part.is.ready

pub load_request-requires-clause-place : goal.load_request-requires-clause-place
load_request-requires-clause-place g c =
    scan_place g.E.Engine.seen (g.E.Engine.seen c.args.board.now.key.value).standing.kind c.args.client c.args.place c.requires.part.part c.requires.part.place_is c.requires.part.is

pub returns-clause-next : goal.returns-clause-next
returns-clause-next g c = λ start engine part asks looked at.
    after_load g.E.Engine.seen (g.E.Engine.seen c.args.board.now.key.value).standing.kind c.args.client c.load_request.result _ at c.load_request.ensures.seen c.load_request.ensures.over
