use Rattle.pb_rule.proofs.taking.take_turn.Given as goal

abbrev pub ghosts-take_turn_of : goal.ghosts-take_turn_of
ghosts-take_turn_of g a = record { kind = (g.E.Engine.seen a.board.now.key.value).standing.kind }
