use Rattle.pb_replay.proofs.OneReplay.{one_replay, one_bad_line, replayed_or_bad}
use Rattle.pb_replay.proofs.laws.a_source_has_one_replay.Goals as goal

pub returns-clause-replay : goal.returns-clause-replay
returns-clause-replay c = one_replay

pub returns-clause-line : goal.returns-clause-line
returns-clause-line c = one_bad_line

pub returns-clause-either : goal.returns-clause-either
returns-clause-either c = replayed_or_bad
