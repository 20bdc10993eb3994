use Rattle.std.proofs.Common.{length}
use Rattle.pb_replay.proofs.Surveys.{IsSurvey}
use Rattle.pb_replay.proofs.survey.event_count.Given as goal

abbrev pub invariant-loop-rest : goal.invariant-loop-rest
invariant-loop-rest l = IsSurvey l.head.kind l.head.clients l.bytes l.rest l.survey

abbrev pub decreases-loop-rest : goal.decreases-loop-rest
decreases-loop-rest l = length l.rest
