use Rattle.std.proofs.Common.{length}
use Rattle.pb_script.proofs.Sources.{Progress}
use Rattle.pb_script.proofs.script.read_script.Given as goal

abbrev pub invariant-loop-rest : goal.invariant-loop-rest
invariant-loop-rest l = Progress l.kind l.clients l.source l.rest l.reading

abbrev pub decreases-loop-rest : goal.decreases-loop-rest
decreases-loop-rest l = length l.rest
