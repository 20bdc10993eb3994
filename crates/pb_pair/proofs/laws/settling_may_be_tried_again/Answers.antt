use Rattle.pb_pmem.specs.Operations.{IsFailedPrefix}
use Rattle.pb_pair.specs.Settle.{settled_ops}
use Rattle.pb_pair.proofs.Reopened.{failed_of, failed_keeps_doubt}
use Rattle.pb_pair.proofs.laws.settling_may_be_tried_again.Goals as goal

pub returns-clause-of : goal.returns-clause-of
returns-clause-of c = λ old. failed_of (IsFailedPrefix (settled_ops old)) old.doubt old

pub returns-clause-in_doubt : goal.returns-clause-in_doubt
returns-clause-in_doubt c = λ old. failed_keeps_doubt (IsFailedPrefix (settled_ops old)) old
