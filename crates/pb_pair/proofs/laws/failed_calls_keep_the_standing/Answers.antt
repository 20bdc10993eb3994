use Rattle.std.proofs.Common.{None}
use Rattle.pb_pmem.specs.Operations.{IsFailedPrefix}
use Rattle.pb_pair.specs.Cells.{IsNothing}
use Rattle.pb_layout.specs.PutCell.{put_ops}
use Rattle.pb_pair.specs.Store.{IsFailedStore, doubt_of}
use Rattle.pb_pair.specs.View.{view_of_side}
use Rattle.pb_pair.proofs.Reopened.{failed_of, failed_keeps_doubt}
use Rattle.pb_pair.proofs.laws.failed_calls_keep_the_standing.Goals as goal

pub returns-clause-read : goal.returns-clause-read
returns-clause-read c = λ old. failed_of IsNothing old.doubt old

pub returns-clause-read_in_doubt : goal.returns-clause-read_in_doubt
returns-clause-read_in_doubt c = failed_keeps_doubt IsNothing

pub returns-clause-put : goal.returns-clause-put
returns-clause-put c =
    λ old new fault s position value failed of. failed_of (IsFailedPrefix (put_ops old.head position value)) None old new fault s failed of

pub returns-clause-store : goal.returns-clause-store
returns-clause-store c =
    λ old new fault s side lines failed of. failed_of (IsFailedStore old.head side (view_of_side old side) lines failed.called) (doubt_of side lines failed.called) old new fault s failed.failed of
