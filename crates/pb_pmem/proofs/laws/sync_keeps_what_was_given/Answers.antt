use Rattle.pb_pmem.proofs.CrashLaws.{word_of-Sync}
use Rattle.pb_pmem.proofs.laws.sync_keeps_what_was_given.Goals as goal

pub returns : goal.returns
returns c = word_of-Sync
