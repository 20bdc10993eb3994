use Rattle.pb_object.proofs.KeptLists.{fresh_kept_lists, kept_lists_after_round, kept_lists_after}
use Rattle.pb_object.proofs.laws.kept_lists_stay_sound.Goals as goal

pub returns-clause-fresh : goal.returns-clause-fresh
returns-clause-fresh c = fresh_kept_lists

pub returns-clause-round : goal.returns-clause-round
returns-clause-round c = kept_lists_after_round

pub returns-clause-history : goal.returns-clause-history
returns-clause-history c = kept_lists_after
