use Rattle.pb_report.proofs.AgreeLemmas.{lines_agree, all_agree}
use Rattle.pb_report.proofs.EntryLemmas.{one_for_each}
use Rattle.pb_object.specs.Standing.{kept_list_of}
use Rattle.pb_report.proofs.laws.outcomes_are_one_but_for_doubt.Goals as goal

pub returns-clause-until_doubt : goal.returns-clause-until_doubt
returns-clause-until_doubt c = λ s history full legal x y client.
    lines_agree history (one_for_each s history full legal) client c.args.asks.now c.args.first.now c.args.second.now (kept_list_of s client)
    x.same_length y.same_length (x.each_client client) (y.each_client client)

pub returns-clause-without_doubt : goal.returns-clause-without_doubt
returns-clause-without_doubt c = λ s history full legal x y no_first no_second.
    all_agree c.args.asks.now c.args.first.now c.args.second.now x.same_length y.same_length no_first no_second
    (λ client. lines_agree history (one_for_each s history full legal) client c.args.asks.now c.args.first.now c.args.second.now (kept_list_of s client)
    x.same_length y.same_length (x.each_client client) (y.each_client client))
