-- The summary of a drill.
use Rattle.std.specs.Prelude.{ℕ, Bool, true, false, List, ◌++◌, if◌then◌else◌, ◌==◌, codes, decimal, length, count_by}
use Rattle.std.specs.List.{sum_by}
use Rattle.pb_object.specs.declared.codes.Answer.TheVariants.{Was}
use Rattle.pb_object.specs.declared.request.Ask.{Ask}
use Rattle.pb_object.specs.Codes.{answer_code}
use Rattle.pb_report.specs.declared.outcome.Outcome.{Outcome}
use Rattle.pb_report.specs.declared.outcome.Outcome.TheVariants.{New}

abbrev pub is_new : Outcome → Bool
is_new (New reply) = true
is_new _ = false

-- a register was written just now
abbrev pub is_new_put : Outcome → Bool
is_new_put (New reply) = reply.code == answer_code Was
is_new_put _ = false

-- the version that such a write led to, 0 for other outcomes
abbrev pub new_version : Outcome → ℕ
new_version (New reply) = if reply.code == answer_code Was then reply.extra else 0
new_version _ = 0

-- the counts of requests, of new outcomes and of puts among them, the sum of the object's versions at the end,
-- and the sum of the versions in the replies to new puts
abbrev pub summary_of : ℕ → List Outcome → ℕ → List ℕ
summary_of requests outcomes versions =
    codes "requests " ++ (decimal requests ++ (codes "\nnew " ++ (decimal (count_by is_new outcomes)
    ++ (codes "\nputs " ++ (decimal (count_by is_new_put outcomes) ++ (codes "\nversions " ++ (decimal versions
    ++ (codes "\nsteps " ++ (decimal (sum_by new_version outcomes) ++ codes "\n")))))))))

abbrev pub summary_text : List Ask → List Outcome → ℕ → List ℕ
summary_text asks outcomes versions = summary_of (length asks) outcomes versions
