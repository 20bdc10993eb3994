-- What running a script over an engine comes to.
use Rattle.std.specs.Prelude.{◌≡◌, ℕ, min, ◌+◌, ◌≤◌, Bool, true, false, List, [], length, map, filter, Contains, count_by}
use Rattle.std.specs.List.{zip}
use Rattle.pb_pmem.specs.Count.{last_count}
use Rattle.pb_pmem.specs.declared.log.LogOp.{LogOp}
use Rattle.pb_object.specs.declared.request.Ask.{Ask}
use Rattle.pb_object.specs.declared.request.Reply.{Reply}
use Rattle.pb_object.specs.History.{Entry, Round, History}
use Rattle.pb_object.specs.Standing.{Standing}
use Rattle.pb_engine.specs.Calls.{EngineCall, Made, Failed, Progress, progress_of, AreMadeFor, settled_rounds}
use Rattle.pb_engine.specs.Good.{HasCome}
use Rattle.pb_engine.specs.View.{EngineView, FailedRound}
use Rattle.pb_report.specs.declared.outcome.Outcome.{Outcome}
use Rattle.pb_report.specs.declared.outcome.Outcome.TheVariants.{New, Doubt}
use Rattle.pb_report.specs.Outcomes.{Outcomes, HasEntry, IsTriedLine, entry_of, is_tried}
use Rattle.pb_rule.specs.Rule.{AreNextAtSettling}
use Rattle.pb_run.specs.Lists.{asks_of}

abbrev pub is_doubt : Outcome → Bool
is_doubt Doubt = true
is_doubt _ = false

-- each line in doubt has a failing call of the device of its own: the count rose by as many, or stands at its last
-- value
abbrev pub HasFaultForEach : ℕ → ℕ → List Outcome → Type 0
HasFaultForEach before now list = min (before + count_by is_doubt list) last_count ≤ now

-- the entry of each new line is one of these rounds'
abbrev pub AreNewRecorded : History → List (Ask × Outcome) → Type 0
AreNewRecorded rounds lines =
    (ask : Ask) (reply : Reply) → Contains lines (ask, New reply) → HasEntry rounds (entry_of ask reply)

abbrev pub line_in_doubt : Ask × Outcome → Bool
line_in_doubt line = is_doubt line.1

abbrev pub line_ask : Ask × Outcome → Ask
line_ask line = line.0

-- the requests of the lines that are in doubt
abbrev pub asks_in_doubt : List (Ask × Outcome) → List Ask
asks_in_doubt lines = map line_ask (filter line_in_doubt lines)

-- Each failing call was made for the request of a line in doubt, and each such line has one (a client has at most one). Where the call was for
-- a round, the round has that request, and requests alone of lines that are new or in doubt; where it was a settling, the request was its
-- client's next one on what was recorded by then
pub record AreCharged (s : Standing) (p : Progress) (calls : List EngineCall) (lines : List (Ask × Outcome)) : Type 0 where
  pub asks : List Ask
  pub made_for : AreMadeFor calls asks
  pub entries : (failed : FailedRound) (ops : List LogOp) → Contains calls (Failed failed ops) → (entry : Entry) → Contains failed.round.entries entry → IsTriedLine lines entry
  pub next : AreNextAtSettling s p calls asks
  pub each_client : (client : ℕ) → asks_of client asks ≡ asks_of client (asks_in_doubt lines)

-- a round has the entry of a line that is new
pub record HasNewLine (lines : List (Ask × Outcome)) (round : Round) : Type 0 where
  pub ask : Ask
  pub reply : Reply
  pub line : Contains lines (ask, New reply)
  pub entry : Contains round.entries (entry_of ask reply)

-- each round that was made has one
abbrev pub HaveNewLines : List EngineCall → List (Ask × Outcome) → Type 0
HaveNewLines calls lines = (round : Round) (ops : List LogOp) → Contains calls (Made round ops) → HasNewLine lines round

-- A script's requests were run from the start on, with these outcomes. The engine has come to what it is now by some rounds, one after the
-- other, and a failing call for each line in doubt; each round that was made has a line that is new. The outcomes are those of a run with
-- these rounds, and those of a run with the rounds after settling: whether a round in doubt at the end is recorded, only settling tells. The
-- rounds are no more than the lines that are new or in doubt
pub record HasRun (start : EngineView) (asks : List Ask) (now : EngineView) (list : List Outcome) : Type 0 where
  pub rounds : History
  pub calls : List EngineCall
  pub come : HasCome start now rounds (count_by is_doubt list) calls
  pub charged : AreCharged start.standing (progress_of [] start) calls (zip asks list)
  pub made : HaveNewLines calls (zip asks list)
  pub outcomes : Outcomes start.standing rounds asks list
  pub settled : Outcomes start.standing (settled_rounds rounds now.doubt) asks list
  pub recorded : AreNewRecorded rounds (zip asks list)
  pub few : length (settled_rounds rounds now.doubt) ≤ count_by is_tried list
