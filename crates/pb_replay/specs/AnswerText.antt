-- The lines of answers.
use Rattle.std.specs.Prelude.{ℕ, List, [], ◌∷◌, ◌++◌, codes, decimal, length, slice_index_or}
use Rattle.pb_object.specs.declared.request.Ask.{Ask}
use Rattle.pb_object.specs.Standing.{Standing}
use Rattle.pb_object.specs.Text.{reply_text}
use Rattle.pb_events.specs.declared.event.Stepped.{Stepped}
use Rattle.pb_events.specs.declared.event.Stepped.TheVariants.{Went, Done, Busy, Fault, Impossible}
use Rattle.pb_region_report.specs.ReportText.{report_text}
use Rattle.pb_report.specs.Pieces.{joined}

-- the answers that are given to a client, in their order
abbrev pub given_by : Stepped → List Stepped
given_by Went = []
given_by (Done ask reply) = Done ask reply ∷ []
given_by (Busy ask from to) = Busy ask from to ∷ []
given_by (Fault ask from to) = Fault ask from to ∷ []
given_by Impossible = []

unfoldable pub given : List Stepped → List Stepped
given [] = []
given (answer ∷ answers) = given_by answer ++ given answers

-- whose request it is, and its number
abbrev pub ask_text : Ask → List ℕ
ask_text ask = decimal ask.client ++ (codes " " ++ (decimal ask.number ++ codes " "))

-- two values behind a word, as `busy 1 2`
abbrev pub values_text : List ℕ → ℕ → ℕ → List ℕ
values_text word from to = word ++ (codes " " ++ (decimal from ++ (codes " " ++ decimal to)))

-- an answer, as `0 1 done was 0 1`, `0 1 busy 1 2` or `0 1 fault 0 1`
abbrev pub answer_line : Stepped → List ℕ
answer_line Went = []
answer_line (Done ask reply) = ask_text ask ++ (codes "done " ++ (reply_text ask.op reply ++ codes "\n"))
answer_line (Busy ask from to) = ask_text ask ++ (values_text (codes "busy") from to ++ codes "\n")
answer_line (Fault ask from to) = ask_text ask ++ (values_text (codes "fault") from to ++ codes "\n")
answer_line Impossible = []

abbrev pub answer_line_at : List Stepped → ℕ → List ℕ
answer_line_at answers place = answer_line (slice_index_or answers place Went)

abbrev pub answers_text : List Stepped → List ℕ
answers_text answers = joined (answer_line_at answers) (length answers)

-- the text of a replay: a line for each answer that a client is given, and the report of the standing that is left
abbrev pub replay_text : List Stepped → Standing → List ℕ
replay_text answers s = answers_text (given answers) ++ report_text s
