-- Outcome lines.
use Rattle.std.specs.Prelude.{ℕ, List, ◌++◌, codes, decimal, slice_index_or}
use Rattle.std.specs.List.{zip, flat_map}
use Rattle.pb_object.specs.declared.request.Ask.{Ask}
use Rattle.pb_object.specs.declared.request.Op.{Op}
use Rattle.pb_object.specs.Request.{no_op}
use Rattle.pb_object.specs.Text.{reply_text}
use Rattle.pb_report.specs.declared.outcome.Outcome.{Outcome}
use Rattle.pb_report.specs.declared.outcome.Outcome.TheVariants.{New, Kept, Old, Gap, Changed, Doubt, Left}

-- an outcome of a request for this operation, as `new was 0 1`
abbrev pub outcome_text : Op → Outcome → List ℕ
outcome_text op (New reply) = codes "new " ++ reply_text op reply
outcome_text op (Kept reply) = codes "kept " ++ reply_text op reply
outcome_text op Old = codes "old"
outcome_text op Gap = codes "gap"
outcome_text op Changed = codes "changed"
outcome_text op Doubt = codes "doubt"
outcome_text op Left = codes "left"

-- a request's outcome line, as `0 1 new was 0 1` with its line feed
abbrev pub outcome_line : Ask → Outcome → List ℕ
outcome_line ask outcome = decimal ask.client ++ (codes " " ++ (decimal ask.number ++ (codes " " ++ (outcome_text ask.op outcome ++ codes "\n"))))

-- the outcome lines of requests, in their order
abbrev pub outcomes_text : List Ask → List Outcome → List ℕ
outcomes_text asks outcomes = flat_map (λ line. outcome_line line.0 line.1) (zip asks outcomes)

-- The same by places

abbrev pub no_ask : Ask
no_ask = record { client = 0; number = 0; op = no_op }

-- the outcome line of the request at a place
abbrev pub outcome_line_at : List Ask → List Outcome → ℕ → List ℕ
outcome_line_at asks outcomes place = outcome_line (slice_index_or asks place no_ask) (slice_index_or outcomes place Left)
