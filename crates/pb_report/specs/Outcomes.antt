-- What becomes of a script's requests: the outcome of each, by what was kept of its client and by the history of the run.
use Rattle.std.specs.Prelude.{◌≡◌, ℕ, ◌+◌, Bool, true, false, List, [], ◌∷◌, Option, Some, None, if◌then◌else◌, ◌==◌, nat_le, filter, length, Contains}
use Rattle.std.specs.List.{zip, All}
use Rattle.pb_object.specs.declared.request.Ask.{Ask}
use Rattle.pb_object.specs.declared.request.Reply.{Reply}
use Rattle.pb_object.specs.declared.request.Kept.{Kept as KeptRequest}
use Rattle.pb_object.specs.History.{Entry, Round, History, kept_by}
use Rattle.pb_object.specs.Standing.{Standing, keep, kept_list_of, newest}
use Rattle.pb_report.specs.declared.outcome.Outcome.{Outcome}
use Rattle.pb_report.specs.declared.outcome.Outcome.TheVariants.{New, Kept, Old, Gap, Changed, Doubt, Left}
use Rattle.pb_object.specs.KeptLists.{kept_with}
use Rattle.pb_object.specs.Request.{is_same_op}

-- a request whose number is kept gets the kept reply, if it asks for the same operation. An earlier number that isn't kept is old,
-- and one after the next leaves a gap. Nothing is said of the next request here
abbrev pub outcome_by : Option KeptRequest → ℕ → Ask → Option Outcome
outcome_by (Some one) last ask = Some (if is_same_op one.op ask.op then Kept one.reply else Changed)
outcome_by None last ask = if nat_le ask.number last then Some Old else (if ask.number == last + 1 then None else Some Gap)

-- the outcome of a request that the kept ones of its client decide; none for the next request
abbrev pub decided_outcome : List KeptRequest → Ask → Option Outcome
decided_outcome kept ask = outcome_by (kept_with ask.number kept) (newest kept).number ask

-- a request's entry in a history, with this reply
abbrev pub entry_of : Ask → Reply → Entry
entry_of ask reply = record { client = ask.client; number = ask.number; op = ask.op; reply = reply }

-- the entry stands in a round of the history
pub record HasEntry (history : History) (entry : Entry) : Type 0 where
  pub round : Round
  pub told : Contains history round
  pub member : Contains round.entries entry

-- lines that aren't tried
abbrev pub AreLeft : List (Ask × Outcome) → Type 0
AreLeft lines = All (λ line. line.1 ≡ Left) lines

-- after a gap or another operation under a kept number, a client's further lines are left; after an old or kept one they go on
abbrev pub GoesOn : Outcome → Type 0 → Type 0 → Type 0
GoesOn Gap on left = left
GoesOn Changed on left = left
GoesOn _ on left = on

-- the next request is new, with the reply of its entry in the history, which is kept then; or it is in doubt, and further lines are left
abbrev pub IsOutcomeOfNext : History → List KeptRequest → Ask → Outcome → (List KeptRequest → Type 0) → Type 0 → Type 0
IsOutcomeOfNext history kept ask (New reply) on left = HasEntry history (entry_of ask reply) × on (keep (kept_by (entry_of ask reply)) kept)
IsOutcomeOfNext history kept ask Doubt on left = left
IsOutcomeOfNext history kept ask _ on left = ⊥

-- a line: its outcome is the decided one, if one is decided; else the request is tried. `on` says of the client's further lines that they
-- go on from these kept requests, and `left` that they are left
abbrev pub IsLine : Option Outcome → History → List KeptRequest → Ask → Outcome → (List KeptRequest → Type 0) → Type 0 → Type 0
IsLine (Some decided) history kept ask outcome on left = (outcome ≡ decided) × GoesOn decided (on kept) left
IsLine None history kept ask outcome on left = IsOutcomeOfNext history kept ask outcome on left

-- the lines of one client, in order, where these requests of it are kept at first
unfoldable pub AreLines : History → List KeptRequest → List (Ask × Outcome) → Type 0
AreLines history kept [] = Unit {0}
AreLines history kept (line ∷ lines) =
    IsLine (decided_outcome kept line.0) history kept line.0 line.1 (λ next. AreLines history next lines) (AreLeft lines)

-- the lines of one client
abbrev pub lines_of_client : ℕ → List (Ask × Outcome) → List (Ask × Outcome)
lines_of_client client lines = filter (λ line. line.0.client == client) lines

-- the request was tried: a round was made of it, or was to be made when the device failed
abbrev pub is_tried : Outcome → Bool
is_tried (New reply) = true
is_tried Doubt = true
is_tried _ = false

-- the request of an entry
abbrev pub ask_of : Entry → Ask
ask_of entry = record { client = entry.client; number = entry.number; op = entry.op }

-- the entry belongs to a line that is new or in doubt
pub record IsTriedLine (lines : List (Ask × Outcome)) (entry : Entry) : Type 0 where
  pub outcome : Outcome
  pub line : Contains lines (ask_of entry, outcome)
  pub tried : is_tried outcome ≡ true

-- the outcomes of a script's requests, run from the standing s with this history
pub record Outcomes (s : Standing) (history : History) (asks : List Ask) (outcomes : List Outcome) : Type 0 where
  pub same_length : length outcomes ≡ length asks
  pub each_client : (client : ℕ) → AreLines history (kept_list_of s client) (lines_of_client client (zip asks outcomes))
  pub each_entry : (entry : Entry) → HasEntry history entry → IsTriedLine (zip asks outcomes) entry
