-- What holds of a client while its worker asks.
use Rattle.std.specs.Prelude.{◌≡◌, ◌⊎◌, ℕ, Bool, false, List, [], ◌∷◌, length, All, Contains, count_by}
use Rattle.std.specs.List.{zip}
use Rattle.pb_object.specs.declared.kind.Kind.{Kind}
use Rattle.pb_object.specs.declared.request.Ask.{Ask}
use Rattle.pb_object.specs.declared.request.Kept.{Kept as KeptRequest}
use Rattle.pb_object.specs.declared.request.Reply.{Reply}
use Rattle.pb_object.specs.History.{Entry, History}
use Rattle.pb_object.specs.KeptLists.{IsKeptList}
use Rattle.pb_core.specs.Client.{Idle, Looking}
use Rattle.pb_core.specs.MemoryParts.{own_entries}
use Rattle.pb_report.specs.declared.outcome.Outcome.{Outcome}
use Rattle.pb_report.specs.declared.outcome.Outcome.TheVariants.{New, Doubt}
use Rattle.pb_report.specs.Outcomes.{AreLines, ask_of, entry_of}
use Rattle.pb_report.specs.GoingOn.{has_ended, kept_after}
use Rattle.pb_rule.specs.View.{PassView}
use Rattle.pb_script.specs.Script.{IsAskOf}
use Rattle.pb_shared.specs.Passes.{PassSeen, SharedSeen, IsOf}
use Rattle.pb_run.specs.Line.{asks_met}
use Rattle.pb_run.specs.Run.{is_doubt, asks_in_doubt}
use Rattle.pb_report.specs.SummaryText.{is_new}

abbrev pub Line : Type 0
Line = Ask × Outcome

abbrev pub new_count : List Line → ℕ
new_count lines = count_by (λ line. is_new line.1) lines

abbrev pub doubt_count : List Line → ℕ
doubt_count lines = count_by (λ line. is_doubt line.1) lines

-- a request of the pass's client
pub record IsLineOf (kind : Kind) (object : SharedSeen) (pass : PassSeen) (ask : Ask) : Type 0 where
  pub of : IsOf object pass
  pub own : ask.client ≡ pass.view.client
  pub asked : IsAskOf kind object.start.standing.clients ask
  pub kept : IsKeptList pass.view.body.kept

-- a history of the pass's entries alone
abbrev pub own_history : PassView → History
own_history v = record { side = 0; entries = own_entries v.body } ∷ []

-- its open request is a line in doubt
pub record IsPendingLine (lines : List Line) (v : PassView) : Type 0 where
  pub pending : v.body.stage ≡ Looking
  pub line : Contains lines (v.body.ask, Doubt)

-- these lines of a client have their outcomes, by the pass's own entries; and whether its further ones are left. Each new line has its
-- entry, each entry its new line, and each line in doubt the fault that was answered for it
pub record IsSoFar (first : List KeptRequest) (lines : List Line) (left : Bool) (v : PassView) : Type 0 where
  pub are : AreLines (own_history v) first lines
  pub ended : has_ended lines ≡ left
  pub known : left ≡ false → v.body.kept ≡ kept_after first lines
  pub kept : IsKeptList v.body.kept
  pub idle : left ≡ false → v.body.stage ≡ Idle
  pub rests : (v.body.stage ≡ Idle) ⊎ IsPendingLine lines v
  pub recorded : (ask : Ask) (reply : Reply) → Contains lines (ask, New reply) → Contains (own_entries v.body) (entry_of ask reply)
  pub told : (entry : Entry) → Contains (own_entries v.body) entry → Contains lines (ask_of entry, New entry.reply)
  pub new_lines : length (own_entries v.body) ≡ new_count lines
  pub doubts : asks_met v ≡ asks_in_doubt lines

-- a pass that has asked for nothing yet, and requests of its client
pub record IsReadyToWork (kind : Kind) (object : SharedSeen) (pass : PassSeen) (asks : List Ask) : Type 0 where
  pub asks_are : All (IsLineOf kind object pass) asks
  pub of : IsOf object pass
  pub kept : IsKeptList pass.view.body.kept
  pub idle : pass.view.body.stage ≡ Idle
  pub none : pass.view.body.mine ≡ []
  pub calm : pass.view.met ≡ []

-- it has asked for them all
pub record HasWorked (object : SharedSeen) (old : PassSeen) (asks : List Ask) (list : List Outcome) (new : PassSeen) : Type 0 where
  pub of : IsOf object new
  pub own : new.view.client ≡ old.view.client
  pub left : Bool
  pub so_far : IsSoFar old.view.body.kept (zip asks list) left new.view
