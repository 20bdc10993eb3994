-- What becomes of one request of a pass.
use Rattle.std.specs.Prelude.{◌≡◌, Bool, true, false, List, [], ◌∷◌, ◌++◌, map, Option, Some, None}
use Rattle.pb_object.specs.declared.request.Ask.{Ask}
use Rattle.pb_object.specs.declared.request.Reply.{Reply}
use Rattle.pb_object.specs.History.{kept_by}
use Rattle.pb_object.specs.Standing.{keep}
use Rattle.pb_core.specs.Client.{Idle, Looking}
use Rattle.pb_core.specs.MemoryParts.{own_entries}
use Rattle.pb_report.specs.declared.outcome.Outcome.{Outcome}
use Rattle.pb_report.specs.declared.outcome.Outcome.TheVariants.{New, Gap, Changed, Doubt, Left}
use Rattle.pb_report.specs.Outcomes.{decided_outcome, entry_of}
use Rattle.pb_rule.specs.View.{Met, PassView}

-- it is recorded with this reply: it is the last of the pass's entries, and its newest kept request
pub record IsServed (ask : Ask) (reply : Reply) (old new : PassView) : Type 0 where
  pub mine : own_entries new.body ≡ own_entries old.body ++ entry_of ask reply ∷ []
  pub kept : new.body.kept ≡ keep (kept_by (entry_of ask reply)) old.body.kept
  pub idle : new.body.stage ≡ Idle
  pub met : new.met ≡ old.met

abbrev pub met_ask : Met → Ask
met_ask met = met.ask

-- the requests for which faults were answered
abbrev pub asks_met : PassView → List Ask
asks_met v = map met_ask v.met

-- it is in doubt: a fault was answered for it, and it stays announced
pub record StaysOpen (ask : Ask) (old new : PassView) : Type 0 where
  pub mine : own_entries new.body ≡ own_entries old.body
  pub kept : new.body.kept ≡ old.body.kept
  pub pending : new.body.stage ≡ Looking
  pub asked : new.body.ask ≡ ask
  pub met : asks_met new ≡ asks_met old ++ ask ∷ []

-- a request was tried
abbrev pub TriesAsk : Ask → PassView → PassView → Outcome → Type 0
TriesAsk ask old new (New reply) = IsServed ask reply old new
TriesAsk ask old new Doubt = StaysOpen ask old new
TriesAsk ask old new _ = ⊥

-- a request that its client's kept ones decide isn't tried
abbrev pub DecidesOrTries : Option Outcome → Ask → PassView → PassView → Outcome → Type 0
DecidesOrTries (Some decided) ask old new outcome = (outcome ≡ decided) × (new ≡ old)
DecidesOrTries None ask old new outcome = TriesAsk ask old new outcome

-- one of a client whose lines are left isn't even judged
abbrev pub RunsLine : Bool → Ask → PassView → PassView → Outcome → Type 0
RunsLine true ask old new outcome = (outcome ≡ Left) × (new ≡ old)
RunsLine false ask old new outcome = DecidesOrTries (decided_outcome old.body.kept ask) ask old new outcome

-- a client's further lines are left after this outcome
abbrev pub ends_run : Outcome → Bool
ends_run Gap = true
ends_run Changed = true
ends_run Doubt = true
ends_run Left = true
ends_run _ = false
