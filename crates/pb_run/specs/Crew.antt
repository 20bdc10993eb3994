-- The workers of all clients: each stands at the place of its client.
use Rattle.std.specs.Prelude.{◌≡◌, ℕ, ◌<◌, List, length, slice_index_or}
use Rattle.std.specs.List.{zip}
use Rattle.pb_object.specs.declared.kind.Kind.{Kind}
use Rattle.pb_object.specs.declared.request.Ask.{Ask}
use Rattle.pb_report.specs.declared.outcome.Outcome.{Outcome}
use Rattle.pb_report.specs.Outcomes.{lines_of_client}
use Rattle.pb_shared.specs.Passes.{PassSeen, SharedSeen}
use Rattle.pb_run.specs.declared.lines.Lines.{Lines}
use Rattle.pb_run.specs.Lists.{asks_of}
use Rattle.pb_run.specs.Worker.{IsReadyToWork, HasWorked}

-- workers, each with a pass and lines
module _ {W : Type 0} (pass : W → PassSeen) (lines : W → Lines) where
  abbrev pub AreReady : Kind → SharedSeen → List W → Type 0
  AreReady kind object workers =
      (k : ℕ) (d : W) → k < length workers
      → IsReadyToWork kind object (pass (slice_index_or workers k d)) (lines (slice_index_or workers k d)).asks.items

  -- one worked
  pub record IsThrough (object : SharedSeen) (old new : W) : Type 0 where
    pub asks : (lines new).asks.items ≡ (lines old).asks.items
    pub worked : HasWorked object (pass old) (lines old).asks.items (lines new).outcomes.items (pass new)

  -- all did
  abbrev pub AreThrough : SharedSeen → List W → List W → Type 0
  AreThrough object old new =
      (k : ℕ) (d : W) → k < length old → IsThrough object (slice_index_or old k d) (slice_index_or new k d)

module _ {W : Type 0} (lines : W → Lines) where
  -- each has the requests of its client
  abbrev pub HaveAsksOf : List Ask → List W → Type 0
  HaveAsksOf asks workers =
      (client : ℕ) (d : W) → client < length workers → (lines (slice_index_or workers client d)).asks.items ≡ asks_of client asks

  -- the outcomes of each client's requests are its worker's
  abbrev pub AreBroughtTogether : List Ask → List W → List Outcome → Type 0
  AreBroughtTogether asks workers outcomes =
      (client : ℕ) (d : W) → client < length workers
      → lines_of_client client (zip asks outcomes) ≡ zip (asks_of client asks) (lines (slice_index_or workers client d)).outcomes.items

  -- a client's worker has a line at this place, ..
  abbrev pub HasLine : List W → (client place : ℕ) → Type 0
  HasLine workers client place = (d : W) → place < length (lines (slice_index_or workers client d)).asks.items

  -- .. with this outcome
  abbrev pub HasOutcome : List W → (client place : ℕ) → Outcome → Type 0
  HasOutcome workers client place outcome =
      (d : W) (o : Outcome) → outcome ≡ slice_index_or (lines (slice_index_or workers client d)).outcomes.items place o

-- a request of one of so many clients
abbrev pub IsAskBelow : ℕ → Ask → Type 0
IsAskBelow clients ask = ask.client < clients

-- how many requests of each client come before a place
abbrev pub AreCountedByClient : List Ask → ℕ → List ℕ → Type 0
AreCountedByClient before clients next = (client : ℕ) → client < clients → slice_index_or next client 0 ≡ length (asks_of client before)
