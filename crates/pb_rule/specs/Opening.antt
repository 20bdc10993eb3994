-- The table as it is made, its views as seats part them, and what is left at the end.
use Rattle.std.specs.Prelude.{◌≡◌, ◌⊎◌, ℕ, ◌+◌, ◌*◌, ◌<◌, ◌≤◌, true, false, List, [], ◌∷◌, Contains, length, Option, None, IfSome, slice_index}
use Rattle.pb_object.specs.declared.kind.Kind.{Kind}
use Rattle.pb_pmem.specs.declared.log.LogOp.{LogOp}
use Rattle.pb_object.specs.History.{Entry, Round, History, state_after, IsLegal, IsLegalRound}
use Rattle.pb_object.specs.Standing.{Standing, kept_list_of, newest_of}
use Rattle.pb_core.specs.Client.{Client, row_word, is_holding}
use Rattle.pb_core.specs.MemoryParts.{HasEntries, AreDated}
use Rattle.pb_engine.specs.Calls.{EngineCall, Made, Failed, progress_of, AreMadeFor}
use Rattle.pb_engine.specs.Good.{HasCome}
use Rattle.pb_engine.specs.View.{EngineView, FailedRound, IsEngine}
use Rattle.pb_rule.specs.Rule.{request_place, row_place, word_count, called_round, AreServed, Fault, AreIntervalsApart, AreOfClients, fault_asks, met_by, AreNextAtSettling, HasAnswered, HasAskedFor}
use Rattle.pb_rule.specs.View.{PassView}

abbrev pub first_of : List PassView → List PassView
first_of [] = []
first_of (v ∷ views) = v ∷ []

abbrev pub rest_of : List PassView → List PassView
rest_of [] = []
rest_of (v ∷ views) = views

-- the reply rows of the first clients, and so many words of the next one's, have what is kept; all other words are 0
pub record HasStart (s : Standing) (client count : ℕ) (words : List ℕ) : Type 0 where
  pub long : length words ≡ word_count s.clients
  pub turn : slice_index words 0 ≡ 0
  pub noted : slice_index words 1 ≡ 0
  pub requests : (d place : ℕ) → d < s.clients → place < 5 → slice_index words (request_place d place) ≡ 0
  pub rows : (row d place : ℕ) → row < 2 → d < s.clients → place < 4 → (d < client) ⊎ ((d ≡ client) × (4 * row + place < count)) → slice_index words (row_place d row place) ≡ row_word (newest_of s d) place

-- a client has one of these views
abbrev pub IsThere : ℕ → List PassView → Type 0
IsThere client [] = ⊥
IsThere client (v ∷ views) = (v.client ≡ client) ⊎ IsThere client views

abbrev pub AreNotHolding : List PassView → Type 0
AreNotHolding [] = Unit {0}
AreNotHolding (v ∷ views) = (is_holding v.body.stage ≡ false) × AreNotHolding views

-- What a pass knows at the end: it saw no more rounds than there are; its entries are those of its client, with those that its open request
-- may have; each stands between the rounds that it had seen when it asked and when it was answered; the rounds that it served are those of
-- their numbers; and its faults are its client's
pub record IsEnded (start : Standing) (published : History) (ahead : Option Round) (faults : List Fault) (v : PassView) : Type 0 where
  pub front : v.body.front ≤ length published
  pub dates : AreDated published v.body.mine
  pub entries : HasEntries v.client published ahead (kept_list_of (state_after start published) v.client) v.body
  pub served : AreServed start published v.served
  pub met : v.met ≡ met_by v.client faults

abbrev pub AreEnded : Standing → History → Option Round → List Fault → List PassView → Type 0
AreEnded start published ahead faults [] = Unit {0}
AreEnded start published ahead faults (v ∷ views) = IsEnded start published ahead faults v × AreEnded start published ahead faults views

-- so it is with one of these passes
abbrev pub OneOf : (Client → Type 0) → List PassView → Type 0
OneOf so [] = ⊥
OneOf so (v ∷ views) = so v.body ⊎ OneOf so views

-- What all came to: rounds that are legal and published, and perhaps one in doubt, which is legal after them; the engine came by the published
-- ones from where it was shared, and each call of it that failed was answered as a fault to one of the clients, for its request, which a round
-- that failed has, and which was its client's next one where a settling failed; the faults' intervals lie apart. What else a round that failed
-- has was asked for by one of the passes, too. Each round that was made has an entry that one of them was answered
pub record HasEnded (kind : Kind) (start engine : EngineView) (views : List PassView) : Type 0 where
  pub published : History
  pub ahead : Option Round
  pub legal : IsLegal start.standing published
  pub next : IfSome ahead (IsLegalRound (state_after start.standing published))
  pub doubt : ((engine.sure ≡ true) × (ahead ≡ None)) ⊎ ((engine.sure ≡ false) × (called_round engine.doubt ≡ ahead))
  pub sound : IsEngine kind engine
  pub faults : List Fault
  pub calls : List EngineCall
  pub come : HasCome start engine published (length faults) calls
  pub failed : AreMadeFor calls (fault_asks faults)
  pub next_at : AreNextAtSettling start.standing (progress_of [] start) calls (fault_asks faults)
  pub asked : (failed : FailedRound) (ops : List LogOp) → Contains calls (Failed failed ops) → (entry : Entry) → Contains failed.round.entries entry → OneOf (HasAskedFor entry) views
  pub made : (round : Round) (ops : List LogOp) → Contains calls (Made round ops) → OneOf (HasAnswered round) views
  pub apart : AreIntervalsApart 0 faults engine.device.faults
  pub clients : AreOfClients start.standing.clients faults
  pub passes : AreEnded start.standing published ahead faults views
