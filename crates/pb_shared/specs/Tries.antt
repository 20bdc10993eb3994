-- What a try comes to.
use Rattle.std.specs.Prelude.{◌≡◌, ◌≢◌, ◌⊎◌, ℕ, suc, ◌+◌, ◌*◌, ◌/◌, ◌%◌, ◌≤◌, List, [], ◌∷◌, ◌++◌}
use Rattle.pb_pmem.specs.Count.{Rose}
use Rattle.pb_core.specs.Client.{Looking}
use Rattle.pb_core.specs.WordMoves.{answered}
use Rattle.pb_rule.specs.View.{Look, Note, Turn, Row, OwnRound, PassView}
use Rattle.pb_shared.specs.declared.answers.Attempt.{Attempt}
use Rattle.pb_shared.specs.declared.answers.Attempt.TheVariants.{Done, Busy, Fault}
use Rattle.pb_shared.specs.declared.answers.Performed.{Performed}
use Rattle.pb_shared.specs.declared.answers.Performed.TheVariants as performed
use Rattle.pb_shared.specs.Combined.{IsCombined}

-- the round that it published is one that it served itself, the last of these: it left out no open request of its side that it met
pub record HasCombined (old new : PassView) : Type 0 where
  pub own : OwnRound
  pub served : new.served ≡ old.served ++ own ∷ []
  pub round : own.number ≡ new.body.front
  pub combined : IsCombined new own

-- the round that it published: settling found it recorded, and no more clients were looked at than these; or it served it itself
abbrev pub Serves : List Look → PassView → PassView → Type 0
Serves looked old new = ((new.looked ≡ looked) × (new.served ≡ old.served)) ⊎ HasCombined old new

-- the words of a try that took the turn: its row lacked its number, and the turn was free and as it was found first when it was taken. Then
-- those that it published
pub record HasHadTurn (number turn : ℕ) (published notes : List Note) : Type 0 where
  pub found : ℕ
  pub met : notes ≡ Turn turn ∷ Row found ∷ Turn turn ∷ published
  pub lacks : found ≢ number
  pub free : turn % 2 ≡ 0

-- how a try is answered, by the words that it met or published: its row had its number, and the turn was of the same round still; or it took
-- the turn and published a round that has its request
pub data IsDone (old new : PassView) : Type 0 where
  read_row : (from to : ℕ) → new.notes ≡ Turn from ∷ Row old.body.ask.number ∷ Turn to ∷ [] → to / 2 ≡ from / 2 → new.body.front ≡ to / 2 → new.served ≡ old.served → IsDone old new
  had_turn : (turn : ℕ) → HasHadTurn old.body.ask.number turn (Row old.body.ask.number ∷ Turn (turn + 2) ∷ []) new.notes → new.body.front ≡ (turn + 2) / 2 → Serves [] old new → IsDone old new

-- a request that isn't answered stays, with all that is its own; what was seen is no less
pub record StaysOpen (old new : PassView) : Type 0 where
  pub body : new.body ≡ record old.body { stage = Looking; front = new.body.front }
  pub front : old.body.front ≤ new.body.front

-- why a try finds others busy, by the words that it met or published: its row lacked its number while the turn was held; or the turn was free
-- and another took it first; or its row had its number and the turn was of another round then; or it took the turn, and published a round that
-- settling found recorded and that lacks its request: it looked at nobody
pub data IsBusy (number from to : ℕ) (new : PassView) : Type 0 where
  lacked : (found : ℕ) → new.notes ≡ Turn from ∷ Row found ∷ Turn to ∷ [] → found ≢ number → from % 2 ≡ 1 → IsBusy number from to new
  missed : (found : ℕ) → new.notes ≡ Turn from ∷ Row found ∷ Turn to ∷ [] → found ≢ number → from % 2 ≡ 0 → to ≢ from → IsBusy number from to new
  moved_on : new.notes ≡ Turn from ∷ Row number ∷ Turn to ∷ [] → to / 2 ≢ from / 2 → IsBusy number from to new
  settled : (kept : ℕ) → HasHadTurn number from (Row kept ∷ Turn to ∷ []) new.notes → kept ≢ number → to ≡ from + 2 → new.looked ≡ [] → IsBusy number from to new

-- a fault comes only where it took the turn, and nothing was published
pub record HasFailedHolding (number : ℕ) (new : PassView) : Type 0 where
  pub turn : ℕ
  pub had : HasHadTurn number turn [] new.notes
  pub front : new.body.front ≡ turn / 2

-- nothing else of the pass changes
pub record IsSamePass (old new : PassView) : Type 0 where
  pub clients : new.clients ≡ old.clients
  pub client : new.client ≡ old.client

abbrev pub HasTried : PassView → PassView → Attempt → Type 0
HasTried old new (Done reply) =
    (new.body ≡ answered reply new.body.front old.body) × (old.body.front ≤ new.body.front) × (new.met ≡ old.met) × IsDone old new
HasTried old new (Busy from to) =
    StaysOpen old new × (new.met ≡ old.met) × (new.body.front ≡ to / 2) × (new.served ≡ old.served) × IsBusy old.body.ask.number from to new
HasTried old new (Fault from to) =
    StaysOpen old new × (new.met ≡ old.met ++ record { ask = old.body.ask; from = from; to = to } ∷ []) × Rose from to × (new.served ≡ old.served) × HasFailedHolding old.body.ask.number new

-- a round was published that lacks the holder's request
pub record HasPublishedOthers (old new : PassView) (to : ℕ) : Type 0 where
  pub kept : ℕ
  pub notes : new.notes ≡ old.notes ++ Row kept ∷ Turn to ∷ []
  pub lacks : kept ≢ old.body.ask.number

-- what a holder's try comes to, from where it took the turn
abbrev pub HasHeld : PassView → PassView → Attempt → Type 0
HasHeld old new (Done reply) =
    (new.body ≡ answered reply new.body.front old.body) × (new.body.front ≡ suc old.body.front) × (new.met ≡ old.met) × (new.notes ≡ old.notes ++ Row old.body.ask.number ∷ Turn (2 * suc old.body.front) ∷ []) × Serves old.looked old new
HasHeld old new (Busy from to) =
    StaysOpen old new × (new.met ≡ old.met) × (new.body.front ≡ suc old.body.front) × (from ≡ 2 * old.body.front) × (to ≡ from + 2) × HasPublishedOthers old new to × (new.looked ≡ old.looked) × (new.served ≡ old.served)
HasHeld old new (Fault from to) =
    StaysOpen old new × (new.met ≡ old.met ++ record { ask = old.body.ask; from = from; to = to } ∷ []) × (new.body.front ≡ old.body.front) × Rose from to × (new.notes ≡ old.notes) × (new.served ≡ old.served)

-- what tries one after the other come to: what the last one comes to, since those before it only saw more rounds
abbrev pub HasPerformed : PassView → PassView → Performed → Type 0
HasPerformed old new (performed.Done reply) = HasTried old new (Done reply)
HasPerformed old new (performed.Fault from to) = HasTried old new (Fault from to)

-- tries that found others busy: the request is open still, and nothing was answered
pub record HasWaited (old now : PassView) : Type 0 where
  pub stays : StaysOpen old now
  pub met : now.met ≡ old.met
  pub served : now.served ≡ old.served
  pub same : IsSamePass old now
