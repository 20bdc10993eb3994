-- Which events are possible.
use Rattle.std.specs.Prelude.{◌≡◌, ◌↔◌, ℕ, ◌+◌, ◌<◌, ◌≤◌, true, false, List, [], ◌∷◌}
use Rattle.pb_crash.specs.declared.leaves.Leaves.{Leaves}
use Rattle.pb_pmem.specs.declared.log.LogOp.{LogOp}
use Rattle.pb_pmem.specs.Crash.{least_cut, greatest_cut}
use Rattle.pb_object.specs.declared.request.Ask.{Ask}
use Rattle.pb_object.specs.declared.request.TheConstants.{LAST_NUMBER}
use Rattle.pb_object.specs.Request.{IsOperation}
use Rattle.pb_object.specs.Standing.{newest}
use Rattle.pb_events.specs.declared.event.Event.{Event}
use Rattle.pb_events.specs.declared.event.Event.TheVariants.{Ask as AskEvent, Step, Fail, Crash, Reopen, ReopenFail}
use Rattle.pb_events.specs.declared.event.Stepped.{Stepped}
use Rattle.pb_core.specs.Client.{is_idle}
use Rattle.pb_core.specs.HolderMoves.{round_by}
use Rattle.pb_core.specs.Memory.{Owner, Free, Held, Closed, AtNumber, AtCode, AtFirst, AtSecond, AtThird, Work, NoWork, Settling, Scanning, Calling, Filling, Noting, GivingUp, clients_of, known_standing}
use Rattle.pb_core.specs.World.{CallProgress, NoCall, InCall, World, IsRoundPlan}
use Rattle.pb_core.specs.WorldMoves.{Next}

-- the region is being opened again, and something is left to do
abbrev pub IsOpening : Owner → CallProgress → Type 0
IsOpening Free progress = ⊥
IsOpening (Held client side) progress = ⊥
IsOpening Closed NoCall = Unit {0}
IsOpening Closed (InCall entry made []) = ⊥
IsOpening Closed (InCall entry made (op ∷ left)) = Unit {0}

abbrev pub IsReopening : World → Type 0
IsReopening w = IsOpening w.memory.owner w.progress

-- it can happen
pub record IsPossible (w : World) (event : Event) : Type 0 where
  pub new : World
  pub answer : Stepped
  pub next : Next w event new answer

-- a client may ask: it is idle, under its next number
pub record MayAsk (w : World) (ask : Ask) : Type 0 where
  pub open_now : ¬ IsReopening w
  pub there : ask.client < clients_of w.memory
  pub idle : is_idle (w.memory.book ask.client).stage ≡ true
  pub number : ask.number ≡ (newest (w.memory.book ask.client).kept).number + 1
  pub few : ask.number ≤ LAST_NUMBER
  pub operation : IsOperation w.memory.start.kind ask.op

-- a client may make a step: it isn't idle
pub record MayStep (w : World) (client : ℕ) : Type 0 where
  pub open_now : ¬ IsReopening w
  pub there : client < clients_of w.memory
  pub busy : is_idle (w.memory.book client).stage ≡ false

-- a scan that is over leads to a round whose calls there are
abbrev pub HasPlan : World → Type 0
HasPlan w =
    (client side : ℕ) (seen : List Ask) → w.memory.owner ≡ Held client side → w.memory.work ≡ Scanning (clients_of w.memory) AtNumber seen
    → (plan : List LogOp) × IsRoundPlan w.tale (known_standing w.memory) (round_by side (known_standing w.memory) seen) plan

-- the holder's next step is a call of the device: of settling, of a round, or the first one of a round whose scan is over
abbrev pub IsCallDue : Work → CallProgress → ℕ → Type 0
IsCallDue NoWork progress clients = ⊥
IsCallDue Settling NoCall clients = Unit {0}
IsCallDue Settling (InCall entry made []) clients = ⊥
IsCallDue Settling (InCall entry made (op ∷ left)) clients = Unit {0}
IsCallDue (Scanning client part seen) (InCall entry made left) clients = ⊥
IsCallDue (Scanning client AtNumber seen) NoCall clients = client ≡ clients
IsCallDue (Scanning client (AtCode number) seen) NoCall clients = ⊥
IsCallDue (Scanning client (AtFirst number code) seen) NoCall clients = ⊥
IsCallDue (Scanning client (AtSecond number code a) seen) NoCall clients = ⊥
IsCallDue (Scanning client (AtThird number code a b) seen) NoCall clients = ⊥
IsCallDue Calling NoCall clients = ⊥
IsCallDue Calling (InCall entry made []) clients = ⊥
IsCallDue Calling (InCall entry made (op ∷ left)) clients = Unit {0}
IsCallDue (Filling count) progress clients = ⊥
IsCallDue (Noting from to) progress clients = ⊥
IsCallDue (GivingUp from to) progress clients = ⊥

pub record MayFail (w : World) (client : ℕ) : Type 0 where
  pub there : client < clients_of w.memory
  pub side : ℕ
  pub holds : w.memory.owner ≡ Held client side
  pub due : IsCallDue w.memory.work w.progress (clients_of w.memory)

-- the cut of a crash lies in the range of the device's log
pub record MayCrash (w : World) (cut : ℕ) : Type 0 where
  pub low : least_cut w.tale.log ≤ cut
  pub high : cut ≤ greatest_cut w.tale.log

-- each event is possible exactly where it may be
pub record IsExact (w : World) : Type 0 where
  pub asks : (ask : Ask) → IsPossible w (AskEvent ask) ↔ MayAsk w ask
  pub steps : (client : ℕ) → IsPossible w (Step client) → MayStep w client
  pub can_step : HasPlan w → (client : ℕ) → MayStep w client → IsPossible w (Step client)
  pub fails : (client : ℕ) (how : Leaves) → IsPossible w (Fail client how) → MayFail w client
  pub can_fail : HasPlan w → (client : ℕ) (how : Leaves) → MayFail w client → IsPossible w (Fail client how)
  pub crashes : (cut pick : ℕ) → IsPossible w (Crash cut pick) ↔ MayCrash w cut
  pub reopens : IsPossible w Reopen ↔ IsReopening w
  pub fails_to_reopen : (how : Leaves) → IsPossible w (ReopenFail how) ↔ IsReopening w
