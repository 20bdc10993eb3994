-- What holds of the device at each moment, by what is known of it.
use Rattle.std.specs.Prelude.{◌≡◌, ℕ, ◌<◌, List, [], ◌∷◌, ◌++◌, Option, Some, None}
use Rattle.pb_pmem.specs.declared.log.LogOp.{LogOp}
use Rattle.pb_pmem.specs.Device.{Tale}
use Rattle.pb_object.specs.History.{Round, History, state_after}
use Rattle.pb_object.specs.Standing.{Standing}
use Rattle.pb_layout.specs.Doubt.{IsExitInDoubt}
use Rattle.pb_layout.specs.Exits.{IsExit}
use Rattle.pb_layout.specs.LogHistory.{LoggedRound, rounds_in, AreSealed}
use Rattle.pb_layout.specs.Recovered.{Represents}
use Rattle.pb_layout.specs.RegionOps.{settle_to}
use Rattle.pb_layout.specs.Represents.{header_for}
use Rattle.pb_core.specs.Memory.{Owner, Free, Held, Closed, Engine, Resting, Recorded, Writing, Doubtful, Memory, clients_of, with_round_ahead, coming}
use Rattle.pb_core.specs.MemoryParts.{IsMemory}
use Rattle.pb_core.specs.World.{CallProgress, NoCall, InCall, World, IsRoundPlan}

-- the device as it was with another log
abbrev pub with_log : Tale → List LogOp → Tale
with_log tale log = record tale { log = log }

-- its log covers these rounds from s on, all of them are sealed, and a crash leaves the state after them alone
pub record IsSteady (tale : Tale) (s : Standing) (rounds : History) : Type 0 where
  pub history : List LoggedRound
  pub exit : IsExit tale.base [] tale.log s history (Some (state_after s rounds) ∷ [])
  pub sealed : AreSealed history
  pub told : rounds_in history ≡ rounds

-- it did so when the calls of a round began, and the calls made since are the first of the round's
pub record IsWriting (tale : Tale) (s : Standing) (rounds : History) (ahead : Option Round) (entry made left : List LogOp) : Type 0 where
  pub round : Round
  pub ahead_is : ahead ≡ Some round
  pub log : tale.log ≡ entry ++ made
  pub begun : IsSteady (with_log tale entry) s rounds
  pub planned : IsRoundPlan (with_log tale entry) (state_after s rounds) round (made ++ left)

-- it did so before a call that left its round in doubt
pub record IsInDoubtAfter (tale : Tale) (s : Standing) (rounds : History) (round : Round) : Type 0 where
  pub entry : List LogOp
  pub made : List LogOp
  pub log : tale.log ≡ entry ++ made
  pub begun : IsSteady (with_log tale entry) s rounds
  pub doubt : IsExitInDoubt tale.base entry made (state_after s rounds) round

-- what is in doubt, or nothing
abbrev pub IsUnsettled : Tale → Standing → History → Option Round → Type 0
IsUnsettled tale s rounds None = IsSteady tale s rounds
IsUnsettled tale s rounds (Some round) = IsInDoubtAfter tale s rounds round

-- it was so when the calls of settling began, and the calls made since are the first of settling
pub record IsSettling (tale : Tale) (s : Standing) (rounds : History) (ahead : Option Round) (entry made left : List LogOp) : Type 0 where
  pub log : tale.log ≡ entry ++ made
  pub begun : IsUnsettled (with_log tale entry) s rounds ahead
  pub planned : made ++ left ≡ settle_to (header_for (state_after s rounds)) (with_round_ahead ahead (state_after s rounds))

abbrev pub Fits : Engine → CallProgress → Tale → Standing → History → Option Round → Type 0
Fits Resting NoCall tale s rounds ahead = IsSteady tale s rounds
Fits Resting (InCall entry made left) tale s rounds ahead = ⊥
Fits Recorded NoCall tale s rounds ahead = IsSteady tale s (rounds ++ coming ahead)
Fits Recorded (InCall entry made left) tale s rounds ahead = ⊥
Fits Writing NoCall tale s rounds ahead = ⊥
Fits Writing (InCall entry made left) tale s rounds ahead = IsWriting tale s rounds ahead entry made left
Fits Doubtful NoCall tale s rounds ahead = IsUnsettled tale s rounds ahead
Fits Doubtful (InCall entry made left) tale s rounds ahead = IsSettling tale s rounds ahead entry made left

-- the standing when the region was opened last
abbrev pub opened_state : Memory → Standing
opened_state m = state_after m.start m.past

-- the holder of the turn is one of the clients
abbrev pub HoldsAsClient : Owner → ℕ → Type 0
HoldsAsClient Free clients = Unit {0}
HoldsAsClient (Held client side) clients = client < clients
HoldsAsClient Closed clients = Unit {0}

-- What holds of the world
pub record IsWorld (w : World) : Type 0 where
  pub memory_is : IsMemory w.memory
  pub holder : HoldsAsClient w.memory.owner (clients_of w.memory)
  pub base : Represents w.tale.base (opened_state w.memory)
  pub fits : Fits w.memory.engine w.progress w.tale (opened_state w.memory) w.memory.published w.memory.ahead
