-- Which world of the core the code shows, and what its events make of it.
use Rattle.std.specs.Prelude.{◌≡◌, ◌⊎◌, ℕ, ◌+◌, ◌<◌, ◌≤◌, List, [], ◌∷◌, ◌++◌, length}
use Rattle.pb_pmem.specs.declared.log.LogOp.{LogOp}
use Rattle.pb_pmem.specs.Device.{with_op}
use Rattle.pb_layout.specs.declared.header.Header.{Header}
use Rattle.pb_layout.specs.Header.{record_length}
use Rattle.pb_core.specs.Fresh.{IsFreshWorld}
use Rattle.pb_layout.specs.Represents.{header_for}
use Rattle.pb_events.specs.declared.event.Event.{Event}
use Rattle.pb_events.specs.declared.event.Event.TheVariants.{Ask as AskEvent, Step, Fail, Crash, Reopen, ReopenFail}
use Rattle.pb_events.specs.declared.event.Stepped.{Stepped}
use Rattle.pb_events.specs.declared.event.Stepped.TheVariants.{Impossible}
use Rattle.pb_core.specs.DeviceParts.{IsWorld}
use Rattle.pb_core.specs.Memory.{Held, clients_of}
use Rattle.pb_core.specs.Possible.{IsPossible, IsCallDue, IsReopening, MayAsk, MayStep, MayFail, MayCrash}
use Rattle.pb_core.specs.WordMoves.{IsNotReopening}
use Rattle.pb_core.specs.World.{InCall, World}
use Rattle.pb_core.specs.Play.{IsCallable, IsReadyForStep, IsCalling, ComesBefore, PlaysMove, NextPlayed}
use Rattle.pb_play.specs.declared.world.World.{World as CodeWorld}
use Rattle.pb_play.specs.Device.{ShowsDevice}
use Rattle.pb_round_play.specs.Items.{ItemsFit}
use Rattle.pb_play.specs.Shape.{IsDevice, IsCalls}
use Rattle.pb_play.specs.Shown.{ShowsMemory}

-- the code's world is built for its header, whatever it shows
pub record IsBuilt (p : CodeWorld) : Type 0 where
  pub device : IsDevice p.device
  pub calls : IsCalls p.head p.calls
  pub next : length p.next.items ≡ record_length p.head
  pub items : ItemsFit p.head p.items

-- for how many more events there is room: at most one operation of the log is done in each
abbrev pub HasRoom : CodeWorld → Type 0
HasRoom p = length p.device.log.items < p.device.room

abbrev pub LosesOneAtMost : CodeWorld → CodeWorld → Type 0
LosesOneAtMost old new = (length new.device.log.items ≤ length old.device.log.items + 1) × (new.device.room ≡ old.device.room)

-- the code's world is this one
pub record ShowsWorld (p : CodeWorld) (w : World) : Type 0 where
  pub memory : ShowsMemory p.memory w.memory
  pub device : ShowsDevice p.calls p.device w.tale w.progress
  pub head : header_for w.memory.start ≡ p.head

-- it shows a world of the core
pub record IsShown (p : CodeWorld) : Type 0 where
  pub world : World
  pub is : IsWorld world
  pub shows : ShowsWorld p world

-- what holds of the code's world at each moment
pub record IsShaped (p : CodeWorld) : Type 0 where
  pub built : IsBuilt p
  pub shown : IsShown p

-- it shows a world in which a client holds the turn for requests of a side
pub record IsHeldFor (p : CodeWorld) (side : ℕ) : Type 0 where
  pub world : World
  pub is : IsWorld world
  pub shows : ShowsWorld p world
  pub client : ℕ
  pub holds : world.memory.owner ≡ Held client side
  pub there : client < clients_of world.memory

-- it shows what an event that is played makes of a world
pub record HasStepped (w : World) (event : Event) (new : CodeWorld) (answer : Stepped) : Type 0 where
  pub next : World
  pub step : NextPlayed w event next answer
  pub shows : ShowsWorld new next

-- an event may happen
abbrev pub MayHappen : World → Event → Type 0
MayHappen w (AskEvent ask) = MayAsk w ask
MayHappen w (Step client) = MayStep w client
MayHappen w (Fail client how) = MayFail w client
MayHappen w (Crash cut pick) = MayCrash w cut
MayHappen w Reopen = IsReopening w
MayHappen w (ReopenFail how) = IsReopening w

-- it happened, or it may not and nothing changed
abbrev pub PlaysExactly : CodeWorld → Event → CodeWorld → Stepped → Type 0
PlaysExactly old event new answer =
    (w : World) → IsWorld w → ShowsWorld old w → HasStepped w event new answer ⊎ ((answer ≡ Impossible) × (new ≡ old) × ¬ MayHappen w event)

-- an event that may happen did
abbrev pub HappensWhereItMay : CodeWorld → Event → CodeWorld → Stepped → Type 0
HappensWhereItMay old event new answer = (w : World) → IsWorld w → ShowsWorld old w → MayHappen w event → HasStepped w event new answer

-- an event happened, as it is played, or it can't and nothing changed
abbrev pub PlaysEvent : CodeWorld → Event → CodeWorld → Stepped → Type 0
PlaysEvent old event new answer =
    (w : World) → IsWorld w → ShowsWorld old w → HasStepped w event new answer ⊎ ((answer ≡ Impossible) × (new ≡ old) × ¬ IsPossible w event)

-- it shows what an event's own move makes of a world
pub record MovesTo (w : World) (event : Event) (new : CodeWorld) (answer : Stepped) : Type 0 where
  pub next : World
  pub move : PlaysMove w event next answer
  pub shows : ShowsWorld new next

-- a call is due next
pub record IsDue (w : World) : Type 0 where
  pub calling : IsCalling w.memory.work
  pub callable : IsCallable w.progress

-- it shows what moves that nobody sees make of a world, after which there is none before the holder's next step
pub record GoesOnUnseen (w : World) (new : CodeWorld) : Type 0 where
  pub middle : World
  pub before : ComesBefore (IsReadyForStep w.memory.work (clients_of w.memory) w.progress) w middle
  pub shows : ShowsWorld new middle
  pub owner : middle.memory.owner ≡ w.memory.owner
  pub clients : clients_of middle.memory ≡ clients_of w.memory
  pub due : IsCallDue w.memory.work w.progress (clients_of w.memory) → IsDue middle
  pub ready : IsReadyForStep middle.memory.work (clients_of middle.memory) middle.progress

-- the next call of the device is made
pub record CallsNext (w : World) (new : CodeWorld) : Type 0 where
  pub entry : List LogOp
  pub made : List LogOp
  pub op : LogOp
  pub left : List LogOp
  pub at : w.progress ≡ InCall entry made (op ∷ left)
  pub shows : ShowsWorld new (record w { tale = with_op op w.tale; progress = InCall entry (made ++ op ∷ []) left })

-- where it was being opened again, the region is open now
pub record IsOpened (w : World) (new : CodeWorld) : Type 0 where
  pub middle : World
  pub before : ComesBefore (IsNotReopening w.memory.owner) w middle
  pub shows : ShowsWorld new middle
  pub start : middle.memory.start ≡ w.memory.start
  pub book : middle.memory.book ≡ w.memory.book
  pub running : IsNotReopening middle.memory.owner

-- it shows a world over a region that was just formatted
pub record IsBegun (head : Header) (new : CodeWorld) : Type 0 where
  pub world : World
  pub fresh : IsFreshWorld head world
  pub shows : ShowsWorld new world
