-- Playing: the run of the world in which nothing is left open. Moves that nobody sees come as late as they can; a round puts the cells of its
-- items and then writes those lines of its record that differ, in rising order; a heap's items lie in rising order; and a failing call
-- raises the device's count by one.
use Rattle.std.specs.Prelude.{◌≡◌, ◌⊎◌, ℕ, ◌+◌, ◌<◌, min, List, [], ◌∷◌, ◌++◌, Some}
use Rattle.pb_pmem.specs.declared.line.Line.{Line}
use Rattle.pb_pmem.specs.declared.log.LogOp.{LogOp}
use Rattle.pb_pmem.specs.Contents.{contents}
use Rattle.pb_pmem.specs.Count.{last_count}
use Rattle.pb_pmem.specs.Device.{Tale}
use Rattle.pb_object.specs.History.{Round, after_round}
use Rattle.pb_object.specs.ItemLines.{WordsRepresentItems}
use Rattle.pb_object.specs.Object.{State, Registers, Items, Rising, Waits}
use Rattle.pb_object.specs.Standing.{Standing, rounds_of}
use Rattle.pb_layout.specs.NextRecord.{IsNextRecord}
use Rattle.pb_layout.specs.RegionOps.{store_over}
use Rattle.pb_layout.specs.Represents.{header_for, record_in_use, object_part}
use Rattle.pb_events.specs.declared.event.Event.{Event}
use Rattle.pb_events.specs.declared.event.Event.TheVariants.{Ask as AskEvent, Step, Fail, Crash, Reopen, ReopenFail}
use Rattle.pb_events.specs.declared.event.Stepped.{Stepped}
use Rattle.pb_core.specs.HolderMoves.{round_by}
use Rattle.pb_core.specs.Memory.{Owner, Free, Held, Closed, Work, NoWork, Settling, Scanning, Calling, Filling, Noting, GivingUp, clients_of, known_standing}
use Rattle.pb_core.specs.WordMoves.{IsNotReopening}
use Rattle.pb_core.specs.World.{CallProgress, NoCall, InCall, World, ops_of_puts, puts_of}
use Rattle.pb_core.specs.WorldMoves.{Silent, begins_calls, ends_calls, begins_settling, ends_settling_none, ends_settling_round, opens, AsksWorld, StepsWord, CallsDevice, Moves}

-- When moves that nobody sees are due

-- a call of the device is left to make
abbrev pub IsCallable : CallProgress → Type 0
IsCallable NoCall = ⊥
IsCallable (InCall entry made []) = ⊥
IsCallable (InCall entry made (op ∷ left)) = Unit {0}

-- what the holder is at goes on with a step that is seen: no calls begin before it, and none end
abbrev pub IsReadyForStep : Work → ℕ → CallProgress → Type 0
IsReadyForStep NoWork clients progress = Unit {0}
IsReadyForStep Settling clients progress = IsCallable progress
IsReadyForStep (Scanning client part seen) clients progress = client < clients
IsReadyForStep Calling clients progress = IsCallable progress
IsReadyForStep (Filling count) clients progress = Unit {0}
IsReadyForStep (Noting from to) clients progress = Unit {0}
IsReadyForStep (GivingUp from to) clients progress = Unit {0}

-- the region is open, and a client's next step is one that is seen: others than the holder make no calls
abbrev pub IsNextSeen : Owner → Work → ℕ → CallProgress → ℕ → Type 0
IsNextSeen Free work clients progress c = Unit {0}
IsNextSeen (Held client side) work clients progress c = client ≡ c → IsReadyForStep work clients progress
IsNextSeen Closed work clients progress c = ⊥

-- an event comes at once: nothing that nobody sees is due before it
abbrev pub IsAtOnce : World → Event → Type 0
IsAtOnce w (AskEvent ask) = IsNotReopening w.memory.owner
IsAtOnce w (Step client) = IsNextSeen w.memory.owner w.memory.work (clients_of w.memory) w.progress client
IsAtOnce w (Fail client how) = IsNextSeen w.memory.owner w.memory.work (clients_of w.memory) w.progress client
IsAtOnce w (Crash cut pick) = Unit {0}
IsAtOnce w Reopen = Unit {0}
IsAtOnce w (ReopenFail how) = Unit {0}

-- The calls of a round

-- the object's lines of a heap list its items in rising order; those of other objects lie in one way alone
abbrev pub ListsRising : State → List Line → Type 0
ListsRising (Registers registers) lines = Unit {0}
ListsRising (Items size items) lines = Unit {0}
ListsRising (Rising size items) lines = WordsRepresentItems lines items
ListsRising (Waits size queue) lines = Unit {0}

-- the calls of a round over a device that holds s: the cells of its items, in the order of their positions; the lines of the next record
-- that differ from those where the spare one is, in rising order; and the store's last calls
pub record IsPlayedPlan (tale : Tale) (s : Standing) (round : Round) (plan : List LogOp) : Type 0 where
  pub lines : List Line
  pub next : IsNextRecord (contents tale.base tale.log) s round lines
  pub listed : ListsRising (after_round s round).state (object_part (header_for s) lines)
  pub is : plan ≡ ops_of_puts (header_for s) (puts_of s round) ++ store_over (header_for s) round.side (rounds_of s round.side) (Some (record_in_use (contents tale.base tale.log) (header_for s) round.side (rounds_of s round.side + 1))) lines

-- Moves

-- a move that nobody sees, as it is played
abbrev pub IsPlayedMove : (old new : World) → Silent old new → Type 0
IsPlayedMove old new (begins_calls step) =
    IsPlayedPlan old.tale (known_standing old.memory) (round_by step.move.side (known_standing old.memory) step.move.seen) step.plan
IsPlayedMove old new (ends_calls step) = Unit {0}
IsPlayedMove old new (begins_settling step) = Unit {0}
IsPlayedMove old new (ends_settling_none step) = Unit {0}
IsPlayedMove old new (ends_settling_round step) = Unit {0}
IsPlayedMove old new (opens step) = Unit {0}

-- what comes before an event that comes at once, or doesn't: nothing, or one move that nobody sees
pub data ComesBefore (now : Type 0) (old new : World) : Type 0 where
  at_once : now → new ≡ old → ComesBefore now old new
  silently : ¬ now → (move : Silent old new) → IsPlayedMove old new move → ComesBefore now old new

-- the holder is at calls of the device
abbrev pub IsCalling : Work → Type 0
IsCalling NoWork = ⊥
IsCalling Settling = Unit {0}
IsCalling (Scanning client part seen) = ⊥
IsCalling Calling = Unit {0}
IsCalling (Filling count) = ⊥
IsCalling (Noting from to) = ⊥
IsCalling (GivingUp from to) = ⊥

-- one more, up to the last value of a word
abbrev pub one_more : ℕ → ℕ
one_more count = min (count + 1) last_count

-- an event's own move, as it is played
abbrev pub PlaysMove : World → Event → World → Stepped → Type 0
PlaysMove old (AskEvent ask) new answer = AsksWorld old ask new answer
PlaysMove old (Step client) new answer =
    StepsWord old client new answer ⊎ (IsCalling old.memory.work × CallsDevice old client new answer)
PlaysMove old (Fail client how) new answer =
    (new.memory.count ≡ one_more old.memory.count) × Moves old (Fail client how) new answer
PlaysMove old (Crash cut pick) new answer = Moves old (Crash cut pick) new answer
PlaysMove old Reopen new answer = Moves old Reopen new answer
PlaysMove old (ReopenFail how) new answer = Moves old (ReopenFail how) new answer

-- an event, as it is played
pub record NextPlayed (old : World) (event : Event) (new : World) (answer : Stepped) : Type 0 where
  pub middle : World
  pub before : ComesBefore (IsAtOnce old event) old middle
  pub move : PlaysMove middle event new answer

-- events one after the other, with their answers
abbrev pub Play : World → List Event → List Stepped → World → Type 0
Play old [] answers new = (answers ≡ []) × (new ≡ old)
Play old (event ∷ events) answers new =
    (middle : World) × (answer : Stepped) × (rest : List Stepped) × (answers ≡ answer ∷ rest) × NextPlayed old event middle answer × Play middle events rest new
