-- What may happen in the world: steps on words, calls of the device and their failures, crashes, and opening the region again.
use Rattle.std.specs.Prelude.{◌≡◌, ◌⊎◌, ℕ, zero, suc, ◌+◌, ◌<◌, ◌≤◌, List, [], ◌∷◌, ◌++◌, Some, option_to_list}
use Rattle.pb_crash.specs.declared.leaves.Leaves.{Leaves}
use Rattle.pb_crash.specs.Leaves.{left_by}
use Rattle.pb_crash.specs.Picked.{picked}
use Rattle.pb_pmem.specs.declared.log.LogOp.{LogOp}
use Rattle.pb_pmem.specs.Crash.{least_cut, greatest_cut}
use Rattle.pb_pmem.specs.Device.{Tale, with_op}
use Rattle.pb_pmem.specs.Operations.{with_ops}
use Rattle.pb_object.specs.declared.request.Ask.{Ask}
use Rattle.pb_object.specs.History.{Round, History, state_after}
use Rattle.pb_object.specs.Standing.{Standing, rounds_of}
use Rattle.pb_layout.specs.Recovered.{Represents}
use Rattle.pb_layout.specs.RegionOps.{commit_ops, settle_to}
use Rattle.pb_layout.specs.Represents.{header_for}
use Rattle.pb_layout.specs.ToldExits.{contents_of}
use Rattle.pb_events.specs.declared.event.Event.{Event}
use Rattle.pb_events.specs.declared.event.Event.TheVariants.{Ask as AskEvent, Step, Fail, Crash, Reopen, ReopenFail}
use Rattle.pb_events.specs.declared.event.Stepped.{Stepped}
use Rattle.pb_events.specs.declared.event.Stepped.TheVariants.{Went}
use Rattle.pb_core.specs.HolderMoves.{round_by, Begins, Records, SettlesNone, SettlesRound, FailsSettling, FailsBefore, FailsAfter}
use Rattle.pb_core.specs.Memory.{Free, Held, Closed, Settling, Resting, Memory, clients_of, shown, known_standing, with_round_ahead, coming, memory_at_opening}
use Rattle.pb_core.specs.WordMoves.{Asks, IsWordStep}
use Rattle.pb_core.specs.World.{NoCall, InCall, World, IsRoundPlan}

-- Moves that nobody sees

-- the calls of the round begin
pub record BeginsCalls (old new : World) : Type 0 where
  pub client : ℕ
  pub there : client < clients_of old.memory
  pub next : Memory
  pub move : Begins old.memory client next
  pub idle : old.progress ≡ NoCall
  pub plan : List LogOp
  pub planned : IsRoundPlan old.tale (known_standing old.memory) (round_by move.side (known_standing old.memory) move.seen) plan
  pub is : new ≡ record { memory = next; tale = old.tale; progress = InCall old.tale.log [] plan }

-- they are made
pub record EndsCalls (old new : World) : Type 0 where
  pub client : ℕ
  pub there : client < clients_of old.memory
  pub next : Memory
  pub move : Records old.memory client next
  pub entry : List LogOp
  pub made : List LogOp
  pub at : old.progress ≡ InCall entry made []
  pub is : new ≡ record { memory = next; tale = old.tale; progress = NoCall }

-- the calls that settling makes: to the round in doubt, where there is one
abbrev pub settling_plan : Memory → List LogOp
settling_plan m = settle_to (header_for (known_standing m)) (with_round_ahead m.ahead (known_standing m))

-- they begin
pub record BeginsSettling (old new : World) : Type 0 where
  pub client : ℕ
  pub side : ℕ
  pub holds : old.memory.owner ≡ Held client side
  pub at : old.memory.work ≡ Settling
  pub idle : old.progress ≡ NoCall
  pub is : new ≡ record old { progress = InCall old.tale.log [] (settling_plan old.memory) }

-- they are made, and no round was in doubt, ..
pub record EndsSettlingNone (old new : World) : Type 0 where
  pub client : ℕ
  pub there : client < clients_of old.memory
  pub next : Memory
  pub move : SettlesNone old.memory client next
  pub entry : List LogOp
  pub made : List LogOp
  pub at : old.progress ≡ InCall entry made []
  pub is : new ≡ record { memory = next; tale = old.tale; progress = NoCall }

-- .. or one was
pub record EndsSettlingRound (old new : World) : Type 0 where
  pub client : ℕ
  pub there : client < clients_of old.memory
  pub next : Memory
  pub move : SettlesRound old.memory client next
  pub entry : List LogOp
  pub made : List LogOp
  pub at : old.progress ≡ InCall entry made []
  pub is : new ≡ record { memory = next; tale = old.tale; progress = NoCall }

-- the region is open again
pub record Opens (old new : World) : Type 0 where
  pub closed : old.memory.owner ≡ Closed
  pub entry : List LogOp
  pub made : List LogOp
  pub at : old.progress ≡ InCall entry made []
  pub is : new ≡ record { memory = record (old.memory) { owner = Free; engine = Resting }; tale = old.tale; progress = NoCall }

pub data Silent (old new : World) : Type 0 where
  begins_calls : BeginsCalls old new → Silent old new
  ends_calls : EndsCalls old new → Silent old new
  begins_settling : BeginsSettling old new → Silent old new
  ends_settling_none : EndsSettlingNone old new → Silent old new
  ends_settling_round : EndsSettlingRound old new → Silent old new
  opens : Opens old new → Silent old new

-- so many of them, one after the other
abbrev pub Silents : ℕ → World → World → Type 0
Silents zero old new = new ≡ old
Silents (suc count) old new = (middle : World) × Silent old middle × Silents count middle new

-- Steps

-- a client asks for something
pub record AsksWorld (old : World) (ask : Ask) (new : World) (answer : Stepped) : Type 0 where
  pub next : Memory
  pub move : Asks old.memory ask next
  pub is : new ≡ record old { memory = next }
  pub says : answer ≡ Went

-- a client makes a step on a word
pub record StepsWord (old : World) (c : ℕ) (new : World) (answer : Stepped) : Type 0 where
  pub next : Memory
  pub move : IsWordStep old.memory c next answer
  pub is : new ≡ record old { memory = next }

-- the holder makes the next call of the device
pub record CallsDevice (old : World) (c : ℕ) (new : World) (answer : Stepped) : Type 0 where
  pub there : c < clients_of old.memory
  pub side : ℕ
  pub holds : old.memory.owner ≡ Held c side
  pub entry : List LogOp
  pub made : List LogOp
  pub op : LogOp
  pub left : List LogOp
  pub at : old.progress ≡ InCall entry made (op ∷ left)
  pub is : new ≡ record old { tale = with_op op old.tale; progress = InCall entry (made ++ op ∷ []) left }
  pub says : answer ≡ Went

-- Failures

-- the device after a failing call of an operation
abbrev pub failed : Leaves → LogOp → Tale → Tale
failed how op tale = with_ops (option_to_list (left_by how op)) tale

-- a call of settling fails
pub record FailsToSettle (old : World) (c : ℕ) (how : Leaves) (new : World) (answer : Stepped) : Type 0 where
  pub there : c < clients_of old.memory
  pub next : Memory
  pub move : FailsSettling old.memory c next
  pub entry : List LogOp
  pub made : List LogOp
  pub op : LogOp
  pub left : List LogOp
  pub at : old.progress ≡ InCall entry made (op ∷ left)
  pub is : new ≡ record { memory = next; tale = failed how op old.tale; progress = NoCall }
  pub says : answer ≡ Went

-- the last calls of a round's store, from its index word on
abbrev pub last_calls : Standing → Round → List LogOp
last_calls s round = commit_ops round.side (rounds_of s round.side + 1)

-- a call of a round fails: the index word is still to be called, ..
pub record FailsToStage (old : World) (c : ℕ) (how : Leaves) (new : World) (answer : Stepped) : Type 0 where
  pub there : c < clients_of old.memory
  pub next : Memory
  pub move : FailsBefore old.memory c next
  pub round : Round
  pub ahead : old.memory.ahead ≡ Some round
  pub entry : List LogOp
  pub made : List LogOp
  pub op : LogOp
  pub more : List LogOp
  pub at : old.progress ≡ InCall entry made (op ∷ (more ++ last_calls (shown old.memory) round))
  pub is : new ≡ record { memory = next; tale = failed how op old.tale; progress = NoCall }
  pub says : answer ≡ Went

-- .. or it was called, by this call or before it
pub record FailsToCommit (old : World) (c : ℕ) (how : Leaves) (new : World) (answer : Stepped) : Type 0 where
  pub there : c < clients_of old.memory
  pub next : Memory
  pub move : FailsAfter old.memory c next
  pub round : Round
  pub ahead : old.memory.ahead ≡ Some round
  pub entry : List LogOp
  pub made : List LogOp
  pub op : LogOp
  pub left : List LogOp
  pub at : old.progress ≡ InCall entry made (op ∷ left)
  pub before : List LogOp
  pub last : last_calls (shown old.memory) round ≡ before ++ op ∷ left
  pub is : new ≡ record { memory = next; tale = failed how op old.tale; progress = NoCall }
  pub says : answer ≡ Went

-- Crashes

-- all rounds that were recorded or may be
abbrev pub all_rounds : Memory → History
all_rounds m = m.past ++ (m.published ++ coming m.ahead)

-- a crash leaves an image, which represents the state after the first of all rounds, and those alone are recorded now
pub record Crashes (old : World) (cut pick : ℕ) (new : World) (answer : Stepped) : Type 0 where
  pub low : least_cut old.tale.log ≤ cut
  pub high : cut ≤ greatest_cut old.tale.log
  pub kept : History
  pub lost : History
  pub whole : all_rounds old.memory ≡ kept ++ lost
  pub stands : Represents (picked old.tale.base old.tale.log cut pick) (state_after old.memory.start kept)
  pub is : new ≡ record {
    memory = memory_at_opening old.memory.start kept old.memory.answers;
    tale = record { base = picked old.tale.base old.tale.log cut pick; log = [] };
    progress = NoCall;
  }
  pub says : answer ≡ Went

-- Opening the region again

-- it is read: settling to what it represents comes next
pub record ReadsRegion (old new : World) (answer : Stepped) : Type 0 where
  pub closed : old.memory.owner ≡ Closed
  pub idle : old.progress ≡ NoCall
  pub standing : Standing
  pub stands : Represents (contents_of old.tale) standing
  pub is : new ≡ record old { progress = InCall old.tale.log [] (settle_to (header_for standing) standing) }
  pub says : answer ≡ Went

-- the next call of settling
pub record SettlesRegion (old new : World) (answer : Stepped) : Type 0 where
  pub closed : old.memory.owner ≡ Closed
  pub entry : List LogOp
  pub made : List LogOp
  pub op : LogOp
  pub left : List LogOp
  pub at : old.progress ≡ InCall entry made (op ∷ left)
  pub is : new ≡ record old { tale = with_op op old.tale; progress = InCall entry (made ++ op ∷ []) left }
  pub says : answer ≡ Went

-- reading fails, which changes nothing, ..
pub record FailsToRead (old new : World) (answer : Stepped) : Type 0 where
  pub closed : old.memory.owner ≡ Closed
  pub idle : old.progress ≡ NoCall
  pub is : new ≡ old
  pub says : answer ≡ Went

-- .. or a call of settling does: reading comes next again
pub record FailsToReopen (old : World) (how : Leaves) (new : World) (answer : Stepped) : Type 0 where
  pub closed : old.memory.owner ≡ Closed
  pub entry : List LogOp
  pub made : List LogOp
  pub op : LogOp
  pub left : List LogOp
  pub at : old.progress ≡ InCall entry made (op ∷ left)
  pub is : new ≡ record old { tale = failed how op old.tale; progress = NoCall }
  pub says : answer ≡ Went

-- Events

-- what an event may do, and the answer that it gives
abbrev pub Moves : World → Event → World → Stepped → Type 0
Moves old (AskEvent ask) new answer = AsksWorld old ask new answer
Moves old (Step client) new answer = StepsWord old client new answer ⊎ CallsDevice old client new answer
Moves old (Fail client how) new answer =
    FailsToSettle old client how new answer ⊎ (FailsToStage old client how new answer ⊎ FailsToCommit old client how new answer)
Moves old (Crash cut pick) new answer = Crashes old cut pick new answer
Moves old Reopen new answer = ReadsRegion old new answer ⊎ SettlesRegion old new answer
Moves old (ReopenFail how) new answer = FailsToRead old new answer ⊎ FailsToReopen old how new answer

-- an event: moves that nobody sees, as many as are due, and then its own
pub record Next (old : World) (event : Event) (new : World) (answer : Stepped) : Type 0 where
  pub silent : ℕ
  pub middle : World
  pub silents : Silents silent old middle
  pub move : Moves middle event new answer

-- events one after the other, with their answers
abbrev pub Run : World → List Event → List Stepped → World → Type 0
Run old [] answers new = (answers ≡ []) × (new ≡ old)
Run old (event ∷ events) answers new =
    (middle : World) × (answer : Stepped) × (rest : List Stepped) × (answers ≡ answer ∷ rest) × Next old event middle answer × Run middle events rest new
