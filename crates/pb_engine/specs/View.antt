-- An engine as contracts see it.
use Rattle.std.specs.Prelude.{◌≡◌, ℕ, zero, suc, ◌*◌, ◌≤◌, Bool, true, false, List, length, Option, Some, None, IfSome, ◌≢◌, ◌<◌, ◌+◌}
use Rattle.pb_pmem.specs.declared.line.Line.{Line}
use Rattle.pb_pmem.specs.Device.{Device}
use Rattle.pb_object.specs.declared.kind.Kind.{Kind}
use Rattle.pb_object.specs.declared.request.TheConstants.{LAST_NUMBER}
use Rattle.pb_object.specs.History.{Round, IsLegalRound, after_round}
use Rattle.pb_object.specs.ObjectLines.{kind_of, size_of}
use Rattle.pb_object.specs.Standing.{Standing, side_count, rounds_of}
use Rattle.pb_layout.specs.Recovered.{Represents}
use Rattle.pb_layout.specs.Represents.{header_for, record_in_use, record_of_side}
use Rattle.pb_layout.specs.Shape.{IsHeader}
use Rattle.pb_object.specs.declared.limits.TheConstants.{MOST_CLIENTS}
use Rattle.pb_object.specs.KeptLists.{HasKeptLists}
use Rattle.pb_layout.specs.declared.header.Header.{Header}

-- a round whose call failed: nobody knows yet whether it is recorded. It may be so only where its index word was called
pub record FailedRound : Type 0 where
  pub round : Round
  pub called : Bool

-- what an engine knows for sure that the records of a side hold: the one in use, and the spare one, into which the next round goes
pub record KnownRecords : Type 0 where
  pub in_use : Option (List Line)
  pub spare : Option (List Line)

-- what the engine last knew for sure of its region; the round in doubt, if there is one; whether nothing is in doubt and the region is
-- settled; the device; what is known of the records of each side; and the lines of each side's record in use, as the engine has them in
-- memory
pub record EngineView : Type 0 where
  pub standing : Standing
  pub doubt : Option FailedRound
  pub sure : Bool
  pub device : Device
  pub first : KnownRecords
  pub second : KnownRecords
  pub first_record : List Line
  pub second_record : List Line

-- what is known of a side's records
abbrev pub known_of : EngineView → ℕ → KnownRecords
known_of engine zero = engine.first
known_of engine (suc side) = engine.second

-- a side's record in use as the engine has it in memory
abbrev pub record_in_memory : EngineView → ℕ → List Line
record_in_memory engine zero = engine.first_record
record_in_memory engine (suc side) = engine.second_record

-- nothing is known of a side's records
abbrev pub nothing_known : KnownRecords
nothing_known = record { in_use = None; spare = None }

-- what the record in use of a side holds is known
abbrev pub IsKnown : EngineView → ℕ → Type 0
IsKnown engine side = (known_of engine side).in_use ≢ None

-- what the record in use of each side holds is known
abbrev pub AreKnown : EngineView → Type 0
AreKnown engine = (side : ℕ) → side < side_count engine.standing.kind → IsKnown engine side

-- where the device tells its lines, a side's record in use is the one that the engine has in memory
abbrev pub IsInUse : EngineView → ℕ → Type 0
IsInUse engine side = IfSome engine.device.now (λ image. record_of_side image engine.standing side ≡ record_in_memory engine side)

-- where the device tells its lines, the records in use are those that the engine has in memory
abbrev pub AreInUse : EngineView → Type 0
AreInUse engine = (side : ℕ) → side < side_count engine.standing.kind → IsInUse engine side

-- the index word of the round in doubt was called
abbrev pub was_called : Option FailedRound → Bool
was_called None = false
was_called (Some failed) = failed.called

-- the standing after settling with this round in doubt: after that round, where its index word was called
abbrev pub settled_by : Bool → Standing → Round → Standing
settled_by true s round = after_round s round
settled_by false s round = s

-- the standing after settling with this doubt
abbrev pub settled_standing : Standing → Option FailedRound → Standing
settled_standing s None = s
settled_standing s (Some failed) = settled_by failed.called s failed.round

-- What holds of each engine

-- what is known of a side's records is what the device's lines hold: the one in use after so many rounds, and the spare one
pub record HoldsKnown (head : Header) (side round : ℕ) (known : KnownRecords) (image : List Line) : Type 0 where
  pub in_use : (lines : List Line) → known.in_use ≡ Some lines → record_in_use image head side round ≡ lines
  pub spare : (lines : List Line) → known.spare ≡ Some lines → record_in_use image head side (round + 1) ≡ lines

-- its region has this kind, with a state of its size and sound kept requests of each client; a side has at most as many rounds as its
-- clients have numbers; a sure engine has nothing in doubt, and what is in doubt is a legal round; what it knows of the records on the
-- device is so, and it has the records that it knows to be in use in memory
pub record IsEngine (kind : Kind) (engine : EngineView) : Type 0 where
  pub kind_is : engine.standing.kind ≡ kind
  pub valid : IsHeader (header_for engine.standing)
  pub sides : length engine.standing.rounds ≡ side_count kind
  pub state_kind : kind_of engine.standing.state ≡ kind
  pub state_size : size_of engine.standing.state ≡ engine.standing.size
  pub kept : HasKeptLists engine.standing
  pub few : (side : ℕ) → rounds_of engine.standing side ≤ MOST_CLIENTS * LAST_NUMBER
  pub decided : engine.sure ≡ true → engine.doubt ≡ None
  pub legal : (failed : FailedRound) → engine.doubt ≡ Some failed → IsLegalRound engine.standing failed.round
  pub records : (image : List Line) → engine.device.now ≡ Some image → (side : ℕ) → side < side_count kind
      → HoldsKnown (header_for engine.standing) side (rounds_of engine.standing side) (known_of engine side) image
  pub in_memory : (side : ℕ) → side < side_count kind → (lines : List Line) → (known_of engine side).in_use ≡ Some lines
      → record_in_memory engine side ≡ lines

-- the device tells lines that represent s
abbrev pub DeviceRepresents : Standing → Device → Type 0
DeviceRepresents s device = IfSome device.now (λ lines. Represents lines s)

-- where the device tells its lines, they represent the engine's standing, and the records in use are those in memory
pub record IsHeld (engine : EngineView) : Type 0 where
  pub stands : DeviceRepresents engine.standing engine.device
  pub in_use : AreInUse engine
