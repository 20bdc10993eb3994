-- A schedule that is being played.
use Rattle.std.specs.Prelude.{◌≡◌, ◌⊎◌, ℕ, ◌+◌, ◌<◌, ◌≤◌, Bool, true, false, List, [], ◌∷◌, ◌++◌, Result, Ok, Err, length, replicate}
use Rattle.pb_layout.specs.declared.header.Header.{Header}
use Rattle.pb_events.specs.declared.event.Event.{Event}
use Rattle.pb_events.specs.declared.event.Stepped.{Stepped}
use Rattle.pb_core.specs.Possible.{IsPossible}
use Rattle.pb_core.specs.World.{World}
use Rattle.pb_play.specs.Worlds.{ShowsWorld}
use Rattle.pb_script.specs.declared.event.EventLine.{EventLine}
use Rattle.pb_script.specs.declared.event.EventLine.TheVariants.{Nothing, Refused, Events}
use Rattle.pb_script.specs.declared.event.Repeat.{Repeat}
use Rattle.pb_script.specs.declared.script.ScriptFault.{ScriptFault}
use Rattle.pb_script.specs.declared.script.ScriptFault.TheVariants.{Memory, Many, Line}
use Rattle.pb_script.specs.Schedule.{IsSchedule}
use Rattle.pb_script.specs.Words.{lines}
use Rattle.pb_replay.specs.declared.playing.Playing.{Playing}
use Rattle.pb_replay.specs.AnswerText.{given}
use Rattle.pb_replay.specs.Replay.{events_of, AreMade, AreMadeBefore, NamesNoEvent, NamesImpossible, IsRefusedLine}

-- Room

-- the log has room for so many more events
abbrev pub HasRoomFor : ℕ → Playing → Type 0
HasRoomFor count p = length p.world.device.log.items + count ≤ p.world.device.room

-- of which so many were taken at most
abbrev pub TakesRoom : ℕ → Playing → Playing → Type 0
TakesRoom count old new = (length new.world.device.log.items ≤ length old.world.device.log.items + count) × (new.world.device.room ≡ old.world.device.room)

abbrev pub event_times : EventLine → ℕ
event_times Nothing = 0
event_times Refused = 0
event_times (Events repeat) = repeat.times

-- it names no event that there isn't
abbrev pub IsAccepted : EventLine → Type 0
IsAccepted Nothing = Unit {0}
IsAccepted Refused = ⊥
IsAccepted (Events repeat) = Unit {0}

-- Events

-- these events happened, the world is what they made, and the answers to clients are listed
pub record HasMade (head : Header) (events : List Event) (p : Playing) : Type 0 where
  pub answers : List Stepped
  pub last : World
  pub made : AreMade head events answers last
  pub shows : ShowsWorld p.world last
  pub listed : p.answers.items ≡ given answers

-- they did, and then this one isn't possible
pub record IsStuck (head : Header) (events : List Event) (event : Event) : Type 0 where
  pub answers : List Stepped
  pub stuck : World
  pub made : AreMade head events answers stuck
  pub impossible : ¬ IsPossible stuck event

-- an event was to happen: it did, or it isn't possible; want of memory apart
abbrev pub MakesOr : Header → List Event → Event → Playing → Bool → Type 0
MakesOr head events event p true = HasMade head (events ++ event ∷ []) p
MakesOr head events event p false = IsStuck head events event

abbrev pub MakesEvent : {E : Type 0} → Header → List Event → Event → Playing → Result Bool E → Type 0
MakesEvent head events event p (Ok made) = MakesOr head events event p made
MakesEvent head events event p (Err none) = Unit {0}

-- so it was so often
pub record IsStuckAt (head : Header) (events : List Event) (line : Repeat) : Type 0 where
  pub done : ℕ
  pub left : done < line.times
  pub stuck : IsStuck head (events ++ replicate done line.event) line.event

abbrev pub MakeOr : Header → List Event → Repeat → Playing → Bool → Type 0
MakeOr head events line p true = HasMade head (events ++ replicate line.times line.event) p
MakeOr head events line p false = IsStuckAt head events line

abbrev pub MakesEvents : {E : Type 0} → Header → List Event → Repeat → Playing → Result Bool E → Type 0
MakesEvents head events line p (Ok made) = MakeOr head events line p made
MakesEvents head events line p (Err none) = Unit {0}

-- Lines

-- these lines are a schedule, whose events happened
pub record HasPlayed (head : Header) (read : List (List ℕ)) (p : Playing) : Type 0 where
  pub repeats : List Repeat
  pub schedule : IsSchedule head.kind head.clients read repeats
  pub made : HasMade head (events_of repeats) p

-- with one more line they aren't
pub record IsRefusedNext (head : Header) (read : List (List ℕ)) (line : List ℕ) : Type 0 where
  pub before : List Repeat
  pub made : AreMadeBefore head read before
  pub refused : NamesNoEvent head (read ++ line ∷ []) ⊎ NamesImpossible head (read ++ line ∷ []) before

abbrev pub PlaysLine : Header → List (List ℕ) → List ℕ → ℕ → Playing → Result (Unit {0}) ScriptFault → Type 0
PlaysLine head read line number p (Ok done) = HasPlayed head (read ++ line ∷ []) p
PlaysLine head read line number p (Err Memory) = Unit {0}
PlaysLine head read line number p (Err Many) = ⊥
PlaysLine head read line number p (Err (Line refused)) = (refused ≡ number) × IsRefusedNext head read line

-- a source was played, or one of its lines is refused
abbrev pub Plays : Header → List ℕ → Playing → Result (Unit {0}) ScriptFault → Type 0
Plays head bytes p (Ok done) = HasPlayed head (lines bytes) p
Plays head bytes p (Err Memory) = Unit {0}
Plays head bytes p (Err Many) = ⊥
Plays head bytes p (Err (Line number)) = IsRefusedLine head (lines bytes) number
