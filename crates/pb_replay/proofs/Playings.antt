-- The lines of a schedule are played.
use Rattle.std.proofs.Common.{◌≡◌, ◌⊎◌, ℕ, ◌+◌, ◌-◌, Bool, true, false, List, [], ◌∷◌, ◌++◌, Result, Ok, Err, length, take, replicate, refl, sym, ap, subst, ◌∙◌, inl, inr, arith}
use Rattle.std.specs.Result.{IsErrAnd}
use Rattle.std.proofs.lemmas.Bool.{false≢true}
use Rattle.std.proofs.lemmas.List.{append-nil, append_assoc, length_push, take_at}
use Rattle.pb_layout.specs.declared.header.Header.{Header}
use Rattle.pb_events.specs.declared.event.Event.{Event}
use Rattle.pb_script.specs.declared.event.EventLine.TheVariants.{Nothing, Refused, Events}
use Rattle.pb_script.specs.declared.event.Repeat.{Repeat}
use Rattle.pb_script.specs.declared.script.ScriptFault.{ScriptFault}
use Rattle.pb_script.specs.declared.script.ScriptFault.TheVariants.{Memory, Many, Line}
use Rattle.pb_script.specs.Events.{event_of}
use Rattle.pb_script.specs.Schedule.{HasFewEvents}
use Rattle.pb_script.specs.Request.{each}
use Rattle.pb_script.specs.Words.{lines}
use Rattle.pb_script.proofs.Arguments.{each_none}
use Rattle.pb_script.proofs.Cuts.{lines_none}
use Rattle.pb_script.proofs.Schedules.{schedule_skip, schedule_push, schedule_none}
use Rattle.pb_script.proofs.Steps.{request_lines_none}
use Rattle.pb_replay.specs.declared.played.Played.{Played}
use Rattle.pb_replay.specs.declared.playing.Playing.{Playing}
use Rattle.pb_replay.specs.Playing.{HasMade, HasPlayed, IsStuckAt, IsRefusedNext, MakeOr, PlaysLine, Plays}
use Rattle.pb_replay.specs.Replay.{events_of, AreMadeBefore, NamesNoEvent, NamesImpossible, IsRefusedLine, IsReplay}
use Rattle.pb_replay.proofs.Surveys.{Said, says_nothing, says_refused, says_events}

-- Events of lines

pub events-none : events_of [] ≡ []
unfolding events_of
events-none = refl

pub events-push : (repeats : List Repeat) (more : Repeat) → events_of (repeats ++ more ∷ []) ≡ events_of repeats ++ replicate more.times more.event
unfolding events_of
events-push [] more = append-nil (replicate more.times more.event)
events-push (repeat ∷ repeats) more =
    ap (λ (l : List Event). replicate repeat.times repeat.event ++ l) (events-push repeats more)
    ∙ sym (append_assoc (replicate repeat.times repeat.event) (events_of repeats) (replicate more.times more.event))

-- One more line

-- nothing was read yet
pub none_played : {head : Header} {p : Playing} → HasMade head [] p → HasPlayed head [] p
none_played {head} {p} made = record {
  repeats = [];
  schedule = record { reads = ap (each (event_of head.kind head.clients)) request_lines_none ∙ each_none (event_of head.kind head.clients) };
  made = subst (λ (l : List Event). HasMade head l p) (sym events-none) made;
}

-- a line that says nothing
pub played_nothing : {head : Header} {read : List (List ℕ)} {line : List ℕ} {p : Playing} → Said head.kind head.clients line Nothing → HasPlayed head read p → HasPlayed head (read ++ line ∷ []) p
played_nothing {head} {read} {line} (says_nothing none) played = record {
  repeats = played.repeats;
  schedule = schedule_skip head.kind head.clients read line played.repeats none played.schedule;
  made = played.made;
}

-- one that names no event
before_it : {head : Header} {read : List (List ℕ)} {p : Playing} (played : HasPlayed head read p) → AreMadeBefore head read played.repeats
before_it played = record { schedule = played.schedule; answers = played.made.answers; reached = played.made.last; made = played.made.made }

pub refused_line : {head : Header} {read : List (List ℕ)} {line : List ℕ} {p : Playing} → Said head.kind head.clients line Refused → HasPlayed head read p → IsRefusedNext head read line
refused_line {head} {read} {line} (says_refused asks none) played = record {
  before = played.repeats;
  made = before_it played;
  refused = inl (schedule_none head.kind head.clients read line played.repeats asks none played.schedule);
}

-- one whose events happened
pub played_events : {head : Header} {read : List (List ℕ)} {line : List ℕ} {old new : Playing} {repeat : Repeat} → Said head.kind head.clients line (Events repeat) → (played : HasPlayed head read old) → HasMade head (events_of played.repeats ++ replicate repeat.times repeat.event) new → HasPlayed head (read ++ line ∷ []) new
played_events {head} {read} {line} {old} {new} {repeat} (says_events asks some) played made = record {
  repeats = played.repeats ++ repeat ∷ [];
  schedule = schedule_push head.kind head.clients read line played.repeats repeat asks some played.schedule;
  made = subst (λ (l : List Event). HasMade head l new) (sym (events-push played.repeats repeat)) made;
}

-- one of whose events isn't possible
pub stuck_line : {head : Header} {read : List (List ℕ)} {line : List ℕ} {p : Playing} {repeat : Repeat} → Said head.kind head.clients line (Events repeat) → (played : HasPlayed head read p) → IsStuckAt head (events_of played.repeats) repeat → IsRefusedNext head read line
stuck_line {head} {read} {line} {p} {repeat} (says_events asks some) played stuck = record {
  before = played.repeats;
  made = before_it played;
  refused = inr (record {
    line = repeat;
    schedule = schedule_push head.kind head.clients read line played.repeats repeat asks some played.schedule;
    done = stuck.done;
    left = stuck.left;
    answers = stuck.stuck.answers;
    stuck = stuck.stuck.stuck;
    made = stuck.stuck.made;
    impossible = stuck.stuck.impossible;
  });
}

-- by the answer
pub all_made : (head : Header) (events : List Event) (repeat : Repeat) (p : Playing) (made : Bool) → made ≡ true → MakeOr head events repeat p made → HasMade head (events ++ replicate repeat.times repeat.event) p
all_made head events repeat p true is made = made
all_made head events repeat p false is made = absurd (false≢true is)

pub stuck_at : (head : Header) (events : List Event) (repeat : Repeat) (p : Playing) (made : Bool) → made ≡ false → MakeOr head events repeat p made → IsStuckAt head events repeat
stuck_at head events repeat p true is made = absurd (false≢true (sym is))
stuck_at head events repeat p false is made = made

-- A whole source

-- some lines of a source were played, and the others are those of the rest
pub record HasPlayedTo (head : Header) (source rest : List ℕ) (number : ℕ) (p : Playing) : Type 0 where
  pub read : List (List ℕ)
  pub cut : lines source ≡ read ++ lines rest
  pub count : number ≡ length read
  pub played : HasPlayed head read p

pub played_none : {head : Header} {p : Playing} (source : List ℕ) → HasMade head [] p → HasPlayedTo head source source 0 p
played_none source made = record { read = []; cut = refl; count = refl; played = none_played made }

pub played_one : {head : Header} {source rest line after : List ℕ} {number : ℕ} {old new : Playing} (before : HasPlayedTo head source rest number old) → lines rest ≡ line ∷ lines after → HasPlayed head (before.read ++ line ∷ []) new → HasPlayedTo head source after (number + 1) new
played_one {head} {source} {rest} {line} {after} before cut played = record {
  read = before.read ++ line ∷ [];
  cut = before.cut ∙ (ap (λ (r : List (List ℕ)). before.read ++ r) cut ∙ sym (append_assoc before.read (line ∷ []) (lines after)));
  count = omega (arith, before.count, length_push before.read line);
  played = played;
}

-- the first refused line of the source
refused_in : {head : Header} (source : List (List ℕ)) (read : List (List ℕ)) (line : List ℕ) (more : List (List ℕ)) (number : ℕ) → source ≡ read ++ line ∷ more → number ≡ length read + 1 → IsRefusedNext head read line → IsRefusedLine head source number
refused_in {head} source read line more number whole count next = record {
  before = next.before;
  made = subst (λ (ls : List (List ℕ)). AreMadeBefore head ls next.before) (sym front) next.made;
  refused = subst (λ (ls : List (List ℕ)). NamesNoEvent head ls ⊎ NamesImpossible head ls next.before) (sym with_it) next.refused;
}
  where
    front : take (number - 1) source ≡ read
    front = ap (take (number - 1)) whole ∙ take_at read (line ∷ more) (number - 1) (omega (arith, count))

    with_it : take number source ≡ read ++ line ∷ []
    with_it = ap (take number) (whole ∙ sym (append_assoc read (line ∷ []) more)) ∙ take_at (read ++ line ∷ []) more number (omega (arith, count, length_push read line))

fault_of : (head : Header) (source : List ℕ) (read : List (List ℕ)) (line : List ℕ) (more : List (List ℕ)) (number : ℕ) (new : Playing) (fault : ScriptFault) → lines source ≡ read ++ line ∷ more → number ≡ length read + 1 → PlaysLine head read line number new (Err fault) → Plays head source new (Err fault)
fault_of head source read line more number new Memory whole count h = tt
fault_of head source read line more number new Many whole count h = absurd h
fault_of head source read line more number new (Line refused) whole count h = refused_in (lines source) read line more refused whole (h.0 ∙ count) h.1

passed_on : (head : Header) (source : List ℕ) (new : Playing) (result : Result (Unit {0}) ScriptFault) (fault : ScriptFault) → IsErrAnd result (λ e. e ≡ fault) → Plays head source new (Err fault) → Plays head source new result
passed_on head source new (Ok done) fault e h = absurd e
passed_on head source new (Err other) fault e h =
    let P : ScriptFault → Type 0 = λ f. Plays head source new (Err f) in
    subst P (sym e) h

-- a fault at a line is the source's
pub fault_at : {head : Header} {source rest line : List ℕ} (after : List ℕ) {number : ℕ} {old : Playing} (new : Playing) (result : Result (Unit {0}) ScriptFault) (fault : ScriptFault) (before : HasPlayedTo head source rest number old) → lines rest ≡ line ∷ lines after → PlaysLine head before.read line (number + 1) new (Err fault) → IsErrAnd result (λ e. e ≡ fault) → Plays head source new result
fault_at {head} {source} {rest} {line} after {number} new result fault before cut h e =
    passed_on head source new result fault e
    (fault_of head source before.read line (lines after) (number + 1) new fault (before.cut ∙ ap (λ (r : List (List ℕ)). before.read ++ r) cut) (ap (λ (n : ℕ). n + 1) before.count) h)

pub played_all : {head : Header} {source rest : List ℕ} {number : ℕ} {p : Playing} → rest ≡ [] → HasPlayedTo head source rest number p → HasPlayed head (lines source) p
played_all {head} {source} {rest} {number} {p} none all =
    subst (λ (ls : List (List ℕ)). HasPlayed head ls p) (sym (all.cut ∙ (ap (λ (text : List ℕ). all.read ++ lines text) none ∙ (ap (λ (ls : List (List ℕ)). all.read ++ ls) lines_none ∙ append-nil all.read)))) all.played

-- so it wasn't replayed
fault_replayed : (head : Header) (bytes : List ℕ) (p : Playing) (fault : ScriptFault) → HasFewEvents (lines bytes) → Plays head bytes p (Err fault) → IsReplay head bytes (Err fault)
fault_replayed head bytes p Memory few plays = tt
fault_replayed head bytes p Many few plays = absurd plays
fault_replayed head bytes p (Line number) few plays = (few, plays)

pub not_replayed : (head : Header) (bytes : List ℕ) (p : Playing) (result : Result Played ScriptFault) (fault : ScriptFault) → IsErrAnd result (λ e. e ≡ fault) → HasFewEvents (lines bytes) → Plays head bytes p (Err fault) → IsReplay head bytes result
not_replayed head bytes p (Ok played) fault e few plays = absurd e
not_replayed head bytes p (Err other) fault e few plays =
    let P : ScriptFault → Type 0 = λ f. IsReplay head bytes (Err f) in
    subst P (sym e) (fault_replayed head bytes p fault few plays)
