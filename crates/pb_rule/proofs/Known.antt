-- What the rule says of the standing: it is of the object's kind and clients. Where a run began is never changed.
use Rattle.std.proofs.Common.{◌≡◌, ℕ, zero, suc, List, [], ◌∷◌, ◌++◌, Option, Some, None, sym, refl, ap, ◌∙◌}
use Rattle.atomic_table.specs.Table.{State}
use Rattle.pb_object.specs.declared.kind.Kind.{Kind}
use Rattle.pb_object.specs.History.{Round}
use Rattle.pb_object.specs.Standing.{Standing}
use Rattle.pb_events.specs.declared.event.Stepped.{Stepped}
use Rattle.pb_core.specs.HolderMoves.{HolderMove, beginning, recording, settling_none, settling_round, failing_settling, failing_before, failing_after}
use Rattle.pb_core.specs.Memory.{Engine, Resting, Recorded, Writing, Doubtful, Memory, shown, known_standing, known_by, with_round_ahead, clients_of}
use Rattle.pb_core.specs.MemoryRun.{begun, MemoryMove, asked, stepped, called, MemoryRun}
use Rattle.pb_core.specs.WordMoves.{WordMove, storing, announcing, looking, matching, lacking_held, lacking_free, loading_code, loading_value, loading_extra, confirming, finding_new, finding_held, taking_sure, taking_unsure, missing, passing_over, meeting, scanning_code, scanning_first, scanning_second, scanning_own, scanning_other, filling, publishing_own, publishing_others, noting, giving_up}
use Rattle.pb_core.proofs.Histories.{HasShape, shape_after}
use Rattle.pb_engine.specs.View.{EngineView}
use Rattle.pb_rule.specs.View.{PassView}
use Rattle.pb_rule.specs.Rule.{Fault, IsTied, HasCoreRun, Keeps}

-- Kind and clients

shape_then : {s t u : Standing} → HasShape s t → HasShape t u → HasShape s u
shape_then first more = record {
  kind = more.kind ∙ first.kind;
  clients = more.clients ∙ first.clients;
  lists = more.lists ∙ first.lists;
}

round_shape : (s t : Standing) (ahead : Option Round) → HasShape s t → HasShape s (with_round_ahead ahead t)
round_shape s t None shape = shape
round_shape s t (Some round) shape = shape_then shape (shape_after t (round ∷ []))

known_shape_by : (engine : Engine) (s t : Standing) (ahead : Option Round) → HasShape s t → HasShape s (known_by engine ahead t)
known_shape_by Resting s t ahead shape = shape
known_shape_by Recorded s t ahead shape = round_shape s t ahead shape
known_shape_by Writing s t ahead shape = shape
known_shape_by Doubtful s t ahead shape = shape

pub known_shape : (m : Memory) → HasShape m.start (known_standing m)
known_shape m =
    known_shape_by m.engine m.start (shown m) m.ahead (shape_after m.start (m.past ++ m.published))

pub tied_clients : {kind : Kind} {start : EngineView} {m : Memory} {engine : EngineView} {faults : List Fault} → IsTied kind start m engine faults → engine.standing.clients ≡ clients_of m
tied_clients {m = m} tied = ap (λ (t : Standing). t.clients) tied.standing ∙ (known_shape m).clients

module _ {X : Type 0} (seen : X → EngineView) (kind : Kind) (start : EngineView) where
  pub start_kind : {s : State (Option X) (List PassView)} (r : Keeps seen kind start s) → r.m.start.kind ≡ kind
  start_kind r =
      sym (known_shape r.m).kind ∙ (ap (λ (t : Standing). t.kind) (sym r.tied.standing) ∙ r.tied.sound.kind_is)

  pub engine_clients : {s : State (Option X) (List PassView)} (r : Keeps seen kind start s) → r.engine.standing.clients ≡ clients_of r.m
  engine_clients r = ap (λ (t : Standing). t.clients) r.tied.standing ∙ (known_shape r.m).clients

-- Where a run began

record IsSame (old new : Memory) : Type 0 where
  pub start : new.start ≡ old.start
  pub past : new.past ≡ old.past

same_as : {old new : Memory} (by : Memory) → new ≡ by → by.start ≡ old.start → by.past ≡ old.past → IsSame old new
same_as {old} {new} by is start past = record {
  start = ap (λ (m : Memory). m.start) is ∙ start;
  past = ap (λ (m : Memory). m.past) is ∙ past;
}

word_same : {old new : Memory} {c : ℕ} {answer : Stepped} → WordMove old c new answer → IsSame old new
word_same (storing move) = same_as _ move.is refl refl
word_same (announcing move) = same_as _ move.is refl refl
word_same (looking move) = same_as _ move.is refl refl
word_same (matching move) = same_as _ move.is refl refl
word_same (lacking_held move) = same_as _ move.is refl refl
word_same (lacking_free move) = same_as _ move.is refl refl
word_same (loading_code move) = same_as _ move.is refl refl
word_same (loading_value move) = same_as _ move.is refl refl
word_same (loading_extra move) = same_as _ move.is refl refl
word_same (confirming move) = same_as _ move.is refl refl
word_same (finding_new move) = same_as _ move.is refl refl
word_same (finding_held move) = same_as _ move.is refl refl
word_same (taking_sure move) = same_as _ move.is refl refl
word_same (taking_unsure move) = same_as _ move.is refl refl
word_same (missing move) = same_as _ move.is refl refl
word_same (passing_over move) = same_as _ move.is refl refl
word_same (meeting move) = same_as _ move.is refl refl
word_same (scanning_code move) = same_as _ move.is refl refl
word_same (scanning_first move) = same_as _ move.is refl refl
word_same (scanning_second move) = same_as _ move.is refl refl
word_same (scanning_own move) = same_as _ move.is refl refl
word_same (scanning_other move) = same_as _ move.is refl refl
word_same (filling move) = same_as _ move.is refl refl
word_same (publishing_own move) = same_as _ move.is refl refl
word_same (publishing_others move) = same_as _ move.is refl refl
word_same (noting move) = same_as _ move.is refl refl
word_same (giving_up move) = same_as _ move.is refl refl

call_same : {old new : Memory} {c : ℕ} → HolderMove old c new → IsSame old new
call_same (beginning move) = same_as _ move.is refl refl
call_same (recording move) = same_as _ move.is refl refl
call_same (settling_none move) = same_as _ move.is refl refl
call_same (settling_round move) = same_as _ move.is refl refl
call_same (failing_settling move) = same_as _ move.is refl refl
call_same (failing_before move) = same_as _ move.is refl refl
call_same (failing_after move) = same_as _ move.is refl refl

move_same : {old new : Memory} → MemoryMove old new → IsSame old new
move_same (asked ask move) = same_as _ move.is refl refl
move_same (stepped client answer step) = word_same step.move
move_same (called client there move) = call_same move

run_same : (count : ℕ) (old new : Memory) → MemoryRun count old new → IsSame old new
run_same zero old new same = same_as old same refl refl
run_same (suc count) old new (middle, first, more) =
    let a = move_same first in
    let b = run_same count middle new more in
    record { start = b.start ∙ a.start; past = b.past ∙ a.past }

-- memory's standing at first is the engine's, and no crash was before
pub started : {start : EngineView} {m : Memory} → HasCoreRun start m → (m.start ≡ start.standing) × (m.past ≡ [])
started {start} {m} run =
    let same = run_same run.moves (begun start.standing start.device.faults) m run.run in
    (same.start, same.past)
