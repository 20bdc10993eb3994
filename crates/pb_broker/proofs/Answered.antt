-- What a call of the program comes to, by its command.
use Rattle.std.proofs.Common.{◌≡◌, ℕ, List, Option, Some, Result, Ok, Err, MatchResult, sym, subst}
use Rattle.pb_pmem.specs.Device.{Device}
use Rattle.pb_object.specs.declared.kind.Kind.{Kind}
use Rattle.pb_report.specs.OutcomeText.{outcomes_text}
use Rattle.pb_script.specs.declared.command.Command.{Command}
use Rattle.pb_script.specs.declared.command.Command.TheVariants.{Report, Replay, Drill}
use Rattle.pb_script.specs.Command.{command_of}
use Rattle.pb_broker.specs.declared.requests.Requests.{Requests}
use Rattle.pb_broker.specs.declared.status.Status.{Status}
use Rattle.pb_broker.specs.declared.stop.Stop.{Stop}
use Rattle.pb_broker.specs.declared.stop.Stop.TheVariants.{Usage}
use Rattle.pb_broker.specs.Call.{Call, IsSameDevice, IsSaid}
use Rattle.pb_broker.specs.Comes.{Comes}
use Rattle.pb_broker.specs.Ending.{Stopped, Served}
use Rattle.pb_broker.specs.Texts.{run_status, stop_text, stop_status}
use Rattle.pb_broker.specs.Top.{IsReported, IsPlayed, IsDrilled, IsAnswered}
use Rattle.pb_broker.specs.Source.{IsUnread}
use Rattle.pb_broker.specs.Stream.{Stream}

-- a call, with its device after it
abbrev pub call_of : Stream → Device → Device → Call
call_of read before after = record { read = read; before = before; after = after }

-- requests were run, or it stopped
pub served_or_stopped : (words : List (List ℕ)) (command : Option Command) (read : Stream) (before mid after : Device) (out : Stream) (status : Status) (served : Result Requests Stop) → command_of words ≡ command → after ≡ mid → MatchResult served (λ s. Comes command (call_of read before mid) (Served s.asks.items s.outcomes.items)) (λ stop. Comes command (call_of read before mid) (Stopped stop)) → MatchResult served (λ s. IsSaid out (outcomes_text s.asks.items s.outcomes.items) (run_status s.outcomes.items) status) (λ stop. IsSaid out (stop_text stop) (stop_status stop) status) → IsAnswered words (call_of read before after) out status
served_or_stopped words command read before mid after out status (Ok s) is same comes said = record {
  ending = Served s.asks.items s.outcomes.items;
  comes = subst (λ (c : Option Command). Comes c (call_of read before after) (Served s.asks.items s.outcomes.items)) (sym is)
      (subst (λ (d : Device). Comes command (call_of read before d) (Served s.asks.items s.outcomes.items)) (sym same) comes);
  said = said;
}
served_or_stopped words command read before mid after out status (Err stop) is same comes said = record {
  ending = Stopped stop;
  comes = subst (λ (c : Option Command). Comes c (call_of read before after) (Stopped stop)) (sym is)
      (subst (λ (d : Device). Comes command (call_of read before d) (Stopped stop)) (sym same) comes);
  said = said;
}

-- the words are no command
pub no_command : (words : List (List ℕ)) (command : Option Command) (call : Call) (out : Stream) (status : Status) → command_of words ≡ command → (IsUnread call.read × IsSameDevice call → Comes command call (Stopped Usage)) → IsUnread call.read × IsSameDevice call → IsSaid out (stop_text Usage) (stop_status Usage) status → IsAnswered words call out status
no_command words command call out status is so comes said = record {
  ending = Stopped Usage;
  comes = subst (λ (c : Option Command). Comes c call (Stopped Usage)) (sym is) (so comes);
  said = said;
}

-- a schedule was replayed
pub replayed : (words : List (List ℕ)) (kind : Kind) (clients size : ℕ) (read : Stream) (before after : Device) (out : Stream) (status : Status) → command_of words ≡ Some (Replay kind clients size) → after ≡ before → IsPlayed (record { kind = kind; clients = clients; size = size }) read out status → IsAnswered words (call_of read before after) out status
replayed words kind clients size read before after out status is same played = record {
  ending = played.ending;
  comes = subst (λ (c : Option Command). Comes c (call_of read before after) played.ending) (sym is) (played.comes, same);
  said = played.said;
}

-- a region was reported
pub reported : (words : List (List ℕ)) (call : Call) (out : Stream) (status : Status) → command_of words ≡ Some Report → IsUnread call.read → IsReported call.before call.after out status → IsAnswered words call out status
reported words call out status is unread report = record {
  ending = report.ending;
  comes = subst (λ (c : Option Command). Comes c call report.ending) (sym is) (unread, report.comes);
  said = report.said;
}

-- a drill was run
pub drilled : (words : List (List ℕ)) (seed clients count : ℕ) (call : Call) (out : Stream) (status : Status) → command_of words ≡ Some (Drill seed clients count) → IsUnread call.read → IsDrilled seed clients count call.before call.after out status → IsAnswered words call out status
drilled words seed clients count call out status is unread drill = record {
  ending = drill.ending;
  comes = subst (λ (c : Option Command). Comes c call drill.ending) (sym is) (unread, drill.comes);
  said = drill.said;
}
