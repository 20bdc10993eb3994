-- What was printed, and with which status.
use Rattle.std.proofs.Common.{◌≡◌, ◌⊎◌, ℕ, List, ◌++◌, Option, Result, Ok, Err, OnOk, OnErr, MatchResult, length, take, sym, subst, ◌∙◌, arith, inl, inr}
use Rattle.std.specs.Bool.{⊤}
use Rattle.std.proofs.lemmas.List.{take_all}
use Rattle.std.specs.Io.KnownBytes.{Appends, Keeps}
use Rattle.std.proofs.KnownBytes.{Appends-kept}
use Rattle.pb_pmem.specs.Count.{Rose, HasCause}
use Rattle.pb_pmem.specs.Device.{Device}
use Rattle.pb_io.specs.declared.sink.SinkFault.{SinkFault}
use Rattle.pb_io.specs.SinkBytes.{AppendsSome}
use Rattle.pb_engine.specs.Opening.{IsAdopted}
use Rattle.pb_engine.specs.View.{EngineView}
use Rattle.pb_events.specs.declared.event.Stepped.{Stepped}
use Rattle.pb_layout.specs.declared.header.Header.{Header}
use Rattle.pb_object.specs.Standing.{Standing}
use Rattle.pb_engines.specs.AnyEngine.{view_of}
use Rattle.pb_region_report.specs.ReportText.{report_text}
use Rattle.pb_replay.specs.declared.played.Played.{Played}
use Rattle.pb_replay.specs.AnswerText.{given, answers_text}
use Rattle.pb_broker.specs.declared.status.Status.{Status}
use Rattle.pb_broker.specs.declared.status.Status.TheVariants.{Done, WriteFault}
use Rattle.pb_broker.specs.declared.stop.Stop.{Stop}
use Rattle.pb_broker.specs.declared.stop.Stop.TheVariants.{Memory}
use Rattle.pb_broker.specs.Call.{IsSaid}
use Rattle.pb_broker.specs.Comes.{IsNotOpened}
use Rattle.pb_broker.specs.Ending.{Stopped, Reported, Replayed}
use Rattle.pb_broker.specs.Serving.{HasPlayed, IsPrinted}
use Rattle.pb_broker.specs.Texts.{stop_text, stop_status}
use Rattle.pb_broker.specs.Top.{IsReported, IsPlayed}
use Rattle.pb_broker.specs.Stream.{Stream, stream}

-- a text was sent, and the sink was asked to pass it on
pub said_by : (before mid after : Option (List ℕ)) (f0 f1 f2 : ℕ) (text : List ℕ) (whole status : Status) (written : Result ⊤ SinkFault) → OnOk written (Appends before mid text) → OnErr written (AppendsSome before mid text) → HasCause f0 f1 written → Keeps mid after → MatchResult written (λ _. ((status ≡ whole) × (f2 ≡ f1)) ⊎ ((status ≡ WriteFault) × Rose f1 f2)) (λ _. (status ≡ WriteFault) × (f2 ≡ f1)) → IsSaid (stream before after f0 f2) text whole status
said_by before mid after f0 f1 f2 text whole status (Ok done) ok err cause kept (inl all) =
    inl (record { written = Appends-kept before mid after text ok kept; is = all.0; sound = all.1 ∙ cause })
said_by before mid after f0 f1 f2 text whole status (Ok done) ok err cause kept (inr fault) =
    inr (record {
      written = (length text, subst (Appends before after) (sym (take_all (length text) text (omega arith))) (Appends-kept before mid after text ok kept));
      is = fault.0;
      rose = subst (λ (n : ℕ). Rose n f2) cause fault.1;
    })
said_by before mid after f0 f1 f2 text whole status (Err fault) ok err cause kept last =
    inr (record {
      written = (err.0, Appends-kept before mid after (take err.0 text) err.1 kept);
      is = last.0;
      rose = subst (λ (n : ℕ). Rose f0 n) (sym last.1) cause;
    })

-- The replay

pub played_by : (head : Header) (read : Stream) (played : Played) (out : Stream) (status : Status) → HasPlayed head read played → IsSaid out (answers_text played.answers.items ++ report_text (view_of played.engine).standing) Done status → IsPlayed head read out status
played_by head read played out status has said = record {
  ending = Replayed has.answers has.standing;
  comes = has.source;
  said = subst (λ (s : Standing). IsSaid out (answers_text (given has.answers) ++ report_text s) Done status) has.holds.standing
      (subst (λ (l : List Stepped). IsSaid out (answers_text l ++ report_text (view_of played.engine).standing) Done status) has.holds.answers_are said);
}

-- The report

pub reported_by : (device after : Device) (engine : EngineView) (out : Stream) (status : Status) → IsAdopted device engine → after ≡ engine.device → IsPrinted engine.standing out status → IsReported device after out status
reported_by device after engine out status adopted is (inl said) =
    record { ending = Reported engine.standing; comes = (adopted.stands, is ∙ adopted.same); said = said }
reported_by device after engine out status adopted is (inr said) =
    record { ending = Stopped Memory; comes = is ∙ adopted.same; said = said }

pub not_reported : (before mid after : Device) (stop : Stop) (out : Stream) (status : Status) → IsNotOpened before mid stop → after ≡ mid → IsSaid out (stop_text stop) (stop_status stop) status → IsReported before after out status
not_reported before mid after stop out status is same said =
    record { ending = Stopped stop; comes = subst (λ (d : Device). IsNotOpened before d stop) (sym same) is; said = said }
