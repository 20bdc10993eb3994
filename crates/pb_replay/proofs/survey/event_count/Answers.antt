use Rattle.std.proofs.Common.{◌≡◌, [], ap, ◌∙◌, arith}
use Rattle.std.proofs.lemmas.Bool.Decides.{nat_tests}
use Rattle.std.proofs.lemmas.List.{nil_from_length}
use Rattle.pb_layout.specs.Shape.{Shape}
use Rattle.pb_script.specs.Events.{event_line}
use Rattle.pb_script.specs.Words.{fields}
use Rattle.pb_replay.proofs.Surveys.{survey_more, survey_fault, surveyed}
use Rattle.pb_replay.proofs.survey.event_count.Goals as goal

pub returns-in_err-add : goal.returns-in_err-add
returns-in_err-add c =
    survey_fault c.args.head.now.kind c.args.head.now.clients c.args.bytes.now c.loop-rest.rest.now c.cut_line.result.0.now c.cut_line.result.1.now c.loop-rest.survey c.read_event_line.result
    c.from_residual.result c.in_err-add.field-0.0 c.cut_line.ensures.cut (c.read_event_line.ensures ∙ ap (λ (h : Shape). event_line h.kind h.clients (fields c.cut_line.result.0.now)) c.head.view_is) c.in_err-add.ensures.err c.from_residual.ensures.1 c.loop-rest.invariant

pub loop-rest-preserved : goal.loop-rest-preserved
loop-rest-preserved c =
    survey_more c.args.head.now.kind c.args.head.now.clients c.args.bytes.now c.loop-rest.rest.now c.cut_line.result.0.now c.cut_line.result.1.now c.loop-rest.survey c.add.new.self c.read_event_line.result
    c.cut_line.ensures.cut (c.read_event_line.ensures ∙ ap (λ (h : Shape). event_line h.kind h.clients (fields c.cut_line.result.0.now)) c.head.view_is) c.in_ok-add.ensures.counts c.in_ok-add.ensures.few c.loop-rest.invariant

pub returns : goal.returns
returns c =
    let empty : c.loop-rest.rest.now ≡ [] = nil_from_length c.loop-rest.rest.now (grind (arith, nat_tests)) in
    surveyed c.args.head.now.kind c.args.head.now.clients c.args.bytes.now c.loop-rest.rest.now c.loop-rest.survey empty c.loop-rest.invariant
