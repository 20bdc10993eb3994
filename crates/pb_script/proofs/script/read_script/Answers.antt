use Rattle.std.proofs.Common.{◌≡◌, ℕ, List, [], refl, arith, subst}
use Rattle.std.proofs.lemmas.Bool.Decides.{nat_tests}
use Rattle.std.proofs.lemmas.List.{nil_from_length}
use Rattle.pb_script.specs.Words.{lines}
use Rattle.pb_script.proofs.Sources.{Progress, Progress_none, zeros, passed_on, fault_at_line, finished}
use Rattle.pb_script.proofs.script.read_script.Goals as goal

pub loop-rest-init : goal.loop-rest-init
loop-rest-init c = Progress_none c.args.kind c.args.clients c.args.source.now _ c.new.ensures.items zeros refl refl refl refl

pub returns-in_err-read_line : goal.returns-in_err-read_line
returns-in_err-read_line c =
    let before = c.loop-rest.invariant in
    let fault = c.in_err-read_line.field-0.0 in
    passed_on c.args.kind c.args.clients (lines c.args.source.now) c.from_residual.result fault c.from_residual.ensures.1
    (fault_at_line c.args.kind c.args.clients c.args.source.now c.loop-rest.rest.now c.cut_line.result.0.now c.cut_line.result.1.now c.loop-rest.reading c.read_line.new.self before fault
    c.cut_line.ensures.cut (c.in_err-read_line.ensures before.read before.held))

pub returns : goal.returns
returns c =
    let empty : c.loop-rest.rest.now ≡ [] = nil_from_length c.loop-rest.rest.now (grind (arith, nat_tests)) in
    let P : List ℕ → Type 0 = λ rest. Progress c.args.kind c.args.clients c.args.source.now rest c.loop-rest.reading in
    finished c.args.kind c.args.clients c.args.source.now c.loop-rest.reading c.finish.result (subst P empty c.loop-rest.invariant) c.finish.ensures
