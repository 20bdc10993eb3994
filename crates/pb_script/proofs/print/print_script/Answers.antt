use Rattle.std.proofs.Common.{◌≡◌, sym, ap, ◌∙◌, arith}
use Rattle.std.proofs.lemmas.Grind.{common_steps}
use Rattle.std.proofs.lemmas.List.{take_all}
use Rattle.pb_script.specs.Print.{script_text}
use Rattle.pb_script.proofs.Again.{script_again}
use Rattle.pb_script.proofs.Plain.{script_text_none, script_text_push}
use Rattle.pb_script.proofs.print.print_script.Goals as goal

pub loop-ask-init : goal.loop-ask-init
loop-ask-init c = c.new-text.ensures.items ∙ sym script_text_none

pub loop-ask-preserved : goal.loop-ask-preserved
loop-ask-preserved c = grind (arith, common_steps, script_text_push)

pub returns-clause-same : goal.returns-clause-same
returns-clause-same c = λ clients source h.
    let whole : c.loop-ask.text.items ≡ script_text c.args.asks.now = c.loop-ask.invariant ∙ ap script_text (take_all c.loop-ask.ask-index c.args.asks.now (omega arith)) in
    rw whole (script_again c.args.kind clients source c.args.asks.now h)
