use Rattle.std.proofs.Common.{◌≡◌, take}
use Rattle.pb_script.specs.Print.{script_text}
use Rattle.pb_script.proofs.print.print_script.Given as goal

abbrev pub invariant-loop-ask : goal.invariant-loop-ask
invariant-loop-ask l = l.text.items ≡ script_text (take l.ask-index l.asks)
