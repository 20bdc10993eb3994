use Rattle.std.proofs.Common.{◌≡◌, ◌++◌, take}
use Rattle.pb_object.specs.Text.{spaced}
use Rattle.pb_script.proofs.print.print_arguments.Given as goal

abbrev pub invariant-loop-argument : goal.invariant-loop-argument
invariant-loop-argument l = l.text.items ≡ l.initial.text.items ++ spaced (take l.argument-index l.arguments)
