use Rattle.std.proofs.Common.{◌∙◌, ap, inr, arith}
use Rattle.pb_engines.specs.AnyEngine.{view_of}
use Rattle.pb_broker.proofs.Drills.{versions_fit}
use Rattle.pb_broker.proofs.drill.drill_on.Goals as goal

pub versions_of-versions-requires : goal.versions_of-versions-requires
versions_of-versions-requires g c = versions_fit c.in-Ok.ensures.run c.requires.unwritten c.requires.few_clients (omega (arith, c.requires.few))

pub returns-in-Err : goal.returns-in-Err
returns-in-Err g c = inr (c.close-in-Err.ensures ∙ ap (λ engine. (view_of engine).device) c.in-Err.ensures.err, c.print_stop.ensures)
