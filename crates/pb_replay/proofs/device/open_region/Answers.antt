use Rattle.std.proofs.Common.{List, subst}
use Rattle.pb_pmem.specs.declared.line.Line.{Line}
use Rattle.pb_layout.specs.Recovered.{Represents}
use Rattle.pb_engines.specs.AnyEngine.{view_of}
use Rattle.pb_replay.proofs.device.open_region.Goals as goal

pub returns-in-Ok : goal.returns-in-Ok
returns-in-Ok c w shows =
    subst (λ (lines : List Line). Represents lines (view_of c.in-Ok.engine).standing) (c.in_ok-device.ensures w shows) c.in-Ok.ensures.ok.stands
