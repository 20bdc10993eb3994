-- What holds of the calls of each round.
use Rattle.std.specs.Prelude.{List, IsTrue}
use Rattle.std.specs.List.{list_all}
use Rattle.pb_pmem.specs.declared.log.LogOp.{LogOp}
use Rattle.pb_crash.specs.Within.{is_within}

-- operations that lie within the device
abbrev pub AreWithin : List LogOp → Type 0
AreWithin ops = IsTrue (list_all is_within ops)
