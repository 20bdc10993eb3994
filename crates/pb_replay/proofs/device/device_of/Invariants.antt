use Rattle.std.specs.Prelude.{◌≡◌, ◌<◌, ℕ}
use Rattle.pb_pmem.specs.Contents.{contents}
use Rattle.pb_pmem.specs.Lines.{line_at}
use Rattle.pb_core.specs.World.{World as CoreWorld}
use Rattle.pb_play.specs.Worlds.{ShowsWorld}
use Rattle.pb_replay.proofs.device.device_of.Given as goal

abbrev pub invariant-loop-line : goal.invariant-loop-line
invariant-loop-line l = (w : CoreWorld) → ShowsWorld l.fn.world w → (place : ℕ) → place < l.line → line_at l.device.lines place ≡ line_at (contents w.tale.base w.tale.log) place
