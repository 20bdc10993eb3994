-- The image that a pick chooses among those that a crash may leave at a cut.
use Rattle.std.specs.Prelude.{ℕ, ◌==◌, List, [], ◌∷◌, if◌then◌else◌}
use Rattle.pb_pmem.specs.declared.line.Line.{Line}
use Rattle.pb_pmem.specs.declared.log.LogOp.{LogOp}
use Rattle.pb_pmem.specs.declared.log.LogOp.TheVariants.{Whole, Word, Back, Fence, Sync}
use Rattle.pb_pmem.specs.Contents.{contents}
use Rattle.pb_pmem.specs.Crash.{settled_content, loose_writes}
use Rattle.pb_crash.specs.Leaves.{filled}

-- what a pick makes of a write: a whole line is filled with the number, and nothing else is written
abbrev pub flood_of : ℕ → LogOp → List LogOp → List LogOp
flood_of value (Whole line to) rest = Whole line (filled value) ∷ rest
flood_of value (Word line word to) rest = rest
flood_of value (Back first count) rest = rest
flood_of value Fence rest = rest
flood_of value Sync rest = rest

unfoldable pub flooded : ℕ → List LogOp → List LogOp
flooded value [] = []
flooded value (op ∷ log) = flood_of value op (flooded value log)

-- what a pick leaves of loose writes. 0: nothing. 1: all of them, in their order.
-- A greater pick: the same, but a line that one of them wrote whole has the pick in each word
abbrev pub with_loose : ℕ → List LogOp → List Line → List Line
with_loose pick loose lines =
    if pick == 0 then lines else (if pick == 1 then contents lines loose else contents (contents lines loose) (flooded pick loose))

-- the image of a pick: the settled content, with what the pick leaves of the loose writes
abbrev pub picked : List Line → List LogOp → ℕ → ℕ → List Line
picked base log cut pick = with_loose pick (loose_writes cut log) (settled_content base cut log)
