-- The registers that a map can have.
use Rattle.std.specs.Prelude.{◌≡◌, ℕ, ◌≤◌, List, length}
use Rattle.pb_object.specs.declared.limits.TheConstants.{MOST_SIZE}
use Rattle.pb_pmem.specs.declared.line.Line.{Line}
use Rattle.pb_object.specs.declared.request.Ask.{Ask}
use Rattle.pb_object.specs.Changes.{after_asks}
use Rattle.pb_object.specs.Map.{Register, register_at}
use Rattle.pb_object.specs.MapLines.{IsRegisterAt}
use Rattle.pb_object.specs.Object.{State, Registers}
use Rattle.pb_object.specs.ObjectLines.{LinesRepresent}

-- between 1 and `MOST_SIZE` registers, each as the format allows it
pub record AreRegisters (registers : List Register) : Type 0 where
  pub least : 1 ≤ length registers
  pub most : length registers ≤ MOST_SIZE
  pub each : (key : ℕ) → IsRegisterAt (length registers) key (register_at registers key)

-- lines that represented the registers before these requests represent those after them
abbrev pub BringsUpToDate : List Register → List Ask → List Line → List Line → Type 0
BringsUpToDate registers asks old new =
    (before : State) → LinesRepresent old before → Registers registers ≡ after_asks before asks → LinesRepresent new (Registers registers)
