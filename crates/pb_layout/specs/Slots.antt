-- What is put into a client's slots, and what is read of them.
use Rattle.std.specs.Prelude.{◌≡◌, ◌⊎◌, ℕ, suc, ◌+◌, ◌-◌, ◌*◌, ◌<◌, ◌≤◌, List, nat_lt, if◌then◌else◌}
use Rattle.pb_pmem.specs.declared.line.Line.{Line}
use Rattle.pb_pmem.specs.Lines.{line_at}
use Rattle.pb_object.specs.declared.kind.Kind.{Kind}
use Rattle.pb_object.specs.declared.request.Kept.{Kept}
use Rattle.pb_object.specs.declared.request.TheConstants.{KEPT_REQUESTS}
use Rattle.pb_layout.specs.ClientLine.{client_line_of}
use Rattle.pb_layout.specs.Record.{slot_line_at, client_line_at, kept_from, IsSlot}

-- a client's slots have a request in front of those of a record before, of which the last one goes; other lines are as they were
pub record PutsInFront (before : List Line) (client : ℕ) (kept : Kept) (old new : List Line) : Type 0 where
  pub newest : client_line_at new client ≡ client_line_of kept
  pub shifted : (slot : ℕ) → suc slot < KEPT_REQUESTS → slot_line_at new client (suc slot) ≡ slot_line_at before client slot
  pub others : (line : ℕ) → (line ≤ KEPT_REQUESTS * client) ⊎ (KEPT_REQUESTS * client + KEPT_REQUESTS < line) → line_at new line ≡ line_at old line

-- the format allows each of a client's slots
abbrev pub AreClientSlots : Kind → ℕ → List Line → ℕ → Type 0
AreClientSlots kind side lines client =
    (slot : ℕ) → slot < KEPT_REQUESTS → IsSlot kind side lines (KEPT_REQUESTS * client + slot)

-- the requests in a client's slots from one on
abbrev pub slots_from : List Line → ℕ → ℕ → List Kept
slots_from lines client slot = kept_from lines (1 + (KEPT_REQUESTS * client + slot)) (KEPT_REQUESTS - slot)

-- the one of two requests with the greater number
abbrev pub newer_of : Kept → Kept → Kept
newer_of put take = if nat_lt put.number take.number then take else put
