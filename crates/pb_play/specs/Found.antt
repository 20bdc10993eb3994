-- What is found of the clients on the lines of a region.
use Rattle.std.specs.Prelude.{ℕ, List}
use Rattle.pb_pmem.specs.declared.line.Line.{Line}
use Rattle.pb_object.specs.declared.kind.Kind.{Kind}
use Rattle.pb_object.specs.declared.kind.Kind.TheVariants.{Map, Stack, Heap, Queue}
use Rattle.pb_object.specs.declared.request.Kept.{Kept}
use Rattle.pb_layout.specs.ClientLine.{kept_in}
use Rattle.pb_layout.specs.Record.{slot_line_at}
use Rattle.pb_layout.specs.Represents.{record_in_use}
use Rattle.pb_layout.specs.Slots.{newer_of}
use Rattle.pb_layout.specs.declared.header.Header.{Header}
use Rattle.pb_round_play.specs.declared.rounds.Rounds.{Rounds}
use Rattle.pb_round_play.specs.declared.seat.Row.{Row}
use Rattle.pb_round_play.specs.Seats.{row_of_kept}

-- the newest request in a client's slots of a side
abbrev pub found_kept : List Line → Header → ℕ → ℕ → ℕ → Kept
found_kept lines head side rounds client = kept_in (slot_line_at (record_in_use lines head side rounds) client 0)

-- a client's last recorded request, as a row
abbrev pub found_row : Kind → List Line → Header → Rounds → ℕ → Row
found_row Map lines head rounds client = row_of_kept (found_kept lines head 0 rounds.first client)
found_row Stack lines head rounds client = row_of_kept (found_kept lines head 0 rounds.first client)
found_row Heap lines head rounds client = row_of_kept (found_kept lines head 0 rounds.first client)
found_row Queue lines head rounds client = row_of_kept (newer_of (found_kept lines head 0 rounds.first client) (found_kept lines head 1 rounds.second client))
