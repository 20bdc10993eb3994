-- A client with its words, and its reply rows.
use Rattle.std.specs.Prelude.{ℕ, zero, suc, List, slice_index_or}
use Rattle.pb_object.specs.declared.request.Kept.{Kept}
use Rattle.pb_object.specs.Request.{no_op, no_reply}
use Rattle.pb_core.specs.Client.{no_request}
use Rattle.pb_round_play.specs.declared.seat.Row.{Row}
use Rattle.pb_round_play.specs.declared.seat.Seat.{Seat}
use Rattle.pb_round_play.specs.declared.seat.Stage.TheVariants.{Idle}

abbrev pub no_row : Row
no_row = record { number = 0; reply = no_reply }

abbrev pub no_seat : Seat
no_seat = record { stage = Idle; ask = no_request; last = 0; number = 0; op = no_op; even = no_row; odd = no_row; ahead = no_row }

abbrev pub seat_at : List Seat → ℕ → Seat
seat_at seats client = slice_index_or seats client no_seat

-- the row of a kept request
abbrev pub row_of_kept : Kept → Row
row_of_kept kept = record { number = kept.number; reply = kept.reply }

-- a client that has asked for nothing since
abbrev pub fresh_seat : Row → Seat
fresh_seat row = record { stage = Idle; ask = no_request; last = row.number; number = 0; op = no_op; even = row; odd = row; ahead = row }

-- a client's row, and the words of one
abbrev pub row_by : Seat → ℕ → Row
row_by seat zero = seat.even
row_by seat (suc more) = seat.odd
