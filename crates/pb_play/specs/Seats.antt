-- Changes of one client among all, in code.
use Rattle.std.specs.Prelude.{ℕ, zero, suc, ◌+◌, ◌-◌, ◌*◌, ◌%◌, Option, Some, None, nat_lt, replicate, slice_set, if◌then◌else◌}
use Rattle.pb_core.specs.Client.{no_request}
use Rattle.pb_object.specs.declared.request.Ask.{Ask}
use Rattle.pb_object.specs.declared.request.Op.{Op}
use Rattle.pb_core.specs.Memory.{round_of_turn, side_of_operation}
use Rattle.pb_layout.specs.declared.header.Header.{Header}
use Rattle.pb_round_play.specs.Counts.{counted, with_side_counted}
use Rattle.pb_round_play.specs.Seats.{no_seat, seat_at}
use Rattle.pb_play.specs.declared.memory.Memory.{Memory}
use Rattle.pb_round_play.specs.declared.rounds.Rounds.{Rounds}
use Rattle.pb_round_play.specs.declared.seat.Row.{Row}
use Rattle.pb_round_play.specs.declared.seat.Seat.{Seat}
use Rattle.pb_round_play.specs.declared.seat.Stage.{Stage}
use Rattle.pb_round_play.specs.declared.seat.Stage.TheVariants.{Idle, Storing, Looking, Holding}
use Rattle.pb_play.specs.declared.work.Knowledge.{Knowledge}
use Rattle.pb_play.specs.declared.work.Knowledge.TheVariants.{Resting, Recorded, Writing, Doubtful}
use Rattle.pb_play.specs.declared.work.Owner.TheVariants.{Free, Held}
use Rattle.pb_play.specs.declared.work.Part.TheVariants.{AtNumber}
use Rattle.pb_play.specs.declared.work.Work.{Work}
use Rattle.pb_play.specs.declared.work.Work.TheVariants.{NoWork, Settling, Scanning, Calling, Filling, Noting, GivingUp}

abbrev pub seat_of : Memory → ℕ → Seat
seat_of m client = seat_at m.seats client

-- memory with another seat of a client
abbrev pub with_seat : ℕ → Seat → Memory → Memory
with_seat client seat m = record m { seats = slice_set m.seats client seat }

-- a client goes on to a stage
abbrev pub goes_to : ℕ → Stage → Memory → Memory
goes_to client stage m = with_seat client (record (seat_of m client) { stage = stage }) m

-- an operation with a word of another
abbrev pub op_with_word : ℕ → Op → Op → Op
op_with_word zero from op = record op { code = from.code }
op_with_word (suc zero) from op = record op { a = from.a }
op_with_word (suc (suc zero)) from op = record op { b = from.b }
op_with_word (suc (suc (suc more))) from op = record op { c = from.c }

-- it stores a word of its request, or its number
abbrev pub stores : ℕ → ℕ → Memory → Memory
stores client count m =
    with_seat client (record (seat_of m client) { stage = Storing (count + 1); op = op_with_word count (seat_of m client).ask.op (seat_of m client).op }) m

abbrev pub announces : ℕ → Memory → Memory
announces client m = with_seat client (record (seat_of m client) { stage = Looking; number = (seat_of m client).ask.number }) m

-- it knows that its request is recorded
abbrev pub is_answered : ℕ → Memory → Memory
is_answered client m = with_seat client (record (seat_of m client) { stage = Idle; last = (seat_of m client).ask.number }) m

-- what the holder begins with
abbrev pub first_work : Knowledge → Work
first_work Resting = Scanning 0 AtNumber
first_work Recorded = Settling
first_work Writing = Settling
first_work Doubtful = Settling

-- it takes the turn
abbrev pub takes : ℕ → ℕ → Memory → Memory
takes client turn m = goes_to client Holding (record m {
  turn = counted turn;
  owner = Held client (side_of_operation (seat_of m client).ask.op);
  met = 0;
  work = first_work m.knowledge;
})

-- the holder is at something else
abbrev pub at_work : Work → Memory → Memory
at_work work m = record m { work = work }

-- it has seen a request, and scans the next client
abbrev pub with_seen : Ask → Memory → Memory
with_seen ask m = if nat_lt m.met 16 then record m { seen = slice_set m.seen m.met ask; met = m.met + 1 } else m

abbrev pub with_ask_seen : Ask → Memory → Memory
with_ask_seen ask m = at_work (Scanning (ask.client + 1) AtNumber) (with_seen ask m)

-- Publishing. A row with a word of another
abbrev pub row_with : ℕ → Row → Row → Row
row_with zero from row = record row { number = from.number }
row_with (suc zero) from row = record row { reply = record (row.reply) { code = from.reply.code } }
row_with (suc (suc zero)) from row = record row { reply = record (row.reply) { value = from.reply.value } }
row_with (suc (suc (suc more))) from row = record row { reply = record (row.reply) { extra = from.reply.extra } }

-- a seat with another word in the row that isn't published
abbrev pub fills_by : ℕ → ℕ → Seat → Seat
fills_by zero word seat = record seat { odd = row_with word seat.ahead seat.odd }
fills_by (suc more) word seat = record seat { even = row_with word seat.ahead seat.even }

abbrev pub fills : ℕ → ℕ → Seat → Seat
fills turn word seat = fills_by (round_of_turn turn % 2) word seat

abbrev pub stores_row : ℕ → ℕ → Memory → Memory
stores_row client word m = at_work (Filling (4 * client + word + 1)) (with_seat client (fills m.turn word (seat_of m client)) m)

abbrev pub with_ahead : Option ℕ → Rounds → Rounds
with_ahead None rounds = rounds
with_ahead (Some side) rounds = with_side_counted side rounds

-- the round ahead is published, and the turn is free
abbrev pub with_round_published : Memory → Memory
with_round_published m = record m {
  rounds = with_ahead m.ahead m.rounds;
  ahead = None;
  turn = counted m.turn;
  owner = Free;
  work = NoWork;
  knowledge = Resting;
}

-- the count of faults is stored, and the turn given up
abbrev pub notes : ℕ → ℕ → Memory → Memory
notes from to m = record m { noted = to; work = GivingUp from to }

abbrev pub gives_up : ℕ → Memory → Memory
gives_up client m = goes_to client Looking (record m { turn = m.turn - 1; owner = Free; work = NoWork })

-- What comes of calls. A round is recorded, ..
abbrev pub recorded : Memory → Memory
recorded m = record m { work = Filling 0; knowledge = Recorded }

-- .. or none was in doubt
abbrev pub begins_scan : Memory → Memory
begins_scan m = record m { met = 0; work = Scanning 0 AtNumber; knowledge = Resting }

abbrev pub settled_by : Option ℕ → Memory → Memory
settled_by None m = begins_scan m
settled_by (Some side) m = recorded m

abbrev pub settled : Memory → Memory
settled m = settled_by m.ahead m

-- a client asks for something
abbrev pub begins_asking : Ask → Memory → Memory
begins_asking ask m = with_seat ask.client (record (seat_of m ask.client) { stage = Storing 0; ask = ask }) m

-- the region is open again
abbrev pub with_region_open : Memory → Memory
with_region_open m = record m { owner = Free; knowledge = Resting }

-- a call of the device failed
abbrev pub fails : Memory → Memory
fails m = record m { count = counted m.count; work = Noting m.count (counted m.count); knowledge = Doubtful }

-- a round of a side begins: it is ahead
abbrev pub begins_round : ℕ → Memory → Memory
begins_round side m = record m { work = Calling; knowledge = Writing; ahead = Some side }

-- the round ahead is dropped
abbrev pub drops : Memory → Memory
drops m = record m { ahead = None }

-- memory over a region that was just formatted
abbrev pub formatted_memory : Header → Memory
formatted_memory head = record {
  head = head;
  seats = replicate 16 no_seat;
  turn = 0;
  noted = 0;
  count = 0;
  owner = Free;
  work = NoWork;
  seen = replicate 16 no_request;
  met = 0;
  knowledge = Resting;
  rounds = record { first = 0; second = 0 };
  ahead = None;
}
