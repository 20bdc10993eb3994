-- What the enums of the code are in the core.
use Rattle.std.specs.Prelude.{ℕ, zero, suc, List}
use Rattle.pb_object.specs.declared.request.Ask.{Ask}
use Rattle.pb_round_play.specs.declared.seat.Row.{Row}
use Rattle.pb_round_play.specs.declared.seat.Seat.{Seat}
use Rattle.pb_round_play.specs.declared.seat.Stage.{Stage}
use Rattle.pb_round_play.specs.declared.seat.Stage.TheVariants.{Idle, Storing, Looking, LoadsNumber, LoadsCode, LoadsValue, LoadsExtra, Confirming, Lacking, Taking, Holding}
use Rattle.pb_play.specs.declared.work.Knowledge.{Knowledge}
use Rattle.pb_play.specs.declared.work.Knowledge.TheVariants.{Resting, Recorded, Writing, Doubtful}
use Rattle.pb_play.specs.declared.work.Owner.{Owner}
use Rattle.pb_play.specs.declared.work.Owner.TheVariants.{Free, Held, Closed}
use Rattle.pb_play.specs.declared.work.Part.{Part}
use Rattle.pb_play.specs.declared.work.Part.TheVariants.{AtNumber, AtCode, AtFirst, AtSecond, AtThird}
use Rattle.pb_play.specs.declared.work.Work.{Work}
use Rattle.pb_play.specs.declared.work.Work.TheVariants.{NoWork, Settling, Scanning, Calling, Filling, Noting, GivingUp}
use Rattle.pb_core.specs.Client as core
use Rattle.pb_core.specs.Memory as core_memory

abbrev pub stage_of : Stage → core.Stage
stage_of Idle = core.Idle
stage_of (Storing count) = core.Storing count
stage_of Looking = core.Looking
stage_of (LoadsNumber turn) = core.LoadsNumber turn
stage_of (LoadsCode turn) = core.LoadsCode turn
stage_of (LoadsValue turn code) = core.LoadsValue turn code
stage_of (LoadsExtra turn code value) = core.LoadsExtra turn code value
stage_of (Confirming turn reply) = core.Confirming turn reply
stage_of (Lacking turn found) = core.Lacking turn found
stage_of (Taking turn found) = core.Taking turn found
stage_of Holding = core.Holding

abbrev pub owner_of : Owner → core_memory.Owner
owner_of Free = core_memory.Free
owner_of (Held client side) = core_memory.Held client side
owner_of Closed = core_memory.Closed

abbrev pub part_of : Part → core_memory.Part
part_of AtNumber = core_memory.AtNumber
part_of (AtCode number) = core_memory.AtCode number
part_of (AtFirst number code) = core_memory.AtFirst number code
part_of (AtSecond number code a) = core_memory.AtSecond number code a
part_of (AtThird number code a b) = core_memory.AtThird number code a b

-- what the holder is at, with the requests that it has seen
abbrev pub work_of : Work → List Ask → core_memory.Work
work_of NoWork seen = core_memory.NoWork
work_of Settling seen = core_memory.Settling
work_of (Scanning client part) seen = core_memory.Scanning client (part_of part) seen
work_of Calling seen = core_memory.Calling
work_of (Filling count) seen = core_memory.Filling count
work_of (Noting from to) seen = core_memory.Noting from to
work_of (GivingUp from to) seen = core_memory.GivingUp from to

abbrev pub engine_of : Knowledge → core_memory.Engine
engine_of Resting = core_memory.Resting
engine_of Recorded = core_memory.Recorded
engine_of Writing = core_memory.Writing
engine_of Doubtful = core_memory.Doubtful

abbrev pub word_of_row : Row → ℕ → ℕ
word_of_row row zero = row.number
word_of_row row (suc zero) = row.reply.code
word_of_row row (suc (suc zero)) = row.reply.value
word_of_row row (suc (suc (suc more))) = row.reply.extra

-- the words of its request
abbrev pub stored_ask : Seat → Ask
stored_ask seat = record { client = 0; number = seat.number; op = seat.op }
