-- A record: the line of its round, the slots of the clients, and the object's lines of one side.
use Rattle.std.specs.Prelude.{◌≡◌, ◌≢◌, ◌⊎◌, ℕ, zero, suc, ◌+◌, ◌*◌, ◌%◌, ◌<◌, ◌≤◌, ◌==◌, List, [], ◌∷◌, if◌then◌else◌}
use Rattle.pb_pmem.specs.declared.line.Line.{Line}
use Rattle.pb_pmem.specs.Lines.{line_of, line_at}
use Rattle.pb_object.specs.declared.kind.Kind.{Kind}
use Rattle.pb_object.specs.declared.request.Kept.{Kept}
use Rattle.pb_object.specs.declared.request.TheConstants.{KEPT_REQUESTS, LAST_NUMBER}
use Rattle.pb_layout.specs.ClientLine.{kept_in, IsKept}
use Rattle.pb_layout.specs.Header.{slot_count, word}
use Rattle.pb_layout.specs.declared.fault.LayoutFault.{LayoutFault}
use Rattle.pb_layout.specs.declared.fault.LayoutFault.TheVariants.{NoMagic, BadHeader, BadRecord}
use Rattle.pb_layout.specs.declared.header.Header.{Header}

-- a line of one number and zeros
abbrev pub count_line_of : ℕ → Line
count_line_of count = line_of count 0 0 0 0 0 0 0

-- a client's line that the format allows
abbrev pub IsClientLine : Kind → ℕ → Line → Type 0
IsClientLine kind side line = IsKept kind side (kept_in line)

-- the line of a client's slot in a record
abbrev pub slot_line_at : List Line → ℕ → ℕ → Line
slot_line_at lines client slot = line_at lines (1 + (KEPT_REQUESTS * client + slot))

-- the line of a client's slot 0 in a record, which has its newest request
abbrev pub client_line_at : List Line → ℕ → Line
client_line_at lines client = slot_line_at lines client 0

-- the requests in so many lines from a line on; a slot with number 0 is empty
unfoldable pub kept_from : List Line → ℕ → ℕ → List Kept
kept_from lines first zero = []
kept_from lines first (suc count) =
    if word (line_at lines first) 0 == 0 then kept_from lines (suc first) count else kept_in (line_at lines first) ∷ kept_from lines (suc first) count

-- the requests in a client's slots, the newest first
abbrev pub kept_in_slots : List Line → ℕ → List Kept
kept_in_slots lines client = kept_from lines (1 + KEPT_REQUESTS * client) KEPT_REQUESTS

-- the sum of the newest numbers of the first so many clients
unfoldable pub number_sum : List Line → ℕ → ℕ
number_sum lines zero = 0
number_sum lines (suc client) = number_sum lines client + word (client_line_at lines client) 0

-- the slots stand one after the other, counted from 0, after the record's first line
abbrev pub slot_at : List Line → ℕ → Line
slot_at lines place = line_at lines (1 + place)

-- the number in a slot is below that in the client's slot before it, where the slot isn't empty
abbrev pub Falls : List Line → ℕ → Type 0
Falls lines place = place % KEPT_REQUESTS ≢ 0 → word (slot_at lines place) 0 ≢ 0 → word (slot_at lines place) 0 < word (line_at lines place) 0

-- a slot that the format allows
pub record IsSlot (kind : Kind) (side : ℕ) (lines : List Line) (place : ℕ) : Type 0 where
  pub allowed : IsClientLine kind side (slot_at lines place)
  pub falls : Falls lines place

-- the first so many slots are allowed
abbrev pub AreSlots : Kind → ℕ → List Line → ℕ → Type 0
AreSlots kind side lines count = (place : ℕ) → place < count → IsSlot kind side lines place

-- the newest numbers of the first so many clients are numbers that a request can have, or 0
abbrev pub AreSmall : List Line → ℕ → Type 0
AreSmall lines clients = (client : ℕ) → client < clients → word (client_line_at lines client) 0 ≤ LAST_NUMBER

-- place is the first below count where this doesn't hold
pub record IsFirstWithout (Holds : ℕ → Type 0) (count place : ℕ) : Type 0 where
  pub within : place < count
  pub before : (earlier : ℕ) → earlier < place → Holds earlier
  pub refused : ¬ Holds place

-- lines that carry this round, whose slots the format allows; each round recorded a request, so there are at most so many rounds
pub record IsRecord (head : Header) (side round : ℕ) (lines : List Line) : Type 0 where
  pub carries : line_at lines 0 ≡ count_line_of round
  pub slots : AreSlots head.kind side lines (slot_count head)
  pub rounds : round ≤ number_sum lines head.clients

-- the first line of a record doesn't carry the round
pub record HasBadRound (round : ℕ) (lines : List Line) (line : ℕ) : Type 0 where
  pub place : line ≡ 0
  pub refused : line_at lines 0 ≢ count_line_of round

-- the first slot that the format refuses, in a record that carries the round
pub record HasBadSlot (head : Header) (side round : ℕ) (lines : List Line) (line : ℕ) : Type 0 where
  pub carries : line_at lines 0 ≡ count_line_of round
  pub slot : ℕ
  pub place : line ≡ 1 + slot
  pub first : IsFirstWithout (IsSlot head.kind side lines) (slot_count head) slot

-- all slots are allowed, but there are more rounds than requests: that is the first line's fault
pub record HasManyRounds (head : Header) (side round : ℕ) (lines : List Line) (line : ℕ) : Type 0 where
  pub place : line ≡ 0
  pub carries : line_at lines 0 ≡ count_line_of round
  pub slots : AreSlots head.kind side lines (slot_count head)
  pub refused : number_sum lines head.clients < round

-- the first line of a record that the format refuses, counted within the record
abbrev pub IsBadRecordAt : Header → ℕ → ℕ → List Line → ℕ → Type 0
IsBadRecordAt head side round lines line =
    HasBadRound round lines line ⊎ (HasBadSlot head side round lines line ⊎ HasManyRounds head side round lines line)

-- what is wrong with lines that are no record
abbrev pub IsRecordFault : Header → ℕ → ℕ → List Line → LayoutFault → Type 0
IsRecordFault head side round lines NoMagic = ⊥
IsRecordFault head side round lines (BadHeader place) = ⊥
IsRecordFault head side round lines (BadRecord line) = IsBadRecordAt head side round lines line
