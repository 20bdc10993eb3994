-- The header of a region: which lines spell one, and the first word that the format refuses.
use Rattle.std.specs.Prelude.{◌≡◌, ◌≢◌, ℕ, ◌+◌, ◌*◌, Bool, false, ◌==◌, ◌&&◌, nat_le, List, [], ◌∷◌, take, Some, is_some, unwrap_or, slice_index, slice_get, IsTrue}
use Rattle.std.specs.List.{list_all}
use Rattle.pb_pmem.specs.declared.line.Line.{Line}
use Rattle.pb_pmem.specs.Lines.{line_of}
use Rattle.pb_object.specs.declared.kind.Kind.{Kind}
use Rattle.pb_object.specs.declared.kind.Kind.TheVariants.{Map, Stack, Heap, Queue}
use Rattle.pb_object.specs.Codes.{kind_code, kind_of_code}
use Rattle.pb_object.specs.ObjectLines.{object_line_count}
use Rattle.pb_object.specs.Standing.{side_count}
use Rattle.pb_object.specs.declared.request.TheConstants.{KEPT_REQUESTS}
use Rattle.pb_layout.specs.Shape.{IsHeader}
use Rattle.pb_layout.specs.declared.fault.LayoutFault.{LayoutFault}
use Rattle.pb_layout.specs.declared.fault.LayoutFault.TheVariants.{NoMagic, BadHeader, BadRecord}
use Rattle.pb_layout.specs.declared.header.Header.{Header}
use Rattle.pb_layout.specs.declared.header.TheConstants.{MAGIC, VERSION}
use Rattle.pb_object.specs.declared.limits.TheConstants.{MOST_CLIENTS, MOST_SIZE}

-- how many lines of a record are slots of clients: eight for each
abbrev pub slot_count : Header → ℕ
slot_count head = KEPT_REQUESTS * head.clients

-- a record: its round, the slots of the clients, and the object's lines of one side
abbrev pub record_length : Header → ℕ
record_length head = 1 + slot_count head + object_line_count head.kind head.size

-- a record of the first version of the format: it has one line for each client
abbrev pub old_record_length : Header → ℕ
old_record_length head = 1 + head.clients + object_line_count head.kind head.size

-- how many cells a region has: as many as a queue's size
abbrev pub cell_count : Kind → ℕ → ℕ
cell_count Map size = 0
cell_count Stack size = 0
cell_count Heap size = 0
cell_count Queue size = size

-- the records of the first version stand after the header, the round numbers of two sides, and the cells
abbrev pub old_first_record_line : Header → ℕ
old_first_record_line head = 3 + cell_count head.kind head.size

-- the records stand after those of the first version, two for each side, whose lines aren't looked at
abbrev pub first_record_line : Header → ℕ
first_record_line head = old_first_record_line head + 2 * side_count head.kind * old_record_length head

-- line 0 of a region with this header: its words 5 and 6 tell where the records of the first version stand
abbrev pub header_line_of : Header → Line
header_line_of head = line_of MAGIC VERSION (kind_code head.kind) head.clients head.size (old_record_length head) (old_first_record_line head) 0

-- a word of a line
abbrev pub word : Line → ℕ → ℕ
word line place = slice_index line.words place

-- a line that spells a header
abbrev pub IsHeaderLine : Line → Type 0
IsHeaderLine line = (head : Header) × IsHeader head × (line ≡ header_line_of head)

-- the header that words 2, 3 and 4 name, where word 2 is the code of a kind
abbrev pub named_header : Line → Header
named_header line = record { kind = unwrap_or (kind_of_code (word line 2)) Map; clients = word line 3; size = word line 4 }

-- whether the words of a header are as the format has them, each judged where those before it are right
abbrev pub header_tests : Line → List Bool
header_tests line =
    (word line 0 == MAGIC)
    ∷ (word line 1 == VERSION)
    ∷ is_some (kind_of_code (word line 2))
    ∷ (nat_le 1 (word line 3) && nat_le (word line 3) MOST_CLIENTS)
    ∷ (nat_le 1 (word line 4) && nat_le (word line 4) MOST_SIZE)
    ∷ (word line 5 == old_record_length (named_header line))
    ∷ (word line 6 == old_first_record_line (named_header line))
    ∷ (word line 7 == 0)
    ∷ []

-- the first word that the format refuses: those before it are as the format has them
pub record IsFirstRefusedWord (line : Line) (place : ℕ) : Type 0 where
  pub before : IsTrue (list_all (λ test. test) (take place (header_tests line)))
  pub refused : slice_get (header_tests line) place ≡ Some false

-- what is wrong with a line that spells no header
abbrev pub IsHeaderFault : Line → LayoutFault → Type 0
IsHeaderFault line NoMagic = word line 0 ≢ MAGIC
IsHeaderFault line (BadHeader place) = (word line 0 ≡ MAGIC) × IsFirstRefusedWord line place
IsHeaderFault line (BadRecord place) = ⊥
