-- The operations of the calls on a region, in their order.
use Rattle.std.specs.Prelude.{ℕ, suc, ◌+◌, ◌%◌, ◌==◌, Bool, List, [], ◌∷◌, ◌++◌, drop, length, Option, Some, None, eqb, if◌then◌else◌}
use Rattle.std.specs.Cmp.Lexicographic.{pointwise}
use Rattle.pb_pmem.specs.declared.line.Line.{Line}
use Rattle.pb_pmem.specs.declared.log.LogOp.{LogOp}
use Rattle.pb_pmem.specs.declared.log.LogOp.TheVariants.{Whole, Word, Back, Fence, Sync}
use Rattle.pb_pmem.specs.Operations.{writes_from}
use Rattle.pb_pmem.specs.Lines.{line_at, zero_line}
use Rattle.pb_object.specs.Codes.{kind_code}
use Rattle.pb_object.specs.Standing.{Standing, side_count, rounds_of}
use Rattle.pb_layout.specs.Header.{record_length, old_record_length, old_first_record_line}
use Rattle.pb_layout.specs.Region.{record_place}
use Rattle.pb_layout.specs.declared.header.Header.{Header}
use Rattle.pb_layout.specs.declared.header.TheConstants.{MAGIC, VERSION}

-- Storing a record

-- these writes of a record, and then its lines are given to the device and fenced
abbrev pub fenced_ops : List LogOp → ℕ → ℕ → List LogOp
fenced_ops writes first count = writes ++ Back first count ∷ Fence ∷ []

-- all of a record's lines are written, given to the device and fenced
abbrev pub stage_ops : ℕ → List Line → List LogOp
stage_ops first lines = fenced_ops (writes_from first lines) first (length lines)

-- the index word of a side switches to a record, and is durable
abbrev pub commit_ops : ℕ → ℕ → List LogOp
commit_ops side index = Word (1 + side) 0 index ∷ Back (1 + side) 1 ∷ Sync ∷ []

-- the line at which the spare record of a side begins after so many rounds
abbrev pub spare_place : Header → ℕ → ℕ → ℕ
spare_place head side round = record_place head side ((round + 1) % 2)

-- a store of these lines after so many rounds of a side
abbrev pub store_ops : Header → ℕ → ℕ → List Line → List LogOp
store_ops head side round lines = stage_ops (spare_place head side round) lines ++ commit_ops side (round + 1)

-- these writes, and then a `Back` of the whole spare record and a fence
abbrev pub stage_by : List LogOp → Header → ℕ → ℕ → List LogOp
stage_by writes head side round = fenced_ops writes (spare_place head side round) (record_length head)

-- a store by these writes: a `Back` of the whole spare record and a fence stand after them, before the index word
abbrev pub store_by : List LogOp → Header → ℕ → ℕ → List LogOp
store_by writes head side round = stage_by writes head side round ++ commit_ops side (round + 1)

-- A store of those lines alone that differ from what is there

-- two lines have the same words
abbrev pub is_same : Line → Line → Bool
is_same a b = pointwise eqb a.words b.words

-- writes of those lines that differ from the ones that are there, in rising order, from a line on
unfoldable pub changes_from : ℕ → List Line → List Line → List LogOp
changes_from first before [] = []
changes_from first before (line ∷ lines) =
    (if is_same (line_at before 0) line then [] else Whole first line ∷ []) ++ changes_from (suc first) (drop 1 before) lines

-- writes of a record's lines: of those that differ from what is known to be there, and of all where nothing is known
abbrev pub writes_over : ℕ → Option (List Line) → List Line → List LogOp
writes_over first None lines = writes_from first lines
writes_over first (Some before) lines = changes_from first before lines

-- the lines are written over what is known to be there, given to the device and fenced
abbrev pub stage_over : ℕ → Option (List Line) → List Line → List LogOp
stage_over first spare lines = fenced_ops (writes_over first spare lines) first (length lines)

-- a store of these lines after so many rounds of a side, over what is known of its spare record
abbrev pub store_over : Header → ℕ → ℕ → Option (List Line) → List Line → List LogOp
store_over head side round spare lines = stage_over (spare_place head side round) spare lines ++ commit_ops side (round + 1)

-- Formatting

-- the words of the header after the magic
abbrev pub header_words : Header → List LogOp
header_words head =
    Word 0 1 VERSION ∷ Word 0 2 (kind_code head.kind) ∷ Word 0 3 head.clients ∷ Word 0 4 head.size ∷ Word 0 5 (old_record_length head) ∷ Word 0 6 (old_first_record_line head) ∷ Word 0 7 0 ∷ []

-- the two lines that count rounds, and then the words of the header after the magic
abbrev pub front_ops : Header → List LogOp
front_ops head = Whole 1 zero_line ∷ Whole 2 zero_line ∷ header_words head

-- the front and the first records of the sides are given to the device and fenced
abbrev pub write_backs : Header → List LogOp
write_backs head =
    Back 0 3 ∷ Back (record_place head 0 0) (record_length head) ∷ ((if side_count head.kind == 2 then Back (record_place head 1 0) (record_length head) ∷ [] else []) ++ Fence ∷ [])

-- all but the magic: the first records of the sides, the front, and what gives them to the device
abbrev pub prepare_ops : Header → List Line → List Line → List LogOp
prepare_ops head first second =
    writes_from (record_place head 0 0) first ++ (writes_from (record_place head 1 0) second ++ (front_ops head ++ write_backs head))

-- the magic makes it a region, and is durable
abbrev pub publish_ops : List LogOp
publish_ops = Word 0 0 MAGIC ∷ Back 0 1 ∷ Sync ∷ []

-- the operations of formatting
abbrev pub format_ops : Header → List Line → List Line → List LogOp
format_ops head first second = prepare_ops head first second ++ publish_ops

-- Settling

-- the operations that settle a region to these round numbers of the sides
abbrev pub settle_ops : Header → ℕ → ℕ → List LogOp
settle_ops head first second =
    Word 0 0 MAGIC ∷ Word 1 0 first ∷ ((if side_count head.kind == 2 then Word 2 0 second ∷ [] else []) ++ Back 0 3 ∷ Sync ∷ [])

-- the operations that settle a region to a standing
abbrev pub settle_to : Header → Standing → List LogOp
settle_to head s = settle_ops head (rounds_of s 0) (rounds_of s 1)
