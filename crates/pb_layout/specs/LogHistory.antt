-- The history that a log tells: the rounds that it recorded, and which of them are sealed against a crash.
use Rattle.std.specs.Prelude.{◌≡◌, ℕ, zero, suc, ◌+◌, ◌-◌, Bool, true, false, ◌&&◌, ◌||◌, ◌==◌, nat_le, List, [], ◌∷◌, ◌++◌, map, take, drop, if◌then◌else◌}
use Rattle.pb_pmem.specs.declared.line.Line.{Line}
use Rattle.pb_pmem.specs.declared.log.LogOp.{LogOp}
use Rattle.pb_pmem.specs.declared.log.LogOp.TheVariants.{Whole, Word, Back, Fence, Sync}
use Rattle.pb_pmem.specs.Contents.{applied, contents}
use Rattle.pb_pmem.specs.Crash.{is_back_of}
use Rattle.pb_pmem.specs.Lines.{word_of}
use Rattle.pb_object.specs.History.{Entry, Round, History}
use Rattle.pb_object.specs.Standing.{side_count}
use Rattle.pb_layout.specs.ClientLine.{kept_in}
use Rattle.pb_layout.specs.Damage.{header_in}
use Rattle.pb_layout.specs.Record.{client_line_at}
use Rattle.pb_layout.specs.Represents.{record_in_use}

-- a round that a log recorded: whether its index line was given to the device since, and whether a sync stands after that
pub record LoggedRound : Type 0 where
  pub round : Round
  pub backed : Bool
  pub sealed : Bool

-- the round alone
abbrev pub round_of : LoggedRound → Round
round_of logged = logged.round

-- the rounds alone, in their order
abbrev pub rounds_in : List LoggedRound → History
rounds_in rounds = map round_of rounds

-- all of these rounds are sealed
abbrev pub AreSealed : List LoggedRound → Type 0
AreSealed [] = Unit {0}
AreSealed (logged ∷ rounds) = (logged.sealed ≡ true) × AreSealed rounds

-- none of these rounds is sealed
abbrev pub AreUnsealed : List LoggedRound → Type 0
AreUnsealed [] = Unit {0}
AreUnsealed (logged ∷ rounds) = (logged.sealed ≡ false) × AreUnsealed rounds

-- a client's newest number in a record
abbrev pub number_in : List Line → ℕ → ℕ
number_in record_lines client = (kept_in (client_line_at record_lines client)).number

-- the entry that a client's slot 0 in a record tells
abbrev pub entry_in : List Line → ℕ → Entry
entry_in record_lines client = record {
  client = client;
  number = (kept_in (client_line_at record_lines client)).number;
  op = (kept_in (client_line_at record_lines client)).op;
  reply = (kept_in (client_line_at record_lines client)).reply;
}

-- the entries of those of the first clients whose numbers two records differ in, as the second record tells them, in rising order
unfoldable pub entries_between : List Line → List Line → ℕ → List Entry
entries_between before after zero = []
entries_between before after (suc client) =
    entries_between before after client ++ (if number_in before client == number_in after client then [] else entry_in after client ∷ [])

-- the round that an index word of a side puts into force: what the record of its parity says that the other one doesn't
abbrev pub round_at : List Line → ℕ → ℕ → Round
round_at lines side index = record {
  side = side;
  entries = entries_between (record_in_use lines (header_in lines) side (index + 1)) (record_in_use lines (header_in lines) side index) (header_in lines).clients;
}

-- how many sides the region has
abbrev pub sides_in : List Line → ℕ
sides_in lines = side_count (header_in lines).kind

-- a word is an index word that raises its side's round number by one: word 0 of line 1, or of line 2 where there are two sides
abbrev pub raises_index : List Line → ℕ → ℕ → ℕ → Bool
raises_index lines line word to = nat_le 1 line && nat_le line (sides_in lines) && (word == 0) && (to == word_of lines line 0 + 1)

-- the round after a `Back`: one of its index line marks it
abbrev pub backed_by : ℕ → ℕ → LoggedRound → LoggedRound
backed_by first count logged = record logged { backed = logged.backed || is_back_of (1 + logged.round.side) (Back first count) }

-- the round after a `Sync`, which seals what is marked
abbrev pub sealed_by_sync : LoggedRound → LoggedRound
sealed_by_sync logged = record logged { sealed = logged.sealed || logged.backed }

-- the rounds after one more operation, over lines that hold this
abbrev pub recorded_by_op : LogOp → List Line → List LoggedRound → List LoggedRound
recorded_by_op (Whole line to) lines rounds = rounds
recorded_by_op (Word line word to) lines rounds =
    if raises_index lines line word to then rounds ++ record { round = round_at lines (line - 1) to; backed = false; sealed = false } ∷ [] else rounds
recorded_by_op (Back first count) lines rounds = map (backed_by first count) rounds
recorded_by_op Fence lines rounds = rounds
recorded_by_op Sync lines rounds = map sealed_by_sync rounds

-- the rounds after these and a log, over lines that hold this
unfoldable pub history_after : List Line → List LoggedRound → List LogOp → List LoggedRound
history_after lines rounds [] = rounds
history_after lines rounds (op ∷ log) = history_after (applied op lines) (recorded_by_op op lines rounds) log

-- the history that a log tells after its first `from` operations
abbrev pub history_of : List Line → List LogOp → ℕ → List LoggedRound
history_of base log from = history_after (contents base (take from log)) [] (drop from log)
