-- Histories of an object: which requests were applied, in which rounds, with which replies.
use Rattle.std.specs.Prelude.{◌≡◌, ◌≢◌, ℕ, ◌+◌, ◌<◌, ◌≤◌, List, [], ◌∷◌, IsSomeAnd, slice_set}
use Rattle.pb_object.specs.declared.request.Op.{Op}
use Rattle.pb_object.specs.declared.request.Reply.{Reply}
use Rattle.pb_object.specs.declared.request.Kept.{Kept}
use Rattle.pb_object.specs.declared.request.TheConstants.{LAST_NUMBER}
use Rattle.pb_object.specs.Codes.{action_of, action_side}
use Rattle.pb_object.specs.Object.{next_state, reply_of}
use Rattle.pb_object.specs.Request.{IsOperation}
use Rattle.pb_object.specs.Standing.{Standing, keep, kept_list_of, newest_of, rounds_of}

-- a request that was applied, with its reply
pub record Entry : Type 0 where
  pub client : ℕ
  pub number : ℕ
  pub op : Op
  pub reply : Reply

-- requests that were recorded together, on one side of the object
pub record Round : Type 0 where
  pub side : ℕ
  pub entries : List Entry

-- rounds, the earliest first
abbrev pub History : Type 0
History = List Round

-- what is kept of a client after its entry
abbrev pub kept_by : Entry → Kept
kept_by entry = record { number = entry.number; op = entry.op; reply = entry.reply }

-- the standing after an entry: the object moves on, and the entry is its client's newest kept request
abbrev pub after_entry : Standing → Entry → Standing
after_entry s entry = record s { state = next_state s.state entry.op; kept = slice_set s.kept entry.client (keep (kept_by entry) (kept_list_of s entry.client)) }

-- the standing after entries, one after the other
abbrev pub after_entries : Standing → List Entry → Standing
after_entries s [] = s
after_entries s (entry ∷ entries) = after_entries (after_entry s entry) entries

-- one more round of a side
abbrev pub count_round : ℕ → Standing → Standing
count_round side s = record s { rounds = slice_set s.rounds side (rounds_of s side + 1) }

-- the standing after a round
abbrev pub after_round : Standing → Round → Standing
after_round s round = count_round round.side (after_entries s round.entries)

-- the standing after a history
abbrev pub state_after : Standing → History → Standing
state_after s [] = s
state_after s (round ∷ history) = state_after (after_round s round) history

-- the operation belongs to this side
abbrev pub IsOfSide : ℕ → Op → Type 0
IsOfSide side op = IsSomeAnd (action_of op.code) (λ action. action_side action ≡ side)

-- an entry that a standing may be followed by, on this side: the next number of its client, and the object's own reply
pub record IsLegalEntry (s : Standing) (side : ℕ) (entry : Entry) : Type 0 where
  pub client : entry.client < s.clients
  pub number : entry.number ≡ (newest_of s entry.client).number + 1
  pub few : entry.number ≤ LAST_NUMBER
  pub operation : IsOperation s.kind entry.op
  pub of_side : IsOfSide side entry.op
  pub reply : entry.reply ≡ reply_of s.state entry.op

-- entries are legal one after the other
abbrev pub AreLegal : Standing → ℕ → List Entry → Type 0
AreLegal s side [] = Unit {0}
AreLegal s side (entry ∷ entries) = IsLegalEntry s side entry × AreLegal (after_entry s entry) side entries

-- clients rise from entry to entry
abbrev pub ClientsRise : List Entry → Type 0
ClientsRise [] = Unit {0}
ClientsRise (first ∷ []) = Unit {0}
ClientsRise (first ∷ second ∷ entries) = (first.client < second.client) × ClientsRise (second ∷ entries)

-- a round that a standing may be followed by: it isn't empty, and no client has two entries in it
pub record IsLegalRound (s : Standing) (round : Round) : Type 0 where
  pub some : round.entries ≢ []
  pub rising : ClientsRise round.entries
  pub legal : AreLegal s round.side round.entries

-- rounds are legal one after the other
abbrev pub IsLegal : Standing → History → Type 0
IsLegal s [] = Unit {0}
IsLegal s (round ∷ history) = IsLegalRound s round × IsLegal (after_round s round) history
