-- A client: where it stands with its request, and what it knows.
use Rattle.std.specs.Prelude.{ℕ, zero, suc, Bool, true, false, List, []}
use Rattle.pb_object.specs.declared.request.Ask.{Ask}
use Rattle.pb_object.specs.declared.request.Kept.{Kept}
use Rattle.pb_object.specs.declared.request.Reply.{Reply}
use Rattle.pb_object.specs.History.{Entry}

-- Where a client stands. `turn` is the turn word that it found, `found` the number that it found in its published row
pub data Stage : Type 0 where
  -- it asks for nothing
  Idle : Stage
  -- so many of its request's words after the number are stored; after the fourth, the number announces the request
  Storing : ℕ → Stage
  -- it looks at the turn next
  Looking : Stage
  -- it loads its published row next: the number, and after its own number the words of the reply
  LoadsNumber : (turn : ℕ) → Stage
  LoadsCode : (turn : ℕ) → Stage
  LoadsValue : (turn code : ℕ) → Stage
  LoadsExtra : (turn code value : ℕ) → Stage
  -- it has a reply, and looks at the turn again
  Confirming : (turn : ℕ) → Reply → Stage
  -- its row lacks its number and the turn was held: it looks at the turn again
  Lacking : (turn found : ℕ) → Stage
  -- its row lacks its number and the turn was free: it tries to take it
  Taking : (turn found : ℕ) → Stage
  -- it holds the turn
  Holding : Stage

abbrev pub is_idle : Stage → Bool
is_idle Idle = true
is_idle (Storing count) = false
is_idle Looking = false
is_idle (LoadsNumber turn) = false
is_idle (LoadsCode turn) = false
is_idle (LoadsValue turn code) = false
is_idle (LoadsExtra turn code value) = false
is_idle (Confirming turn reply) = false
is_idle (Lacking turn found) = false
is_idle (Taking turn found) = false
is_idle Holding = false

-- its request's number is stored
abbrev pub is_announced : Stage → Bool
is_announced Idle = false
is_announced (Storing count) = false
is_announced Looking = true
is_announced (LoadsNumber turn) = true
is_announced (LoadsCode turn) = true
is_announced (LoadsValue turn code) = true
is_announced (LoadsExtra turn code value) = true
is_announced (Confirming turn reply) = true
is_announced (Lacking turn found) = true
is_announced (Taking turn found) = true
is_announced Holding = true

abbrev pub is_holding : Stage → Bool
is_holding Idle = false
is_holding (Storing count) = false
is_holding Looking = false
is_holding (LoadsNumber turn) = false
is_holding (LoadsCode turn) = false
is_holding (LoadsValue turn code) = false
is_holding (LoadsExtra turn code value) = false
is_holding (Confirming turn reply) = false
is_holding (Lacking turn found) = false
is_holding (Taking turn found) = false
is_holding Holding = true

-- how many words of its request after the number are stored
abbrev pub stored_words : Stage → ℕ
stored_words Idle = 0
stored_words (Storing count) = count
stored_words Looking = 4
stored_words (LoadsNumber turn) = 4
stored_words (LoadsCode turn) = 4
stored_words (LoadsValue turn code) = 4
stored_words (LoadsExtra turn code value) = 4
stored_words (Confirming turn reply) = 4
stored_words (Lacking turn found) = 4
stored_words (Taking turn found) = 4
stored_words Holding = 4

-- an entry that a client was answered: how many rounds it had seen when it asked, and when it was answered
pub record Dated : Type 0 where
  pub entry : Entry
  pub after : ℕ
  pub by : ℕ

-- A client: its request, open unless it is idle, and how many rounds it had seen when it asked; how many it has seen now; its entries since
-- the region was opened; and its kept requests with these, the newest first
pub record Client : Type 0 where
  pub stage : Stage
  pub ask : Ask
  pub after : ℕ
  pub front : ℕ
  pub mine : List Dated
  pub kept : List Kept

-- the words of a request: the number, then the operation
abbrev pub ask_word : Ask → ℕ → ℕ
ask_word ask zero = ask.number
ask_word ask (suc zero) = ask.op.code
ask_word ask (suc (suc zero)) = ask.op.a
ask_word ask (suc (suc (suc zero))) = ask.op.b
ask_word ask (suc (suc (suc (suc more)))) = ask.op.c

-- the words of a reply row
abbrev pub row_word : Kept → ℕ → ℕ
row_word kept zero = kept.number
row_word kept (suc zero) = kept.reply.code
row_word kept (suc (suc zero)) = kept.reply.value
row_word kept (suc (suc (suc more))) = kept.reply.extra

-- the request with its reply
abbrev pub entry_by : Ask → Reply → Entry
entry_by ask reply = record { client = ask.client; number = ask.number; op = ask.op; reply = reply }

abbrev pub no_request : Ask
no_request = record { client = 0; number = 0; op = record { code = 0; a = 0; b = 0; c = 0 } }

-- a client that has asked for nothing since the region was opened
abbrev pub fresh_client : List Kept → Client
fresh_client kept = record { stage = Idle; ask = no_request; after = 0; front = 0; mine = []; kept = kept }
