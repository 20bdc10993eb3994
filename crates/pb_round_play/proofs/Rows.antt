-- The next rows of the clients whose requests a round answers.
use Rattle.std.proofs.Common.{◌≡◌, ℕ, ◌+◌, ◌<◌, List, [], ◌∷◌, ◌++◌, length, take, get_or, refl, sym, ap, ◌∙◌}
use Rattle.std.proofs.lemmas.List.{length-set}
use Rattle.pb_object.specs.declared.request.Ask.{Ask}
use Rattle.pb_object.specs.declared.request.Reply.{Reply}
use Rattle.pb_object.specs.History.{Entry}
use Rattle.pb_object.specs.Object.{State, reply_of}
use Rattle.pb_engine.specs.Asks.{answered_by, answered_from, state_from}
use Rattle.pb_engine.proofs.Served.{answered_from-none}
use Rattle.pb_queue.proofs.AnsweredRequests.{answered_next}
use Rattle.pb_round_play.specs.declared.seat.Seat.{Seat}
use Rattle.pb_round_play.specs.Rounds.{with_row, with_rows}

-- none yet, and one more

rows-append : (entries : List Entry) (entry : Entry) (seats : List Seat) → with_rows (entries ++ entry ∷ []) seats ≡ with_row entry (with_rows entries seats)
rows-append [] entry seats = refl
rows-append (first ∷ entries) entry seats = rows-append entries entry (with_row first seats)

pub rows_none : (state : State) (seats : List Seat) → seats ≡ with_rows (answered_from state []) seats
rows_none state seats = ap (λ (es : List Entry). with_rows es seats) (sym (answered_from-none state))

pub rows_more : (state middle : State) (asks : List Ask) (i : ℕ) (d : Ask) (answer : Reply) (seats so_far new : List Seat) → i < length asks → middle ≡ state_from state (take i asks) → answer ≡ reply_of middle (get_or asks i d).op → so_far ≡ with_rows (answered_from state (take i asks)) seats
    → new ≡ with_row (record { client = (get_or asks i d).client; number = (get_or asks i d).number; op = (get_or asks i d).op; reply = answer }) so_far
    → new ≡ with_rows (answered_from state (take (i + 1) asks)) seats
rows_more state middle asks i d answer seats so_far new inside moved answered have put =
    put
    ∙ ((λ j. with_row (record { client = ask.client; number = ask.number; op = ask.op; reply = (answered ∙ ap (λ (s : State). reply_of s ask.op) moved) j }) (have j))
    ∙ (sym (rows-append (answered_from state (take i asks)) (answered_by (state_from state (take i asks)) ask) seats)
    ∙ ap (λ (es : List Entry). with_rows es seats) (sym (answered_next state asks i d inside))))
  where
    ask : Ask
    ask = get_or asks i d

pub length-rows : (entries : List Entry) (seats : List Seat) → length (with_rows entries seats) ≡ length seats
length-rows [] seats = refl
length-rows (entry ∷ entries) seats = length-rows entries (with_row entry seats) ∙ length-set seats entry.client _
