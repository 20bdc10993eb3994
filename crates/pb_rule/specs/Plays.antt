-- What each step on a word tells the pass that makes it: the view after, from the view before and the word that was found.
use Rattle.std.specs.Prelude.{◌≡◌, ◌≢◌, ◌⊎◌, ℕ, suc, ◌+◌, ◌*◌, ◌%◌, ◌<◌, ◌≤◌, ◌^◌, ◌==◌, Bool, true, false, List, [], ◌∷◌, ◌++◌, Option, Some, None, if◌then◌else◌}
use Rattle.atomic_table.specs.Table.{Me}
use Rattle.pb_object.specs.declared.kind.Kind.{Kind}
use Rattle.pb_object.specs.declared.request.Ask.{Ask}
use Rattle.pb_object.specs.declared.request.Reply.{Reply}
use Rattle.pb_object.specs.declared.kind.Kind.TheVariants.{Map}
use Rattle.pb_object.specs.Standing.{Standing, empty_standing, newest_of}
use Rattle.pb_core.specs.Client.{Stage, Idle, Storing, Looking, LoadsNumber, LoadsCode, LoadsValue, LoadsExtra, Confirming, Lacking, Taking, Holding, Client}
use Rattle.pb_core.specs.Memory.{Part, AtNumber, AtCode, AtFirst, AtSecond, AtThird, Work, NoWork, Settling, Scanning, Calling, Filling, Noting, GivingUp, side_of_operation, round_of_turn}
use Rattle.pb_core.specs.WordMoves.{go_to, sees, answered}
use Rattle.pb_engine.specs.Asks.{MayBeServed, asked_round}
use Rattle.pb_engine.specs.View.{EngineView, IsEngine, nothing_known}
use Rattle.pb_rule.specs.View.{Look, Turn, Row, OwnRound, PassView, view_in, numbers_of}

-- Seats

-- the seat of a pass: its view, and the slot if it holds it
abbrev pub Seated : Type 0 → Type 0
Seated X = Me (Option X) (List PassView)

abbrev pub the_view : {X : Type 0} → Seated X → PassView
the_view me = view_in me.0

-- it has one view, and holds nothing
abbrev pub IsPlain : {X : Type 0} → Seated X → Type 0
IsPlain me = (me.0 ≡ the_view me ∷ []) × (me.1 ≡ [])

-- it has one view, and holds the slot with an engine
pub record HoldsSlot {X : Type 0} (me : Seated X) : Type 0 where
  pub value : X
  pub is : me ≡ (the_view me ∷ [], (0, Some value) ∷ [])

-- what contracts see where no engine is
abbrev pub no_engine : EngineView
no_engine = record {
  standing = empty_standing Map 0 0;
  doubt = None;
  sure = false;
  device = record { now = None; told = None; faults = 0 };
  first = nothing_known;
  second = nothing_known;
  first_record = [];
  second_record = [];
}

abbrev pub engine_or : Option EngineView → EngineView
engine_or None = no_engine
engine_or (Some engine) = engine

abbrev pub value_seen : {X : Type 0} → (X → EngineView) → Option X → EngineView
value_seen seen None = no_engine
value_seen seen (Some value) = seen value

abbrev pub slot_seen : {X : Type 0} → (X → EngineView) → List (ℕ × Option X) → EngineView
slot_seen seen [] = no_engine
slot_seen seen (slot ∷ slots) = value_seen seen slot.1

-- the engine that it holds: as of its last step on a word, and now
abbrev pub engine_before : {X : Type 0} → Seated X → EngineView
engine_before me = engine_or (the_view me).hand

abbrev pub engine_now : {X : Type 0} → (X → EngineView) → Seated X → EngineView
engine_now seen me = slot_seen seen me.1

abbrev pub with_view : {X : Type 0} → (PassView → PassView) → Seated X → Seated X
with_view change me = (change (the_view me) ∷ [], me.1)

abbrev pub lets_go : {X : Type 0} → (PassView → PassView) → Seated X → Seated X
lets_go change me = (change (the_view me) ∷ [], [])

-- Asking

-- the code word of a request is stored, ..
abbrev pub asked : Ask → PassView → PassView
asked ask v = record v { body = record v.body { stage = Storing 1; ask = ask; after = v.body.front } }

-- .. then its arguments, ..
abbrev pub next_stored : Stage → Stage
next_stored Idle = Idle
next_stored (Storing count) = Storing (suc count)
next_stored Looking = Looking
next_stored (LoadsNumber turn) = LoadsNumber turn
next_stored (LoadsCode turn) = LoadsCode turn
next_stored (LoadsValue turn code) = LoadsValue turn code
next_stored (LoadsExtra turn code value) = LoadsExtra turn code value
next_stored (Confirming turn reply) = Confirming turn reply
next_stored (Lacking turn found) = Lacking turn found
next_stored (Taking turn found) = Taking turn found
next_stored Holding = Holding

abbrev pub stored : PassView → PassView
stored v = record v { body = go_to (next_stored v.body.stage) v.body }

-- .. and the number
abbrev pub announced : PassView → PassView
announced v = record v { body = go_to Looking v.body }

-- Waiting

-- a turn word counts no fewer rounds than were seen before
abbrev pub IsNoEarlier : {X : Type 0} → ℕ → Seated X → Type 0
IsNoEarlier turn old = (the_view old).body.front ≤ round_of_turn turn

-- the turn word that a try finds first, ..
abbrev pub first_look : ℕ → PassView → PassView
first_look turn v = record v { body = sees (LoadsNumber turn) turn v.body; notes = Turn turn ∷ [] }

-- .. and the one with which it ends
abbrev pub last_look : ℕ → PassView → PassView
last_look turn v = record v { body = sees Looking turn v.body; notes = v.notes ++ Turn turn ∷ [] }

-- the turn is of the same round as the one found first: the reply counts; or it isn't
abbrev pub confirmed_if : Bool → Reply → ℕ → PassView → PassView
confirmed_if true reply turn v = record v { body = answered reply (round_of_turn turn) v.body; notes = v.notes ++ Turn turn ∷ [] }
confirmed_if false reply turn v = last_look turn v

abbrev pub confirmed : (first : ℕ) → Reply → (turn : ℕ) → PassView → PassView
confirmed first reply turn v = confirmed_if (round_of_turn turn == round_of_turn first) reply turn v

-- what the stage says of the turn that was found first, and of the reply
abbrev pub first_turn : Stage → ℕ
first_turn Idle = 0
first_turn (Storing count) = 0
first_turn Looking = 0
first_turn (LoadsNumber turn) = turn
first_turn (LoadsCode turn) = turn
first_turn (LoadsValue turn code) = turn
first_turn (LoadsExtra turn code value) = turn
first_turn (Confirming turn reply) = turn
first_turn (Lacking turn found) = turn
first_turn (Taking turn found) = turn
first_turn Holding = 0

abbrev pub blank_reply : Reply
blank_reply = record { code = 0; value = 0; extra = 0 }

abbrev pub reply_found : Stage → Reply
reply_found Idle = blank_reply
reply_found (Storing count) = blank_reply
reply_found Looking = blank_reply
reply_found (LoadsNumber turn) = blank_reply
reply_found (LoadsCode turn) = blank_reply
reply_found (LoadsValue turn code) = blank_reply
reply_found (LoadsExtra turn code value) = blank_reply
reply_found (Confirming turn reply) = reply
reply_found (Lacking turn found) = blank_reply
reply_found (Taking turn found) = blank_reply
reply_found Holding = blank_reply

abbrev pub confirms : ℕ → PassView → PassView
confirms turn v = confirmed (first_turn v.body.stage) (reply_found v.body.stage) turn v

-- the number word of the own published row
abbrev pub number_found : (turn number found : ℕ) → Stage
number_found turn number found =
    if found == number then LoadsCode turn else (if turn % 2 == 1 then Lacking turn found else Taking turn found)

abbrev pub row_number : ℕ → PassView → PassView
row_number found v = record v { body = go_to (number_found (first_turn v.body.stage) v.body.ask.number found) v.body; notes = v.notes ++ Row found ∷ [] }

-- the words of the reply behind it
abbrev pub word_found : ℕ → Stage → Stage
word_found found Idle = Idle
word_found found (Storing count) = Storing count
word_found found Looking = Looking
word_found found (LoadsNumber turn) = LoadsNumber turn
word_found found (LoadsCode turn) = LoadsValue turn found
word_found found (LoadsValue turn code) = LoadsExtra turn code found
word_found found (LoadsExtra turn code value) = Confirming turn (record { code = code; value = value; extra = found })
word_found found (Confirming turn reply) = Confirming turn reply
word_found found (Lacking turn old) = Lacking turn old
word_found found (Taking turn old) = Taking turn old
word_found found Holding = Holding

abbrev pub row_word_found : ℕ → PassView → PassView
row_word_found found v = record v { body = go_to (word_found found v.body.stage) v.body }

-- Taking the turn

-- a holder scans first, or settles
abbrev pub first_work : Bool → Work
first_work true = Scanning 0 AtNumber []
first_work false = Settling

abbrev pub taken : (turn : ℕ) → EngineView → PassView → PassView
taken turn engine v = record v {
  body = go_to Holding v.body;
  notes = v.notes ++ Turn turn ∷ [];
  looked = [];
  work = first_work engine.sure;
  hand = Some engine;
  own = None;
}

-- the turn was as it was found first, and is the pass's own now: it has the engine, which is of this object
pub record HasTaken {X : Type 0} (seen : X → EngineView) (kind : Kind) (turn : ℕ) (old new : Seated X) : Type 0 where
  pub value : X
  pub is : new ≡ (taken turn (seen value) (the_view old) ∷ [], (0, Some value) ∷ [])
  pub sound : IsEngine kind (seen value)
  pub clients : (seen value).standing.clients ≡ (the_view old).clients
  pub room : turn + 2 < 2 ^ 64

pub record HasTakenOrMissed {X : Type 0} (seen : X → EngineView) (kind : Kind) (turn : ℕ) (old new : Seated X) : Type 0 where
  pub later : IsNoEarlier turn old
  pub hit : turn ≡ first_turn (the_view old).body.stage → HasTaken seen kind turn old new
  pub miss : turn ≢ first_turn (the_view old).body.stage → new ≡ with_view (last_look turn) old

-- The holder

-- what it is at where it scans next, ..
abbrev pub scanning_now : Work → Work
scanning_now NoWork = NoWork
scanning_now Settling = Scanning 0 AtNumber []
scanning_now (Scanning client part seen) = Scanning client part seen
scanning_now Calling = Calling
scanning_now (Filling count) = Filling count
scanning_now (Noting from to) = Noting from to
scanning_now (GivingUp from to) = GivingUp from to

-- .. and where it stores the reply rows next
abbrev pub filling_now : Work → Work
filling_now NoWork = NoWork
filling_now Settling = Filling 0
filling_now (Scanning client part seen) = Filling 0
filling_now Calling = Calling
filling_now (Filling count) = Filling count
filling_now (Noting from to) = Noting from to
filling_now (GivingUp from to) = GivingUp from to

-- Scanning

abbrev pub ask_with : (client number code a b c : ℕ) → Ask
ask_with client number code a b c = record { client = client; number = number; op = record { code = code; a = a; b = b; c = c } }

-- a request is one of the round's where it is of the holder's side
abbrev pub seen_with : (side : ℕ) → List Ask → Ask → List Ask
seen_with side seen ask = if side_of_operation ask.op == side then seen ++ ask ∷ [] else seen

-- one word more of a request was loaded
abbrev pub part_found : (kept : ℕ → ℕ) (side found client : ℕ) → Part → List Ask → Work
part_found kept side found d AtNumber seen = if found == kept d + 1 then Scanning d (AtCode found) seen else Scanning (suc d) AtNumber seen
part_found kept side found d (AtCode number) seen = Scanning d (AtFirst number found) seen
part_found kept side found d (AtFirst number code) seen = Scanning d (AtSecond number code found) seen
part_found kept side found d (AtSecond number code a) seen = Scanning d (AtThird number code a found) seen
part_found kept side found d (AtThird number code a b) seen = Scanning (suc d) AtNumber (seen_with side seen (ask_with d number code a b found))

abbrev pub scan_found : (kept : ℕ → ℕ) (side found : ℕ) → Work → Work
scan_found kept side found NoWork = NoWork
scan_found kept side found Settling = Settling
scan_found kept side found (Scanning d part seen) = part_found kept side found d part seen
scan_found kept side found Calling = Calling
scan_found kept side found (Filling count) = Filling count
scan_found kept side found (Noting from to) = Noting from to
scan_found kept side found (GivingUp from to) = GivingUp from to

-- whom the holder looked at: where the number isn't the client's next, nothing else of its request is loaded
abbrev pub looked_part : (kept : ℕ → ℕ) (found client : ℕ) → Part → List Look
looked_part kept found d AtNumber = if found == kept d + 1 then [] else record { client = d; number = found; op = None } ∷ []
looked_part kept found d (AtCode number) = []
looked_part kept found d (AtFirst number code) = []
looked_part kept found d (AtSecond number code a) = []
looked_part kept found d (AtThird number code a b) = record { client = d; number = number; op = Some (record { code = code; a = a; b = b; c = found }) } ∷ []

abbrev pub looked_by : (kept : ℕ → ℕ) (found : ℕ) → Work → List Look
looked_by kept found NoWork = []
looked_by kept found Settling = []
looked_by kept found (Scanning d part seen) = looked_part kept found d part
looked_by kept found Calling = []
looked_by kept found (Filling count) = []
looked_by kept found (Noting from to) = []
looked_by kept found (GivingUp from to) = []

abbrev pub kept_number : Standing → ℕ → ℕ
kept_number s client = (newest_of s client).number

abbrev pub scanned_on : EngineView → ℕ → PassView → PassView
scanned_on engine found v = record v {
  looked = v.looked ++ looked_by (kept_number engine.standing) found (scanning_now v.work);
  work = scan_found (kept_number engine.standing) (side_of_operation v.body.ask.op) found (scanning_now v.work);
  hand = Some engine;
}

-- a client's request with this number is among these
abbrev pub AsksFor : (client number : ℕ) → List Ask → Type 0
AsksFor client number [] = ⊥
AsksFor client number (ask ∷ asks) = ((ask.client ≡ client) × (ask.number ≡ number)) ⊎ AsksFor client number asks

-- a scan that is over saw requests that may be served in one round, the holder's own among them
pub record ScanIsOver (engine : EngineView) (v : PassView) : Type 0 where
  pub may : (asks : List Ask) → v.work ≡ Scanning engine.standing.clients AtNumber asks → MayBeServed engine.standing asks
  pub own : (asks : List Ask) → v.work ≡ Scanning engine.standing.clients AtNumber asks → AsksFor v.client v.body.ask.number asks

abbrev pub scan_step : {X : Type 0} → (X → EngineView) → ℕ → Seated X → Seated X
scan_step seen found me = (scanned_on (engine_now seen me) found (the_view me) ∷ [], me.1)

-- Filling

abbrev pub next_filled : Work → Work
next_filled NoWork = NoWork
next_filled Settling = Settling
next_filled (Scanning client part seen) = Scanning client part seen
next_filled Calling = Calling
next_filled (Filling count) = Filling (suc count)
next_filled (Noting from to) = Noting from to
next_filled (GivingUp from to) = GivingUp from to

-- the round that the holder fills from its own scan: it is so from the first word of the reply rows on
abbrev pub own_by : EngineView → (rounds : ℕ) → Work → Option OwnRound → Option OwnRound
own_by engine rounds NoWork own = own
own_by engine rounds Settling own = None
own_by engine rounds (Scanning client part seen) own = Some (record {
  number = suc rounds;
  entries = (asked_round engine.standing seen).entries;
  kept = numbers_of engine.standing;
})
own_by engine rounds Calling own = own
own_by engine rounds (Filling count) own = own
own_by engine rounds (Noting from to) own = own
own_by engine rounds (GivingUp from to) own = own

abbrev pub filled_on : (before after : EngineView) → PassView → PassView
filled_on before after v = record v {
  work = next_filled (filling_now v.work);
  hand = Some after;
  own = own_by before v.body.front v.work v.own;
}

abbrev pub fill_step : {X : Type 0} → (X → EngineView) → Seated X → Seated X
fill_step seen me = (filled_on (engine_before me) (engine_now seen me) (the_view me) ∷ [], me.1)

-- Publishing

abbrev pub own_round : Option OwnRound → List OwnRound
own_round None = []
own_round (Some round) = round ∷ []

-- the holder is answered where the round has its request
abbrev pub published_body : Bool → Reply → Client → Client
published_body true reply body = answered reply (suc body.front) body
published_body false reply body = record body { stage = Looking; front = suc body.front }

-- it notes the number word of its row of that round, and the turn word
abbrev pub published : EngineView → PassView → PassView
published engine v = record v {
  body = published_body ((newest_of engine.standing v.client).number == v.body.ask.number) (newest_of engine.standing v.client).reply v.body;
  notes = v.notes ++ Row (newest_of engine.standing v.client).number ∷ Turn (2 * suc v.body.front) ∷ [];
  served = v.served ++ own_round v.own;
  work = NoWork;
  hand = None;
  own = None;
}

abbrev pub publish_step : {X : Type 0} → Seated X → Seated X
publish_step me = lets_go (published (engine_before me)) me

-- Giving up

abbrev pub noted : (before after : EngineView) → PassView → PassView
noted before after v = record v {
  met = v.met ++ record { ask = v.body.ask; from = before.device.faults; to = after.device.faults } ∷ [];
  work = GivingUp before.device.faults after.device.faults;
  hand = Some after;
}

abbrev pub given_up : PassView → PassView
given_up v = record v { body = go_to Looking v.body; work = NoWork; hand = None; own = None }

abbrev pub note_step : {X : Type 0} → (X → EngineView) → Seated X → Seated X
note_step seen me = (noted (engine_before me) (engine_now seen me) (the_view me) ∷ [], me.1)
