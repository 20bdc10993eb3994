-- The steps on one word, and what each makes of memory: guards, and one equation. A branch is a move of its own.
use Rattle.std.specs.Prelude.{◌≡◌, ◌≢◌, ℕ, suc, ◌+◌, ◌-◌, ◌*◌, ◌%◌, ◌<◌, ◌≤◌, List, [], ◌∷◌, ◌++◌, length, Some, None}
use Rattle.pb_object.specs.declared.request.Ask.{Ask}
use Rattle.pb_object.specs.declared.request.Reply.{Reply}
use Rattle.pb_object.specs.declared.request.TheConstants.{LAST_NUMBER}
use Rattle.pb_object.specs.History.{Round, kept_by}
use Rattle.pb_object.specs.Request.{IsOperation}
use Rattle.pb_object.specs.Standing.{keep, newest, newest_of}
use Rattle.pb_events.specs.declared.event.Stepped.{Stepped}
use Rattle.pb_events.specs.declared.event.Stepped.TheVariants.{Went, Done, Busy, Fault}
use Rattle.pb_core.specs.Client.{Stage, Idle, Storing, Looking, LoadsNumber, LoadsCode, LoadsValue, LoadsExtra, Confirming, Lacking, Taking, Holding, Client, ask_word, row_word, entry_by}
use Rattle.pb_core.specs.Memory.{Owner, Free, Held, Closed, AtNumber, AtCode, AtFirst, AtSecond, AtThird, NoWork, Settling, Scanning, Filling, Noting, GivingUp, Resting, Doubtful, Memory, with_at, with_client, clients_of, known_standing, side_of_operation, round_of_turn}

-- Changes

abbrev pub go_to : Stage → Client → Client
go_to stage b = record b { stage = stage }

-- a client goes on to a stage, ..
abbrev pub steps_to : ℕ → Stage → Memory → Memory
steps_to c stage m = with_client c (go_to stage (m.book c)) m

-- .. having found a turn word
abbrev pub sees : Stage → ℕ → Client → Client
sees stage turn b = record b { stage = stage; front = round_of_turn turn }

abbrev pub finds_turn : ℕ → Stage → ℕ → Memory → Memory
finds_turn c stage turn m = with_client c (sees stage turn (m.book c)) m

-- it is answered, having seen so many rounds: the entry is the last of its own, and its newest kept request
abbrev pub answered : Reply → ℕ → Client → Client
answered reply front b = record b {
  stage = Idle;
  front = front;
  mine = b.mine ++ record { entry = entry_by b.ask reply; after = b.after; by = front } ∷ [];
  kept = keep (kept_by (entry_by b.ask reply)) b.kept;
}

abbrev pub with_answer : ℕ → Reply → ℕ → Memory → Memory
with_answer c reply front m = record (with_client c (answered reply front (m.book c)) m) {
  answers = m.answers ++ entry_by (m.book c).ask reply ∷ [];
}

-- the round ahead is published, and the turn is free
abbrev pub with_published : Round → Memory → Memory
with_published round m = record m {
  published = m.published ++ round ∷ [];
  ahead = None;
  turn = m.turn + 1;
  owner = Free;
  work = NoWork;
  engine = Resting;
}

-- another word in a client's request, and in its row
abbrev pub with_request_word : (client place word : ℕ) → (ℕ → ℕ → ℕ) → ℕ → ℕ → ℕ
with_request_word client place word requests = with_at client (with_at place word (requests client)) requests

abbrev pub with_row_word : (row client place word : ℕ) → (ℕ → ℕ → ℕ → ℕ) → ℕ → ℕ → ℕ → ℕ
with_row_word row client place word rows = with_at row (with_at client (with_at place word (rows row client)) (rows row)) rows

-- the row that isn't published
abbrev pub next_row : Memory → ℕ
next_row m = suc (length m.published) % 2

-- the word of the published row
abbrev pub own_row : Memory → ℕ → ℕ → ℕ → ℕ
own_row m turn c place = m.rows (round_of_turn turn % 2) c place

-- Asking

-- nobody opens the region again just now
abbrev pub IsNotReopening : Owner → Type 0
IsNotReopening Free = Unit {0}
IsNotReopening (Held client side) = Unit {0}
IsNotReopening Closed = ⊥

abbrev pub asks : ℕ → Ask → Memory → Memory
asks c ask m = with_client c (record (m.book c) { stage = Storing 0; ask = ask; after = (m.book c).front }) m

-- an idle client asks for something, under its next number
pub record Asks (old : Memory) (ask : Ask) (new : Memory) : Type 0 where
  pub running : IsNotReopening old.owner
  pub there : ask.client < clients_of old
  pub at : (old.book ask.client).stage ≡ Idle
  pub number : ask.number ≡ (newest (old.book ask.client).kept).number + 1
  pub few : ask.number ≤ LAST_NUMBER
  pub operation : IsOperation old.start.kind ask.op
  pub is : new ≡ asks ask.client ask old

-- it stores the code and the arguments, ..
pub record StoresWord (old : Memory) (c : ℕ) (new : Memory) (answer : Stepped) : Type 0 where
  pub place : ℕ
  pub few : place < 4
  pub at : (old.book c).stage ≡ Storing place
  pub is : new ≡ record (steps_to c (Storing (suc place)) old) {
    requests = with_request_word c (suc place) (ask_word (old.book c).ask (suc place)) old.requests;
  }
  pub says : answer ≡ Went

-- .. and the number, which announces the request
pub record Announces (old : Memory) (c : ℕ) (new : Memory) (answer : Stepped) : Type 0 where
  pub at : (old.book c).stage ≡ Storing 4
  pub is : new ≡ record (steps_to c Looking old) {
    requests = with_request_word c 0 (old.book c).ask.number old.requests;
  }
  pub says : answer ≡ Went

-- Waiting

-- it looks at the turn
pub record FindsTurn (old : Memory) (c : ℕ) (new : Memory) (answer : Stepped) : Type 0 where
  pub at : (old.book c).stage ≡ Looking
  pub is : new ≡ finds_turn c (LoadsNumber old.turn) old.turn old
  pub says : answer ≡ Went

-- its published row has its number, ..
pub record FindsNumber (old : Memory) (c : ℕ) (new : Memory) (answer : Stepped) : Type 0 where
  pub turn : ℕ
  pub at : (old.book c).stage ≡ LoadsNumber turn
  pub own : own_row old turn c 0 ≡ (old.book c).ask.number
  pub is : new ≡ steps_to c (LoadsCode turn) old
  pub says : answer ≡ Went

-- .. or another one, where somebody holds the turn
pub record LacksWhileHeld (old : Memory) (c : ℕ) (new : Memory) (answer : Stepped) : Type 0 where
  pub turn : ℕ
  pub at : (old.book c).stage ≡ LoadsNumber turn
  pub other : own_row old turn c 0 ≢ (old.book c).ask.number
  pub held : turn % 2 ≡ 1
  pub is : new ≡ steps_to c (Lacking turn (own_row old turn c 0)) old
  pub says : answer ≡ Went

-- .. or nobody does
pub record LacksWhileFree (old : Memory) (c : ℕ) (new : Memory) (answer : Stepped) : Type 0 where
  pub turn : ℕ
  pub at : (old.book c).stage ≡ LoadsNumber turn
  pub other : own_row old turn c 0 ≢ (old.book c).ask.number
  pub free : turn % 2 ≡ 0
  pub is : new ≡ steps_to c (Taking turn (own_row old turn c 0)) old
  pub says : answer ≡ Went

-- it loads the reply
pub record FindsCode (old : Memory) (c : ℕ) (new : Memory) (answer : Stepped) : Type 0 where
  pub turn : ℕ
  pub at : (old.book c).stage ≡ LoadsCode turn
  pub is : new ≡ steps_to c (LoadsValue turn (own_row old turn c 1)) old
  pub says : answer ≡ Went

pub record FindsValue (old : Memory) (c : ℕ) (new : Memory) (answer : Stepped) : Type 0 where
  pub turn : ℕ
  pub code : ℕ
  pub at : (old.book c).stage ≡ LoadsValue turn code
  pub is : new ≡ steps_to c (LoadsExtra turn code (own_row old turn c 2)) old
  pub says : answer ≡ Went

pub record FindsExtra (old : Memory) (c : ℕ) (new : Memory) (answer : Stepped) : Type 0 where
  pub turn : ℕ
  pub code : ℕ
  pub value : ℕ
  pub at : (old.book c).stage ≡ LoadsExtra turn code value
  pub is : new ≡ steps_to c (Confirming turn (record { code = code; value = value; extra = own_row old turn c 3 })) old
  pub says : answer ≡ Went

-- the turn is of the same round still: the reply counts, ..
pub record TakesReply (old : Memory) (c : ℕ) (new : Memory) (answer : Stepped) : Type 0 where
  pub turn : ℕ
  pub reply : Reply
  pub at : (old.book c).stage ≡ Confirming turn reply
  pub same : round_of_turn old.turn ≡ round_of_turn turn
  pub is : new ≡ with_answer c reply (round_of_turn old.turn) old
  pub says : answer ≡ Done (old.book c).ask reply

-- .. or of another one: it doesn't
pub record FindsNewRound (old : Memory) (c : ℕ) (new : Memory) (answer : Stepped) : Type 0 where
  pub turn : ℕ
  pub reply : Reply
  pub at : (old.book c).stage ≡ Confirming turn reply
  pub other : round_of_turn old.turn ≢ round_of_turn turn
  pub is : new ≡ finds_turn c Looking old.turn old
  pub says : answer ≡ Busy (old.book c).ask turn old.turn

-- it looks at the turn again after its row lacked its number
pub record FindsHeld (old : Memory) (c : ℕ) (new : Memory) (answer : Stepped) : Type 0 where
  pub turn : ℕ
  pub found : ℕ
  pub at : (old.book c).stage ≡ Lacking turn found
  pub is : new ≡ finds_turn c Looking old.turn old
  pub says : answer ≡ Busy (old.book c).ask turn old.turn

-- Taking the turn

-- the turn is as it was found: it is taken. Where the device is known_standing for sure, the scan begins, ..
pub record TakesSure (old : Memory) (c : ℕ) (new : Memory) (answer : Stepped) : Type 0 where
  pub turn : ℕ
  pub found : ℕ
  pub at : (old.book c).stage ≡ Taking turn found
  pub same : old.turn ≡ turn
  pub sure : old.engine ≡ Resting
  pub is : new ≡ record (steps_to c Holding old) { turn = turn + 1; owner = Held c (side_of_operation (old.book c).ask.op); work = Scanning 0 AtNumber [] }
  pub says : answer ≡ Went

-- .. and else settling does
pub record TakesUnsure (old : Memory) (c : ℕ) (new : Memory) (answer : Stepped) : Type 0 where
  pub turn : ℕ
  pub found : ℕ
  pub at : (old.book c).stage ≡ Taking turn found
  pub same : old.turn ≡ turn
  pub unsure : old.engine ≡ Doubtful
  pub is : new ≡ record (steps_to c Holding old) { turn = turn + 1; owner = Held c (side_of_operation (old.book c).ask.op); work = Settling }
  pub says : answer ≡ Went

-- the turn is another one
pub record MissesTurn (old : Memory) (c : ℕ) (new : Memory) (answer : Stepped) : Type 0 where
  pub turn : ℕ
  pub found : ℕ
  pub at : (old.book c).stage ≡ Taking turn found
  pub other : old.turn ≢ turn
  pub is : new ≡ finds_turn c Looking old.turn old
  pub says : answer ≡ Busy (old.book c).ask turn old.turn

-- Scanning

-- a client's next number
abbrev pub due_number : Memory → ℕ → ℕ
due_number m d = (newest_of (known_standing m) d).number + 1

-- a client announces nothing that is due
pub record PassesOver (old : Memory) (c : ℕ) (new : Memory) (answer : Stepped) : Type 0 where
  pub side : ℕ
  pub holds : old.owner ≡ Held c side
  pub d : ℕ
  pub seen : List Ask
  pub there : d < clients_of old
  pub at : old.work ≡ Scanning d AtNumber seen
  pub other : old.requests d 0 ≢ due_number old d
  pub is : new ≡ record old { work = Scanning (suc d) AtNumber seen }
  pub says : answer ≡ Went

-- it does: the other words are loaded
pub record MeetsDue (old : Memory) (c : ℕ) (new : Memory) (answer : Stepped) : Type 0 where
  pub side : ℕ
  pub holds : old.owner ≡ Held c side
  pub d : ℕ
  pub seen : List Ask
  pub there : d < clients_of old
  pub at : old.work ≡ Scanning d AtNumber seen
  pub due : old.requests d 0 ≡ due_number old d
  pub is : new ≡ record old { work = Scanning d (AtCode (old.requests d 0)) seen }
  pub says : answer ≡ Went

pub record ScansCode (old : Memory) (c : ℕ) (new : Memory) (answer : Stepped) : Type 0 where
  pub side : ℕ
  pub holds : old.owner ≡ Held c side
  pub d : ℕ
  pub seen : List Ask
  pub number : ℕ
  pub at : old.work ≡ Scanning d (AtCode number) seen
  pub is : new ≡ record old { work = Scanning d (AtFirst number (old.requests d 1)) seen }
  pub says : answer ≡ Went

pub record ScansFirst (old : Memory) (c : ℕ) (new : Memory) (answer : Stepped) : Type 0 where
  pub side : ℕ
  pub holds : old.owner ≡ Held c side
  pub d : ℕ
  pub seen : List Ask
  pub number : ℕ
  pub code : ℕ
  pub at : old.work ≡ Scanning d (AtFirst number code) seen
  pub is : new ≡ record old { work = Scanning d (AtSecond number code (old.requests d 2)) seen }
  pub says : answer ≡ Went

pub record ScansSecond (old : Memory) (c : ℕ) (new : Memory) (answer : Stepped) : Type 0 where
  pub side : ℕ
  pub holds : old.owner ≡ Held c side
  pub d : ℕ
  pub seen : List Ask
  pub number : ℕ
  pub code : ℕ
  pub a : ℕ
  pub at : old.work ≡ Scanning d (AtSecond number code a) seen
  pub is : new ≡ record old { work = Scanning d (AtThird number code a (old.requests d 3)) seen }
  pub says : answer ≡ Went

-- the request that was scanned: its words, with the last one
abbrev pub scanned : Memory → ℕ → ℕ → ℕ → ℕ → ℕ → Ask
scanned m d number code a b = record { client = d; number = number; op = record { code = code; a = a; b = b; c = m.requests d 4 } }

-- it is of the holder's side, and belongs to the round; ..
pub record ScansRequest (old : Memory) (c : ℕ) (new : Memory) (answer : Stepped) : Type 0 where
  pub side : ℕ
  pub holds : old.owner ≡ Held c side
  pub d : ℕ
  pub seen : List Ask
  pub number : ℕ
  pub code : ℕ
  pub a : ℕ
  pub b : ℕ
  pub at : old.work ≡ Scanning d (AtThird number code a b) seen
  pub same : side_of_operation (scanned old d number code a b).op ≡ side
  pub is : new ≡ record old { work = Scanning (suc d) AtNumber (seen ++ scanned old d number code a b ∷ []) }
  pub says : answer ≡ Went

-- .. or of the other side
pub record ScansOther (old : Memory) (c : ℕ) (new : Memory) (answer : Stepped) : Type 0 where
  pub side : ℕ
  pub holds : old.owner ≡ Held c side
  pub d : ℕ
  pub seen : List Ask
  pub number : ℕ
  pub code : ℕ
  pub a : ℕ
  pub b : ℕ
  pub at : old.work ≡ Scanning d (AtThird number code a b) seen
  pub other : side_of_operation (scanned old d number code a b).op ≢ side
  pub is : new ≡ record old { work = Scanning (suc d) AtNumber seen }
  pub says : answer ≡ Went

-- Publishing

-- a word of the next reply row is stored: the kept reply that is known_standing for sure, for each client its four words in order
pub record StoresRow (old : Memory) (c : ℕ) (new : Memory) (answer : Stepped) : Type 0 where
  pub side : ℕ
  pub holds : old.owner ≡ Held c side
  pub d : ℕ
  pub place : ℕ
  pub there : d < clients_of old
  pub few : place < 4
  pub at : old.work ≡ Filling (4 * d + place)
  pub is : new ≡ record old {
    rows = with_row_word (next_row old) d place (row_word (newest_of (known_standing old) d) place) old.rows;
    work = Filling (suc (4 * d + place));
  }
  pub says : answer ≡ Went

-- all words are: the round is published, and the turn is free. The holder is answered where the round has its request, ..
pub record PublishesOwn (old : Memory) (c : ℕ) (new : Memory) (answer : Stepped) : Type 0 where
  pub side : ℕ
  pub holds : old.owner ≡ Held c side
  pub round : Round
  pub at : old.work ≡ Filling (4 * clients_of old)
  pub ahead : old.ahead ≡ Some round
  pub own : (newest_of (known_standing old) c).number ≡ (old.book c).ask.number
  pub is : new ≡ with_answer c (newest_of (known_standing old) c).reply (suc (length old.published)) (with_published round old)
  pub says : answer ≡ Done (old.book c).ask (newest_of (known_standing old) c).reply

-- .. and tries again where it hasn't
pub record PublishesOthers (old : Memory) (c : ℕ) (new : Memory) (answer : Stepped) : Type 0 where
  pub side : ℕ
  pub holds : old.owner ≡ Held c side
  pub round : Round
  pub at : old.work ≡ Filling (4 * clients_of old)
  pub ahead : old.ahead ≡ Some round
  pub other : (newest_of (known_standing old) c).number ≢ (old.book c).ask.number
  pub is : new ≡ with_client c (record (old.book c) { stage = Looking; front = suc (length old.published) }) (with_published round old)
  pub says : answer ≡ Busy (old.book c).ask (old.turn - 1) (old.turn + 1)

-- Giving up

-- the device's count is stored, ..
pub record NotesFaults (old : Memory) (c : ℕ) (new : Memory) (answer : Stepped) : Type 0 where
  pub side : ℕ
  pub holds : old.owner ≡ Held c side
  pub from : ℕ
  pub to : ℕ
  pub at : old.work ≡ Noting from to
  pub is : new ≡ record old { noted = to; work = GivingUp from to }
  pub says : answer ≡ Went

-- .. and then the turn is given up
pub record GivesUp (old : Memory) (c : ℕ) (new : Memory) (answer : Stepped) : Type 0 where
  pub side : ℕ
  pub holds : old.owner ≡ Held c side
  pub from : ℕ
  pub to : ℕ
  pub at : old.work ≡ GivingUp from to
  pub is : new ≡ record (steps_to c Looking old) { turn = old.turn - 1; owner = Free; work = NoWork }
  pub says : answer ≡ Fault (old.book c).ask from to

-- The moves of a client on one word

pub data WordMove (old : Memory) (c : ℕ) (new : Memory) (answer : Stepped) : Type 0 where
  storing : StoresWord old c new answer → WordMove old c new answer
  announcing : Announces old c new answer → WordMove old c new answer
  looking : FindsTurn old c new answer → WordMove old c new answer
  matching : FindsNumber old c new answer → WordMove old c new answer
  lacking_held : LacksWhileHeld old c new answer → WordMove old c new answer
  lacking_free : LacksWhileFree old c new answer → WordMove old c new answer
  loading_code : FindsCode old c new answer → WordMove old c new answer
  loading_value : FindsValue old c new answer → WordMove old c new answer
  loading_extra : FindsExtra old c new answer → WordMove old c new answer
  confirming : TakesReply old c new answer → WordMove old c new answer
  finding_new : FindsNewRound old c new answer → WordMove old c new answer
  finding_held : FindsHeld old c new answer → WordMove old c new answer
  taking_sure : TakesSure old c new answer → WordMove old c new answer
  taking_unsure : TakesUnsure old c new answer → WordMove old c new answer
  missing : MissesTurn old c new answer → WordMove old c new answer
  passing_over : PassesOver old c new answer → WordMove old c new answer
  meeting : MeetsDue old c new answer → WordMove old c new answer
  scanning_code : ScansCode old c new answer → WordMove old c new answer
  scanning_first : ScansFirst old c new answer → WordMove old c new answer
  scanning_second : ScansSecond old c new answer → WordMove old c new answer
  scanning_own : ScansRequest old c new answer → WordMove old c new answer
  scanning_other : ScansOther old c new answer → WordMove old c new answer
  filling : StoresRow old c new answer → WordMove old c new answer
  publishing_own : PublishesOwn old c new answer → WordMove old c new answer
  publishing_others : PublishesOthers old c new answer → WordMove old c new answer
  noting : NotesFaults old c new answer → WordMove old c new answer
  giving_up : GivesUp old c new answer → WordMove old c new answer

-- a client that is there makes a step, while the region isn't being opened again
pub record IsWordStep (old : Memory) (c : ℕ) (new : Memory) (answer : Stepped) : Type 0 where
  pub running : IsNotReopening old.owner
  pub there : c < clients_of old
  pub move : WordMove old c new answer
