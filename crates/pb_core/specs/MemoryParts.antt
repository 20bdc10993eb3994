-- What holds of memory at each moment: small records, each over what it reads alone.
use Rattle.std.specs.Prelude.{◌≡◌, ◌≢◌, ◌⊎◌, ℕ, suc, ◌+◌, ◌*◌, ◌%◌, ◌<◌, ◌≤◌, ◌==◌, true, false, List, [], ◌∷◌, ◌++◌, length, map, Option, Some, None, IfSome, IsSome, slice_get, if◌then◌else◌}
use Rattle.pb_object.specs.declared.kind.Kind.{Kind}
use Rattle.pb_object.specs.declared.request.Ask.{Ask}
use Rattle.pb_object.specs.declared.request.Kept.{Kept}
use Rattle.pb_object.specs.declared.request.Reply.{Reply}
use Rattle.pb_object.specs.declared.request.TheConstants.{LAST_NUMBER}
use Rattle.pb_object.specs.History.{Entry, Round, History, kept_by, state_after, IsLegal, IsLegalRound}
use Rattle.pb_object.specs.Request.{IsOperation}
use Rattle.pb_object.specs.Standing.{Standing, keep, kept_list_of, newest, newest_of}
use Rattle.pb_pmem.specs.Count.{Rose}
use Rattle.pb_core.specs.Client.{Stage, Idle, Storing, Looking, LoadsNumber, LoadsCode, LoadsValue, LoadsExtra, Confirming, Lacking, Taking, Holding, is_idle, is_announced, is_holding, stored_words, Client, Dated, ask_word, row_word, entry_by}
use Rattle.pb_core.specs.Memory.{Owner, Free, Held, Closed, Part, AtNumber, AtCode, AtFirst, AtSecond, AtThird, Work, NoWork, Settling, Scanning, Calling, Filling, Noting, GivingUp, Engine, Resting, Recorded, Writing, Doubtful, Memory, shown, known_standing, side_of_operation, round_of_turn}

-- Entries

abbrev pub IsOneOf : Entry → List Entry → Type 0
IsOneOf entry [] = ⊥
IsOneOf entry (first ∷ entries) = (first ≡ entry) ⊎ IsOneOf entry entries

-- an entry stands in a round after the first so many, and among the first so many
pub record StandsBetween (history : History) (after by : ℕ) (entry : Entry) : Type 0 where
  pub place : ℕ
  pub round : Round
  pub late : after ≤ place
  pub early : place < by
  pub there : slice_get history place ≡ Some round
  pub one : IsOneOf entry round.entries

-- it stands in a history
abbrev pub StandsIn : History → Entry → Type 0
StandsIn history entry = StandsBetween history 0 (length history) entry

-- a client's entries among these, in a history, and in the round ahead
abbrev pub entries_with : ℕ → List Entry → List Entry
entries_with c [] = []
entries_with c (entry ∷ entries) = if entry.client == c then entry ∷ entries_with c entries else entries_with c entries

abbrev pub entries_in : ℕ → History → List Entry
entries_in c [] = []
entries_in c (round ∷ history) = entries_with c round.entries ++ entries_in c history

abbrev pub entries_ahead : ℕ → Option Round → List Entry
entries_ahead c None = []
entries_ahead c (Some round) = entries_with c round.entries

abbrev pub dated_entry : Dated → Entry
dated_entry dated = dated.entry

abbrev pub own_entries : Client → List Entry
own_entries b = map dated_entry b.mine

-- History

-- what was recorded is legal, and the round ahead would be
pub record HasHistory (start : Standing) (past published : History) (ahead : Option Round) : Type 0 where
  pub keeps : length start.kept ≡ start.clients
  pub legal : IsLegal start (past ++ published)
  pub next : IfSome ahead (IsLegalRound (state_after start (past ++ published)))

-- each answered request stands in it with its reply
abbrev pub AreAnswered : History → List Entry → Type 0
AreAnswered history [] = Unit {0}
AreAnswered history (entry ∷ answers) = StandsIn history entry × AreAnswered history answers

-- The turn and its holder

abbrev pub held_count : Owner → ℕ
held_count Free = 0
held_count (Held client side) = 1
held_count Closed = 0

-- what the holder is at, what is known_standing of the device, and what is ahead suit one another
abbrev pub SuitsWork : Work → Engine → Option Round → Type 0
SuitsWork NoWork engine ahead = ⊥
SuitsWork Settling engine ahead = engine ≡ Doubtful
SuitsWork (Scanning client part seen) engine ahead = (engine ≡ Resting) × (ahead ≡ None)
SuitsWork Calling engine ahead = (engine ≡ Writing) × IsSome ahead
SuitsWork (Filling count) engine ahead = (engine ≡ Recorded) × IsSome ahead
SuitsWork (Noting from to) engine ahead = engine ≡ Doubtful
SuitsWork (GivingUp from to) engine ahead = engine ≡ Doubtful

abbrev pub Suits : Owner → Work → Engine → Option Round → Type 0
Suits Free work engine ahead = (work ≡ NoWork) × (((engine ≡ Resting) × (ahead ≡ None)) ⊎ (engine ≡ Doubtful))
Suits (Held client side) work engine ahead = SuitsWork work engine ahead
Suits Closed work engine ahead = (work ≡ NoWork) × (engine ≡ Doubtful) × (ahead ≡ None)

-- a fault that is to be answered has its cause: the count rose to what it is, from where the last one was noted or later
abbrev pub HasCause : Work → ℕ → ℕ → Type 0
HasCause NoWork noted count = Unit {0}
HasCause Settling noted count = Unit {0}
HasCause (Scanning client part seen) noted count = Unit {0}
HasCause Calling noted count = Unit {0}
HasCause (Filling stored) noted count = Unit {0}
HasCause (Noting from to) noted count = Rose from to × (noted ≤ from) × (to ≡ count)
HasCause (GivingUp from to) noted count = Rose from to × (to ≡ noted) × (to ≡ count)

-- Clients

-- what is asked for
pub record IsAsking (kind : Kind) (c : ℕ) (b : Client) : Type 0 where
  pub client : b.ask.client ≡ c
  pub number : b.ask.number ≡ (newest b.kept).number + 1
  pub few : b.ask.number ≤ LAST_NUMBER
  pub operation : IsOperation kind b.ask.op
  pub after : b.after ≤ b.front

-- the words of its request
pub record HasWords (words : ℕ → ℕ) (b : Client) : Type 0 where
  pub stored : (place : ℕ) → 1 ≤ place → place ≤ stored_words b.stage → words place ≡ ask_word b.ask place
  pub announced : is_announced b.stage ≡ true → words 0 ≡ b.ask.number
  pub quiet : is_announced b.stage ≡ false → words 0 ≤ (newest b.kept).number

-- what it found in words of its published row, where no round was published since
pub record HasFound (turn rounds : ℕ) (same : Type 0) : Type 0 where
  pub front : round_of_turn turn ≤ rounds
  pub same_round : round_of_turn turn ≡ rounds → same

abbrev pub HasRead : Kept → ℕ → ℕ → Stage → Type 0
HasRead kept rounds number Idle = Unit {0}
HasRead kept rounds number (Storing count) = count ≤ 4
HasRead kept rounds number Looking = Unit {0}
HasRead kept rounds number (LoadsNumber turn) = round_of_turn turn ≤ rounds
HasRead kept rounds number (LoadsCode turn) = HasFound turn rounds (kept.number ≡ number)
HasRead kept rounds number (LoadsValue turn code) = HasFound turn rounds ((kept.number ≡ number) × (kept.reply.code ≡ code))
HasRead kept rounds number (LoadsExtra turn code value) = HasFound turn rounds ((kept.number ≡ number) × (kept.reply.code ≡ code) × (kept.reply.value ≡ value))
HasRead kept rounds number (Confirming turn reply) = HasFound turn rounds ((kept.number ≡ number) × (kept.reply ≡ reply))
HasRead kept rounds number (Lacking turn found) = HasFound turn rounds (kept.number ≡ found) × (found ≢ number) × (turn % 2 ≡ 1)
HasRead kept rounds number (Taking turn found) = HasFound turn rounds (kept.number ≡ found) × (found ≢ number) × (turn % 2 ≡ 0)
HasRead kept rounds number Holding = Unit {0}

-- a client's entries: those published are its own, and nothing of it is ahead; ..
pub record IsClear (c : ℕ) (published : History) (ahead : Option Round) (list : List Kept) (b : Client) : Type 0 where
  pub told : entries_in c published ≡ own_entries b
  pub none : entries_ahead c ahead ≡ []
  pub kept : list ≡ b.kept

-- .. or its open request is ahead; ..
pub record IsComing (c : ℕ) (published : History) (ahead : Option Round) (list : List Kept) (b : Client) : Type 0 where
  pub reply : Reply
  pub announced : is_announced b.stage ≡ true
  pub told : entries_in c published ≡ own_entries b
  pub one : entries_ahead c ahead ≡ entry_by b.ask reply ∷ []
  pub kept : list ≡ b.kept

-- .. or its open request is published, in a round that it hadn't seen when it asked, and it wasn't answered yet
pub record IsServed (c : ℕ) (published : History) (ahead : Option Round) (list : List Kept) (b : Client) : Type 0 where
  pub reply : Reply
  pub announced : is_announced b.stage ≡ true
  pub waiting : is_holding b.stage ≡ false
  pub told : entries_in c published ≡ own_entries b ++ entry_by b.ask reply ∷ []
  pub none : entries_ahead c ahead ≡ []
  pub kept : list ≡ keep (kept_by (entry_by b.ask reply)) b.kept
  pub dated : StandsBetween published b.after (length published) (entry_by b.ask reply)

abbrev pub HasEntries : ℕ → History → Option Round → List Kept → Client → Type 0
HasEntries c published ahead list b =
    IsClear c published ahead list b ⊎ (IsComing c published ahead list b ⊎ IsServed c published ahead list b)

-- each of its own entries stands between the rounds that it had seen when it asked and those that it had seen when it was answered
abbrev pub AreDated : History → List Dated → Type 0
AreDated published [] = Unit {0}
AreDated published (dated ∷ mine) = StandsBetween published dated.after dated.by dated.entry × AreDated published mine

pub record IsClient (kind : Kind) (list : List Kept) (published : History) (ahead : Option Round) (owner : Owner) (words : ℕ → ℕ) (c : ℕ) (b : Client) : Type 0 where
  pub holding : is_holding b.stage ≡ true → owner ≡ Held c (side_of_operation b.ask.op)
  pub holder : (side : ℕ) → owner ≡ Held c side → is_holding b.stage ≡ true
  pub rests : owner ≡ Closed → is_idle b.stage ≡ true
  pub asking : is_idle b.stage ≡ false → IsAsking kind c b
  pub has_words : HasWords words b
  pub front : b.front ≤ length published
  pub read : HasRead (newest list) (length published) b.ask.number b.stage
  pub entries : HasEntries c published ahead list b
  pub dates : AreDated published b.mine

-- Rows

-- the published row has the kept replies after the published rounds
abbrev pub HasRows : Standing → ℕ → ℕ → (ℕ → ℕ → ℕ → ℕ) → Type 0
HasRows s clients rounds rows =
    (c place : ℕ) → c < clients → place < 4 → rows (rounds % 2) c place ≡ row_word (newest_of s c) place

-- the first so many words of the other row have those that are known_standing for sure
pub record IsFilled (s : Standing) (clients rounds count : ℕ) (rows : ℕ → ℕ → ℕ → ℕ) : Type 0 where
  pub few : count ≤ 4 * clients
  pub stored : (c place : ℕ) → place < 4 → 4 * c + place < count → rows (suc rounds % 2) c place ≡ row_word (newest_of s c) place

abbrev pub HasFilled : Work → Standing → ℕ → ℕ → (ℕ → ℕ → ℕ → ℕ) → Type 0
HasFilled NoWork s clients rounds rows = Unit {0}
HasFilled Settling s clients rounds rows = Unit {0}
HasFilled (Scanning client part seen) s clients rounds rows = Unit {0}
HasFilled Calling s clients rounds rows = Unit {0}
HasFilled (Filling count) s clients rounds rows = IsFilled s clients rounds count rows
HasFilled (Noting from to) s clients rounds rows = Unit {0}
HasFilled (GivingUp from to) s clients rounds rows = Unit {0}

-- Scans

-- a request that was scanned is announced still, with the words that were scanned; it is its client's next, and of the holder's side
pub record IsSeen (s : Standing) (side : ℕ) (requests : ℕ → ℕ → ℕ) (ask : Ask) : Type 0 where
  pub words : (place : ℕ) → place < 5 → requests ask.client place ≡ ask_word ask place
  pub due : ask.number ≡ (newest_of s ask.client).number + 1
  pub side_is : side_of_operation ask.op ≡ side

-- requests of clients in rising order, from one on and below one
abbrev pub AreSeen : Standing → ℕ → (ℕ → ℕ → ℕ) → ℕ → ℕ → List Ask → Type 0
AreSeen s side requests low high [] = Unit {0}
AreSeen s side requests low high (ask ∷ asks) =
    (low ≤ ask.client) × (ask.client < high) × IsSeen s side requests ask × AreSeen s side requests (suc ask.client) high asks

-- the words that were loaded of the client that is scanned
abbrev pub HasPart : Standing → ℕ → (ℕ → ℕ) → ℕ → Part → Type 0
HasPart s clients words d AtNumber = Unit {0}
HasPart s clients words d (AtCode number) = (d < clients) × (words 0 ≡ number) × (number ≡ (newest_of s d).number + 1)
HasPart s clients words d (AtFirst number code) = (d < clients) × (words 0 ≡ number) × (number ≡ (newest_of s d).number + 1) × (words 1 ≡ code)
HasPart s clients words d (AtSecond number code a) = (d < clients) × (words 0 ≡ number) × (number ≡ (newest_of s d).number + 1) × (words 1 ≡ code) × (words 2 ≡ a)
HasPart s clients words d (AtThird number code a b) = (d < clients) × (words 0 ≡ number) × (number ≡ (newest_of s d).number + 1) × (words 1 ≡ code) × (words 2 ≡ a) × (words 3 ≡ b)

-- a request of a client is among these
abbrev pub Meets : ℕ → List Ask → Type 0
Meets c [] = ⊥
Meets c (ask ∷ asks) = (ask.client ≡ c) ⊎ Meets c asks

-- the holder's own request is among those that were seen, once its own words are scanned: so no round is empty, and none lacks it
pub record IsScan (s : Standing) (c side clients : ℕ) (requests : ℕ → ℕ → ℕ) (d : ℕ) (part : Part) (seen : List Ask) : Type 0 where
  pub within : d ≤ clients
  pub part_is : HasPart s clients (requests d) d part
  pub seen_are : AreSeen s side requests 0 d seen
  pub own : c < d → Meets c seen

abbrev pub HasScanOf : Work → Standing → ℕ → ℕ → ℕ → (ℕ → ℕ → ℕ) → Type 0
HasScanOf NoWork s c side clients requests = Unit {0}
HasScanOf Settling s c side clients requests = Unit {0}
HasScanOf (Scanning d part seen) s c side clients requests = IsScan s c side clients requests d part seen
HasScanOf Calling s c side clients requests = Unit {0}
HasScanOf (Filling count) s c side clients requests = Unit {0}
HasScanOf (Noting from to) s c side clients requests = Unit {0}
HasScanOf (GivingUp from to) s c side clients requests = Unit {0}

abbrev pub HasScan : Owner → Work → Standing → ℕ → (ℕ → ℕ → ℕ) → Type 0
HasScan Free work s clients requests = Unit {0}
HasScan (Held c side) work s clients requests = HasScanOf work s c side clients requests
HasScan Closed work s clients requests = Unit {0}

-- All of it

pub record IsMemory (m : Memory) : Type 0 where
  pub history : HasHistory m.start m.past m.published m.ahead
  pub turn : m.turn ≡ 2 * length m.published + held_count m.owner
  pub suits : Suits m.owner m.work m.engine m.ahead
  pub low : m.noted ≤ m.count
  pub cause : HasCause m.work m.noted m.count
  pub clients : (c : ℕ) → c < m.start.clients → IsClient m.start.kind (kept_list_of (shown m) c) m.published m.ahead m.owner (m.requests c) c (m.book c)
  pub rows : HasRows (shown m) m.start.clients (length m.published) m.rows
  pub filled : HasFilled m.work (known_standing m) m.start.clients (length m.published) m.rows
  pub scan : HasScan m.owner m.work (shown m) m.start.clients m.requests
  pub answers_are : AreAnswered (m.past ++ m.published) m.answers
