-- Which events are possible.
use Rattle.std.proofs.Common.{◌≡◌, ◌≢◌, ◌⊎◌, ℕ, ◌+◌, ◌*◌, ◌/◌, ◌%◌, ◌<◌, ◌≤◌, true, false, List, [], ◌∷◌, ◌++◌, drop, Option, Some, None, IsSome, ap, subst, sym, refl, ◌∙◌, inl, inr, arith}
use Rattle.std.proofs.lemmas.List.{append_assoc}
use Rattle.std.proofs.lemmas.Bool.{cases_eq, cases_lt, cases_Bool, false≢true, true≢false}
use Rattle.pb_pmem.specs.declared.log.LogOp.{LogOp}
use Rattle.pb_pmem.specs.declared.log.LogOp.TheVariants.{Word}
use Rattle.pb_pmem.specs.Device.{Tale, with_op}
use Rattle.pb_object.specs.declared.request.Ask.{Ask}
use Rattle.pb_object.specs.History.{Round}
use Rattle.pb_object.specs.Standing.{Standing, rounds_of, newest_of}
use Rattle.pb_layout.specs.declared.header.Header.{Header}
use Rattle.pb_layout.specs.declared.header.TheConstants.{MAGIC}
use Rattle.pb_layout.specs.RegionOps.{stage_by, settle_to}
use Rattle.pb_layout.specs.Represents.{header_for}
use Rattle.pb_events.specs.declared.event.Event.TheVariants.{Step}
use Rattle.pb_events.specs.declared.event.Stepped.{Stepped}
use Rattle.pb_events.specs.declared.event.Stepped.TheVariants.{Went}
use Rattle.pb_core.specs.Client.{Stage, Idle, Storing, Looking, LoadsNumber, LoadsCode, LoadsValue, LoadsExtra, Confirming, Lacking, Taking, Holding, is_idle, is_holding}
use Rattle.pb_core.specs.DeviceParts.{IsWorld}
use Rattle.pb_core.specs.HolderMoves.{round_by}
use Rattle.pb_core.specs.Memory.{Owner, Free, Held, Closed, Part, AtNumber, AtCode, AtFirst, AtSecond, AtThird, Work, NoWork, Settling, Scanning, Calling, Filling, Noting, GivingUp, Resting, Recorded, Writing, Memory, clients_of, known_standing, side_of_operation, round_of_turn}
use Rattle.pb_core.specs.MemoryParts.{IsMemory}
use Rattle.pb_core.specs.Possible.{IsPossible, MayStep, HasPlan}
use Rattle.pb_core.specs.WordMoves.{IsNotReopening, own_row, due_number, scanned, WordMove, storing, announcing, looking, matching, lacking_held, lacking_free, loading_code, loading_value, loading_extra, confirming, finding_new, finding_held, taking_sure, taking_unsure, missing, passing_over, meeting, scanning_code, scanning_first, scanning_second, scanning_own, scanning_other, filling, publishing_own, publishing_others, noting, giving_up}
use Rattle.pb_core.specs.World.{CallProgress, NoCall, InCall, World, ops_of_puts, IsRoundPlan}
use Rattle.pb_core.specs.WorldMoves.{Silent, begins_calls, ends_calls, begins_settling, ends_settling_none, ends_settling_round, Silents, settling_plan, last_calls}
use Rattle.pb_core.proofs.Publishing.{the_filled}
use Rattle.pb_core.proofs.Scans.{the_scan}
use Rattle.pb_core.proofs.Turns.{free_suits, taken_free, work_suits}
use Rattle.pb_core.proofs.Waiting.{read_at}
use Rattle.pb_core.proofs.Worlds.{fits_in}

-- A move on a word

-- a client can make one
record CanMove (m : Memory) (c : ℕ) : Type 0 where
  new : Memory
  answer : Stepped
  move : WordMove m c new answer

moves_by : {m new : Memory} {c : ℕ} {answer : Stepped} → WordMove m c new answer → CanMove m c
moves_by {m} {new} {c} {answer} move = record { new = new; answer = answer; move = move }

-- the remainder of two
odd_or_even : (turn : ℕ) → (turn % 2 ≡ 1) ⊎ (turn % 2 ≡ 0)
odd_or_even turn = elim (cases_eq (turn % 2) 1) [
  | inl odd ↦ inl odd
  | inr other ↦ inr (omega (arith, other))
]

-- a client that isn't idle and doesn't hold the turn
waiting_moves : {m : Memory} {c : ℕ} (stage : Stage) → IsMemory m → IsNotReopening m.owner → c < m.start.clients → (m.book c).stage ≡ stage → is_idle stage ≡ false → is_holding stage ≡ false → CanMove m c
waiting_moves Idle is running there at busy free = absurd (true≢false busy)
waiting_moves {m} {c} (Storing count) is running there at busy free = go (cases_lt count 4)
  where
    few : count ≤ 4
    few = read_at m c (Storing count) (is.clients c there) at

    go : (count < 4) ⊎ (4 ≤ count) → CanMove m c
    go (inl below) = moves_by (storing (record { place = count; few = below; at = at; is = refl; says = refl }))
    go (inr all) =
        let four : count ≡ 4 = omega (arith, few, all) in
        moves_by (announcing (record { at = at ∙ ap Storing four; is = refl; says = refl }))
waiting_moves Looking is running there at busy free = moves_by (looking (record { at = at; is = refl; says = refl }))
waiting_moves {m} {c} (LoadsNumber turn) is running there at busy free =
    go (cases_eq (own_row m turn c 0) (m.book c).ask.number) (odd_or_even turn)
  where
    go : (own_row m turn c 0 ≡ (m.book c).ask.number) ⊎ (own_row m turn c 0 ≢ (m.book c).ask.number) → (turn % 2 ≡ 1) ⊎ (turn % 2 ≡ 0) → CanMove m c
    go (inl own) parity =
        moves_by (matching (record { turn = turn; at = at; own = own; is = refl; says = refl }))
    go (inr other) (inl odd) =
        moves_by (lacking_held (record { turn = turn; at = at; other = other; held = odd; is = refl; says = refl }))
    go (inr other) (inr even) =
        moves_by (lacking_free (record { turn = turn; at = at; other = other; free = even; is = refl; says = refl }))
waiting_moves (LoadsCode turn) is running there at busy free =
    moves_by (loading_code (record { turn = turn; at = at; is = refl; says = refl }))
waiting_moves (LoadsValue turn code) is running there at busy free =
    moves_by (loading_value (record { turn = turn; code = code; at = at; is = refl; says = refl }))
waiting_moves (LoadsExtra turn code value) is running there at busy free =
    moves_by (loading_extra (record { turn = turn; code = code; value = value; at = at; is = refl; says = refl }))
waiting_moves {m} {c} (Confirming turn reply) is running there at busy free =
    go (cases_eq (round_of_turn m.turn) (round_of_turn turn))
  where
    go : (round_of_turn m.turn ≡ round_of_turn turn) ⊎ (round_of_turn m.turn ≢ round_of_turn turn) → CanMove m c
    go (inl same) =
        moves_by (confirming (record { turn = turn; reply = reply; at = at; same = same; is = refl; says = refl }))
    go (inr other) =
        moves_by (finding_new (record { turn = turn; reply = reply; at = at; other = other; is = refl; says = refl }))
waiting_moves (Lacking turn found) is running there at busy free =
    moves_by (finding_held (record { turn = turn; found = found; at = at; is = refl; says = refl }))
waiting_moves {m} {c} (Taking turn found) is running there at busy free = go (cases_eq m.turn turn)
  where
    go : (m.turn ≡ turn) ⊎ (m.turn ≢ turn) → CanMove m c
    go (inl same) = elim (free_suits is (taken_free turn found is running there at same)).1 [
      | inl calm ↦
          moves_by (taking_sure (record { turn = turn; found = found; at = at; same = same; sure = calm.0; is = refl; says = refl }))
      | inr doubtful ↦
          moves_by (taking_unsure (record { turn = turn; found = found; at = at; same = same; unsure = doubtful; is = refl; says = refl }))
    ]
    go (inr other) =
        moves_by (missing (record { turn = turn; found = found; at = at; other = other; is = refl; says = refl }))
waiting_moves Holding is running there at busy free = absurd (true≢false free)

-- the holder, at a client's number
meets_or_passes : {m : Memory} {c side : ℕ} (d : ℕ) (seen : List Ask) → m.owner ≡ Held c side → m.work ≡ Scanning d AtNumber seen → d < m.start.clients → CanMove m c
meets_or_passes {m} {c} {side} d seen holds at there = go (cases_eq (m.requests d 0) (due_number m d))
  where
    go : (m.requests d 0 ≡ due_number m d) ⊎ (m.requests d 0 ≢ due_number m d) → CanMove m c
    go (inl due) =
        moves_by (meeting (record { side = side; holds = holds; d = d; seen = seen; there = there; at = at; due = due; is = refl; says = refl }))
    go (inr other) =
        moves_by (passing_over (record { side = side; holds = holds; d = d; seen = seen; there = there; at = at; other = other; is = refl; says = refl }))

-- the holder, with a row's word to store
stores_row : {m : Memory} {c side : ℕ} (count : ℕ) → m.owner ≡ Held c side → m.work ≡ Filling count → count < 4 * m.start.clients → CanMove m c
stores_row {m} {c} {side} count holds at below =
    let place : count ≡ 4 * (count / 4) + count % 4 = omega arith in
    moves_by (filling (record { side = side; holds = holds; d = count / 4; place = count % 4; there = omega (arith, below); few = omega arith; at = at ∙ ap Filling place; is = refl; says = refl }))

-- A step

-- moves that nobody sees, and then one on a word
steps_word : {w : World} (middle : World) {c : ℕ} (count : ℕ) → Silents count w middle → IsNotReopening middle.memory.owner → c < clients_of middle.memory → CanMove middle.memory c → IsPossible w (Step c)
steps_word {w} middle {c} count silents running there can = record {
  new = record middle { memory = can.new };
  answer = can.answer;
  next = record { silent = count; middle = middle; silents = silents; move = inl (record { next = can.new; move = record { running = running; there = there; move = can.move }; is = refl }) };
}

-- .. and then a call of the device
calls_device : {w : World} (middle : World) {c side : ℕ} (count : ℕ) (entry made : List LogOp) (op : LogOp) (left : List LogOp) → Silents count w middle → c < clients_of middle.memory → middle.memory.owner ≡ Held c side → middle.progress ≡ InCall entry made (op ∷ left) → IsPossible w (Step c)
calls_device {w} middle {c} {side} count entry made op left silents there holds at = record {
  new = record middle { tale = with_op op middle.tale; progress = InCall entry (made ++ op ∷ []) left };
  answer = Went;
  next = record { silent = count; middle = middle; silents = silents; move = inr (record { there = there; side = side; holds = holds; entry = entry; made = made; op = op; left = left; at = at; is = refl; says = refl }) };
}

held_runs : {owner : Owner} (c side : ℕ) → owner ≡ Held c side → IsNotReopening owner
held_runs c side holds = subst IsNotReopening (sym holds) tt

-- a list with an element somewhere has a first one
first_of_all : {X : Type 0} (a : List X) (x : X) (b : List X) → (first : X) × (rest : List X) × (a ++ x ∷ b ≡ first ∷ rest)
first_of_all [] x b = (x, b, refl)
first_of_all (y ∷ a) x b = (y, a ++ x ∷ b, refl)

pub one_silent : {w new : World} → Silent w new → Silents 1 w new
one_silent {w} {new} silent = (new, silent, refl)

-- the first call of settling
settle_first : (head : Header) (t : Standing) → settle_to head t ≡ Word 0 0 MAGIC ∷ drop 1 (settle_to head t)
settle_first head t = refl

-- the world as it goes on
with_memory : Memory → World → World
with_memory m w = record { memory = m; tale = w.tale; progress = NoCall }

-- the calls of the device that settling makes
settling_steps : {w : World} {c side : ℕ} → c < clients_of w.memory → w.memory.owner ≡ Held c side → w.memory.work ≡ Settling → IsPossible w (Step c)
settling_steps {w} {c} {side} there holds at = go w.progress refl
  where
    scanning : Memory
    scanning = record (w.memory) { work = Scanning 0 AtNumber []; engine = Resting }

    filled : Memory
    filled = record (w.memory) { work = Filling 0; engine = Recorded }

    begun : World
    begun = record w { progress = InCall w.tale.log [] (settling_plan w.memory) }

    ends : (entry made : List LogOp) → w.progress ≡ InCall entry made [] → (ahead : Option Round) → w.memory.ahead ≡ ahead → IsPossible w (Step c)
    ends entry made progress None none =
        steps_word (record { memory = scanning; tale = w.tale; progress = NoCall }) 1 (one_silent (ends_settling_none (record { client = c; there = there; next = scanning; move = record { side = side; holds = holds; at = at; none = none; is = refl }; entry = entry; made = made; at = progress; is = refl }))) (held_runs c side holds) there (meets_or_passes 0 [] holds refl (omega (arith, there)))
    ends entry made progress (Some round) some =
        steps_word (record { memory = filled; tale = w.tale; progress = NoCall }) 1 (one_silent (ends_settling_round (record { client = c; there = there; next = filled; move = record { side = side; holds = holds; round = round; at = at; some = some; is = refl }; entry = entry; made = made; at = progress; is = refl }))) (held_runs c side holds) there (stores_row 0 holds refl (omega (arith, there)))

    go : (progress : CallProgress) → w.progress ≡ progress → IsPossible w (Step c)
    go NoCall idle =
        calls_device begun 1 w.tale.log [] (Word 0 0 MAGIC) (drop 1 (settling_plan w.memory)) (one_silent (begins_settling (record { client = c; side = side; holds = holds; at = at; idle = idle; is = refl }))) there holds refl
    go (InCall entry made []) progress = ends entry made progress w.memory.ahead refl
    go (InCall entry made (op ∷ left)) progress = calls_device w 0 entry made op left refl there holds progress

-- .. and those of a round
calling_steps : {w : World} {c side : ℕ} → IsWorld w → c < clients_of w.memory → w.memory.owner ≡ Held c side → w.memory.work ≡ Calling → IsPossible w (Step c)
calling_steps {w} {c} {side} is there holds at = go w.progress refl
  where
    filled : Memory
    filled = record (w.memory) { work = Filling 0; engine = Recorded }

    go : (progress : CallProgress) → w.progress ≡ progress → IsPossible w (Step c)
    go NoCall idle =
        absurd (fits_in w Writing NoCall idle (work_suits Calling is.memory_is holds at).0 is)
    go (InCall entry made []) progress =
        steps_word (record { memory = filled; tale = w.tale; progress = NoCall }) 1 (one_silent (ends_calls (record { client = c; there = there; next = filled; move = record { side = side; holds = holds; at = at; is = refl }; entry = entry; made = made; at = progress; is = refl }))) (held_runs c side holds) there (stores_row 0 holds refl (omega (arith, there)))
    go (InCall entry made (op ∷ left)) progress = calls_device w 0 entry made op left refl there holds progress

-- a scan that is over leads to the first call of its round
pub plan_first : {tale : Tale} {t : Standing} {round : Round} {plan : List LogOp} → IsRoundPlan tale t round plan → (first : LogOp) × (rest : List LogOp) × (plan ≡ first ∷ rest)
plan_first {tale} {t} {round} {plan} planned =
    let head = header_for t in
    let cells = ops_of_puts head planned.puts in
    let last = last_calls t round in
    let stage = stage_by planned.writes head round.side (rounds_of t round.side) in
    let first = first_of_all (cells ++ stage) (Word (1 + round.side) 0 (rounds_of t round.side + 1)) (drop 1 last) in
    (first.0, first.1, planned.is ∙ (sym (append_assoc cells stage last) ∙ first.2))

begun_steps : {w : World} {c side : ℕ} (seen : List Ask) → IsWorld w → HasPlan w → c < clients_of w.memory → w.memory.owner ≡ Held c side → w.memory.work ≡ Scanning (clients_of w.memory) AtNumber seen → IsPossible w (Step c)
begun_steps {w} {c} {side} seen is plans there holds at = go w.progress refl
  where
    resting : w.memory.engine ≡ Resting
    resting = (work_suits (Scanning (clients_of w.memory) AtNumber seen) is.memory_is holds at).0

    round : Round
    round = round_by side (known_standing w.memory) seen

    next : Memory
    next = record (w.memory) { ahead = Some round; work = Calling; engine = Writing }

    go : (progress : CallProgress) → w.progress ≡ progress → IsPossible w (Step c)
    go NoCall idle =
        let plan = plans c side seen holds at in
        let first = plan_first plan.1 in
        calls_device (record { memory = next; tale = w.tale; progress = InCall w.tale.log [] plan.0 }) 1 w.tale.log [] first.0 first.1 (one_silent (begins_calls (record { client = c; there = there; next = next; move = record { side = side; holds = holds; seen = seen; at = at; is = refl }; idle = idle; plan = plan.0; planned = plan.1; is = refl }))) there holds (ap (InCall w.tale.log []) first.2)
    go (InCall entry made left) progress = absurd (fits_in w Resting (InCall entry made left) progress resting is)

-- The holder

-- a step on a word, at once
now_moves : {w : World} {c side : ℕ} → c < clients_of w.memory → w.memory.owner ≡ Held c side → CanMove w.memory c → IsPossible w (Step c)
now_moves {w} {c} {side} there holds can = steps_word w 0 refl (held_runs c side holds) there can

scanning_steps : {w : World} {c side : ℕ} (d : ℕ) (part : Part) (seen : List Ask) → IsWorld w → HasPlan w → c < clients_of w.memory → w.memory.owner ≡ Held c side → w.memory.work ≡ Scanning d part seen → IsPossible w (Step c)
scanning_steps {w} {c} {side} d AtNumber seen is plans there holds at = go (cases_lt d (clients_of w.memory))
  where
    go : (d < clients_of w.memory) ⊎ (clients_of w.memory ≤ d) → IsPossible w (Step c)
    go (inl below) = now_moves there holds (meets_or_passes d seen holds at below)
    go (inr all) =
        let over : d ≡ clients_of w.memory = omega (arith, all, (the_scan d AtNumber seen is.memory_is holds at).within) in
        begun_steps seen is plans there holds (at ∙ ap (λ (e : ℕ). Scanning e AtNumber seen) over)
scanning_steps {w} {c} {side} d (AtCode number) seen is plans there holds at =
    now_moves there holds (moves_by (scanning_code (record { side = side; holds = holds; d = d; seen = seen; number = number; at = at; is = refl; says = refl })))
scanning_steps {w} {c} {side} d (AtFirst number code) seen is plans there holds at =
    now_moves there holds (moves_by (scanning_first (record { side = side; holds = holds; d = d; seen = seen; number = number; code = code; at = at; is = refl; says = refl })))
scanning_steps {w} {c} {side} d (AtSecond number code a) seen is plans there holds at =
    now_moves there holds (moves_by (scanning_second (record { side = side; holds = holds; d = d; seen = seen; number = number; code = code; a = a; at = at; is = refl; says = refl })))
scanning_steps {w} {c} {side} d (AtThird number code a b) seen is plans there holds at =
    now_moves there holds (go (cases_eq (side_of_operation (scanned w.memory d number code a b).op) side))
  where
    go : (side_of_operation (scanned w.memory d number code a b).op ≡ side) ⊎ (side_of_operation (scanned w.memory d number code a b).op ≢ side) → CanMove w.memory c
    go (inl same) =
        moves_by (scanning_own (record { side = side; holds = holds; d = d; seen = seen; number = number; code = code; a = a; b = b; at = at; same = same; is = refl; says = refl }))
    go (inr other) =
        moves_by (scanning_other (record { side = side; holds = holds; d = d; seen = seen; number = number; code = code; a = a; b = b; at = at; other = other; is = refl; says = refl }))

-- all words of the row are stored
publishes : {m : Memory} {c side : ℕ} → m.owner ≡ Held c side → m.work ≡ Filling (4 * clients_of m) → (ahead : Option Round) → m.ahead ≡ ahead → IsSome ahead → CanMove m c
publishes {m} {c} {side} holds at None none some = absurd (false≢true some)
publishes {m} {c} {side} holds at (Some round) ahead some =
    go (cases_eq (newest_of (known_standing m) c).number (m.book c).ask.number)
  where
    go : ((newest_of (known_standing m) c).number ≡ (m.book c).ask.number) ⊎ ((newest_of (known_standing m) c).number ≢ (m.book c).ask.number) → CanMove m c
    go (inl own) =
        moves_by (publishing_own (record { side = side; holds = holds; round = round; at = at; ahead = ahead; own = own; is = refl; says = refl }))
    go (inr other) =
        moves_by (publishing_others (record { side = side; holds = holds; round = round; at = at; ahead = ahead; other = other; is = refl; says = refl }))

filling_moves : {m : Memory} {c side : ℕ} (count : ℕ) → IsMemory m → m.owner ≡ Held c side → m.work ≡ Filling count → CanMove m c
filling_moves {m} {c} {side} count is holds at = go (cases_lt count (4 * clients_of m))
  where
    go : (count < 4 * clients_of m) ⊎ (4 * clients_of m ≤ count) → CanMove m c
    go (inl below) = stores_row count holds at below
    go (inr all) =
        let over : count ≡ 4 * clients_of m = omega (arith, all, (the_filled count is at).few) in
        publishes holds (at ∙ ap Filling over) m.ahead refl (work_suits (Filling count) is holds at).1

holder_steps : {w : World} {c side : ℕ} (work : Work) → IsWorld w → HasPlan w → c < clients_of w.memory → w.memory.owner ≡ Held c side → w.memory.work ≡ work → IsPossible w (Step c)
holder_steps NoWork is plans there holds at = absurd (work_suits NoWork is.memory_is holds at)
holder_steps Settling is plans there holds at = settling_steps there holds at
holder_steps (Scanning d part seen) is plans there holds at = scanning_steps d part seen is plans there holds at
holder_steps Calling is plans there holds at = calling_steps is there holds at
holder_steps (Filling count) is plans there holds at = now_moves there holds (filling_moves count is.memory_is holds at)
holder_steps {w} {c} {side} (Noting from to) is plans there holds at =
    now_moves there holds (moves_by (noting (record { side = side; holds = holds; from = from; to = to; at = at; is = refl; says = refl })))
holder_steps {w} {c} {side} (GivingUp from to) is plans there holds at =
    now_moves there holds (moves_by (giving_up (record { side = side; holds = holds; from = from; to = to; at = at; is = refl; says = refl })))

-- Every client that isn't idle can step

running : {w : World} {c : ℕ} → IsWorld w → c < clients_of w.memory → is_idle (w.memory.book c).stage ≡ false → (owner : Owner) → w.memory.owner ≡ owner → IsNotReopening owner
running is there busy Free at = tt
running is there busy (Held h side) at = tt
running {w} {c} is there busy Closed at = false≢true (sym busy ∙ (is.memory_is.clients c there).rests at)

pub can_step : {w : World} {c : ℕ} → IsWorld w → HasPlan w → MayStep w c → IsPossible w (Step c)
can_step {w} {c} is plans may = go (cases_Bool (is_holding (w.memory.book c).stage))
  where
    runs : IsNotReopening w.memory.owner
    runs = running is may.there may.busy w.memory.owner refl

    go : (is_holding (w.memory.book c).stage ≡ true) ⊎ (is_holding (w.memory.book c).stage ≡ false) → IsPossible w (Step c)
    go (inl holding) =
        holder_steps w.memory.work is plans may.there ((is.memory_is.clients c may.there).holding holding) refl
    go (inr free) =
        steps_word w 0 refl runs may.there (waiting_moves (w.memory.book c).stage is.memory_is runs may.there refl may.busy free)
