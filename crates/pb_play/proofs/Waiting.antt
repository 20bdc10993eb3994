-- The steps of a client that waits.
use Rattle.std.proofs.Common.{◌≡◌, ◌≢◌, ◌⊎◌, ℕ, zero, suc, ◌%◌, ◌<◌, Bool, false, ap, sym, refl, ◌∙◌, inl, inr, arith}
use Rattle.std.specs.Prelude.{IsTrue, ◌↔◌}
use Rattle.std.proofs.lemmas.Bool.{cases_eq, false≢true}
use Rattle.pb_object.specs.declared.request.Ask.{Ask}
use Rattle.pb_object.specs.declared.request.Reply.{Reply}
use Rattle.pb_events.specs.declared.event.Stepped.{Stepped}
use Rattle.pb_events.specs.declared.event.Stepped.TheVariants.{Went, Busy}
use Rattle.pb_core.specs.Client as core
use Rattle.pb_core.specs.Memory.{Memory, clients_of, round_of_turn}
use Rattle.pb_core.specs.WordMoves.{go_to, sees, own_row, looking, matching, lacking_held, lacking_free, loading_code, loading_value, loading_extra, finding_new, finding_held, missing}
use Rattle.pb_play.specs.declared.memory.Memory.{Memory as CodeMemory}
use Rattle.pb_round_play.specs.declared.seat.Row.{Row}
use Rattle.pb_round_play.specs.declared.seat.Stage.{Stage}
use Rattle.pb_round_play.specs.declared.seat.Stage.TheVariants.{Looking, LoadsNumber, LoadsCode, LoadsValue, LoadsExtra, Confirming, Lacking, Taking}
use Rattle.pb_round_play.specs.Seats.{row_by}
use Rattle.pb_play.specs.Maps.{stage_of, word_of_row}
use Rattle.pb_play.specs.Seats.{seat_of, goes_to}
use Rattle.pb_play.specs.Shown.{ShowsMemory}
use Rattle.pb_play.specs.Steps.{MakesWordStep}
use Rattle.pb_play.proofs.Clients.{stage_step}

-- where a client stands
pub stands_at : {p : CodeMemory} {m : Memory} (c : ℕ) {stage : Stage} → ShowsMemory p m → c < clients_of m → (seat_of p c).stage ≡ stage → (m.book c).stage ≡ stage_of stage
stands_at c s within at = (s.clients c within).stage ∙ ap stage_of at

-- a word of its published row
pub row_word_is : {p : CodeMemory} {m : Memory} (c turn place : ℕ) → ShowsMemory p m → c < clients_of m → place < 4 → own_row m turn c place ≡ word_of_row (row_by (seat_of p c) (round_of_turn turn % 2)) place
row_word_is {p} {m} c turn place s within few = go (round_of_turn turn % 2) (omega arith)
  where
    go : (row : ℕ) → row < 2 → m.rows row c place ≡ word_of_row (row_by (seat_of p c) row) place
    go zero small = (s.clients c within).even place few
    go (suc zero) small = (s.clients c within).odd place few
    go (suc (suc more)) small = absurd (omega (arith, small))

pub looks : {old new : CodeMemory} {answer : Stepped} (c : ℕ) → (seat_of old c).stage ≡ Looking → new ≡ goes_to c (LoadsNumber old.turn) old → answer ≡ Went → MakesWordStep old c new answer
looks {old} c at after says m s sound fits running within =
    stage_step c (LoadsNumber old.turn) (sees (core.LoadsNumber m.turn) m.turn (m.book c)) s within
    (record { running = running; there = within; move = looking (record { at = stands_at c s within at; is = refl; says = refl }) })
    says after (ap core.LoadsNumber s.turn) refl refl

-- the row that the code read
abbrev pub IsRead : CodeMemory → ℕ → ℕ → Row → Type 0
IsRead p c turn row = row ≡ row_by (seat_of p c) (round_of_turn turn % 2)

pub loads_code : {old new : CodeMemory} {answer : Stepped} (c turn : ℕ) (row : Row) → IsRead old c turn row → (seat_of old c).stage ≡ LoadsCode turn → new ≡ goes_to c (LoadsValue turn row.reply.code) old → answer ≡ Went → MakesWordStep old c new answer
loads_code {old} c turn row is at after says m s sound fits running within =
    stage_step c (LoadsValue turn row.reply.code) (go_to (core.LoadsValue turn (own_row m turn c 1)) (m.book c)) s within
    (record { running = running; there = within; move = loading_code (record { turn = turn; at = stands_at c s within at; is = refl; says = refl }) })
    says after (ap (core.LoadsValue turn) (row_word_is c turn 1 s within (omega arith) ∙ ap (λ (r : Row). r.reply.code) (sym is))) refl refl

pub loads_value : {old new : CodeMemory} {answer : Stepped} (c turn code : ℕ) (row : Row) → IsRead old c turn row → (seat_of old c).stage ≡ LoadsValue turn code → new ≡ goes_to c (LoadsExtra turn code row.reply.value) old → answer ≡ Went → MakesWordStep old c new answer
loads_value {old} c turn code row is at after says m s sound fits running within =
    stage_step c (LoadsExtra turn code row.reply.value) (go_to (core.LoadsExtra turn code (own_row m turn c 2)) (m.book c)) s within
    (record { running = running; there = within; move = loading_value (record { turn = turn; code = code; at = stands_at c s within at; is = refl; says = refl }) })
    says after (ap (core.LoadsExtra turn code) (row_word_is c turn 2 s within (omega arith) ∙ ap (λ (r : Row). r.reply.value) (sym is))) refl refl

pub loads_extra : {old new : CodeMemory} {answer : Stepped} (c turn code value : ℕ) (row : Row) → IsRead old c turn row → (seat_of old c).stage ≡ LoadsExtra turn code value → new ≡ goes_to c (Confirming turn (record { code = code; value = value; extra = row.reply.extra })) old → answer ≡ Went → MakesWordStep old c new answer
loads_extra {old} c turn code value row is at after says m s sound fits running within =
    stage_step c (Confirming turn (record { code = code; value = value; extra = row.reply.extra }))
    (go_to (core.Confirming turn (record { code = code; value = value; extra = own_row m turn c 3 })) (m.book c)) s within
    (record { running = running; there = within; move = loading_extra (record { turn = turn; code = code; value = value; at = stands_at c s within at; is = refl; says = refl }) })
    says after (ap (λ (extra : ℕ). core.Confirming turn (record { code = code; value = value; extra = extra })) (row_word_is c turn 3 s within (omega arith) ∙ ap (λ (r : Row). r.reply.extra) (sym is))) refl refl

-- Its row's number

-- the number that it found is its own, ..
pub matches : {old new : CodeMemory} {answer : Stepped} (c turn : ℕ) (row : Row) → IsRead old c turn row → (seat_of old c).stage ≡ LoadsNumber turn → row.number ≡ (seat_of old c).ask.number → new ≡ goes_to c (LoadsCode turn) old → answer ≡ Went → MakesWordStep old c new answer
matches {old} c turn row is at own after says m s sound fits running within =
    stage_step c (LoadsCode turn) (go_to (core.LoadsCode turn) (m.book c)) s within
    (record { running = running; there = within; move = matching (record { turn = turn; at = stands_at c s within at; own = row_word_is c turn 0 s within (omega arith) ∙ (ap (λ (r : Row). r.number) (sym is) ∙ (own ∙ ap (λ (a : Ask). a.number) (sym (s.clients c within).ask))); is = refl; says = refl }) })
    says after refl refl refl

-- .. or another one: then it isn't in memory either
other_number : {old : CodeMemory} {m : Memory} (c turn : ℕ) (row : Row) → IsRead old c turn row → ShowsMemory old m → c < clients_of m → row.number ≢ (seat_of old c).ask.number → own_row m turn c 0 ≢ (m.book c).ask.number
other_number c turn row is s within other same =
    other (ap (λ (r : Row). r.number) is ∙ (sym (row_word_is c turn 0 s within (omega arith)) ∙ (same ∙ ap (λ (a : Ask). a.number) (s.clients c within).ask)))

found_number : {old : CodeMemory} {m : Memory} (c turn : ℕ) (row : Row) → IsRead old c turn row → ShowsMemory old m → c < clients_of m → own_row m turn c 0 ≡ row.number
found_number c turn row is s within = row_word_is c turn 0 s within (omega arith) ∙ ap (λ (r : Row). r.number) (sym is)

pub lacks_held : {old new : CodeMemory} {answer : Stepped} (c turn : ℕ) (row : Row) → IsRead old c turn row → (seat_of old c).stage ≡ LoadsNumber turn → row.number ≢ (seat_of old c).ask.number → turn % 2 ≡ 1 → new ≡ goes_to c (Lacking turn row.number) old → answer ≡ Went → MakesWordStep old c new answer
lacks_held {old} c turn row is at other held after says m s sound fits running within =
    stage_step c (Lacking turn row.number) (go_to (core.Lacking turn (own_row m turn c 0)) (m.book c)) s within
    (record { running = running; there = within; move = lacking_held (record { turn = turn; at = stands_at c s within at; other = other_number c turn row is s within other; held = held; is = refl; says = refl }) })
    says after (ap (core.Lacking turn) (found_number c turn row is s within)) refl refl

pub lacks_free : {old new : CodeMemory} {answer : Stepped} (c turn : ℕ) (row : Row) → IsRead old c turn row → (seat_of old c).stage ≡ LoadsNumber turn → row.number ≢ (seat_of old c).ask.number → turn % 2 ≡ 0 → new ≡ goes_to c (Taking turn row.number) old → answer ≡ Went → MakesWordStep old c new answer
lacks_free {old} c turn row is at other free after says m s sound fits running within =
    stage_step c (Taking turn row.number) (go_to (core.Taking turn (own_row m turn c 0)) (m.book c)) s within
    (record { running = running; there = within; move = lacking_free (record { turn = turn; at = stands_at c s within at; other = other_number c turn row is s within other; free = free; is = refl; says = refl }) })
    says after (ap (core.Taking turn) (found_number c turn row is s within)) refl refl

-- Trying again

abbrev IsBusy : CodeMemory → ℕ → ℕ → Stepped → Type 0
IsBusy old c turn answer = answer ≡ Busy (seat_of old c).ask turn old.turn

busy_is : {old : CodeMemory} {m : Memory} {answer : Stepped} (c turn : ℕ) → ShowsMemory old m → c < clients_of m → IsBusy old c turn answer → answer ≡ Busy (m.book c).ask turn m.turn
busy_is {old} {m} c turn s within says = says ∙ (λ i. Busy (sym (s.clients c within).ask i) turn (sym s.turn i))

pub finds_new : {old new : CodeMemory} {answer : Stepped} (c turn : ℕ) (reply : Reply) → (seat_of old c).stage ≡ Confirming turn reply → round_of_turn old.turn ≢ round_of_turn turn → new ≡ goes_to c Looking old → IsBusy old c turn answer → MakesWordStep old c new answer
finds_new {old} c turn reply at other after says m s sound fits running within =
    stage_step c Looking (sees core.Looking m.turn (m.book c)) s within
    (record { running = running; there = within; move = finding_new (record { turn = turn; reply = reply; at = stands_at c s within at; other = λ same. other (ap round_of_turn (sym s.turn) ∙ same); is = refl; says = refl }) })
    (busy_is c turn s within says) after refl refl refl

pub finds_held : {old new : CodeMemory} {answer : Stepped} (c turn found : ℕ) → (seat_of old c).stage ≡ Lacking turn found → new ≡ goes_to c Looking old → IsBusy old c turn answer → MakesWordStep old c new answer
finds_held {old} c turn found at after says m s sound fits running within =
    stage_step c Looking (sees core.Looking m.turn (m.book c)) s within
    (record { running = running; there = within; move = finding_held (record { turn = turn; found = found; at = stands_at c s within at; is = refl; says = refl }) })
    (busy_is c turn s within says) after refl refl refl

pub misses : {old new : CodeMemory} {answer : Stepped} (c turn found : ℕ) → (seat_of old c).stage ≡ Taking turn found → old.turn ≢ turn → new ≡ goes_to c Looking old → IsBusy old c turn answer → MakesWordStep old c new answer
misses {old} c turn found at other after says m s sound fits running within =
    stage_step c Looking (sees core.Looking m.turn (m.book c)) s within
    (record { running = running; there = within; move = missing (record { turn = turn; found = found; at = stands_at c s within at; other = λ same. other (sym s.turn ∙ same); is = refl; says = refl }) })
    (busy_is c turn s within says) after refl refl refl

-- no round was published since
pub same_round : {b : Bool} {m n : ℕ} → IsTrue b ↔ (m ≢ n) → b ≡ false → m ≡ n
same_round {b} {m} {n} iff none = go (cases_eq m n)
  where
    go : (m ≡ n) ⊎ (m ≢ n) → m ≡ n
    go (inl same) = same
    go (inr apart) = absurd (false≢true (sym none ∙ iff.1 apart))
