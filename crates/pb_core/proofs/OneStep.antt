-- A step on a word makes one memory, and gives one answer.
use Rattle.std.proofs.Common.{◌≡◌, ◌≢◌, ℕ, suc, ◌+◌, ◌-◌, ◌*◌, ◌/◌, ◌%◌, ◌<◌, [], ◌∷◌, ◌++◌, List, Option, Some, None, length, refl, ap, sym, ◌∙◌, arith, eqb}
use Rattle.std.specs.Prelude.{if◌then◌else◌, ◌==◌}
use Rattle.std.proofs.lemmas.Bool.{eq-eqb, ne_eqb, cond-true, cond-false}
use Rattle.pb_object.specs.declared.request.Ask.{Ask}
use Rattle.pb_object.specs.declared.request.Reply.{Reply}
use Rattle.pb_object.specs.History.{Round}
use Rattle.pb_object.specs.Standing.{newest_of}
use Rattle.pb_events.specs.declared.event.Stepped.{Stepped}
use Rattle.pb_events.specs.declared.event.Stepped.TheVariants.{Went, Done, Busy, Fault, Impossible}
use Rattle.pb_core.specs.Client.{Stage, Idle, Storing, Looking, LoadsNumber, LoadsCode, LoadsValue, LoadsExtra, Confirming, Lacking, Taking, Holding, ask_word, row_word}
use Rattle.pb_core.specs.Memory.{Owner, Free, Held, Closed, Part, AtNumber, AtCode, AtFirst, AtSecond, AtThird, Work, NoWork, Settling, Scanning, Calling, Filling, Noting, GivingUp, Engine, Resting, Recorded, Writing, Doubtful, Memory, with_client, clients_of, known_standing, side_of_operation, round_of_turn}
use Rattle.pb_core.specs.MemoryParts.{IsMemory}
use Rattle.pb_core.specs.WordMoves.{steps_to, finds_turn, with_answer, with_published, with_request_word, with_row_word, next_row, own_row, due_number, scanned, WordMove, storing, announcing, looking, matching, lacking_held, lacking_free, loading_code, loading_value, loading_extra, confirming, finding_new, finding_held, taking_sure, taking_unsure, missing, passing_over, meeting, scanning_code, scanning_first, scanning_second, scanning_own, scanning_other, filling, publishing_own, publishing_others, noting, giving_up}
use Rattle.pb_core.proofs.Causes.{holder_at}

-- what a step makes, and the answer
abbrev pub Made : Type 0
Made = Memory × Stepped

went : Memory → Made
went m = (m, Went)

abbrev pub stores : Memory → ℕ → ℕ → Made
stores m c place =
    if place == 4 then (record (steps_to c Looking m) { requests = with_request_word c 0 (m.book c).ask.number m.requests }, Went) else (record (steps_to c (Storing (suc place)) m) { requests = with_request_word c (suc place) (ask_word (m.book c).ask (suc place)) m.requests }, Went)

abbrev pub loads_number : Memory → ℕ → ℕ → Made
loads_number m c turn =
    if own_row m turn c 0 == (m.book c).ask.number then (steps_to c (LoadsCode turn) m, Went) else (if turn % 2 == 1 then (steps_to c (Lacking turn (own_row m turn c 0)) m, Went) else (steps_to c (Taking turn (own_row m turn c 0)) m, Went))

abbrev pub confirms : Memory → ℕ → ℕ → Reply → Made
confirms m c turn reply =
    if round_of_turn m.turn == round_of_turn turn then (with_answer c reply (round_of_turn m.turn) m, Done (m.book c).ask reply) else (finds_turn c Looking m.turn m, Busy (m.book c).ask turn m.turn)

abbrev pub takes_by : Engine → Memory → ℕ → ℕ → Made
takes_by Resting m c turn = (record (steps_to c Holding m) { turn = turn + 1; owner = Held c (side_of_operation (m.book c).ask.op); work = Scanning 0 AtNumber [] }, Went)
takes_by Recorded m c turn = (m, Impossible)
takes_by Writing m c turn = (m, Impossible)
takes_by Doubtful m c turn = (record (steps_to c Holding m) { turn = turn + 1; owner = Held c (side_of_operation (m.book c).ask.op); work = Settling }, Went)

abbrev pub takes : Memory → ℕ → ℕ → Made
takes m c turn =
    if m.turn == turn then takes_by m.engine m c turn else (finds_turn c Looking m.turn m, Busy (m.book c).ask turn m.turn)

abbrev pub held_side : Owner → ℕ
held_side Free = 0
held_side (Held c side) = side
held_side Closed = 0

abbrev pub scans : Memory → ℕ → Part → List Ask → Made
scans m d AtNumber seen =
    if m.requests d 0 == due_number m d then (record m { work = Scanning d (AtCode (m.requests d 0)) seen }, Went) else (record m { work = Scanning (suc d) AtNumber seen }, Went)
scans m d (AtCode number) seen = (record m { work = Scanning d (AtFirst number (m.requests d 1)) seen }, Went)
scans m d (AtFirst number code) seen = (record m { work = Scanning d (AtSecond number code (m.requests d 2)) seen }, Went)
scans m d (AtSecond number code a) seen = (record m { work = Scanning d (AtThird number code a (m.requests d 3)) seen }, Went)
scans m d (AtThird number code a b) seen =
    if side_of_operation (scanned m d number code a b).op == held_side m.owner then (record m { work = Scanning (suc d) AtNumber (seen ++ scanned m d number code a b ∷ []) }, Went) else (record m { work = Scanning (suc d) AtNumber seen }, Went)

abbrev pub publishes : Option Round → Memory → ℕ → Made
publishes None m c = (m, Impossible)
publishes (Some round) m c =
    if (newest_of (known_standing m) c).number == (m.book c).ask.number then (with_answer c (newest_of (known_standing m) c).reply (suc (length m.published)) (with_published round m), Done (m.book c).ask (newest_of (known_standing m) c).reply) else (with_client c (record (m.book c) { stage = Looking; front = suc (length m.published) }) (with_published round m), Busy (m.book c).ask (m.turn - 1) (m.turn + 1))

abbrev pub stores_row : Memory → ℕ → ℕ → Made
stores_row m d place = (record m { rows = with_row_word (next_row m) d place (row_word (newest_of (known_standing m) d) place) m.rows; work = Filling (suc (4 * d + place)) }, Went)

abbrev pub fills : Memory → ℕ → ℕ → Made
fills m c count = if count == 4 * clients_of m then publishes m.ahead m c else stores_row m (count / 4) (count % 4)

abbrev pub works : Work → Memory → ℕ → Made
works NoWork m c = (m, Impossible)
works Settling m c = (m, Impossible)
works (Scanning d part seen) m c = scans m d part seen
works Calling m c = (m, Impossible)
works (Filling count) m c = fills m c count
works (Noting from to) m c = (record m { noted = to; work = GivingUp from to }, Went)
works (GivingUp from to) m c = (record (steps_to c Looking m) { turn = m.turn - 1; owner = Free; work = NoWork }, Fault (m.book c).ask from to)

abbrev pub makes : Stage → Memory → ℕ → Made
makes Idle m c = (m, Impossible)
makes (Storing count) m c = stores m c count
makes Looking m c = (finds_turn c (LoadsNumber m.turn) m.turn m, Went)
makes (LoadsNumber turn) m c = loads_number m c turn
makes (LoadsCode turn) m c = (steps_to c (LoadsValue turn (own_row m turn c 1)) m, Went)
makes (LoadsValue turn code) m c = (steps_to c (LoadsExtra turn code (own_row m turn c 2)) m, Went)
makes (LoadsExtra turn code value) m c = (steps_to c (Confirming turn (record { code = code; value = value; extra = own_row m turn c 3 })) m, Went)
makes (Confirming turn reply) m c = confirms m c turn reply
makes (Lacking turn found) m c = (finds_turn c Looking m.turn m, Busy (m.book c).ask turn m.turn)
makes (Taking turn found) m c = takes m c turn
makes Holding m c = works m.work m c

-- a test that comes out true, or false
yes_at : {A : Type 0} (a b : ℕ) (x y : A) → a ≡ b → (if a == b then x else y) ≡ x
yes_at a b x y same = cond-true (eqb a b) x y (eq-eqb a b same)

no_at : {A : Type 0} (a b : ℕ) (x y : A) → a ≢ b → (if a == b then x else y) ≡ y
no_at a b x y other = cond-false (eqb a b) x y (ne_eqb a b other)

waits_at : (old : Memory) (c : ℕ) {new : Memory} {answer : Stepped} (stage : Stage) (after : Memory) (says : Stepped) → new ≡ after → answer ≡ says → (old.book c).stage ≡ stage → makes stage old c ≡ (after, says) → (new, answer) ≡ makes (old.book c).stage old c
waits_at old c {new} {answer} stage after says is it at gives =
    (λ i. (is i, it i)) ∙ (sym gives ∙ sym (ap (λ (s : Stage). makes s old c) at))

holds_at : (old : Memory) (c : ℕ) {side : ℕ} {new : Memory} {answer : Stepped} (work : Work) (after : Memory) (says : Stepped) → IsMemory old → c < clients_of old → old.owner ≡ Held c side → new ≡ after → answer ≡ says → old.work ≡ work → works work old c ≡ (after, says) → (new, answer) ≡ makes (old.book c).stage old c
holds_at old c {side} {new} {answer} work after says is there holds after_is it at gives =
    (λ i. (after_is i, it i)) ∙ (sym gives ∙ (sym (ap (λ (w : Work). works w old c) at) ∙ sym (ap (λ (s : Stage). makes s old c) (holder_at is there holds))))

pub word_makes : {old new : Memory} {c : ℕ} {answer : Stepped} → IsMemory old → c < clients_of old → WordMove old c new answer → (new, answer) ≡ makes (old.book c).stage old c
word_makes {old} {new} {c} is there (storing move) =
    waits_at old c (Storing move.place) _ _ move.is move.says move.at (no_at move.place 4 _ _ (λ e. omega (arith, e, move.few)))
word_makes {old} {new} {c} is there (announcing move) =
    waits_at old c (Storing 4) _ _ move.is move.says move.at refl
word_makes {old} {new} {c} is there (looking move) = waits_at old c Looking _ _ move.is move.says move.at refl
word_makes {old} {new} {c} is there (matching move) =
    waits_at old c (LoadsNumber move.turn) _ _ move.is move.says move.at (yes_at (own_row old move.turn c 0) (old.book c).ask.number _ _ move.own)
word_makes {old} {new} {c} is there (lacking_held move) =
    waits_at old c (LoadsNumber move.turn) _ _ move.is move.says move.at (no_at (own_row old move.turn c 0) (old.book c).ask.number _ _ move.other ∙ yes_at (move.turn % 2) 1 _ _ move.held)
word_makes {old} {new} {c} is there (lacking_free move) =
    waits_at old c (LoadsNumber move.turn) _ _ move.is move.says move.at (no_at (own_row old move.turn c 0) (old.book c).ask.number _ _ move.other ∙ no_at (move.turn % 2) 1 _ _ (λ e. omega (arith, e, move.free)))
word_makes {old} {new} {c} is there (loading_code move) = waits_at old c (LoadsCode move.turn) _ _ move.is move.says move.at refl
word_makes {old} {new} {c} is there (loading_value move) = waits_at old c (LoadsValue move.turn move.code) _ _ move.is move.says move.at refl
word_makes {old} {new} {c} is there (loading_extra move) = waits_at old c (LoadsExtra move.turn move.code move.value) _ _ move.is move.says move.at refl
word_makes {old} {new} {c} is there (confirming move) =
    waits_at old c (Confirming move.turn move.reply) _ _ move.is move.says move.at (yes_at (round_of_turn old.turn) (round_of_turn move.turn) _ _ move.same)
word_makes {old} {new} {c} is there (finding_new move) =
    waits_at old c (Confirming move.turn move.reply) _ _ move.is move.says move.at (no_at (round_of_turn old.turn) (round_of_turn move.turn) _ _ move.other)
word_makes {old} {new} {c} is there (finding_held move) = waits_at old c (Lacking move.turn move.found) _ _ move.is move.says move.at refl
word_makes {old} {new} {c} is there (taking_sure move) =
    waits_at old c (Taking move.turn move.found) _ _ move.is move.says move.at (yes_at old.turn move.turn _ _ move.same ∙ ap (λ (e : Engine). takes_by e old c move.turn) move.sure)
word_makes {old} {new} {c} is there (taking_unsure move) =
    waits_at old c (Taking move.turn move.found) _ _ move.is move.says move.at (yes_at old.turn move.turn _ _ move.same ∙ ap (λ (e : Engine). takes_by e old c move.turn) move.unsure)
word_makes {old} {new} {c} is there (missing move) =
    waits_at old c (Taking move.turn move.found) _ _ move.is move.says move.at (no_at old.turn move.turn _ _ move.other)
word_makes {old} {new} {c} is there (passing_over move) =
    holds_at old c (Scanning move.d AtNumber move.seen) _ _ is there move.holds move.is move.says move.at (no_at (old.requests move.d 0) (due_number old move.d) _ _ move.other)
word_makes {old} {new} {c} is there (meeting move) =
    holds_at old c (Scanning move.d AtNumber move.seen) _ _ is there move.holds move.is move.says move.at (yes_at (old.requests move.d 0) (due_number old move.d) _ _ move.due)
word_makes {old} {new} {c} is there (scanning_code move) = holds_at old c (Scanning move.d (AtCode move.number) move.seen) _ _ is there move.holds move.is move.says move.at refl
word_makes {old} {new} {c} is there (scanning_first move) = holds_at old c (Scanning move.d (AtFirst move.number move.code) move.seen) _ _ is there move.holds move.is move.says move.at refl
word_makes {old} {new} {c} is there (scanning_second move) = holds_at old c (Scanning move.d (AtSecond move.number move.code move.a) move.seen) _ _ is there move.holds move.is move.says move.at refl
word_makes {old} {new} {c} is there (scanning_own move) =
    holds_at old c (Scanning move.d (AtThird move.number move.code move.a move.b) move.seen) _ _ is there move.holds move.is move.says move.at
    (yes_at (side_of_operation (scanned old move.d move.number move.code move.a move.b).op) (held_side old.owner) _ _ (move.same ∙ sym (ap held_side move.holds)))
word_makes {old} {new} {c} is there (scanning_other move) =
    holds_at old c (Scanning move.d (AtThird move.number move.code move.a move.b) move.seen) _ _ is there move.holds move.is move.says move.at
    (no_at (side_of_operation (scanned old move.d move.number move.code move.a move.b).op) (held_side old.owner) _ _ (λ e. move.other (e ∙ ap held_side move.holds)))
word_makes {old} {new} {c} is there (filling move) =
    let client : (4 * move.d + move.place) / 4 ≡ move.d = omega (arith, move.few) in
    let place : (4 * move.d + move.place) % 4 ≡ move.place = omega (arith, move.few) in
    holds_at old c (Filling (4 * move.d + move.place)) _ _ is there move.holds move.is move.says move.at
    (no_at (4 * move.d + move.place) (4 * clients_of old) _ _ (λ e. omega (arith, e, move.there, move.few)) ∙ (λ i. stores_row old (client i) (place i)))
word_makes {old} {new} {c} is there (publishing_own move) =
    holds_at old c (Filling (4 * clients_of old)) _ _ is there move.holds move.is move.says move.at
    (yes_at (4 * clients_of old) (4 * clients_of old) _ _ refl ∙ (ap (λ (a : Option Round). publishes a old c) move.ahead ∙ yes_at (newest_of (known_standing old) c).number (old.book c).ask.number _ _ move.own))
word_makes {old} {new} {c} is there (publishing_others move) =
    holds_at old c (Filling (4 * clients_of old)) _ _ is there move.holds move.is move.says move.at
    (yes_at (4 * clients_of old) (4 * clients_of old) _ _ refl ∙ (ap (λ (a : Option Round). publishes a old c) move.ahead ∙ no_at (newest_of (known_standing old) c).number (old.book c).ask.number _ _ move.other))
word_makes {old} {new} {c} is there (noting move) = holds_at old c (Noting move.from move.to) _ _ is there move.holds move.is move.says move.at refl
word_makes {old} {new} {c} is there (giving_up move) = holds_at old c (GivingUp move.from move.to) _ _ is there move.holds move.is move.says move.at refl
