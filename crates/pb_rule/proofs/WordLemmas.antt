-- The words of the table, where one of them is stored.
use Rattle.std.proofs.Common.{◌≡◌, ◌≢◌, ◌⊎◌, ℕ, ◌%◌, ◌<◌, List, length, get_or, set, sym, refl, ap, ◌∙◌, subst, inl, inr, arith, length-set, get_or-set_same, get_or-set_other}
use Rattle.std.proofs.lemmas.Bool.{cases_eq}
use Rattle.pb_core.specs.Memory.{Memory, with_at, clients_of}
use Rattle.pb_core.specs.WordMoves.{with_request_word, with_row_word}
use Rattle.pb_core.proofs.Basics.{with_at-same, with_at-other}
use Rattle.pb_rule.specs.Rule.{request_place, row_place, word_count, HasWords}

-- memory with the same words, but for these
pub words_of : {m : Memory} {words : List ℕ} (new : Memory) (after : List ℕ) → HasWords m words → clients_of new ≡ clients_of m → length after ≡ length words → get_or after 0 0 ≡ new.turn → get_or after 1 0 ≡ new.noted
    → ((client place : ℕ) → client < clients_of m → place < 5 → get_or after (request_place client place) 0 ≡ new.requests client place)
    → ((row client place : ℕ) → row < 2 → client < clients_of m → place < 4 → get_or after (row_place client row place) 0 ≡ new.rows row client place)
    → HasWords new after
words_of {m} {words} new after has clients long turn noted requests rows = record {
  long = long ∙ (has.long ∙ ap word_count (sym clients));
  turn = turn;
  noted = noted;
  requests = λ client place there few. requests client place (subst (λ (n : ℕ). client < n) clients there) few;
  rows = λ row client place which there few. rows row client place which (subst (λ (n : ℕ). client < n) clients there) few;
}

-- another turn word
pub turn_stored : {m : Memory} {words : List ℕ} (turn : ℕ) → HasWords m words → HasWords (record m { turn = turn }) (set words 0 turn)
turn_stored {m} {words} turn has = words_of (record m { turn = turn }) (set words 0 turn) has refl (length-set words 0 turn)
    (get_or-set_same words 0 turn 0 (omega (arith, has.long)))
    (get_or-set_other words 0 1 turn 0 (λ e. omega (arith, e)) ∙ has.noted)
    (λ client place there few. get_or-set_other words 0 (request_place client place) turn 0 (λ e. omega (arith, e)) ∙ has.requests client place there few)
    (λ row client place which there few. get_or-set_other words 0 (row_place client row place) turn 0 (λ e. omega (arith, e)) ∙ has.rows row client place which there few)

-- another count of faults
pub noted_stored : {m : Memory} {words : List ℕ} (noted : ℕ) → HasWords m words → HasWords (record m { noted = noted }) (set words 1 noted)
noted_stored {m} {words} noted has = words_of (record m { noted = noted }) (set words 1 noted) has refl (length-set words 1 noted)
    (get_or-set_other words 1 0 noted 0 (λ e. omega (arith, e)) ∙ has.turn)
    (get_or-set_same words 1 noted 0 (omega (arith, has.long)))
    (λ client place there few. get_or-set_other words 1 (request_place client place) noted 0 (λ e. omega (arith, e)) ∙ has.requests client place there few)
    (λ row client place which there few. get_or-set_other words 1 (row_place client row place) noted 0 (λ e. omega (arith, e)) ∙ has.rows row client place which there few)

-- Places lie apart

request_apart : (c w d x : ℕ) → w < 5 → x < 5 → (c ≢ d) ⊎ (w ≢ x) → request_place c w ≢ request_place d x
request_apart c w d x few less (inl apart) e = apart (omega (arith, e))
request_apart c w d x few less (inr apart) e = apart (omega (arith, e))

row_apart : (c r w d s x : ℕ) → r < 2 → s < 2 → w < 4 → x < 4 → row_place c r w ≡ row_place d s x → (c ≡ d) × (r ≡ s) × (w ≡ x)
row_apart c r w d s x one two few less e = (omega (arith, e), omega (arith, e), omega (arith, e))

request_row_apart : (c w d s x : ℕ) → w < 5 → s < 2 → x < 4 → request_place c w ≢ row_place d s x
request_row_apart c w d s x few two less e = omega (arith, e)

-- another word of a request
pub request_stored : {m : Memory} {words : List ℕ} (client place word : ℕ) → client < clients_of m → place < 5 → HasWords m words
    → HasWords (record m { requests = with_request_word client place word m.requests }) (set words (request_place client place) word)
request_stored {m} {words} client place word there few has =
    words_of (record m { requests = with_request_word client place word m.requests }) (set words here word) has refl (length-set words here word)
    (get_or-set_other words here 0 word 0 (λ e. omega (arith, e)) ∙ has.turn)
    (get_or-set_other words here 1 word 0 (λ e. omega (arith, e)) ∙ has.noted)
    (λ d x inside less. by_client d x inside less (cases_eq d client))
    (λ row d x which inside less. get_or-set_other words here (row_place d row x) word 0 (λ e. request_row_apart client place d row x few which less (sym e)) ∙ has.rows row d x which inside less)
  where
    here : ℕ
    here = request_place client place

    low : here < length words
    low = omega (arith, has.long, there, few)

    by_place : (x : ℕ) → x < 5 → (x ≡ place) ⊎ (x ≢ place) → get_or (set words here word) (request_place client x) 0 ≡ with_at place word (m.requests client) x
    by_place x less (inl same) =
        subst (λ (y : ℕ). get_or (set words here word) (request_place client y) 0 ≡ with_at place word (m.requests client) y) (sym same) (get_or-set_same words here word 0 low ∙ sym (with_at-same place word (m.requests client)))
    by_place x less (inr apart) =
        get_or-set_other words here (request_place client x) word 0 (request_apart client x client place less few (inr apart)) ∙ (has.requests client x there less ∙ sym (with_at-other place word (m.requests client) x apart))

    by_client : (d x : ℕ) → d < clients_of m → x < 5 → (d ≡ client) ⊎ (d ≢ client) → get_or (set words here word) (request_place d x) 0 ≡ with_request_word client place word m.requests d x
    by_client d x inside less (inl same) =
        subst (λ (c : ℕ). get_or (set words here word) (request_place c x) 0 ≡ with_request_word client place word m.requests c x) (sym same) (by_place x less (cases_eq x place) ∙ sym (ap (λ (f : ℕ → ℕ). f x) (with_at-same client (with_at place word (m.requests client)) m.requests)))
    by_client d x inside less (inr apart) =
        get_or-set_other words here (request_place d x) word 0 (request_apart d x client place less few (inl apart)) ∙ (has.requests d x inside less ∙ sym (ap (λ (f : ℕ → ℕ). f x) (with_at-other client (with_at place word (m.requests client)) m.requests d apart)))

-- another word of a row
pub row_stored : {m : Memory} {words : List ℕ} (row client place word : ℕ) → row < 2 → client < clients_of m → place < 4 → HasWords m words
    → HasWords (record m { rows = with_row_word row client place word m.rows }) (set words (row_place client row place) word)
row_stored {m} {words} row client place word which there few has =
    words_of (record m { rows = with_row_word row client place word m.rows }) (set words here word) has refl (length-set words here word)
    (get_or-set_other words here 0 word 0 (λ e. omega (arith, e)) ∙ has.turn)
    (get_or-set_other words here 1 word 0 (λ e. omega (arith, e)) ∙ has.noted)
    (λ d x inside less. get_or-set_other words here (request_place d x) word 0 (request_row_apart d x client row place less which few) ∙ has.requests d x inside less)
    (λ s d x two inside less. by_row s d x two inside less (cases_eq s row))
  where
    here : ℕ
    here = row_place client row place

    low : here < length words
    low = omega (arith, has.long, there, few, which)

    one : ℕ → ℕ
    one = with_at place word (m.rows row client)

    all : ℕ → ℕ → ℕ
    all = with_at client (with_at place word (m.rows row client)) (m.rows row)

    after : ℕ → ℕ → ℕ → ℕ
    after = with_row_word row client place word m.rows

    other : (s d x : ℕ) → s < 2 → d < clients_of m → x < 4 → row_place d s x ≢ here → get_or (set words here word) (row_place d s x) 0 ≡ m.rows s d x
    other s d x two inside less apart =
        get_or-set_other words here (row_place d s x) word 0 apart ∙ has.rows s d x two inside less

    by_place : (x : ℕ) → x < 4 → (x ≡ place) ⊎ (x ≢ place) → get_or (set words here word) (row_place client row x) 0 ≡ with_at place word (m.rows row client) x
    by_place x less (inl same) =
        subst (λ (y : ℕ). get_or (set words here word) (row_place client row y) 0 ≡ with_at place word (m.rows row client) y) (sym same) (get_or-set_same words here word 0 low ∙ sym (with_at-same place word (m.rows row client)))
    by_place x less (inr apart) =
        other row client x which there less (λ e. apart (row_apart client row x client row place which which less few e).2) ∙ sym (with_at-other place word (m.rows row client) x apart)

    by_client : (d x : ℕ) → d < clients_of m → x < 4 → (d ≡ client) ⊎ (d ≢ client) → get_or (set words here word) (row_place d row x) 0 ≡ with_at client (with_at place word (m.rows row client)) (m.rows row) d x
    by_client d x inside less (inl same) =
        subst (λ (c : ℕ). get_or (set words here word) (row_place c row x) 0 ≡ with_at client (with_at place word (m.rows row client)) (m.rows row) c x) (sym same) (by_place x less (cases_eq x place) ∙ sym (ap (λ (f : ℕ → ℕ). f x) (with_at-same client (with_at place word (m.rows row client)) (m.rows row))))
    by_client d x inside less (inr apart) =
        other row d x which inside less (λ e. apart (row_apart d row x client row place which which less few e).0) ∙ sym (ap (λ (f : ℕ → ℕ). f x) (with_at-other client (with_at place word (m.rows row client)) (m.rows row) d apart))

    by_row : (s d x : ℕ) → s < 2 → d < clients_of m → x < 4 → (s ≡ row) ⊎ (s ≢ row) → get_or (set words here word) (row_place d s x) 0 ≡ with_row_word row client place word m.rows s d x
    by_row s d x two inside less (inl same) =
        subst (λ (r : ℕ). get_or (set words here word) (row_place d r x) 0 ≡ with_row_word row client place word m.rows r d x) (sym same) (by_client d x inside less (cases_eq d client) ∙ sym (ap (λ (f : ℕ → ℕ → ℕ). f d x) (with_at-same row (with_at client (with_at place word (m.rows row client)) (m.rows row)) m.rows)))
    by_row s d x two inside less (inr apart) =
        other s d x two inside less (λ e. apart (row_apart d s x client row place two which less few e).1) ∙ sym (ap (λ (f : ℕ → ℕ → ℕ). f d x) (with_at-other row (with_at client (with_at place word (m.rows row client)) (m.rows row)) m.rows s apart))

-- a row's word lies within the table
pub row_within : (client row place clients word count : ℕ) → word ≡ row_place client row place → client < clients → row < 2 → place < 4 → count ≡ word_count clients → word < count
row_within client row place clients word count is there which few long =
    omega (arith, is, there, which, few, long)

pub request_within : (client place clients word count : ℕ) → word ≡ request_place client place → client < clients → place < 5 → count ≡ word_count clients → word < count
request_within client place clients word count is there few long =
    omega (arith, is, there, few, long)

pub odd_below : (n row : ℕ) → row ≡ n % 2 → row < 2
odd_below n row is = omega (arith, is)
