-- The next rows after a round are the clients' newest requests.
use Rattle.std.proofs.Common.{◌≡◌, ◌≢◌, ℕ, ◌%◌, ◌<◌, ◌⊎◌, inl, inr, List, [], ◌∷◌, length, refl, sym, ap, subst, ◌∙◌, arith}
use Rattle.std.specs.List.{All}
use Rattle.std.proofs.lemmas.Bool.{cases_eq}
use Rattle.std.proofs.lemmas.List.{length-set, get_or-set_same, get_or-set_other}
use Rattle.std.proofs.lemmas.List.Elements.{All-head, All-tail}
use Rattle.pb_object.specs.declared.request.Kept.{Kept}
use Rattle.pb_object.specs.History.{Entry, kept_by, after_entry, after_entries}
use Rattle.pb_object.specs.Standing.{Standing, keep, kept_list_of, newest, newest_of}
use Rattle.pb_core.specs.Client.{Client, row_word}
use Rattle.pb_core.specs.Memory.{Memory, clients_of, shown, round_of_turn}
use Rattle.pb_core.specs.MemoryParts.{IsMemory}
use Rattle.pb_core.proofs.Waiting.{turn_rounds}
use Rattle.pb_play.specs.declared.memory.Memory.{Memory as CodeMemory}
use Rattle.pb_round_play.specs.declared.seat.Seat.{Seat}
use Rattle.pb_round_play.specs.Seats.{row_by}
use Rattle.pb_play.specs.Maps.{stage_of, stored_ask, word_of_row}
use Rattle.pb_round_play.specs.Rounds.{with_row, with_rows}
use Rattle.pb_play.specs.Rounds.{RepeatsRows}
use Rattle.pb_round_play.specs.Seats.{no_row, no_seat, seat_at}
use Rattle.pb_play.specs.Seats.{seat_of}
use Rattle.pb_play.specs.Shown.{ShowsSeat, IsRowOf, ShowsMemory}
use Rattle.pb_play.proofs.Waiting.{row_word_is}

-- The published row

pub published_row : {p : CodeMemory} {m : Memory} (c : ℕ) → ShowsMemory p m → IsMemory m → c < clients_of m → IsRowOf (newest_of (shown m) c) (row_by (seat_of p c) (round_of_turn p.turn % 2))
published_row {p} {m} c s sound within = record { number = word 0 (omega arith); reply = λ i. record { code = word 1 (omega arith) i; value = word 2 (omega arith) i; extra = word 3 (omega arith) i } }
  where
    word : (place : ℕ) → place < 4 → row_word (newest_of (shown m) c) place ≡ word_of_row (row_by (seat_of p c) (round_of_turn p.turn % 2)) place
    word place small =
        sym (sound.rows c place within small)
        ∙ (ap (λ (rounds : ℕ). m.rows (rounds % 2) c place) (sym (ap round_of_turn (sym s.turn) ∙ turn_rounds sound)) ∙ row_word_is c p.turn place s within small)

-- A seat but for its next row

abbrev bare : Seat → Seat
bare seat = record seat { ahead = no_row }

shows_bare : {b : Client} {words : ℕ → ℕ} {rows : ℕ → ℕ → ℕ} {old new : Seat} → bare new ≡ bare old → ShowsSeat b words rows old → ShowsSeat b words rows new
shows_bare {b} {words} {rows} {old} {new} same shows = record {
  stage = shows.stage ∙ ap (λ (seat : Seat). stage_of seat.stage) (sym same);
  ask = shows.ask ∙ ap (λ (seat : Seat). seat.ask) (sym same);
  last = shows.last ∙ ap (λ (seat : Seat). seat.last) (sym same);
  stored = λ place few. shows.stored place few ∙ ap (λ (seat : Seat). Rattle.pb_core.specs.Client.ask_word (stored_ask seat) place) (sym same);
  even = λ place few. shows.even place few ∙ ap (λ (seat : Seat). word_of_row seat.even place) (sym same);
  odd = λ place few. shows.odd place few ∙ ap (λ (seat : Seat). word_of_row seat.odd place) (sym same);
}

-- One reply

abbrev IsInside : ℕ → Entry → Type 0
IsInside count entry = entry.client < count

row_bare : (entry : Entry) (seats : List Seat) (c : ℕ) → entry.client < length seats → bare (seat_at (with_row entry seats) c) ≡ bare (seat_at seats c)
row_bare entry seats c inside = go (cases_eq c entry.client)
  where
    seat : Seat
    seat = record (seat_at seats entry.client) { ahead = record { number = entry.number; reply = entry.reply } }

    go : (c ≡ entry.client) ⊎ (c ≢ entry.client) → bare (seat_at (with_row entry seats) c) ≡ bare (seat_at seats c)
    go (inl same) =
        ap (λ (d : ℕ). bare (seat_at (with_row entry seats) d)) same
        ∙ (ap bare (get_or-set_same seats entry.client seat no_seat inside) ∙ ap (λ (d : ℕ). bare (seat_at seats d)) (sym same))
    go (inr apart) = ap bare (get_or-set_other seats entry.client c seat no_seat apart)

row_follows : (s : Standing) (entry : Entry) (seats : List Seat) (c : ℕ) → entry.client < length seats → entry.client < length s.kept → IsRowOf (newest_of s c) (seat_at seats c).ahead → IsRowOf (newest_of (after_entry s entry) c) (seat_at (with_row entry seats) c).ahead
row_follows s entry seats c inside there before = go (cases_eq c entry.client)
  where
    seat : Seat
    seat = record (seat_at seats entry.client) { ahead = record { number = entry.number; reply = entry.reply } }

    list : List Kept
    list = keep (kept_by entry) (kept_list_of s entry.client)

    Follows : ℕ → Type 0
    Follows d = IsRowOf (newest_of (after_entry s entry) d) (seat_at (with_row entry seats) d).ahead

    own : IsRowOf (newest list) seat.ahead
    own = record { number = refl; reply = refl }

    go : (c ≡ entry.client) ⊎ (c ≢ entry.client) → Follows c
    go (inl same) =
        subst Follows (sym same)
        (subst (λ (l : List Kept). IsRowOf (newest l) (seat_at (with_row entry seats) entry.client).ahead) (sym (get_or-set_same s.kept entry.client list [] there))
        (subst (λ (y : Seat). IsRowOf (newest list) y.ahead) (sym (get_or-set_same seats entry.client seat no_seat inside)) own))
    go (inr apart) =
        subst (λ (l : List Kept). IsRowOf (newest l) (seat_at (with_row entry seats) c).ahead) (sym (get_or-set_other s.kept entry.client c list [] apart))
        (subst (λ (y : Seat). IsRowOf (newest_of s c) y.ahead) (sym (get_or-set_other seats entry.client c seat no_seat apart)) before)

-- All replies of a round

rows_bare : (entries : List Entry) (seats : List Seat) (c count : ℕ) → length seats ≡ count → All (IsInside count) entries → bare (seat_at (with_rows entries seats) c) ≡ bare (seat_at seats c)
rows_bare [] seats c count long all = refl
rows_bare (entry ∷ entries) seats c count long all =
    rows_bare entries (with_row entry seats) c count (length-set seats entry.client _ ∙ long) (All-tail (IsInside count) entry entries all)
    ∙ row_bare entry seats c (omega (arith, long, All-head (IsInside count) entry entries all))

rows_follow : (s : Standing) (entries : List Entry) (seats : List Seat) (c count : ℕ) → length seats ≡ count → All (IsInside count) entries → All (IsInside (length s.kept)) entries → IsRowOf (newest_of s c) (seat_at seats c).ahead → IsRowOf (newest_of (after_entries s entries) c) (seat_at (with_rows entries seats) c).ahead
rows_follow s [] seats c count long all there before = before
rows_follow s (entry ∷ entries) seats c count long all there before =
    let kept : length (after_entry s entry).kept ≡ length s.kept = length-set s.kept entry.client _ in
    rows_follow (after_entry s entry) entries (with_row entry seats) c count (length-set seats entry.client _ ∙ long) (All-tail (IsInside count) entry entries all)
    (subst (λ (n : ℕ). All (IsInside n) entries) (sym kept) (All-tail (IsInside (length s.kept)) entry entries there))
    (row_follows s entry seats c (omega (arith, long, All-head (IsInside count) entry entries all)) (All-head (IsInside (length s.kept)) entry entries there) before)

-- Over rows that repeat the published ones

pub shows_next : {p new : CodeMemory} (entries : List Entry) (c : ℕ) {words : ℕ → ℕ} {rows : ℕ → ℕ → ℕ} {b : Client} → RepeatsRows p new → length new.seats ≡ 16 → c < 16 → All (IsInside 16) entries → ShowsSeat b words rows (seat_of p c) → ShowsSeat b words rows (seat_at (with_rows entries new.seats) c)
shows_next {p} {new} entries c repeated long small all shows =
    shows_bare {new = seat_at (with_rows entries new.seats) c} (rows_bare entries new.seats c 16 long all ∙ ap bare (repeated.each c small)) shows

pub row_next : {p new : CodeMemory} {m : Memory} (entries : List Entry) (c : ℕ) → RepeatsRows p new → length new.seats ≡ 16 → c < 16 → All (IsInside 16) entries → All (IsInside (length (shown m).kept)) entries → ShowsMemory p m → IsMemory m → c < clients_of m → IsRowOf (newest_of (after_entries (shown m) entries) c) (seat_at (with_rows entries new.seats) c).ahead
row_next {p} {new} {m} entries c repeated long small all there s sound within =
    rows_follow (shown m) entries new.seats c 16 long all there
    (subst (λ (y : Seat). IsRowOf (newest_of (shown m) c) y.ahead) (sym (repeated.each c small)) (published_row c s sound within))
