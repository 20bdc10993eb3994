-- What a region keeps of each client, and how many rounds and numbers that leaves room for.
use Rattle.std.proofs.Common.{◌≡◌, ◌≢◌, ℕ, zero, suc, ◌+◌, ◌*◌, ◌/◌, ◌<◌, ◌≤◌, List, [], ◌∷◌, length, take, refl, sym, ap, subst, ◌∙◌, inl, inr, arith}
use Rattle.std.specs.List.{sum_by}
use Rattle.std.proofs.lemmas.Bool.{cases_eq, cases_lt}
use Rattle.std.proofs.lemmas.List.{length-take}
use Rattle.std.proofs.lemmas.List.Elements.{All-from_get_or}
use Rattle.std.proofs.lemmas.List.Sums.{sum_by-le, sum_by_more, sum_by-take-le}
use Rattle.pb_pmem.specs.declared.line.Line.{Line}
use Rattle.pb_pmem.specs.Lines.{line_at}
use Rattle.pb_object.specs.declared.kind.Kind.{Kind}
use Rattle.pb_object.specs.declared.kind.Kind.TheVariants.{Map, Stack, Heap, Queue}
use Rattle.pb_object.specs.declared.request.Kept.{Kept}
use Rattle.pb_object.specs.declared.request.TheConstants.{KEPT_REQUESTS, LAST_NUMBER}
use Rattle.pb_object.specs.KeptLists.{IsKeptList, HasKeptLists}
use Rattle.pb_object.specs.Standing.{Standing, side_count, rounds_of, kept_list_of}
use Rattle.pb_object.proofs.KeptLists.{FallsBelow, kept_list-falls}
use Rattle.pb_layout.specs.Header.{slot_count, word}
use Rattle.pb_layout.specs.Once.{newest_number_of, numbers_of}
use Rattle.pb_layout.specs.Record.{client_line_at, kept_from, kept_in_slots, number_sum, AreSlots}
use Rattle.pb_layout.specs.Recovered.{Represents}
use Rattle.pb_layout.specs.Represents.{record_of_side, newest_of_two, kept_list_by, number_at, AreApart, RegionParts, AreRecords}
use Rattle.pb_layout.specs.declared.header.Header.{Header}
use Rattle.pb_object.specs.declared.limits.TheConstants.{MOST_CLIENTS}
use Rattle.pb_layout.proofs.OneRecovery.{parts, region_records}
use Rattle.pb_layout.proofs.Records.{slot_number_few, number_sum-none, number_sum-more}
use Rattle.pb_layout.proofs.SlotLemmas.{kept_from-none, kept_from-more, with_slot-empty, Falling, falling_after, kept_from-empty, kept_from-full, newest-kept_from, slots_fall, newest_of_two-first, newest_of_two-second, newest_of_two-newer_first, newest_of_two-newer_second, newest_of_two-at_least_first, newest_of_two-at_least_second}

-- The requests in slots whose numbers fall

length-kept_from : (lines : List Line) (first count : ℕ) → length (kept_from lines first count) ≤ count
length-kept_from lines first zero = omega (arith, ap length (kept_from-none lines first))
length-kept_from lines first (suc count) =
    let rest = length-kept_from lines (suc first) count in
    elim (cases_eq (word (line_at lines first) 0) 0) [
      | inl empty ↦ omega (arith, rest, ap length (kept_from-more lines first count ∙ with_slot-empty (line_at lines first) (kept_from lines (suc first) count) empty))
      | inr some ↦ omega (arith, rest, ap length (kept_from-full lines first count some))
    ]

kept_from-falls : (lines : List Line) (first count bound : ℕ) → Falling lines first count → (0 < count → word (line_at lines first) 0 < bound) → FallsBelow bound (kept_from lines first count)
kept_from-falls lines first zero bound falling below = subst (FallsBelow bound) (sym (kept_from-none lines first)) tt
kept_from-falls lines first (suc count) bound falling below =
    elim (cases_eq (word (line_at lines first) 0) 0) [
      | inl empty ↦ subst (FallsBelow bound) (sym (kept_from-empty lines first (suc count) falling empty)) tt
      | inr some ↦
          subst (FallsBelow bound) (sym (kept_from-full lines first count some))
          (below (omega arith), omega (arith, some), kept_from-falls lines (suc first) count (word (line_at lines first) 0) (falling_after lines first count falling) (next some))
    ]
  where
    next : word (line_at lines first) 0 ≢ 0 → 0 < count → word (line_at lines (suc first)) 0 < word (line_at lines first) 0
    next some more =
        let here : first + 0 ≡ first = omega arith in
        let after : first + 1 ≡ suc first = omega arith in
        let at = ap (λ (n : ℕ). word (line_at lines n) 0) here in
        let later = ap (λ (n : ℕ). word (line_at lines n) 0) after in
        elim (cases_eq (word (line_at lines (suc first)) 0) 0) [
          | inl none ↦ omega (arith, none, some)
          | inr full ↦ let less = falling 0 (omega (arith, more)) (λ e. full (sym later ∙ e)) in omega (arith, less, at, later)
        ]

-- a client's slots
slots_few : (head : Header) (side : ℕ) (lines : List Line) (client : ℕ) → AreSlots head.kind side lines (slot_count head) → client < head.clients → word (line_at lines (1 + KEPT_REQUESTS * client)) 0 < LAST_NUMBER + 1
slots_few head side lines client slots inside =
    let few = slot_number_few head.kind side lines (KEPT_REQUESTS * client) (slots (KEPT_REQUESTS * client) (omega (arith, inside))) in omega (arith, few)

slots_below : (head : Header) (side : ℕ) (lines : List Line) (client : ℕ) → AreSlots head.kind side lines (slot_count head) → client < head.clients → FallsBelow (LAST_NUMBER + 1) (kept_in_slots lines client)
slots_below head side lines client slots inside =
    kept_from-falls lines (1 + KEPT_REQUESTS * client) KEPT_REQUESTS (LAST_NUMBER + 1) (slots_fall head side lines client slots inside) (λ more. slots_few head side lines client slots inside)

-- The newest of two lists that have no number in common

abbrev Lacks : ℕ → List Kept → Type 0
Lacks number [] = Unit {0}
Lacks number (kept ∷ rest) = (kept.number ≢ number) × Lacks number rest

abbrev AreOthers : List Kept → List Kept → Type 0
AreOthers [] b = Unit {0}
AreOthers (kept ∷ a) b = Lacks kept.number b × AreOthers a b

others_after : (a b : List Kept) (other : Kept) → AreOthers a (other ∷ b) → AreOthers a b
others_after [] b other are = tt
others_after (kept ∷ a) b other are = (are.0.1, others_after a b other are.1)

falls-take : (bound count : ℕ) (kept : List Kept) → FallsBelow bound kept → FallsBelow bound (take count kept)
falls-take bound zero kept falls = tt
falls-take bound (suc count) [] falls = tt
falls-take bound (suc count) (kept ∷ rest) falls = (falls.0, falls.1, falls-take kept.number count rest falls.2)

newest_of_two-none : (a b : List Kept) → newest_of_two 0 a b ≡ []
unfolding newest_of_two
newest_of_two-none a b = refl

newest_of_two-falls : (count bound : ℕ) (a b : List Kept) → FallsBelow bound a → FallsBelow bound b → AreOthers a b → FallsBelow bound (newest_of_two count a b)
newest_of_two-falls count bound [] b first second are =
    subst (FallsBelow bound) (sym (newest_of_two-second count b)) (falls-take bound count b second)
newest_of_two-falls count bound (kept ∷ a) [] first second are =
    subst (FallsBelow bound) (sym (newest_of_two-first count (kept ∷ a))) (falls-take bound count (kept ∷ a) first)
newest_of_two-falls zero bound (kept ∷ a) (other ∷ b) first second are =
    subst (FallsBelow bound) (sym (newest_of_two-none (kept ∷ a) (other ∷ b))) tt
newest_of_two-falls (suc count) bound (kept ∷ a) (other ∷ b) first second are =
    elim (cases_lt kept.number other.number) [
      | inl less ↦
          subst (FallsBelow bound) (sym (newest_of_two-newer_second count other (kept ∷ a) b less))
          (second.0, second.1, newest_of_two-falls count other.number (kept ∷ a) b (less, first.1, first.2) second.2 (others_after (kept ∷ a) b other are))
      | inr most ↦
          subst (FallsBelow bound) (sym (newest_of_two-newer_first count kept a (other ∷ b) most))
          (first.0, first.1, newest_of_two-falls count kept.number a (other ∷ b) first.2 (omega (arith, most, are.0.0), second.1, second.2) are.1)
    ]

length-newest_of_two : (count : ℕ) (a b : List Kept) → length (newest_of_two count a b) ≤ count
length-newest_of_two count [] b = omega (arith, ap length (newest_of_two-second count b), length-take count b)
length-newest_of_two count (kept ∷ a) [] =
    omega (arith, ap length (newest_of_two-first count (kept ∷ a)), length-take count (kept ∷ a))
length-newest_of_two zero (kept ∷ a) (other ∷ b) =
    omega (arith, ap length (newest_of_two-none (kept ∷ a) (other ∷ b)))
length-newest_of_two (suc count) (kept ∷ a) (other ∷ b) =
    elim (cases_lt kept.number other.number) [
      | inl less ↦ omega (arith, length-newest_of_two count (kept ∷ a) b, ap length (newest_of_two-newer_second count other (kept ∷ a) b less))
      | inr most ↦ omega (arith, length-newest_of_two count a (other ∷ b), ap length (newest_of_two-newer_first count kept a (other ∷ b) most))
    ]

-- the slots of both sides have none
lacks_from : (number : ℕ) (lines : List Line) (first count : ℕ) → ((k : ℕ) → k < count → word (line_at lines (first + k)) 0 ≢ 0 → word (line_at lines (first + k)) 0 ≢ number) → Lacks number (kept_from lines first count)
lacks_from number lines first zero other = subst (Lacks number) (sym (kept_from-none lines first)) tt
lacks_from number lines first (suc count) other =
    let rest = lacks_from number lines (suc first) count after in
    elim (cases_eq (word (line_at lines first) 0) 0) [
      | inl empty ↦ subst (Lacks number) (sym (kept_from-more lines first count ∙ with_slot-empty (line_at lines first) (kept_from lines (suc first) count) empty)) rest
      | inr some ↦ subst (Lacks number) (sym (kept_from-full lines first count some)) ((λ e. other 0 (omega arith) (λ none. some (sym here ∙ none)) (here ∙ e)), rest)
    ]
  where
    start : first + 0 ≡ first
    start = omega arith

    here : word (line_at lines (first + 0)) 0 ≡ word (line_at lines first) 0
    here = ap (λ (n : ℕ). word (line_at lines n) 0) start

    shift : (k : ℕ) → suc first + k ≡ first + suc k
    shift k = omega arith

    after : (k : ℕ) → k < count → word (line_at lines (suc first + k)) 0 ≢ 0 → word (line_at lines (suc first + k)) 0 ≢ number
    after k inside some e =
        let same = ap (λ (n : ℕ). word (line_at lines n) 0) (shift k) in
        other (suc k) (omega arith) (λ none. some (same ∙ none)) (sym same ∙ e)

others_from : (puts takes : List Line) (i count j more : ℕ) → ((k l : ℕ) → k < count → l < more → word (line_at takes (j + l)) 0 ≢ 0 → word (line_at takes (j + l)) 0 ≢ word (line_at puts (i + k)) 0) → AreOthers (kept_from puts i count) (kept_from takes j more)
others_from puts takes i zero j more apart = subst (λ (a : List Kept). AreOthers a (kept_from takes j more)) (sym (kept_from-none puts i)) tt
others_from puts takes i (suc count) j more apart =
    let rest = others_from puts takes (suc i) count j more after in
    elim (cases_eq (word (line_at puts i) 0) 0) [
      | inl empty ↦ subst (λ (a : List Kept). AreOthers a (kept_from takes j more)) (sym (kept_from-more puts i count ∙ with_slot-empty (line_at puts i) (kept_from puts (suc i) count) empty)) rest
      | inr full ↦ subst (λ (a : List Kept). AreOthers a (kept_from takes j more)) (sym (kept_from-full puts i count full)) (lacks_from (word (line_at puts i) 0) takes j more first, rest)
    ]
  where
    start : i + 0 ≡ i
    start = omega arith

    first : (l : ℕ) → l < more → word (line_at takes (j + l)) 0 ≢ 0 → word (line_at takes (j + l)) 0 ≢ word (line_at puts i) 0
    first l within some e = apart 0 l (omega arith) within some (e ∙ sym (ap (λ (n : ℕ). word (line_at puts n) 0) start))

    shift : (k : ℕ) → suc i + k ≡ i + suc k
    shift k = omega arith

    after : (k l : ℕ) → k < count → l < more → word (line_at takes (j + l)) 0 ≢ 0 → word (line_at takes (j + l)) 0 ≢ word (line_at puts (suc i + k)) 0
    after k l inside within some e =
        apart (suc k) l (omega arith) within some (e ∙ ap (λ (n : ℕ). word (line_at puts n) 0) (shift k))

sides_apart : (head : Header) (records : ℕ → List Line) (client : ℕ) → head.kind ≡ Queue → AreApart head records → client < head.clients → AreOthers (kept_in_slots (records 0) client) (kept_in_slots (records 1) client)
sides_apart head records client queue apart inside =
    others_from (records 0) (records 1) (1 + KEPT_REQUESTS * client) KEPT_REQUESTS (1 + KEPT_REQUESTS * client) KEPT_REQUESTS (λ k l low within some e.
    let place : ℕ = KEPT_REQUESTS * client + l in
    let whose : place / KEPT_REQUESTS ≡ client = omega arith in
    let take_at : 1 + KEPT_REQUESTS * client + l ≡ 1 + place = omega arith in
    let put_at : 1 + KEPT_REQUESTS * client + k ≡ 1 + (KEPT_REQUESTS * (place / KEPT_REQUESTS) + k) = omega (arith, whose) in
    let take_is : word (line_at (records 1) (1 + KEPT_REQUESTS * client + l)) 0 ≡ number_at records 1 place = ap (λ (n : ℕ). word (line_at (records 1) n) 0) take_at in
    let put_is : word (line_at (records 0) (1 + KEPT_REQUESTS * client + k)) 0 ≡ number_at records 0 (KEPT_REQUESTS * (place / KEPT_REQUESTS) + k) = ap (λ (n : ℕ). word (line_at (records 0) n) 0) put_at in
    apart queue place (omega (arith, inside, within)) (λ none. some (take_is ∙ none)) k low (sym take_is ∙ (e ∙ put_is)))

-- What a region keeps

-- the slots of the sides that there are
abbrev AllSlots : Header → (ℕ → List Line) → Type 0
AllSlots head records = (side : ℕ) → side < side_count head.kind → AreSlots head.kind side (records side) (slot_count head)

one_side_list : (head : Header) (records : ℕ → List Line) (client : ℕ) → AreSlots head.kind 0 (records 0) (slot_count head) → client < head.clients → IsKeptList (kept_in_slots (records 0) client)
one_side_list head records client slots inside =
    kept_list-falls (kept_in_slots (records 0) client) (length-kept_from (records 0) (1 + KEPT_REQUESTS * client) KEPT_REQUESTS) (slots_below head 0 (records 0) client slots inside)

kept_list_sound : (kind : Kind) (clients size : ℕ) (records : ℕ → List Line) (client : ℕ) → AllSlots (record { kind = kind; clients = clients; size = size }) records → AreApart (record { kind = kind; clients = clients; size = size }) records → client < clients → IsKeptList (kept_list_by kind records client)
kept_list_sound Map clients size records client slots apart inside = one_side_list (record { kind = Map; clients = clients; size = size }) records client (slots 0 (omega arith)) inside
kept_list_sound Stack clients size records client slots apart inside = one_side_list (record { kind = Stack; clients = clients; size = size }) records client (slots 0 (omega arith)) inside
kept_list_sound Heap clients size records client slots apart inside = one_side_list (record { kind = Heap; clients = clients; size = size }) records client (slots 0 (omega arith)) inside
kept_list_sound Queue clients size records client slots apart inside =
    let head : Header = record { kind = Queue; clients = clients; size = size } in
    let puts = kept_in_slots (records 0) client in
    let takes = kept_in_slots (records 1) client in
    kept_list-falls (newest_of_two KEPT_REQUESTS puts takes) (length-newest_of_two KEPT_REQUESTS puts takes)
    (newest_of_two-falls KEPT_REQUESTS (LAST_NUMBER + 1) puts takes (slots_below head 0 (records 0) client (slots 0 (omega arith)) inside) (slots_below head 1 (records 1) client (slots 1 (omega arith)) inside) (sides_apart head records client refl apart inside))

pub records_keep_lists : (records : ℕ → List Line) (s : Standing) → AreRecords records s → HasKeptLists s
records_keep_lists records s has = record {
  count = has.clients;
  lists = λ client inside. subst IsKeptList (sym (has.kept client inside)) (kept_list_sound s.kind s.clients s.size records client (λ side here. (has.own side here).slots) has.apart inside);
}

pub region_keeps_lists : (image : List Line) (s : Standing) → Represents image s → HasKeptLists s
region_keeps_lists image s stands =
    records_keep_lists (record_of_side image s) s (region_records image s (parts image s stands))

-- Rounds and numbers

-- a list's newest number is at most the last one
newest_few : (kept : List Kept) → IsKeptList kept → newest_number_of kept ≤ LAST_NUMBER
newest_few [] is = omega arith
newest_few (kept ∷ rest) is = (is.numbers 0 kept (omega arith)).few

pub numbers_few : (s : Standing) → HasKeptLists s → s.clients ≤ MOST_CLIENTS → numbers_of s ≤ MOST_CLIENTS * LAST_NUMBER
numbers_few s has few =
    omega (arith, sum_by-le newest_number_of LAST_NUMBER s.kept (All-from_get_or IsFew s.kept [] (λ client inside. newest_few (kept_list_of s client) (has.lists client (omega (arith, inside, has.count))))), has.count, few)
  where
    IsFew : List Kept → Type 0
    IsFew kept = newest_number_of kept ≤ LAST_NUMBER

pub region_numbers_few : (image : List Line) (s : Standing) → Represents image s → numbers_of s ≤ MOST_CLIENTS * LAST_NUMBER
region_numbers_few image s stands =
    numbers_few s (region_keeps_lists image s stands) (parts image s stands).valid.few_clients

-- a client's newest number on a side is at most its newest of all
newest_of_side : (kind : Kind) (clients size : ℕ) (records : ℕ → List Line) (client side : ℕ) → side < side_count kind → AllSlots (record { kind = kind; clients = clients; size = size }) records → client < clients → word (client_line_at (records side) client) 0 ≤ newest_number_of (kept_list_by kind records client)
newest_of_side kind clients size records client side here slots inside = by kind side here (of_slots side here)
  where
    head : Header
    head = record { kind = kind; clients = clients; size = size }

    of_slots : (n : ℕ) → n < side_count kind → word (client_line_at (records n) client) 0 ≡ newest_number_of (kept_in_slots (records n) client)
    of_slots n below =
        let at : 1 + (KEPT_REQUESTS * client + 0) ≡ 1 + KEPT_REQUESTS * client = omega arith in
        ap (λ (k : ℕ). word (line_at (records n) k) 0) at ∙ sym (newest-kept_from (records n) (1 + KEPT_REQUESTS * client) 7 (slots_fall head n (records n) client (slots n below) inside))

    by : (k : Kind) (n : ℕ) → n < side_count k → word (client_line_at (records n) client) 0 ≡ newest_number_of (kept_in_slots (records n) client) → word (client_line_at (records n) client) 0 ≤ newest_number_of (kept_list_by k records client)
    by Map zero below is = omega (arith, is)
    by Stack zero below is = omega (arith, is)
    by Heap zero below is = omega (arith, is)
    by Queue zero below is =
        omega (arith, is, newest_of_two-at_least_first 7 (kept_in_slots (records 0) client) (kept_in_slots (records 1) client))
    by Queue (suc zero) below is =
        omega (arith, is, newest_of_two-at_least_second 7 (kept_in_slots (records 0) client) (kept_in_slots (records 1) client))
    by k (suc n) below is = absurd (omega arith)

-- the newest numbers on a side sum to at most those of all
sums_along : (image : List Line) (s : Standing) (side count : ℕ) → side < side_count s.kind → RegionParts image s → count ≤ s.clients → number_sum (record_of_side image s side) count ≤ sum_by newest_number_of (take count s.kept)
sums_along image s side zero here has fits = omega (arith, number_sum-none (record_of_side image s side))
sums_along image s side (suc count) here has fits =
    let lines = record_of_side image s side in
    let before = sums_along image s side count here has (omega arith) in
    let next : suc count ≡ count + 1 = omega arith in
    let more : sum_by newest_number_of (take (suc count) s.kept) ≡ sum_by newest_number_of (take count s.kept) + newest_number_of (kept_list_of s count) = ap (λ (n : ℕ). sum_by newest_number_of (take n s.kept)) next ∙ sum_by_more newest_number_of s.kept count [] (omega (arith, fits, has.clients)) in
    let one : word (client_line_at lines count) 0 ≤ newest_number_of (kept_list_by s.kind (record_of_side image s) count) = newest_of_side s.kind s.clients s.size (record_of_side image s) count side here (λ n below. (has.records n below).slots) (omega arith) in
    let same = ap newest_number_of (has.kept count (omega arith)) in
    omega (arith, number_sum-more lines count, before, more, one, same)

pub side_numbers_few : (image : List Line) (s : Standing) (side : ℕ) → Represents image s → side < side_count s.kind → number_sum (record_of_side image s side) s.clients ≤ numbers_of s
side_numbers_few image s side stands here =
    omega (arith, sums_along image s side s.clients here (parts image s stands) (omega arith), sum_by-take-le newest_number_of s.kept s.clients)

pub side_rounds_numbers : (image : List Line) (s : Standing) (side : ℕ) → Represents image s → side < side_count s.kind → rounds_of s side ≤ number_sum (record_of_side image s side) s.clients
side_rounds_numbers image s side stands here = ((parts image s stands).records side here).rounds
