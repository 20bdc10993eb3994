-- The numbers of a client along a legal history, and along a script's lines.
use Rattle.std.proofs.Common.{◌≡◌, ◌⊎◌, ℕ, zero, suc, ◌+◌, ◌<◌, ◌≤◌, Bool, true, false, List, [], ◌∷◌, ◌++◌, length, Option, Some, None, refl, sym, ap, subst, ◌∙◌, arith, inl, inr, if◌then◌else◌, eq-eqb}
use Rattle.std.specs.Prelude.{Contains, filter, ◌==◌, nat_le, take}
use Rattle.std.specs.List.{zip}
use Rattle.std.proofs.lemmas.Bool.{cases_lt, eqb-true, false≢true}
use Rattle.std.proofs.lemmas.List.{get_or_past}
use Rattle.std.proofs.lemmas.List.Elements.{All-contains, Contains-append_right}
use Rattle.pb_object.specs.declared.request.Ask.{Ask}
use Rattle.pb_object.specs.declared.request.Kept.{Kept as KeptRequest}
use Rattle.pb_object.specs.declared.request.Reply.{Reply}
use Rattle.pb_object.specs.declared.request.TheConstants.{KEPT_REQUESTS}
use Rattle.pb_object.specs.History.{Entry, Round, History, kept_by, after_entry, after_entries, after_round, state_after, AreLegal, IsLegalEntry, IsLegal}
use Rattle.pb_object.specs.KeptLists.{HasKeptLists, kept_number, kept_with}
use Rattle.pb_object.proofs.KeptLists.{newest_first}
use Rattle.pb_layout.specs.LogHistory.{LoggedRound, AreUnsealed, rounds_in}
use Rattle.pb_layout_laws.proofs.Histories.{rounds_in-append}
use Rattle.pb_object.specs.Standing.{Standing, keep, kept_list_of, newest}
use Rattle.pb_report.specs.declared.outcome.Outcome.{Outcome}
use Rattle.pb_report.specs.declared.outcome.Outcome.TheVariants.{New, Kept, Old, Gap, Changed, Doubt, Left}
use Rattle.pb_report.specs.Outcomes.{AreLeft, AreLines, IsLine, HasEntry, Outcomes, decided_outcome, entry_of, lines_of_client, outcome_by}
use Rattle.pb_report.proofs.EntryLemmas.{IsFull, IsInHistory, full_after, full_after_all, in_history, last_of, last_other, last_rises_over, last_same, same_or_other, within}
use Rattle.pb_broker.specs.Chain.{SaysApplied, StandsIn}
use Rattle.pb_run.specs.Run.{AreNewRecorded}
use Rattle.pb_broker.proofs.Points.{legal_front}

-- Along a legal history

pub last_rises_all : (s : Standing) (history : History) (client : ℕ) → IsFull s → IsLegal s history → last_of s client ≤ last_of (state_after s history) client
last_rises_all s [] client full legal = omega arith
last_rises_all s (round ∷ history) client full legal =
    let here = last_rises_over s round.side round.entries client full legal.0.legal in
    let more = last_rises_all (after_round s round) history client (full_after_all s round.entries full) legal.1 in
    omega (arith, here, more)

within_all : (s : Standing) (history : History) (entry : Entry) → IsFull s → IsLegal s history → IsInHistory entry history → entry.number ≤ last_of (state_after s history) entry.client
within_all s [] entry full legal member = absurd member
within_all s (round ∷ history) entry full legal (inl member) =
    let here = within s round.side round.entries entry full legal.0.legal member in
    let more = last_rises_all (after_round s round) history entry.client (full_after_all s round.entries full) legal.1 in
    omega (arith, here, more)
within_all s (round ∷ history) entry full legal (inr member) = within_all (after_round s round) history entry (full_after_all s round.entries full) legal.1 member

-- the number of an entry is at most its client's last one
pub recorded_at_most : (s : Standing) (history : History) (entry : Entry) → IsFull s → IsLegal s history → HasEntry history entry → entry.number ≤ last_of (state_after s history) entry.client
recorded_at_most s history entry full legal recorded = within_all s history entry full legal (in_history history entry recorded)

-- each number up to a client's last one is that of an entry, or was there at first
record IsOneOf (entries : List Entry) (client number : ℕ) : Type 0 where
  entry : Entry
  member : Contains entries entry
  client_is : entry.client ≡ client
  number_is : entry.number ≡ number

pub Contains-first : {X : Type 0} (x : X) (xs : List X) → Contains (x ∷ xs) x
Contains-first x xs = (zero, omega arith, refl)

one_of_first : (s : Standing) (side : ℕ) (first : Entry) (entries : List Entry) (client number : ℕ) → IsFull s → IsLegalEntry s side first → number ≤ last_of (after_entry s first) client → IsOneOf (first ∷ entries) client number ⊎ (number ≤ last_of s client)
one_of_first s side first entries client number full legal below = elim (same_or_other client first.client) [
  | inr other ↦ (let same = last_other s first client other in inr (omega (arith, same, below)))
  | inl is ↦
      let here = last_same s first (omega (arith, legal.client, full)) in
      let after : last_of (after_entry s first) client ≡ last_of (after_entry s first) first.client = ap (last_of (after_entry s first)) is in
      let before : last_of s client ≡ last_of s first.client = ap (last_of s) is in
      elim (same_or_other number first.number) [
        | inl number_is ↦ inl (record { entry = first; member = Contains-first first entries; client_is = sym is; number_is = sym number_is })
        | inr lower ↦ inr (omega (arith, below, here, after, before, legal.number, lower))
      ]
]

one_of : (s : Standing) (side : ℕ) (entries : List Entry) (client number : ℕ) → IsFull s → AreLegal s side entries → number ≤ last_of (after_entries s entries) client → IsOneOf entries client number ⊎ (number ≤ last_of s client)
one_of s side [] client number full legal below = inr below
one_of s side (first ∷ entries) client number full legal below = elim (one_of (after_entry s first) side entries client number (full_after s first full) legal.1 below) [
  | inl one ↦ inl (record { entry = one.entry; member = Contains-append_right (first ∷ []) entries one.entry one.member; client_is = one.client_is; number_is = one.number_is })
  | inr lower ↦ one_of_first s side first entries client number full legal.0 lower
]

stands_later : (round : Round) (history : History) (client number : ℕ) → StandsIn history client number → StandsIn (round ∷ history) client number
stands_later round history client number stands = record {
  entry = stands.entry;
  recorded = record { round = stands.recorded.round; told = Contains-append_right (round ∷ []) history stands.recorded.round stands.recorded.told; member = stands.recorded.member };
  client_is = stands.client_is;
  number_is = stands.number_is;
}

pub stands_or_began : (s : Standing) (history : History) (client number : ℕ) → IsFull s → IsLegal s history → number ≤ last_of (state_after s history) client → StandsIn history client number ⊎ (number ≤ last_of s client)
stands_or_began s [] client number full legal below = inr below
stands_or_began s (round ∷ history) client number full legal below = elim (stands_or_began (after_round s round) history client number (full_after_all s round.entries full) legal.1 below) [
  | inl stands ↦ inl (stands_later round history client number stands)
  | inr lower ↦ elim (one_of s round.side round.entries client number full legal.0.legal lower) [
    | inl one ↦ inl (record {
      entry = one.entry;
      recorded = record { round = round; told = Contains-first round history; member = one.member };
      client_is = one.client_is;
      number_is = one.number_is;
    })
    | inr began ↦ inr began
  ]
]

-- Along the lines of a client

-- this holds of each kept request
abbrev pub AreEach : (KeptRequest → Type 0) → List KeptRequest → Type 0
AreEach Holds [] = Unit {0}
AreEach Holds (one ∷ kept) = Holds one × AreEach Holds kept

-- its number isn't above this
abbrev pub IsAtMost : ℕ → KeptRequest → Type 0
IsAtMost most one = one.number ≤ most

abbrev pub AreAtMost : ℕ → List KeptRequest → Type 0
AreAtMost most kept = AreEach (IsAtMost most) kept

newest_at_most : (most : ℕ) (kept : List KeptRequest) → AreAtMost most kept → (newest kept).number ≤ most
newest_at_most most [] all = omega arith
newest_at_most most (one ∷ kept) all = all.0

first_each : (Holds : KeptRequest → Type 0) (count : ℕ) (kept : List KeptRequest) → AreEach Holds kept → AreEach Holds (take count kept)
first_each Holds zero kept all = tt
first_each Holds (suc count) [] all = tt
first_each Holds (suc count) (one ∷ kept) all = (all.0, first_each Holds count kept all.1)

pub keep_each : (Holds : KeptRequest → Type 0) (one : KeptRequest) (kept : List KeptRequest) → Holds one → AreEach Holds kept → AreEach Holds (keep one kept)
keep_each Holds one kept holds all = first_each Holds KEPT_REQUESTS (one ∷ kept) (holds, all)

-- a kept request that is found by its number
pub record IsFoundIn (Holds : KeptRequest → Type 0) (number : ℕ) (one : KeptRequest) : Type 0 where
  pub number_is : one.number ≡ number
  pub holds : Holds one

pub found_in : (Holds : KeptRequest → Type 0) (number : ℕ) (kept : List KeptRequest) (one : KeptRequest) → AreEach Holds kept → kept_with number kept ≡ Some one → IsFoundIn Holds number one
found_in Holds number [] one all is = absurd (cc (is))
found_in Holds number (first ∷ kept) one all is = go (λ more. found_in Holds number kept one all.1 more) (first.number == number) refl
  where
    some_one : {a b : KeptRequest} → Some a ≡ Some b → a ≡ b
    some_one e = cc (e)

    go : (kept_with number kept ≡ Some one → IsFoundIn Holds number one) → (test : Bool) → (first.number == number) ≡ test → IsFoundIn Holds number one
    go later true here =
        subst (IsFoundIn Holds number) (some_one (subst (λ (b : Bool). (if b then Some first else kept_with number kept) ≡ Some one) here is)) (record { number_is = eqb-true first.number number here; holds = all.0 })
    go later false other = later (subst (λ (b : Bool). (if b then Some first else kept_with number kept) ≡ Some one) other is)

-- a request whose outcome is decided so has a number that isn't above those
decided_at_most : (most : ℕ) (kept : List KeptRequest) (ask : Ask) (outcome : Outcome) → AreAtMost most kept → decided_outcome kept ask ≡ Some outcome → SaysApplied outcome → ask.number ≤ most
decided_at_most most kept ask outcome all is says = go (kept_with ask.number kept) refl
  where
    some_same : {a b : Outcome} → Some a ≡ Some b → a ≡ b
    some_same e = cc (e)

    old : (test next : Bool) → nat_le ask.number (newest kept).number ≡ test → (if test then Some Old else (if next then None else Some Gap)) ≡ Some outcome → ask.number ≤ most
    old true next below e = (let last = newest_at_most most kept all in grind (arith, last, below))
    old false true above e = absurd (cc (e))
    old false false above e = absurd (subst SaysApplied (sym (some_same e)) says)

    go : (found : Option KeptRequest) → kept_with ask.number kept ≡ found → ask.number ≤ most
    go (Some one) found = (let there = found_in (IsAtMost most) ask.number kept one all found in omega (arith, there.number_is, there.holds))
    go None found = old (nat_le ask.number (newest kept).number) (ask.number == (newest kept).number + 1) refl (subst (λ (o : Option KeptRequest). outcome_by o (newest kept).number ask ≡ Some outcome) found is)

pub Contains-cases : {X : Type 0} (x : X) (xs : List X) (y : X) → Contains (x ∷ xs) y → (x ≡ y) ⊎ Contains xs y
Contains-cases x xs y (zero, below, is) = inl is
Contains-cases x xs y (suc place, below, is) = inr (place, omega (arith, below), is)

-- of lines that are left none says so
left_says_nothing : (lines : List (Ask × Outcome)) (ask : Ask) (outcome : Outcome) → AreLeft lines → Contains lines (ask, outcome) → SaysApplied outcome → ⊥
left_says_nothing lines ask outcome left line says = subst SaysApplied (All-contains (λ (line : Ask × Outcome). line.1 ≡ Left) lines (ask, outcome) left line) says

-- a line that says so
line_here : (most : ℕ) (decided : Option Outcome) (history : History) (kept : List KeptRequest) (ask : Ask) (outcome : Outcome) (on : List KeptRequest → Type 0) (left : Type 0) → decided_outcome kept ask ≡ decided → AreAtMost most kept → ((reply : Reply) → outcome ≡ New reply → ask.number ≤ most) → SaysApplied outcome → IsLine decided history kept ask outcome on left → ask.number ≤ most
line_here most (Some decided) history kept ask outcome on left is all new says line = decided_at_most most kept ask outcome all (is ∙ ap Some (sym line.0)) says
line_here most None history kept ask (New reply) on left is all new says line = new reply refl
line_here most None history kept ask Doubt on left is all new says line = absurd says
line_here most None history kept ask (Kept reply) on left is all new says line = absurd line
line_here most None history kept ask Old on left is all new says line = absurd line
line_here most None history kept ask Gap on left is all new says line = absurd line
line_here most None history kept ask Changed on left is all new says line = absurd line
line_here most None history kept ask Left on left is all new says line = absurd line

-- .. and one behind another
pub line_behind : (Holds : KeptRequest → Type 0) (decided : Option Outcome) (history : History) (kept : List KeptRequest) (ask : Ask) (outcome : Outcome) (on : List KeptRequest → Type 0) (left : Type 0) (Then : Type 0) → AreEach Holds kept → ((reply : Reply) → outcome ≡ New reply → Holds (kept_by (entry_of ask reply))) → ((next : List KeptRequest) → AreEach Holds next → on next → Then) → (left → Then) → IsLine decided history kept ask outcome on left → Then
line_behind Holds (Some (New reply)) history kept ask outcome on left Then all new goes ends line = goes kept all line.1
line_behind Holds (Some (Kept reply)) history kept ask outcome on left Then all new goes ends line = goes kept all line.1
line_behind Holds (Some Old) history kept ask outcome on left Then all new goes ends line = goes kept all line.1
line_behind Holds (Some Gap) history kept ask outcome on left Then all new goes ends line = ends line.1
line_behind Holds (Some Changed) history kept ask outcome on left Then all new goes ends line = ends line.1
line_behind Holds (Some Doubt) history kept ask outcome on left Then all new goes ends line = goes kept all line.1
line_behind Holds (Some Left) history kept ask outcome on left Then all new goes ends line = goes kept all line.1
line_behind Holds None history kept ask (New reply) on left Then all new goes ends line =
    goes (keep (kept_by (entry_of ask reply)) kept) (keep_each Holds (kept_by (entry_of ask reply)) kept (new reply refl) all) line.1
line_behind Holds None history kept ask Doubt on left Then all new goes ends line = ends line
line_behind Holds None history kept ask (Kept reply) on left Then all new goes ends line = absurd line
line_behind Holds None history kept ask Old on left Then all new goes ends line = absurd line
line_behind Holds None history kept ask Gap on left Then all new goes ends line = absurd line
line_behind Holds None history kept ask Changed on left Then all new goes ends line = absurd line
line_behind Holds None history kept ask Left on left Then all new goes ends line = absurd line

-- where no new line's number is above a bound, and no kept one's, none is of which it is said
lines_at_most : (most : ℕ) (history : History) (lines : List (Ask × Outcome)) (kept : List KeptRequest) → AreAtMost most kept → ((ask : Ask) (reply : Reply) → Contains lines (ask, New reply) → ask.number ≤ most) → AreLines history kept lines → (ask : Ask) (outcome : Outcome) → Contains lines (ask, outcome) → SaysApplied outcome → ask.number ≤ most
unfolding AreLines
lines_at_most most history [] kept all new are ask outcome line says = absurd (omega (arith, line.1))
lines_at_most most history (first ∷ lines) kept all new are ask outcome line says = elim (Contains-cases first lines (ask, outcome) line) [
  | inl here ↦ subst (λ (l : Ask × Outcome). l.0.number ≤ most) here
      (line_here most (decided_outcome kept first.0) history kept first.0 first.1 (λ next. AreLines history next lines) (AreLeft lines) refl all new_first (subst (λ (l : Ask × Outcome). SaysApplied l.1) (sym here) says) are)
  | inr later ↦ line_behind (IsAtMost most) (decided_outcome kept first.0) history kept first.0 first.1 (λ next. AreLines history next lines) (AreLeft lines) (ask.number ≤ most) all new_first
      (λ next next_all more. lines_at_most most history lines next next_all (λ other reply contained. new other reply (Contains-append_right (first ∷ []) lines (other, New reply) contained)) more ask outcome later says)
      (λ left. absurd (left_says_nothing lines ask outcome left later says)) are
]
  where
    new_first : (reply : Reply) → first.1 ≡ New reply → first.0.number ≤ most
    new_first reply is = new first.0 reply (subst (λ (o : Outcome). Contains (first ∷ lines) (first.0, o)) is (Contains-first first lines))

-- the lines of a client
pub line_of_client : (client : ℕ) (lines : List (Ask × Outcome)) (line : Ask × Outcome) → line.0.client ≡ client → Contains lines line → Contains (lines_of_client client lines) line
line_of_client client [] line is there = there
line_of_client client (first ∷ lines) line is there = go (line_of_client client lines line is) (first.0.client == client) refl (Contains-cases first lines line there)
  where
    go : (Contains lines line → Contains (lines_of_client client lines) line) → (test : Bool) → (first.0.client == client) ≡ test → (first ≡ line) ⊎ Contains lines line → Contains (if test then first ∷ lines_of_client client lines else lines_of_client client lines) line
    go more true same (inl here) = subst (Contains (first ∷ lines_of_client client lines)) here (Contains-first first (lines_of_client client lines))
    go more true same (inr later) = Contains-append_right (first ∷ []) (lines_of_client client lines) line (more later)
    go more false other (inl here) = absurd (false≢true (sym other ∙ eq-eqb first.0.client client (ap (λ (l : Ask × Outcome). l.0.client) here ∙ is)))
    go more false other (inr later) = more later

pub line_of_all : (client : ℕ) (lines : List (Ask × Outcome)) (line : Ask × Outcome) → Contains (lines_of_client client lines) line → Contains lines line
line_of_all client [] line there = there
line_of_all client (first ∷ lines) line there = go (line_of_all client lines line) (first.0.client == client) there
  where
    go : (Contains (lines_of_client client lines) line → Contains lines line) → (test : Bool) → Contains (if test then first ∷ lines_of_client client lines else lines_of_client client lines) line → Contains (first ∷ lines) line
    go more true here = elim (Contains-cases first (lines_of_client client lines) line here) [
      | inl is ↦ subst (Contains (first ∷ lines)) is (Contains-first first lines)
      | inr later ↦ Contains-append_right (first ∷ []) lines line (more later)
    ]
    go more false later = Contains-append_right (first ∷ []) lines line (more later)

pub client_of_line : (client : ℕ) (lines : List (Ask × Outcome)) (line : Ask × Outcome) → Contains (lines_of_client client lines) line → line.0.client ≡ client
client_of_line client [] line there = absurd (omega (arith, there.1))
client_of_line client (first ∷ lines) line there = go (client_of_line client lines line) (first.0.client == client) refl there
  where
    go : (Contains (lines_of_client client lines) line → line.0.client ≡ client) → (test : Bool) → (first.0.client == client) ≡ test → Contains (if test then first ∷ lines_of_client client lines else lines_of_client client lines) line → line.0.client ≡ client
    go more true same here = elim (Contains-cases first (lines_of_client client lines) line here) [
      | inl is ↦ sym (ap (λ (l : Ask × Outcome). l.0.client) is) ∙ eqb-true first.0.client client same
      | inr later ↦ more later
    ]
    go more false other later = more later

-- what is kept of a client at first

more_at_most : (few most : ℕ) (kept : List KeptRequest) → few ≤ most → AreAtMost few kept → AreAtMost most kept
more_at_most few most [] below all = tt
more_at_most few most (one ∷ kept) below all = (omega (arith, below, all.0), more_at_most few most kept below all.1)

each_at_most : (most : ℕ) (kept : List KeptRequest) → ((place : ℕ) → place < length kept → kept_number kept place ≤ most) → AreAtMost most kept
each_at_most most [] each = tt
each_at_most most (one ∷ kept) each = (each 0 (omega arith), each_at_most most kept (λ place below. each (suc place) (omega (arith, below))))

kept_at_most : (s : Standing) (client : ℕ) → HasKeptLists s → AreAtMost (last_of s client) (kept_list_of s client)
kept_at_most s client lists = elim (cases_lt client s.clients) [
  | inl inside ↦ each_at_most (last_of s client) (kept_list_of s client) (λ place below. newest_first s lists client place inside below)
  | inr past ↦ subst (AreAtMost (last_of s client)) (sym (get_or_past s.kept client [] (omega (arith, past, lists.count)))) tt
]

-- The requests of a call

-- the sealed rounds stand before those that aren't

no_sealed : (lost : List LoggedRound) (round : Round) → AreUnsealed lost → Contains (rounds_in (filter (λ one. one.sealed) lost)) round → ⊥
no_sealed [] round unsealed there = omega (arith, there.1)
no_sealed (first ∷ lost) round unsealed there =
    no_sealed lost round unsealed.1 (subst (λ (test : Bool). Contains (rounds_in (if test then first ∷ filter (λ one. one.sealed) lost else filter (λ one. one.sealed) lost)) round) unsealed.0 there)

sealed_inside : (kept lost : List LoggedRound) (round : Round) → AreUnsealed lost → Contains (rounds_in (filter (λ one. one.sealed) (kept ++ lost))) round → Contains (rounds_in kept) round
sealed_inside [] lost round unsealed there = absurd (no_sealed lost round unsealed there)
sealed_inside (first ∷ kept) lost round unsealed there = go (sealed_inside kept lost round unsealed) first.sealed there
  where
    go : (Contains (rounds_in (filter (λ one. one.sealed) (kept ++ lost))) round → Contains (rounds_in kept) round) → (test : Bool) → Contains (rounds_in (if test then first ∷ filter (λ one. one.sealed) (kept ++ lost) else filter (λ one. one.sealed) (kept ++ lost))) round → Contains (rounds_in (first ∷ kept)) round
    go more true here = elim (Contains-cases first.round (rounds_in (filter (λ one. one.sealed) (kept ++ lost))) round here) [
      | inl is ↦ subst (Contains (rounds_in (first ∷ kept))) is (Contains-first first.round (rounds_in kept))
      | inr later ↦ Contains-append_right (first.round ∷ []) (rounds_in kept) round (more later)
    ]
    go more false later = Contains-append_right (first.round ∷ []) (rounds_in kept) round (more later)

-- an entry of a sealed round
pub sealed_entry : (kept lost : List LoggedRound) (entry : Entry) → AreUnsealed lost → HasEntry (rounds_in (filter (λ one. one.sealed) (kept ++ lost))) entry → HasEntry (rounds_in kept) entry
sealed_entry kept lost entry unsealed has = record { round = has.round; told = sealed_inside kept lost has.round unsealed has.told; member = has.member }

-- what became of a script's requests, in a history of which the first rounds hold each sealed one
pub record IsSaidOf (s : Standing) (history kept lost : List LoggedRound) (asks : List Ask) (list : List Outcome) : Type 0 where
  pub lists : HasKeptLists s
  pub legal : IsLegal s (rounds_in history)
  pub outcomes : Outcomes s (rounds_in history) asks list
  pub new_sealed : AreNewRecorded (rounds_in (filter (λ one. one.sealed) history)) (zip asks list)
  pub whole : history ≡ kept ++ lost
  pub unsealed : AreUnsealed lost

module _ (s : Standing) (history kept lost : List LoggedRound) (asks : List Ask) (list : List Outcome) (said : IsSaidOf s history kept lost asks list) where
  rounds_whole : rounds_in history ≡ rounds_in kept ++ rounds_in lost
  rounds_whole = ap rounds_in said.whole ∙ rounds_in-append kept lost

  kept_legal : IsLegal s (rounds_in kept)
  kept_legal = legal_front s (rounds_in kept) (rounds_in lost) (subst (IsLegal s) rounds_whole said.legal)

  -- the entry of a new line
  new_at_most : (ask : Ask) (reply : Reply) → Contains (zip asks list) (ask, New reply) → ask.number ≤ last_of (state_after s (rounds_in kept)) ask.client
  new_at_most ask reply line =
      recorded_at_most s (rounds_in kept) (entry_of ask reply) said.lists.count kept_legal
      (sealed_entry kept lost (entry_of ask reply) said.unsealed (subst (λ (h : List LoggedRound). HasEntry (rounds_in (filter (λ one. one.sealed) h)) (entry_of ask reply)) said.whole (said.new_sealed ask reply line)))

  pub said_at_most : (ask : Ask) (outcome : Outcome) → Contains (zip asks list) (ask, outcome) → SaysApplied outcome → ask.number ≤ last_of (state_after s (rounds_in kept)) ask.client
  said_at_most ask outcome line says =
      lines_at_most (last_of (state_after s (rounds_in kept)) ask.client) (rounds_in history) (lines_of_client ask.client (zip asks list)) (kept_list_of s ask.client)
      (more_at_most (last_of s ask.client) (last_of (state_after s (rounds_in kept)) ask.client) (kept_list_of s ask.client) (last_rises_all s (rounds_in kept) ask.client said.lists.count kept_legal) (kept_at_most s ask.client said.lists))
      (λ other reply there. new_here other reply there)
      (said.outcomes.each_client ask.client) ask outcome (line_of_client ask.client (zip asks list) (ask, outcome) refl line) says
    where
      new_here : (other : Ask) (reply : Reply) → Contains (lines_of_client ask.client (zip asks list)) (other, New reply) → other.number ≤ last_of (state_after s (rounds_in kept)) ask.client
      new_here other reply there =
          let below = new_at_most other reply (line_of_all ask.client (zip asks list) (other, New reply) there) in
          let client : last_of (state_after s (rounds_in kept)) other.client ≡ last_of (state_after s (rounds_in kept)) ask.client = ap (last_of (state_after s (rounds_in kept))) (client_of_line ask.client (zip asks list) (other, New reply) there) in
          omega (arith, below, client)
