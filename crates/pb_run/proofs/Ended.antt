-- What the clients' lines and the end of a shared object say of a run.
use Rattle.std.proofs.Common.{◌≡◌, ◌≢◌, ◌⊎◌, ℕ, zero, suc, ◌+◌, ◌<◌, ◌≤◌, eqb, Bool, true, false, cond, List, [], ◌∷◌, ◌++◌, length, map, Option, Some, None, IfSome, refl, sym, ap, subst, ◌∙◌, inl, inr, arith, length-append, eq-eqb, Contains}
use Rattle.std.specs.List.{zip, filter, count_by}
use Rattle.std.specs.Prelude.{slice_index_or}
use Rattle.std.proofs.lemmas.Bool.{cases_lt, ne_eqb, false≢true}
use Rattle.std.proofs.lemmas.Bool.Decides.{nat_tests}
use Rattle.std.proofs.lemmas.List.{append-nil, length-map}
use Rattle.std.proofs.lemmas.List.Elements.{All-contains, All-contains_itself, All-filter, Contains-append_left, Contains-append_right, Contains-push_cases, Contains-append_cases}
use Rattle.pb_object.specs.declared.kind.Kind.{Kind}
use Rattle.pb_object.specs.declared.request.Ask.{Ask}
use Rattle.pb_object.specs.declared.request.Kept.{Kept as KeptRequest}
use Rattle.pb_object.specs.declared.request.Reply.{Reply}
use Rattle.pb_object.specs.History.{Entry, Round, History, after_entry, after_entries, after_round, state_after, IsLegal, IsLegalRound, AreLegal}
use Rattle.pb_object.specs.Standing.{Standing, kept_list_of}
use Rattle.pb_core.specs.Client.{Idle, Client, is_idle, is_announced, entry_by}
use Rattle.pb_core.specs.Memory.{coming}
use Rattle.pb_core.specs.MemoryParts.{entries_with, entries_in, entries_ahead, own_entries, HasEntries}
use Rattle.pb_core.proofs.Entries.{entries_in-append}
use Rattle.pb_core.proofs.Histories.{legal-push}
use Rattle.pb_engine.specs.Calls.{with_doubt, settled_rounds, progress_of}
use Rattle.pb_engine.specs.Good.{HasCome}
use Rattle.pb_engine.specs.View.{EngineView, FailedRound}
use Rattle.pb_report.specs.declared.outcome.Outcome.{Outcome}
use Rattle.pb_report.specs.declared.outcome.Outcome.TheVariants.{New, Kept, Old, Gap, Changed, Doubt, Left}
use Rattle.pb_report.specs.Outcomes.{AreLines, HasEntry, IsTriedLine, Outcomes, ask_of, entry_of, is_tried, lines_of_client}
use Rattle.pb_report.proofs.GoingOn.{HasEntriesOf, lines_over}
use Rattle.pb_rule.specs.Opening.{IsEnded, AreEnded, OneOf, HasEnded}
use Rattle.pb_rule.specs.Rule.{called_if, called_round, Fault, AreOfClients, fault_asks, met_if, met_by, HasAnswered, HasAskedFor}
use Rattle.pb_rule.specs.View.{PassView}
use Rattle.pb_rule.proofs.Members.{contains-here, contains-there, contains-none, contains-one, contains-cases, of_all, with_own}
use Rattle.pb_run.specs.Line.{met_ask}
use Rattle.pb_run.specs.Lists.{asks_of}
use Rattle.pb_run.specs.Run.{is_doubt, line_in_doubt, line_ask, asks_in_doubt, AreNewRecorded, AreCharged, HasNewLine, HasRun}
use Rattle.pb_run.specs.Worker.{Line, new_count, doubt_count, own_history, IsPendingLine, IsSoFar}
use Rattle.pb_report.specs.SummaryText.{is_new}
use Rattle.pb_run.proofs.Sums.{sum_below, sum-same, sum-most, tally, tally_with, AreBelow, tallies, tally-filter, tally-counts}

-- Members

kept_in : {A : Type 0} (test : A → Bool) (xs : List A) (x : A) → test x ≡ true → Contains xs x → Contains (filter test xs) x
kept_in test [] x passes is = absurd (contains-none x is)
kept_in test (y ∷ xs) x passes is = go (kept_in test xs x passes) (test y) refl (contains-cases y x xs is)
  where
    go : (Contains xs x → Contains (filter test xs) x) → (b : Bool) → test y ≡ b → (y ≡ x) ⊎ Contains xs x → Contains (cond b (y ∷ filter test xs) (filter test xs)) x
    go rest true own (inl same) = subst (Contains (y ∷ filter test xs)) same (contains-here y (filter test xs))
    go rest true own (inr more) = contains-there y x (filter test xs) (rest more)
    go rest false other (inl same) = absurd (false≢true (sym other ∙ (ap test same ∙ passes)))
    go rest false other (inr more) = rest more

kept_of : {A : Type 0} (test : A → Bool) (xs : List A) (x : A) → Contains (filter test xs) x → Contains xs x
kept_of test xs x is = All-contains (Contains xs) (filter test xs) x (All-filter test (Contains xs) xs (All-contains_itself xs)) is

-- Entries of a client

pub in_rounds : (history : History) (entry : Entry) → HasEntry history entry → Contains (entries_in entry.client history) entry
in_rounds [] entry has = absurd (contains-none has.round has.told)
in_rounds (round ∷ history) entry has = elim (contains-cases round has.round history has.told) [
  | inl same ↦ Contains-append_left (entries_with entry.client round.entries) (entries_in entry.client history) entry (with_own round.entries entry (subst (λ (r : Round). Contains r.entries entry) (sym same) has.member))
  | inr more ↦ Contains-append_right (entries_with entry.client round.entries) (entries_in entry.client history) entry (in_rounds history entry (record { round = has.round; told = more; member = has.member }))
]

pub of_rounds : (c : ℕ) (history : History) (entry : Entry) → Contains (entries_in c history) entry → HasEntry history entry
of_rounds c [] entry is = absurd (contains-none entry is)
of_rounds c (round ∷ history) entry is = elim (Contains-append_cases (entries_with c round.entries) (entries_in c history) entry is) [
  | inl here ↦ record { round = round; told = contains-here round history; member = of_all c round.entries entry here }
  | inr later ↦ let has = of_rounds c history entry later in record { round = has.round; told = contains-there round has.round history has.told; member = has.member }
]

-- Legal histories

entries-clients : (s : Standing) (side : ℕ) (entries : List Entry) → AreLegal s side entries → (after_entries s entries).clients ≡ s.clients
entries-clients s side [] legal = refl
entries-clients s side (entry ∷ entries) legal = entries-clients (after_entry s entry) side entries legal.1

abbrev all_entries : History → List Entry
all_entries [] = []
all_entries (round ∷ history) = round.entries ++ all_entries history

abbrev any_entry : Entry → Bool
any_entry entry = true

abbrev entry_client : Entry → ℕ
entry_client entry = entry.client

below-append : (n : ℕ) (a b : List Entry) → AreBelow entry_client any_entry n a → AreBelow entry_client any_entry n b → AreBelow entry_client any_entry n (a ++ b)
below-append n [] b first second = second
below-append n (entry ∷ a) b first second = (first.0, below-append n a b first.1 second)

round-below : (s : Standing) (side : ℕ) (entries : List Entry) → AreLegal s side entries → AreBelow entry_client any_entry s.clients entries
round-below s side [] legal = tt
round-below s side (entry ∷ entries) legal = (legal.0.client, round-below (after_entry s entry) side entries legal.1)

pub all-below : (s : Standing) (history : History) → IsLegal s history → AreBelow entry_client any_entry s.clients (all_entries history)
all-below s [] legal = tt
all-below s (round ∷ history) legal =
    below-append s.clients round.entries (all_entries history) (round-below s round.side round.entries legal.0.legal)
    (subst (λ (n : ℕ). AreBelow entry_client any_entry n (all_entries history)) (entries-clients s round.side round.entries legal.0.legal) (all-below (after_round s round) history legal.1))

pub entry-below : (n : ℕ) (entries : List Entry) (entry : Entry) → AreBelow entry_client any_entry n entries → Contains entries entry → entry.client < n
entry-below n [] entry below is = absurd (contains-none entry is)
entry-below n (first ∷ entries) entry below is = elim (contains-cases first entry entries is) [
  | inl same ↦ subst (λ (e : Entry). e.client < n) same below.0
  | inr more ↦ entry-below n entries entry below.1 more
]

all-has : (history : History) (entry : Entry) → HasEntry history entry → Contains (all_entries history) entry
all-has [] entry has = absurd (contains-none has.round has.told)
all-has (round ∷ history) entry has = elim (contains-cases round has.round history has.told) [
  | inl same ↦ Contains-append_left round.entries (all_entries history) entry (subst (λ (r : Round). Contains r.entries entry) (sym same) has.member)
  | inr more ↦ Contains-append_right round.entries (all_entries history) entry (all-has history entry (record { round = has.round; told = more; member = has.member }))
]

some_entries : (entries : List Entry) → entries ≢ [] → 1 ≤ length entries
some_entries [] some = absurd (some refl)
some_entries (entry ∷ entries) some = omega arith

pub no_empty_rounds : (s : Standing) (history : History) → IsLegal s history → length history ≤ length (all_entries history)
no_empty_rounds s [] legal = omega arith
no_empty_rounds s (round ∷ history) legal =
    omega (arith, length-append round.entries (all_entries history), some_entries round.entries legal.0.some, no_empty_rounds (after_round s round) history legal.1)

tally-all : (entries : List Entry) → tally entry_client any_entry entries ≡ length entries
tally-all [] = refl
tally-all (entry ∷ entries) = omega (arith, tally-all entries)

tally-own : (c : ℕ) (entries : List Entry) → tally_with entry_client any_entry c entries ≡ length (entries_with c entries)
tally-own c [] = refl
tally-own c (entry ∷ entries) = go (eqb entry.client c) (tally-own c entries)
  where
    go : (b : Bool) → tally_with entry_client any_entry c entries ≡ length (entries_with c entries) → cond b 1 0 + tally_with entry_client any_entry c entries ≡ length (cond b (entry ∷ entries_with c entries) (entries_with c entries))
    go true rest = omega (arith, rest)
    go false rest = omega (arith, rest)

with-append : (c : ℕ) (a b : List Entry) → entries_with c (a ++ b) ≡ entries_with c a ++ entries_with c b
with-append c [] b = refl
with-append c (entry ∷ a) b = go (eqb entry.client c) (with-append c a b)
  where
    go : (t : Bool) → entries_with c (a ++ b) ≡ entries_with c a ++ entries_with c b → cond t (entry ∷ entries_with c (a ++ b)) (entries_with c (a ++ b)) ≡ cond t (entry ∷ entries_with c a) (entries_with c a) ++ entries_with c b
    go true rest = ap (λ (es : List Entry). entry ∷ es) rest
    go false rest = rest

in-all : (c : ℕ) (history : History) → entries_in c history ≡ entries_with c (all_entries history)
in-all c [] = refl
in-all c (round ∷ history) = ap (λ (es : List Entry). entries_with c round.entries ++ es) (in-all c history) ∙ sym (with-append c round.entries (all_entries history))

-- the rounds are no more than the clients' entries together
pub rounds-few : (s : Standing) (history : History) → IsLegal s history → length history ≤ sum_below s.clients (λ c. length (entries_in c history))
rounds-few s history legal =
    omega (
      arith,
      no_empty_rounds s history legal,
      tally-all (all_entries history),
      tallies entry_client any_entry s.clients (all_entries history) (all-below s history legal),
      sum-same s.clients (λ c. tally_with entry_client any_entry c (all_entries history)) (λ c. length (entries_in c history)) (λ c inside. tally-own c (all_entries history) ∙ ap length (sym (in-all c history))),
    )

-- Faults of the clients

abbrev fault_client : Fault → ℕ
fault_client fault = fault.client

abbrev any_fault : Fault → Bool
any_fault fault = true

faults-below : (n : ℕ) (faults : List Fault) → AreOfClients n faults → AreBelow fault_client any_fault n faults
faults-below n [] are = tt
faults-below n (fault ∷ faults) are = (are.0, faults-below n faults are.2)

faults-all : (faults : List Fault) → tally fault_client any_fault faults ≡ length faults
faults-all [] = refl
faults-all (fault ∷ faults) = omega (arith, faults-all faults)

faults-own : (c : ℕ) (faults : List Fault) → tally_with fault_client any_fault c faults ≡ length (met_by c faults)
faults-own c [] = refl
faults-own c (fault ∷ faults) = go (eqb fault.client c) (faults-own c faults)
  where
    go : (b : Bool) → tally_with fault_client any_fault c faults ≡ length (met_by c faults) → cond b 1 0 + tally_with fault_client any_fault c faults ≡ length (met_if b fault.met (met_by c faults))
    go true rest = omega (arith, rest)
    go false rest = omega (arith, rest)

pub faults-sum : (n : ℕ) (faults : List Fault) → AreOfClients n faults → length faults ≡ sum_below n (λ c. length (met_by c faults))
faults-sum n faults are =
    sym (faults-all faults) ∙ (sym (tallies fault_client any_fault n faults (faults-below n faults are))
    ∙ sum-same n (λ c. tally_with fault_client any_fault c faults) (λ c. length (met_by c faults)) (λ c inside. faults-own c faults))

-- the requests of one client's
fault_asks-own : (n c : ℕ) (faults : List Fault) → AreOfClients n faults → asks_of c (fault_asks faults) ≡ map met_ask (met_by c faults)
fault_asks-own n c [] are = refl
fault_asks-own n c (fault ∷ faults) are =
    ap (λ (k : ℕ). cond (eqb k c) (fault.met.ask ∷ asks_of c (fault_asks faults)) (asks_of c (fault_asks faults))) are.1
    ∙ go (eqb fault.client c) (fault_asks-own n c faults are.2)
  where
    go : (b : Bool) → asks_of c (fault_asks faults) ≡ map met_ask (met_by c faults) → cond b (fault.met.ask ∷ asks_of c (fault_asks faults)) (asks_of c (fault_asks faults)) ≡ map met_ask (met_if b fault.met (met_by c faults))
    go true rest = ap (λ (asks : List Ask). fault.met.ask ∷ asks) rest
    go false rest = rest

-- no fault is of a client that isn't there
met_by-none : (n c : ℕ) (faults : List Fault) → n ≤ c → AreOfClients n faults → met_by c faults ≡ []
met_by-none n c [] past are = refl
met_by-none n c (fault ∷ faults) past are =
    ap (λ (b : Bool). met_if b fault.met (met_by c faults)) (ne_eqb fault.client c (λ e. omega (arith, e, past, are.0))) ∙ met_by-none n c faults past are.2

-- Lines of the clients

abbrev line_client : Line → ℕ
line_client line = line.0.client

pub lines-below : (n : ℕ) (test : Line → Bool) (asks : List Ask) (list : List Outcome) → ((k : ℕ) (d : Ask) → k < length asks → (slice_index_or asks k d).client < n) → AreBelow line_client test n (zip asks list)
lines-below n test [] list below = tt
lines-below n test (ask ∷ asks) [] below = tt
lines-below n test (ask ∷ asks) (o ∷ list) below = (below 0 ask (omega arith), lines-below n test asks list (λ k d inside. below (suc k) d (omega (arith, inside))))

zip-tally : (test : Outcome → Bool) (asks : List Ask) (list : List Outcome) → length list ≡ length asks → tally line_client (λ line. test line.1) (zip asks list) ≡ count_by test list
zip-tally test asks list same = by_list asks list same ∙ tally-counts (λ o. 0) test list
  where
    by_list : (asks : List Ask) (list : List Outcome) → length list ≡ length asks → tally line_client (λ line. test line.1) (zip asks list) ≡ tally (λ o. 0) test list
    by_list [] [] same = refl
    by_list [] (o ∷ list) same = absurd (omega (arith, same))
    by_list (ask ∷ asks) [] same = absurd (omega (arith, same))
    by_list (ask ∷ asks) (o ∷ list) same = ap (λ (n : ℕ). cond (test o) (1 + n) n) (by_list asks list (omega (arith, same)))

-- so many outcomes pass a test as the clients' lines do together
pub lines-sum : (n : ℕ) (test : Outcome → Bool) (asks : List Ask) (list : List Outcome) → length list ≡ length asks → ((k : ℕ) (d : Ask) → k < length asks → (slice_index_or asks k d).client < n)
    → sum_below n (λ c. count_by (λ line. test line.1) (lines_of_client c (zip asks list))) ≡ count_by test list
lines-sum n test asks list same below =
    sum-same n (λ c. count_by on (lines_of_client c (zip asks list))) (λ c. tally_with line_client on c (zip asks list)) (λ c inside. sym (tally-filter line_client on c (zip asks list) ∙ tally-counts line_client on (lines_of_client c (zip asks list))))
    ∙ (tallies line_client on n (zip asks list) (lines-below n on asks list below) ∙ zip-tally test asks list same)
  where
    on : Line → Bool
    on line = test line.1

-- each line that is tried is new or in doubt
tried-both : (lines : List Line) → count_by (λ line. is_tried line.1) lines ≡ new_count lines + doubt_count lines
tried-both lines =
    sym (tally-counts line_client (λ line. is_tried line.1) lines) ∙ (both lines ∙ (λ i. tally-counts line_client (λ line. is_new line.1) lines i + tally-counts line_client (λ line. is_doubt line.1) lines i))
  where
    by : (o : Outcome) (n m k : ℕ) → n ≡ m + k → cond (is_tried o) (1 + n) n ≡ cond (is_new o) (1 + m) m + cond (is_doubt o) (1 + k) k
    by (New reply) n m k e = omega (arith, e)
    by Doubt n m k e = omega (arith, e)
    by (Kept reply) n m k e = e
    by Old n m k e = e
    by Gap n m k e = e
    by Changed n m k e = e
    by Left n m k e = e

    both : (lines : List Line) → tally line_client (λ line. is_tried line.1) lines ≡ tally line_client (λ line. is_new line.1) lines + tally line_client (λ line. is_doubt line.1) lines
    both [] = refl
    both (line ∷ lines) = by line.1 _ _ _ (both lines)

some-doubt : (ask : Ask) (lines : List Line) → Contains lines (ask, Doubt) → 1 ≤ tally line_client (λ line. is_doubt line.1) lines
some-doubt ask [] is = absurd (contains-none (ask, Doubt) is)
some-doubt ask (line ∷ lines) is = go (some-doubt ask lines) (is_doubt line.1) refl (contains-cases line (ask, Doubt) lines is)
  where
    go : (Contains lines (ask, Doubt) → 1 ≤ tally line_client (λ line. is_doubt line.1) lines) → (b : Bool) → is_doubt line.1 ≡ b → (line ≡ (ask, Doubt)) ⊎ Contains lines (ask, Doubt) → 1 ≤ cond b (1 + tally line_client (λ line. is_doubt line.1) lines) (tally line_client (λ line. is_doubt line.1) lines)
    go rest true e found = omega arith
    go rest false e (inl same) = absurd (false≢true (sym e ∙ ap (λ (l : Line). is_doubt l.1) same))
    go rest false e (inr more) = rest more

-- the requests in doubt are as many
doubted-many : (lines : List Line) → length (asks_in_doubt lines) ≡ doubt_count lines
doubted-many lines = by lines ∙ tally-counts line_client line_in_doubt lines
  where
    by : (lines : List Line) → length (asks_in_doubt lines) ≡ tally line_client line_in_doubt lines
    by [] = refl
    by (line ∷ lines) = go (is_doubt line.1) (by lines)
      where
        go : (b : Bool) → length (asks_in_doubt lines) ≡ tally line_client line_in_doubt lines → length (map line_ask (cond b (line ∷ filter line_in_doubt lines) (filter line_in_doubt lines))) ≡ cond b (1 + tally line_client line_in_doubt lines) (tally line_client line_in_doubt lines)
        go true rest = omega (arith, rest)
        go false rest = rest

-- one client's are those of its lines
doubted-own : (c : ℕ) (lines : List Line) → asks_of c (asks_in_doubt lines) ≡ asks_in_doubt (lines_of_client c lines)
doubted-own c [] = refl
doubted-own c (line ∷ lines) = go (is_doubt line.1) refl (eqb line.0.client c) refl (doubted-own c lines)
  where
    whole : List Line
    whole = lines_of_client c lines

    go : (b : Bool) → is_doubt line.1 ≡ b → (own : Bool) → eqb line.0.client c ≡ own → asks_of c (asks_in_doubt lines) ≡ asks_in_doubt (lines_of_client c lines)
        → asks_of c (map line_ask (cond b (line ∷ filter line_in_doubt lines) (filter line_in_doubt lines))) ≡ asks_in_doubt (cond own (line ∷ lines_of_client c lines) (lines_of_client c lines))
    go true doubt true own rest =
        ap (λ (b : Bool). cond b (line.0 ∷ asks_of c (asks_in_doubt lines)) (asks_of c (asks_in_doubt lines))) own
        ∙ (ap (λ (asks : List Ask). line.0 ∷ asks) rest ∙ sym (ap (λ (b : Bool). map line_ask (cond b (line ∷ filter line_in_doubt whole) (filter line_in_doubt whole))) doubt))
    go true doubt false own rest =
        ap (λ (b : Bool). cond b (line.0 ∷ asks_of c (asks_in_doubt lines)) (asks_of c (asks_in_doubt lines))) own ∙ rest
    go false doubt true own rest =
        rest ∙ sym (ap (λ (b : Bool). map line_ask (cond b (line ∷ filter line_in_doubt whole) (filter line_in_doubt whole))) doubt)
    go false doubt false own rest = rest

doubt-some : (lines : List Line) (ask : Ask) → Contains lines (ask, Doubt) → 1 ≤ doubt_count lines
doubt-some lines ask is = omega (arith, some-doubt ask lines is, tally-counts line_client (λ line. is_doubt line.1) lines)

-- One client at the end

-- its lines have their outcomes, by its pass
pub record IsThroughFor (start : Standing) (lines : List Line) (k : ℕ) (v : PassView) : Type 0 where
  pub client : v.client ≡ k
  pub left : Bool
  pub so : IsSoFar (kept_list_of start k) (lines_of_client k lines) left v

-- a request that is open at the end is a line in doubt
announced-waits : (lines : List Line) (v : PassView) → (v.body.stage ≡ Idle) ⊎ IsPendingLine lines v → is_announced v.body.stage ≡ true → IsPendingLine lines v
announced-waits lines v (inl idle) announced = absurd (false≢true (ap is_announced (sym idle) ∙ announced))
announced-waits lines v (inr pending) announced = pending

-- what its pass asked for has a line
asked_line : (s : Standing) (lines : List Line) (k : ℕ) (v : PassView) → IsThroughFor s lines k v → (entry : Entry) → HasAskedFor entry v.body → IsTriedLine (lines_of_client k lines) entry
asked_line s lines k v is entry (inl is_open) =
    subst (IsTriedLine (lines_of_client k lines)) (sym is_open.same) (by is.so.rests)
  where
    by : (v.body.stage ≡ Idle) ⊎ IsPendingLine (lines_of_client k lines) v → IsTriedLine (lines_of_client k lines) (entry_by v.body.ask entry.reply)
    by (inl idle) = absurd (false≢true (sym is_open.asks ∙ ap is_idle idle))
    by (inr pending) = record { outcome = Doubt; line = pending.line; tried = refl }
asked_line s lines k v is entry (inr was) =
    record { outcome = New was.reply; line = is.so.told (record entry { reply = was.reply }) was.own; tried = refl }

module _ (s : Standing) (lines : List Line) (k : ℕ) (v : PassView) (is : IsThroughFor s lines k v) (published : History) (ahead : Option Round) (list : List KeptRequest) where
  abbrev mine : List Line
  mine = lines_of_client k lines

  own_in : HasEntries k published ahead list v.body → (entry : Entry) → Contains (own_entries v.body) entry → Contains (entries_in k published) entry
  own_in (inl clear) entry own = subst (λ (es : List Entry). Contains es entry) (sym clear.told) own
  own_in (inr (inl coming_is)) entry own = subst (λ (es : List Entry). Contains es entry) (sym coming_is.told) own
  own_in (inr (inr served)) entry own =
      subst (λ (es : List Entry). Contains es entry) (sym served.told) (Contains-append_left (own_entries v.body) (entry_by v.body.ask served.reply ∷ []) entry own)

  pending : is_announced v.body.stage ≡ true → IsPendingLine (lines_of_client k lines) v
  pending announced = announced-waits (lines_of_client k lines) v is.so.rests announced

  new_line : (entry : Entry) → Contains (own_entries v.body) entry → IsTriedLine (lines_of_client k lines) entry
  new_line entry own = record { outcome = New entry.reply; line = is.so.told entry own; tried = refl }

  open_line : (reply : Reply) → is_announced v.body.stage ≡ true → IsTriedLine (lines_of_client k lines) (entry_by v.body.ask reply)
  open_line reply announced = record { outcome = Doubt; line = (pending announced).line; tried = refl }

  told_line : HasEntries k published ahead list v.body → (entry : Entry) → Contains (entries_in k published) entry → IsTriedLine (lines_of_client k lines) entry
  told_line (inl clear) entry told = new_line entry (subst (λ (es : List Entry). Contains es entry) clear.told told)
  told_line (inr (inl coming_is)) entry told = new_line entry (subst (λ (es : List Entry). Contains es entry) coming_is.told told)
  told_line (inr (inr served)) entry told =
      elim (Contains-push_cases (own_entries v.body) (entry_by v.body.ask served.reply) entry (subst (λ (es : List Entry). Contains es entry) served.told told)) [
        | inl own ↦ new_line entry own
        | inr same ↦ subst (IsTriedLine (lines_of_client k lines)) same (open_line served.reply served.announced)
      ]

  ahead_line : HasEntries k published ahead list v.body → (entry : Entry) → Contains (entries_ahead k ahead) entry → IsTriedLine (lines_of_client k lines) entry
  ahead_line (inl clear) entry told = absurd (contains-none entry (subst (λ (es : List Entry). Contains es entry) clear.none told))
  ahead_line (inr (inl coming_is)) entry told =
      subst (IsTriedLine (lines_of_client k lines)) (contains-one (entry_by v.body.ask coming_is.reply) entry (subst (λ (es : List Entry). Contains es entry) coming_is.one told)) (open_line coming_is.reply coming_is.announced)
  ahead_line (inr (inr served)) entry told = absurd (contains-none entry (subst (λ (es : List Entry). Contains es entry) served.none told))

  few_entries : HasEntries k published ahead list v.body → length (entries_in k published) + length (entries_ahead k ahead) ≤ count_by (λ line. is_tried line.1) (lines_of_client k lines)
  few_entries (inl clear) = omega (arith, ap length clear.told, ap length clear.none, is.so.new_lines, tried-both (lines_of_client k lines))
  few_entries (inr (inl coming_is)) =
      omega (arith, ap length coming_is.told, ap length coming_is.one, is.so.new_lines, tried-both (lines_of_client k lines), doubt-some (lines_of_client k lines) v.body.ask (pending coming_is.announced).line)
  few_entries (inr (inr served)) =
      omega (arith, ap length served.told, length-append (own_entries v.body) (entry_by v.body.ask served.reply ∷ []), ap length served.none, is.so.new_lines, tried-both (lines_of_client k lines), doubt-some (lines_of_client k lines) v.body.ask (pending served.announced).line)

-- All clients at the end

no_lines : (history : History) (kept : List KeptRequest) → AreLines history kept []
unfolding AreLines
no_lines history kept = tt

ended_at : (start : Standing) (published : History) (ahead : Option Round) (faults : List Fault) (views : List PassView) (k : ℕ) (d : PassView) → k < length views → AreEnded start published ahead faults views → IsEnded start published ahead faults (slice_index_or views k d)
ended_at start published ahead faults [] k d inside are = absurd (omega (arith, inside))
ended_at start published ahead faults (v ∷ views) zero d inside are = are.0
ended_at start published ahead faults (v ∷ views) (suc k) d inside are = ended_at start published ahead faults views k d (omega (arith, inside)) are.1

-- so it is with the pass at a place
record IsOneAt (so : Client → Type 0) (views : List PassView) (d : PassView) : Type 0 where
  place : ℕ
  inside : place < length views
  has : so (slice_index_or views place d).body

one_at : (so : Client → Type 0) (views : List PassView) (d : PassView) → OneOf so views → IsOneAt so views d
one_at so [] d one = absurd one
one_at so (v ∷ views) d (inl here) = record { place = 0; inside = omega arith; has = here }
one_at so (v ∷ views) d (inr later) =
    let at = one_at so views d later in
    record { place = suc at.place; inside = omega (arith, at.inside); has = at.has }

module _ (kind : Kind) (start now : EngineView) (views : List PassView) (asks : List Ask) (list : List Outcome) (d : PassView)
    (ended : HasEnded kind start now views) (many : length views ≡ start.standing.clients)
    (each : (k : ℕ) → k < length views → IsThroughFor start.standing (zip asks list) k (slice_index_or views k d))
    (below : (k : ℕ) (d : Ask) → k < length asks → (slice_index_or asks k d).client < start.standing.clients) (same : length list ≡ length asks) where
  abbrev n : ℕ
  n = start.standing.clients

  abbrev view : ℕ → PassView
  view k = slice_index_or views k d

  through : (k : ℕ) → k < start.standing.clients → IsThroughFor start.standing (zip asks list) k (slice_index_or views k d)
  through k inside = each k (omega (arith, inside, many))

  end_of : (k : ℕ) → k < start.standing.clients → IsEnded start.standing ended.published ended.ahead ended.faults (slice_index_or views k d)
  end_of k inside = ended_at start.standing ended.published ended.ahead ended.faults views k d (omega (arith, inside, many)) ended.passes

  entries_of : (k : ℕ) (inside : k < start.standing.clients) → HasEntries k ended.published ended.ahead (kept_list_of (state_after start.standing ended.published) (slice_index_or views k d).client) (slice_index_or views k d).body
  entries_of k inside = subst (λ (c : ℕ). HasEntries c ended.published ended.ahead (kept_list_of (state_after start.standing ended.published) (view k).client) (view k).body) (through k inside).client (end_of k inside).entries

  -- the rounds after settling are the published ones, and the one ahead
  settled_ahead : settled_rounds ended.published now.doubt ≡ ended.published ++ coming ended.ahead
  settled_ahead = go ended.doubt
    where
      by_called : (b : Bool) (round : Round) → with_doubt b ended.published round ≡ ended.published ++ coming (called_if b round)
      by_called true round = refl
      by_called false round = sym (append-nil ended.published)

      by_doubt : (doubt : Option FailedRound) → settled_rounds ended.published doubt ≡ ended.published ++ coming (called_round doubt)
      by_doubt None = sym (append-nil ended.published)
      by_doubt (Some failed) = by_called failed.called failed.round

      go : ((now.sure ≡ true) × (ended.ahead ≡ None)) ⊎ ((now.sure ≡ false) × (called_round now.doubt ≡ ended.ahead)) → settled_rounds ended.published now.doubt ≡ ended.published ++ coming ended.ahead
      go (inl calm) =
          ap (settled_rounds ended.published) (ended.sound.decided calm.0) ∙ (sym (append-nil ended.published) ∙ ap (λ (a : Option Round). ended.published ++ coming a) (sym calm.1))
      go (inr unsure) = by_doubt now.doubt ∙ ap (λ (a : Option Round). ended.published ++ coming a) unsure.1

  abbrev whole : History
  whole = ended.published ++ coming ended.ahead

  ahead_legal : IsLegal start.standing (ended.published ++ coming ended.ahead)
  ahead_legal = go ended.ahead ended.next
    where
      go : (ahead : Option Round) → IfSome ahead (IsLegalRound (state_after start.standing ended.published)) → IsLegal start.standing (ended.published ++ coming ahead)
      go None next = subst (IsLegal start.standing) (sym (append-nil ended.published)) ended.legal
      go (Some round) next = legal-push start.standing ended.published round ended.legal next

  coming_in : (k : ℕ) (ahead : Option Round) → entries_in k (coming ahead) ≡ entries_ahead k ahead
  coming_in k None = refl
  coming_in k (Some round) = append-nil (entries_with k round.entries)

  -- a line of a client is one of all
  line_of_all : (k : ℕ) (entry : Entry) → IsTriedLine (lines_of_client k (zip asks list)) entry → IsTriedLine (zip asks list) entry
  line_of_all k entry is = record { outcome = is.outcome; line = kept_of (λ line. eqb line.0.client k) (zip asks list) (ask_of entry, is.outcome) is.line; tried = is.tried }

  lines_none : (k : ℕ) → start.standing.clients ≤ k → lines_of_client k (zip asks list) ≡ []
  lines_none k past = go asks list below
    where
      go : (asks : List Ask) (list : List Outcome) → ((j : ℕ) (d : Ask) → j < length asks → (slice_index_or asks j d).client < start.standing.clients) → lines_of_client k (zip asks list) ≡ []
      go [] list inside = refl
      go (ask ∷ asks) [] inside = refl
      go (ask ∷ asks) (o ∷ list) inside =
          let low : ask.client < start.standing.clients = inside 0 ask (omega arith) in
          let apart : eqb ask.client k ≡ false = other ask low in
          ap (λ (b : Bool). cond b ((ask, o) ∷ lines_of_client k (zip asks list)) (lines_of_client k (zip asks list))) apart ∙ go asks list (λ j d there. inside (suc j) d (omega (arith, there)))
        where
          other : (ask : Ask) → ask.client < start.standing.clients → eqb ask.client k ≡ false
          other ask low = let differ : ask.client ≢ k = λ e. omega (arith, low, past, e) in grind (arith, nat_tests)

  -- the outcomes are those of a run with each history that has the clients' own entries and no others but open ones
  outcomes_with : (history : History) → IsLegal start.standing history
      → ((k : ℕ) (inside : k < start.standing.clients) (entry : Entry) → Contains (own_entries (slice_index_or views k d).body) entry → HasEntry history entry)
      → ((k : ℕ) (inside : k < start.standing.clients) (entry : Entry) → Contains (entries_in k history) entry → IsTriedLine (lines_of_client k (zip asks list)) entry)
      → Outcomes start.standing history asks list
  outcomes_with history legal has told = record {
    same_length = same;
    each_client = λ k. by_client k (cases_lt k start.standing.clients);
    each_entry = λ entry recorded. line_of_all entry.client entry (told entry.client (entry-below start.standing.clients (all_entries history) entry (all-below start.standing history legal) (all-has history entry recorded)) entry (in_rounds history entry recorded));
  }
    where
      own_history_in : (k : ℕ) → k < start.standing.clients → HasEntriesOf history (own_history (slice_index_or views k d))
      own_history_in k inside entry is =
          has k inside entry (subst (λ (r : Round). Contains r.entries entry) (sym (contains-one (record { side = 0; entries = own_entries (slice_index_or views k d).body }) is.round is.told)) is.member)

      by_client : (k : ℕ) → (k < start.standing.clients) ⊎ (start.standing.clients ≤ k) → AreLines history (kept_list_of start.standing k) (lines_of_client k (zip asks list))
      by_client k (inl inside) =
          lines_over (own_history (slice_index_or views k d)) history (lines_of_client k (zip asks list)) (kept_list_of start.standing k) (own_history_in k inside) (through k inside).so.are
      by_client k (inr past) = subst (AreLines history (kept_list_of start.standing k)) (sym (lines_none k past)) (no_lines history (kept_list_of start.standing k))

  own_published : (k : ℕ) (inside : k < start.standing.clients) (entry : Entry) → Contains (own_entries (slice_index_or views k d).body) entry → HasEntry ended.published entry
  own_published k inside entry own =
      of_rounds k ended.published entry (own_in start.standing (zip asks list) k (view k) (through k inside) ended.published ended.ahead _ (entries_of k inside) entry own)

  own_whole : (k : ℕ) (inside : k < start.standing.clients) (entry : Entry) → Contains (own_entries (slice_index_or views k d).body) entry → HasEntry (ended.published ++ coming ended.ahead) entry
  own_whole k inside entry own =
      let has = own_published k inside entry own in
      record { round = has.round; told = Contains-append_left ended.published (coming ended.ahead) has.round has.told; member = has.member }

  told_published : (k : ℕ) (inside : k < start.standing.clients) (entry : Entry) → Contains (entries_in k ended.published) entry → IsTriedLine (lines_of_client k (zip asks list)) entry
  told_published k inside entry told =
      told_line start.standing (zip asks list) k (view k) (through k inside) ended.published ended.ahead _ (entries_of k inside) entry told

  told_whole : (k : ℕ) (inside : k < start.standing.clients) (entry : Entry) → Contains (entries_in k (ended.published ++ coming ended.ahead)) entry → IsTriedLine (lines_of_client k (zip asks list)) entry
  told_whole k inside entry told =
      elim (Contains-append_cases (entries_in k ended.published) (entries_in k (coming ended.ahead)) entry (subst (λ (es : List Entry). Contains es entry) (entries_in-append k ended.published (coming ended.ahead)) told)) [
        | inl before ↦ told_published k inside entry before
        | inr later ↦ ahead_line start.standing (zip asks list) k (view k) (through k inside) ended.published ended.ahead _ (entries_of k inside) entry (subst (λ (es : List Entry). Contains es entry) (coming_in k ended.ahead) later)
      ]

  few_at : (k : ℕ) → k < start.standing.clients → length (entries_in k (ended.published ++ coming ended.ahead)) ≤ count_by (λ line. is_tried line.1) (lines_of_client k (zip asks list))
  few_at k inside =
      omega (
        arith,
        ap length (entries_in-append k ended.published (coming ended.ahead)),
        length-append (entries_in k ended.published) (entries_in k (coming ended.ahead)),
        ap length (coming_in k ended.ahead),
        few_entries start.standing (zip asks list) k (view k) (through k inside) ended.published ended.ahead _ (entries_of k inside),
      )

  few_whole : length (ended.published ++ coming ended.ahead) ≤ count_by is_tried list
  few_whole =
      omega (
        arith,
        rounds-few start.standing (ended.published ++ coming ended.ahead) ahead_legal,
        sum-most start.standing.clients (λ k. length (entries_in k (ended.published ++ coming ended.ahead))) (λ k. count_by (λ line. is_tried line.1) (lines_of_client k (zip asks list))) few_at,
        lines-sum start.standing.clients is_tried asks list same below,
      )

  -- the faults that a client was answered are for its lines in doubt
  met_asks : (k : ℕ) → k < start.standing.clients → map met_ask (met_by k ended.faults) ≡ asks_in_doubt (lines_of_client k (zip asks list))
  met_asks k inside =
      ap (λ (c : ℕ). map met_ask (met_by c ended.faults)) (sym (through k inside).client) ∙ (ap (map met_ask) (sym (end_of k inside).met) ∙ (through k inside).so.doubts)

  -- what was asked for has a line that was tried
  tried_line_of : (entry : Entry) → OneOf (HasAskedFor entry) views → IsTriedLine (zip asks list) entry
  tried_line_of entry asked = by (one_at (HasAskedFor entry) views d asked)
    where
      by : IsOneAt (HasAskedFor entry) views d → IsTriedLine (zip asks list) entry
      by at =
          line_of_all at.place entry (asked_line start.standing (zip asks list) at.place (view at.place) (each at.place at.inside) entry at.has)

  charged : AreCharged start.standing (progress_of [] start) ended.calls (zip asks list)
  charged = record {
    asks = fault_asks ended.faults;
    made_for = ended.failed;
    entries = λ failed ops call entry one. tried_line_of entry (ended.asked failed ops call entry one);
    next = ended.next_at;
    each_client = λ k. fault_asks-own start.standing.clients k ended.faults ended.clients ∙ (by k (cases_lt k start.standing.clients) ∙ sym (doubted-own k (zip asks list)));
  }
    where
      by : (k : ℕ) → (k < start.standing.clients) ⊎ (start.standing.clients ≤ k) → map met_ask (met_by k ended.faults) ≡ asks_in_doubt (lines_of_client k (zip asks list))
      by k (inl inside) = met_asks k inside
      by k (inr past) =
          ap (map met_ask) (met_by-none start.standing.clients k ended.faults past ended.clients) ∙ sym (ap asks_in_doubt (lines_none k past))

  -- a round that has an entry of a pass's own has that one's line
  new_line_of : (round : Round) → OneOf (HasAnswered round) views → HasNewLine (zip asks list) round
  new_line_of round answered = by (one_at (HasAnswered round) views d answered)
    where
      by : IsOneAt (HasAnswered round) views d → HasNewLine (zip asks list) round
      by at = record {
        ask = ask_of at.has.entry;
        reply = at.has.entry.reply;
        line = kept_of (λ line. eqb line.0.client at.place) (zip asks list) (ask_of at.has.entry, New at.has.entry.reply) ((each at.place at.inside).so.told at.has.entry at.has.own);
        entry = at.has.one;
      }

  -- each line in doubt has its fault
  as_many_faults : length ended.faults ≡ count_by is_doubt list
  as_many_faults =
      faults-sum start.standing.clients ended.faults ended.clients
      ∙ (sum-same start.standing.clients (λ k. length (met_by k ended.faults)) (λ k. count_by (λ line. is_doubt line.1) (lines_of_client k (zip asks list))) at ∙ lines-sum start.standing.clients is_doubt asks list same below)
    where
      at : (k : ℕ) → k < start.standing.clients → length (met_by k ended.faults) ≡ count_by (λ line. is_doubt line.1) (lines_of_client k (zip asks list))
      at k inside =
          sym (length-map (met_by k ended.faults) met_ask) ∙ (ap length (met_asks k inside) ∙ doubted-many (lines_of_client k (zip asks list)))

  new_recorded : AreNewRecorded ended.published (zip asks list)
  new_recorded ask reply line =
      let own : Contains (lines_of_client ask.client (zip asks list)) (ask, New reply) = kept_in (λ l. eqb l.0.client ask.client) (zip asks list) (ask, New reply) (eq-eqb ask.client ask.client refl) line in
      let inside : ask.client < start.standing.clients = asker line in
      own_published ask.client inside (entry_of ask reply) ((through ask.client inside).so.recorded ask reply own)
    where
      asker : Contains (zip asks list) (ask, New reply) → ask.client < start.standing.clients
      asker is = go asks list below is
        where
          go : (asks : List Ask) (list : List Outcome) → ((j : ℕ) (d : Ask) → j < length asks → (slice_index_or asks j d).client < start.standing.clients) → Contains (zip asks list) (ask, New reply) → ask.client < start.standing.clients
          go [] list inside is = absurd (contains-none (ask, New reply) is)
          go (first ∷ asks) [] inside is = absurd (contains-none (ask, New reply) is)
          go (first ∷ asks) (o ∷ list) inside is = elim (contains-cases (first, o) (ask, New reply) (zip asks list) is) [
            | inl same ↦ subst (λ (l : Line). l.0.client < start.standing.clients) same (inside 0 first (omega arith))
            | inr more ↦ go asks list (λ j d there. inside (suc j) d (omega (arith, there))) more
          ]

  pub has_run : HasRun start asks now list
  has_run = record {
    rounds = ended.published;
    calls = ended.calls;
    come = subst (λ (failures : ℕ). HasCome start now ended.published failures ended.calls) as_many_faults ended.come;
    charged = charged;
    made = λ round ops call. new_line_of round (ended.made round ops call);
    outcomes = outcomes_with ended.published ended.legal own_published told_published;
    settled = subst (λ (h : History). Outcomes start.standing h asks list) (sym settled_ahead) (outcomes_with (ended.published ++ coming ended.ahead) ahead_legal own_whole told_whole);
    recorded = new_recorded;
    few = omega (arith, few_whole, ap length settled_ahead);
  }
