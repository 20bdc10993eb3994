-- The replies that a call printed stand in the history of its chain, at each later point.
use Rattle.std.proofs.Common.{◌≡◌, ◌⊎◌, ℕ, ◌+◌, ◌<◌, Bool, true, false, List, [], ◌∷◌, ◌++◌, Option, Some, None, refl, sym, ap, subst, ◌∙◌, arith, inl, inr, if◌then◌else◌}
use Rattle.std.specs.Prelude.{Contains, filter, ◌==◌, ◌&&◌, nat_le}
use Rattle.std.specs.List.{zip}
use Rattle.std.proofs.lemmas.Bool.{and_parts, eqb-true}
use Rattle.std.proofs.lemmas.List.{get_or-set_same, get_or-set_other}
use Rattle.std.proofs.lemmas.List.Elements.{All-contains, Contains-append_left, Contains-append_right}
use Rattle.pb_object.specs.declared.request.Ask.{Ask}
use Rattle.pb_object.specs.declared.request.Kept.{Kept as KeptRequest}
use Rattle.pb_object.specs.declared.request.Op.{Op}
use Rattle.pb_object.specs.declared.request.Reply.{Reply}
use Rattle.pb_object.specs.History.{Entry, History, kept_by, after_entry, after_entries, after_round, state_after, AreLegal, IsLegal}
use Rattle.pb_object.specs.Standing.{Standing, keep, kept_list_of, newest}
use Rattle.pb_layout.specs.LogHistory.{LoggedRound, AreUnsealed, rounds_in}
use Rattle.pb_report.specs.declared.outcome.Outcome.{Outcome}
use Rattle.pb_report.specs.declared.outcome.Outcome.TheVariants.{New, Kept, Old, Gap, Changed, Doubt, Left}
use Rattle.pb_report.specs.Outcomes.{AreLeft, AreLines, IsLine, HasEntry, Outcomes, decided_outcome, entry_of, lines_of_client, outcome_by}
use Rattle.pb_object.specs.KeptLists.{kept_with}
use Rattle.pb_object.specs.Request.{is_same_op}
use Rattle.pb_report.proofs.EntryLemmas.{IsFull, full_after, full_after_all, same_or_other}
use Rattle.pb_broker.specs.Chain.{Point, Called, Chain, Steps, IsBehind, HasRequests, FollowsFrom, HasPrinted, PrintsReply, IsReplied, rounds_told}
use Rattle.pb_broker.specs.Ending.{Ending, Stopped, Served, Drilled, Reported, Replayed}
use Rattle.pb_broker.proofs.Applied.{AreEach, Contains-cases, Contains-first, client_of_line, found_in, keep_each, line_behind, line_of_all, line_of_client, sealed_entry}
use Rattle.pb_broker.proofs.Behind.{rounds_are}
use Rattle.pb_broker.proofs.Held.{IsServedIn, IsServing, Stays, held_since, same_line, served_held, serving}
use Rattle.pb_broker.proofs.Points.{IsSound}
use Rattle.pb_broker.proofs.Steps.{chain_sound}

-- What is kept after a history

each_after : (Holds : KeptRequest → Type 0) (s : Standing) (entry : Entry) (client : ℕ) → IsFull s → entry.client < s.clients → (entry.client ≡ client → Holds (kept_by entry)) → AreEach Holds (kept_list_of s client) → AreEach Holds (kept_list_of (after_entry s entry) client)
each_after Holds s entry client full inside holds all = elim (same_or_other client entry.client) [
  | inl is ↦
      let here : kept_list_of (after_entry s entry) entry.client ≡ keep (kept_by entry) (kept_list_of s entry.client) = get_or-set_same s.kept entry.client (keep (kept_by entry) (kept_list_of s entry.client)) [] (omega (arith, inside, full)) in
      subst (λ (c : ℕ). AreEach Holds (kept_list_of (after_entry s entry) c)) (sym is)
      (subst (AreEach Holds) (sym here) (keep_each Holds (kept_by entry) (kept_list_of s entry.client) (holds (sym is)) (subst (λ (c : ℕ). AreEach Holds (kept_list_of s c)) is all)))
  | inr other ↦ subst (AreEach Holds) (sym (get_or-set_other s.kept entry.client client (keep (kept_by entry) (kept_list_of s entry.client)) [] other)) all
]

each_after_entries : (Holds : KeptRequest → Type 0) (s : Standing) (side : ℕ) (entries : List Entry) (client : ℕ) → IsFull s → AreLegal s side entries → ((entry : Entry) → Contains entries entry → entry.client ≡ client → Holds (kept_by entry)) → AreEach Holds (kept_list_of s client) → AreEach Holds (kept_list_of (after_entries s entries) client)
each_after_entries Holds s side [] client full legal holds all = all
each_after_entries Holds s side (first ∷ entries) client full legal holds all =
    each_after_entries Holds (after_entry s first) side entries client (full_after s first full) legal.1
    (λ entry there is. holds entry (Contains-append_right (first ∷ []) entries entry there) is)
    (each_after Holds s first client full legal.0.client (holds first (Contains-first first entries)) all)

each_after_all : (Holds : KeptRequest → Type 0) (s : Standing) (history : History) (client : ℕ) → IsFull s → IsLegal s history → ((entry : Entry) → HasEntry history entry → entry.client ≡ client → Holds (kept_by entry)) → AreEach Holds (kept_list_of s client) → AreEach Holds (kept_list_of (state_after s history) client)
each_after_all Holds s [] client full legal holds all = all
each_after_all Holds s (round ∷ history) client full legal holds all =
    each_after_all Holds (after_round s round) history client (full_after_all s round.entries full) legal.1
    (λ entry recorded is. holds entry (record { round = recorded.round; told = Contains-append_right (round ∷ []) history recorded.round recorded.told; member = recorded.member }) is)
    (each_after_entries Holds s round.side round.entries client full legal.0.legal (λ entry there is. holds entry (record { round = round; told = Contains-first round history; member = there }) is) all)

-- a list holds what it holds
each_itself : (Holds : KeptRequest → Type 0) (kept : List KeptRequest) → ((one : KeptRequest) → Contains kept one → Holds one) → AreEach Holds kept
each_itself Holds [] holds = tt
each_itself Holds (one ∷ kept) holds = (holds one (Contains-first one kept), each_itself Holds kept (λ other there. holds other (Contains-append_right (one ∷ []) kept other there)))

-- Printed replies

same_op : (a b : Op) → is_same_op a b ≡ true → a ≡ b
same_op a b same =
    let last = and_parts (a.code == b.code && a.a == b.a && a.b == b.b) (a.c == b.c) same in
    let rest = and_parts (a.code == b.code && a.a == b.a) (a.b == b.b) last.0 in
    let first = and_parts (a.code == b.code) (a.a == b.a) rest.0 in
    let code_is = eqb-true a.code b.code first.0 in
    let a_is = eqb-true a.a b.a first.1 in
    let b_is = eqb-true a.b b.b rest.1 in
    let c_is = eqb-true a.c b.c last.1 in
    λ i. record { code = code_is i; a = a_is i; b = b_is i; c = c_is i }

some_outcome : {a b : Outcome} → Some a ≡ Some b → a ≡ b
some_outcome is = cc (is)

kept_reply : {a b : Reply} → Kept a ≡ Kept b → a ≡ b
kept_reply is = cc (is)

-- a kept reply is that of a kept request
decided_reply : (Holds : KeptRequest → Type 0) (kept : List KeptRequest) (ask : Ask) (reply : Reply) → AreEach Holds kept → decided_outcome kept ask ≡ Some (Kept reply) → Holds (kept_by (entry_of ask reply))
decided_reply Holds kept ask reply all is = go (kept_with ask.number kept) refl
  where
    none : (test next : Bool) → (if test then Some Old else (if next then None else Some Gap)) ≡ Some (Kept reply) → ⊥
    none true next e = cc (e)
    none false true e = cc (e)
    none false false e = cc (e)

    one : (found : KeptRequest) → kept_with ask.number kept ≡ Some found → (test : Bool) → is_same_op found.op ask.op ≡ test → Some (if test then Kept found.reply else Changed) ≡ Some (Kept reply) → Holds (kept_by (entry_of ask reply))
    one found is_found false same e = absurd (cc (e))
    one found is_found true same e =
        let there = found_in Holds ask.number kept found all is_found in
        let op_is = same_op found.op ask.op same in
        let reply_is = kept_reply (some_outcome e) in
        let number_is = there.number_is in
        let whole : found ≡ kept_by (entry_of ask reply) = λ i. record { number = number_is i; op = op_is i; reply = reply_is i } in
        subst Holds whole there.holds

    go : (found : Option KeptRequest) → kept_with ask.number kept ≡ found → Holds (kept_by (entry_of ask reply))
    go (Some found) is_found = one found is_found (is_same_op found.op ask.op) refl (subst (λ (o : Option KeptRequest). outcome_by o (newest kept).number ask ≡ Some (Kept reply)) is_found is)
    go None is_found = absurd (none (nat_le ask.number (newest kept).number) (ask.number == (newest kept).number + 1) (subst (λ (o : Option KeptRequest). outcome_by o (newest kept).number ask ≡ Some (Kept reply)) is_found is))

reply_here : (Holds : KeptRequest → Type 0) (decided : Option Outcome) (history : History) (kept : List KeptRequest) (ask : Ask) (outcome : Outcome) (reply : Reply) (on : List KeptRequest → Type 0) (left : Type 0) → decided_outcome kept ask ≡ decided → AreEach Holds kept → (outcome ≡ New reply → Holds (kept_by (entry_of ask reply))) → PrintsReply outcome reply → IsLine decided history kept ask outcome on left → Holds (kept_by (entry_of ask reply))
reply_here Holds decided history kept ask outcome reply on left is all new (inl says) line = new says
reply_here Holds (Some decided) history kept ask outcome reply on left is all new (inr says) line =
    decided_reply Holds kept ask reply all (is ∙ ap Some (sym line.0 ∙ says))
reply_here Holds None history kept ask (New other) reply on left is all new (inr says) line = absurd (cc (says))
reply_here Holds None history kept ask Doubt reply on left is all new (inr says) line = absurd (cc (says))
reply_here Holds None history kept ask (Kept other) reply on left is all new (inr says) line = absurd line
reply_here Holds None history kept ask Old reply on left is all new (inr says) line = absurd line
reply_here Holds None history kept ask Gap reply on left is all new (inr says) line = absurd line
reply_here Holds None history kept ask Changed reply on left is all new (inr says) line = absurd line
reply_here Holds None history kept ask Left reply on left is all new (inr says) line = absurd line

left_prints_nothing : (lines : List (Ask × Outcome)) (ask : Ask) (outcome : Outcome) (reply : Reply) → AreLeft lines → Contains lines (ask, outcome) → PrintsReply outcome reply → ⊥
left_prints_nothing lines ask outcome reply left line (inl says) = cc (All-contains (λ (line : Ask × Outcome). line.1 ≡ Left) lines (ask, outcome) left line, says)
left_prints_nothing lines ask outcome reply left line (inr says) = cc (All-contains (λ (line : Ask × Outcome). line.1 ≡ Left) lines (ask, outcome) left line, says)

lines_print : (Holds : KeptRequest → Type 0) (history : History) (lines : List (Ask × Outcome)) (kept : List KeptRequest) → AreEach Holds kept → ((ask : Ask) (reply : Reply) → Contains lines (ask, New reply) → Holds (kept_by (entry_of ask reply))) → AreLines history kept lines → (ask : Ask) (outcome : Outcome) (reply : Reply) → Contains lines (ask, outcome) → PrintsReply outcome reply → Holds (kept_by (entry_of ask reply))
unfolding AreLines
lines_print Holds history [] kept all new are ask outcome reply line says = absurd (omega (arith, line.1))
lines_print Holds history (first ∷ lines) kept all new are ask outcome reply line says = elim (Contains-cases first lines (ask, outcome) line) [
  | inl here ↦ subst (λ (l : Ask × Outcome). Holds (kept_by (entry_of l.0 reply))) here
      (reply_here Holds (decided_outcome kept first.0) history kept first.0 first.1 reply (λ next. AreLines history next lines) (AreLeft lines) refl all (new_first reply) (subst (λ (l : Ask × Outcome). PrintsReply l.1 reply) (sym here) says) are)
  | inr later ↦ line_behind Holds (decided_outcome kept first.0) history kept first.0 first.1 (λ next. AreLines history next lines) (AreLeft lines) (Holds (kept_by (entry_of ask reply))) all new_first
      (λ next next_all more. lines_print Holds history lines next next_all (λ other again contained. new other again (Contains-append_right (first ∷ []) lines (other, New again) contained)) more ask outcome reply later says)
      (λ left. absurd (left_prints_nothing lines ask outcome reply left later says)) are
]
  where
    new_first : (again : Reply) → first.1 ≡ New again → Holds (kept_by (entry_of first.0 again))
    new_first again is = new first.0 again (subst (λ (o : Outcome). Contains (first ∷ lines) (first.0, o)) is (Contains-first first lines))

-- In a chain

-- the reply of a client's request: it stands in the rounds, or was kept at first
abbrev IsKeptFrom : ℕ → List KeptRequest → History → KeptRequest → Type 0
IsKeptFrom client began rounds one =
    HasEntry rounds (record { client = client; number = one.number; op = one.op; reply = one.reply }) ⊎ Contains began one

recorded_behind : (first second : History) (entry : Entry) → HasEntry second entry → HasEntry (first ++ second) entry
recorded_behind first second entry recorded = record { round = recorded.round; told = Contains-append_right first second recorded.round recorded.told; member = recorded.member }

recorded_before : (first second : History) (entry : Entry) → HasEntry first entry → HasEntry (first ++ second) entry
recorded_before first second entry recorded = record { round = recorded.round; told = Contains-append_left first second recorded.round recorded.told; member = recorded.member }

-- this entry stands in the rounds, or was kept of its client at first
abbrev HasReply : Entry → Standing → History → Type 0
HasReply entry s rounds = HasEntry rounds entry ⊎ Contains (kept_list_of s entry.client) (kept_by entry)

reply_stays : (entry : Entry) (s : Standing) → Stays (HasReply entry s) s
reply_stays entry s first more keeps legal (inl recorded) = inl (recorded_before first more entry recorded)
reply_stays entry s first more keeps legal (inr began) = inr began

module _ (s t : Standing) (before : Point) (called : Called before.tale) (asks : List Ask) (list : List Outcome) (served : IsServedIn s t before called asks list) (kept lost : List LoggedRound) (whole : served.logged.history ≡ kept ++ lost) (unsealed : AreUnsealed lost) where
  pub new_recorded : (ask : Ask) (reply : Reply) → Contains (zip asks list) (ask, New reply) → HasEntry (before.rounds ++ rounds_in kept) (entry_of ask reply)
  new_recorded ask reply line =
      recorded_behind before.rounds (rounds_in kept) (entry_of ask reply)
      (sealed_entry kept lost (entry_of ask reply) unsealed (subst (λ (h : List LoggedRound). HasEntry (rounds_in (filter (λ one. one.sealed) h)) (entry_of ask reply)) whole (served.logged.new_sealed ask reply line)))

  entry_kept : (client : ℕ) (began : List KeptRequest) (rounds : History) (entry : Entry) → HasEntry rounds entry → entry.client ≡ client → IsKeptFrom client began rounds (kept_by entry)
  entry_kept client began rounds entry recorded is =
      inl (subst (λ (c : ℕ). HasEntry rounds (record { client = c; number = entry.number; op = entry.op; reply = entry.reply })) is recorded)

  kept_before : (client : ℕ) → AreEach (IsKeptFrom client (kept_list_of s client) (before.rounds ++ rounds_in kept)) (kept_list_of t client)
  kept_before client =
      subst (λ (u : Standing). AreEach (IsKeptFrom client (kept_list_of s client) (before.rounds ++ rounds_in kept)) (kept_list_of u client)) (sym served.is)
      (each_after_all (IsKeptFrom client (kept_list_of s client) (before.rounds ++ rounds_in kept)) s before.rounds client served.keeps served.legal
      (λ entry recorded is. entry_kept client (kept_list_of s client) (before.rounds ++ rounds_in kept) entry (recorded_before before.rounds (rounds_in kept) entry recorded) is)
      (each_itself (IsKeptFrom client (kept_list_of s client) (before.rounds ++ rounds_in kept)) (kept_list_of s client) (λ one there. inr there)))

  -- the first rounds of the call, with each sealed one, hold what it printed
  printed_recorded : (ask : Ask) (outcome : Outcome) (reply : Reply) → Contains (zip asks list) (ask, outcome) → PrintsReply outcome reply → HasReply (entry_of ask reply) s (before.rounds ++ rounds_in kept)
  printed_recorded ask outcome reply line says =
      lines_print (IsKeptFrom ask.client (kept_list_of s ask.client) (before.rounds ++ rounds_in kept)) (rounds_in served.logged.history) (lines_of_client ask.client (zip asks list)) (kept_list_of t ask.client)
      (kept_before ask.client)
      (λ other again there. entry_kept ask.client (kept_list_of s ask.client) (before.rounds ++ rounds_in kept) (entry_of other again) (new_recorded other again (line_of_all ask.client (zip asks list) (other, New again) there)) (client_of_line ask.client (zip asks list) (other, New again) there))
      (served.logged.explained.outcomes.each_client ask.client) ask outcome reply (line_of_client ask.client (zip asks list) (ask, outcome) refl line) says

pub each_reply_stands : (before next now : Point) (called : Called before.tale) (ask : Ask) (reply : Reply) (count : ℕ) → Chain before → HasPrinted called.answered.ending ask reply → IsBehind before called next → Steps count next now → IsReplied now ask reply
each_reply_stands before next now called ask reply count chain printed behind steps = go (serving before called printed.asks printed.list sound has)
  where
    sound : IsSound before
    sound = chain_sound before chain

    has : HasRequests called.answered.ending printed.asks printed.list
    has = subst (λ (ending : Ending). HasRequests ending printed.asks printed.list) (sym printed.served) (refl, refl)

    go : IsServing before called → IsReplied now ask reply
    go some =
        let line = same_line called.answered.ending some.asks printed.asks some.list printed.list (ask, printed.outcome) some.ending has printed.line in
        let held = served_held (HasReply (entry_of ask reply) some.s) some.s some.t before called some.asks some.list some.served
        (λ kept lost whole unsealed. printed_recorded some.s some.t before called some.asks some.list some.served kept lost whole unsealed ask printed.outcome reply line printed.prints) in
        let end = held_since (HasReply (entry_of ask reply) some.s) some.s before next now called count sound (reply_stays (entry_of ask reply) some.s) held behind steps in
        (some.s, end.1.first, end.1.now)

-- The outcomes of a call

requests_of : (ending : Ending) (asks other_asks : List Ask) (list other_list : List Outcome) → HasRequests ending asks list → HasRequests ending other_asks other_list → (asks ≡ other_asks) × (list ≡ other_list)
requests_of (Stopped stop) asks other_asks list other_list has other = absurd has
requests_of (Served a l) asks other_asks list other_list has other = (sym has.0 ∙ other.0, sym has.1 ∙ other.1)
requests_of (Drilled a l versions) asks other_asks list other_list has other = (sym has.0 ∙ other.0, sym has.1 ∙ other.1)
requests_of (Reported s) asks other_asks list other_list has other = absurd has
requests_of (Replayed answers s) asks other_asks list other_list has other = absurd has

pub outcomes_follow : (now : Point) (called : Called now.tale) (asks : List Ask) (list : List Outcome) → Chain now → HasRequests called.answered.ending asks list → FollowsFrom now called asks list
outcomes_follow now called asks list chain has = go (serving now called asks list (chain_sound now chain) has)
  where
    go : IsServing now called → FollowsFrom now called asks list
    go some =
        let own = requests_of called.answered.ending some.asks asks some.list list some.ending has in
        let told = rounds_are now.tale called.after some.t [] some.served.logged.history some.served.logged.members called.call.after called.ends some.served.logged.left in
        let outcomes : Outcomes some.t (rounds_in some.served.logged.history) some.asks some.list = some.served.logged.explained.outcomes in
        let from : Outcomes (state_after some.s now.rounds) (rounds_told now.tale called) some.asks some.list =
        subst (λ (h : History). Outcomes (state_after some.s now.rounds) h some.asks some.list) (sym told) (subst (λ (t : Standing). Outcomes t (rounds_in some.served.logged.history) some.asks some.list) some.served.is outcomes) in
        (some.s, some.served.first, subst (λ (a : List Ask). Outcomes (state_after some.s now.rounds) (rounds_told now.tale called) a list) own.0 (subst (Outcomes (state_after some.s now.rounds) (rounds_told now.tale called) some.asks) own.1 from))
