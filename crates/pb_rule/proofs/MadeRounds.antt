-- What the engine was called for: requests, and the rounds that were made.
use Rattle.std.proofs.Common.{◌≡◌, ◌≢◌, ◌⊎◌, ℕ, ◌+◌, ◌<◌, eqb, Bool, true, false, cond, List, [], ◌∷◌, ◌++◌, length, map, Option, Some, IfSome, sym, refl, ap, ◌∙◌, subst, inl, inr, arith, Contains}
use Rattle.std.proofs.lemmas.Bool.{eqb-true, eq-eqb, false≢true}
use Rattle.std.proofs.lemmas.List.{append-nil, map-append}
use Rattle.std.proofs.lemmas.List.Elements.{Contains-append_left, Contains-push, Contains-push_cases, All-contains}
use Rattle.pb_pmem.specs.declared.log.LogOp.{LogOp}
use Rattle.pb_object.specs.declared.request.Ask.{Ask}
use Rattle.pb_object.specs.declared.request.Kept.{Kept}
use Rattle.pb_object.specs.declared.request.Reply.{Reply}
use Rattle.pb_object.specs.History.{Entry, Round, after_entry, kept_by, after_round, state_after, IsLegalRound}
use Rattle.pb_object.specs.Object.{reply_of}
use Rattle.pb_object.specs.Standing.{Standing, kept_list_of, newest, newest_of}
use Rattle.pb_core.specs.Client.{Stage, Idle, Storing, Looking, LoadsNumber, LoadsCode, LoadsValue, LoadsExtra, Confirming, Lacking, Taking, Holding, Client, Dated, is_idle, is_announced, is_holding, entry_by}
use Rattle.pb_core.specs.HolderMoves.{entries_by}
use Rattle.pb_core.specs.Memory.{Owner, Free, Held, Closed, Engine, Resting, Recorded, Doubtful, Memory, with_at, clients_of, shown}
use Rattle.pb_core.specs.MemoryParts.{entries_with, entries_ahead, dated_entry, own_entries, HasEntries, IsAsking, Meets, IsMemory}
use Rattle.pb_core.specs.WordMoves.{answered}
use Rattle.pb_core.proofs.Basics.{with_at-other}
use Rattle.pb_core.proofs.Histories.{HasShape, shape_after}
use Rattle.pb_core.proofs.Movers.{OwnClient}
use Rattle.pb_core.proofs.Turns.{the_holder}
use Rattle.pb_engine.specs.Calls.{EngineCall, Made, Failed, Settled, FailedSettling, Progress, after_call, after_calls, HasRequest, AreMadeFor}
use Rattle.pb_engine.specs.View.{FailedRound}
use Rattle.pb_engine.proofs.Joining.{round_kept}
use Rattle.pb_rule.specs.Rule.{asked_by, IsNextOn, AreNextAtSettling, HasAnsweredOne, IsUnpublished, AreAnsweredOrAhead, IsOpen, WasAnswered, HasAskedFor, IsAskedFor, AreAskedFor}
use Rattle.pb_rule.proofs.Members.{contains-here, contains-none, contains-one, of_all, with_own, legal-below}

-- The request that a client has open

meets_entries : (s : Standing) (c : ℕ) (asks : List Ask) → Meets c asks → entries_with c (entries_by s asks) ≢ []
meets_entries s c [] met = absurd met
meets_entries s c (ask ∷ asks) met =
    go (λ later. meets_entries (after_entry s entry) c asks later) (eqb ask.client c) refl met
  where
    entry : Entry
    entry = entry_by ask (reply_of s.state ask.op)

    rest : List Entry
    rest = entries_with c (entries_by (after_entry s entry) asks)

    go : (Meets c asks → rest ≢ []) → (b : Bool) → eqb ask.client c ≡ b → (ask.client ≡ c) ⊎ Meets c asks → cond b (entry ∷ rest) rest ≢ []
    go more true e is none = cc
    go more false e (inl here) none = absurd (false≢true (sym e ∙ eq-eqb ask.client c here))
    go more false e (inr later) none = more later none

-- the round ahead has it, where it has an entry of that client
open_request : {m : Memory} (c : ℕ) (round : Round) → IsMemory m → c < m.start.clients → m.ahead ≡ Some round → entries_with c round.entries ≢ [] → HasRequest round (m.book c).ask
open_request {m} c round is there ahead some = go (is.clients c there).entries
  where
    ahead_is : entries_ahead c m.ahead ≡ entries_with c round.entries
    ahead_is = ap (entries_ahead c) ahead

    go : HasEntries c m.published m.ahead (kept_list_of (shown m) c) (m.book c) → HasRequest round (m.book c).ask
    go (inl clear) = absurd (some (sym ahead_is ∙ clear.none))
    go (inr (inl coming)) = record {
      reply = coming.reply;
      entry = of_all c round.entries (entry_by (m.book c).ask coming.reply) (subst (λ (es : List Entry). Contains es (entry_by (m.book c).ask coming.reply)) (sym coming.one ∙ ahead_is) (contains-here (entry_by (m.book c).ask coming.reply) []));
    }
    go (inr (inr served)) = absurd (some (sym ahead_is ∙ served.none))

-- the holder's own is in the round of its scan
pub scanned_request : {m : Memory} (c : ℕ) (round : Round) (s : Standing) (asks : List Ask) → IsMemory m → c < m.start.clients → m.ahead ≡ Some round → round.entries ≡ entries_by s asks → Meets c asks → HasRequest round (m.book c).ask
scanned_request {m} c round s asks is there ahead entries met =
    open_request c round is there ahead (λ none. meets_entries s c asks met (ap (entries_with c) (sym entries) ∙ none))

-- after the round it is what the client has kept last
pub kept_request : {m : Memory} (c : ℕ) (round : Round) → IsMemory m → m.ahead ≡ Some round → (m.book c).ask.client ≡ c → (has : HasRequest round (m.book c).ask) → newest_of (after_round (shown m) round) c ≡ kept_by (entry_by (m.book c).ask has.reply)
kept_request {m} c round is ahead own has =
    ap (newest_of (after_round (shown m) round)) (sym own) ∙ All-contains (λ (entry : Entry). newest_of (after_round (shown m) round) entry.client ≡ kept_by entry) round.entries (entry_by (m.book c).ask has.reply) (round_kept (shown m) round long legal) has.entry
  where
    shape : HasShape m.start (shown m)
    shape = shape_after m.start (m.past ++ m.published)

    long : length (shown m).kept ≡ (shown m).clients
    long = shape.lists ∙ (is.history.keeps ∙ sym shape.clients)

    legal : IsLegalRound (shown m) round
    legal = subst (λ (a : Option Round). IfSome a (IsLegalRound (shown m))) ahead is.history.next

-- the holder's request, where another client moves
pub asked_same : (owner : Owner) (c : ℕ) (b : Client) (book : ℕ → Client) → ((side : ℕ) → owner ≡ Held c side → ⊥) → asked_by owner (with_at c b book) ≡ asked_by owner book
asked_same Free c b book other = refl
asked_same (Held d side) c b book other =
    ap (λ (client : Client). client.ask) (with_at-other c b book d (λ same. other side (ap (λ (k : ℕ). Held k side) same)))
asked_same Closed c b book other = refl

-- A client's own entries

own_push : (reply : Reply) (front : ℕ) (b : Client) → own_entries (answered reply front b) ≡ own_entries b ++ entry_by b.ask reply ∷ []
own_push reply front b = map-append dated_entry b.mine (record { entry = entry_by b.ask reply; after = b.after; by = front } ∷ [])

-- an answer leaves those there are, and adds its own
pub answered_keeps : (reply : Reply) (front : ℕ) (b : Client) (entry : Entry) → Contains (own_entries b) entry → Contains (own_entries (answered reply front b)) entry
answered_keeps reply front b entry own =
    subst (λ (es : List Entry). Contains es entry) (sym (own_push reply front b)) (Contains-append_left (own_entries b) (entry_by b.ask reply ∷ []) entry own)

pub answered_adds : (reply : Reply) (front : ℕ) (b : Client) → Contains (own_entries (answered reply front b)) (entry_by b.ask reply)
answered_adds reply front b =
    subst (λ (es : List Entry). Contains es (entry_by b.ask reply)) (sym (own_push reply front b)) (Contains-push (own_entries b) (entry_by b.ask reply))

-- A client's entries and requests, as it goes on

-- it has the entries that it had, and has asked for what it had asked for
pub record GoesOn (old new : Client) : Type 0 where
  pub own : (entry : Entry) → Contains (own_entries old) entry → Contains (own_entries new) entry
  pub asked : (entry : Entry) → HasAskedFor entry old → HasAskedFor entry new

pub goes_nowhere : (b : Client) → GoesOn b b
goes_nowhere b = record { own = λ entry own. own; asked = λ entry asked. asked }

answered_still : (old new : Client) (entry : Entry) → ((one : Entry) → Contains (own_entries old) one → Contains (own_entries new) one) → WasAnswered entry old → WasAnswered entry new
answered_still old new entry grows was = record { reply = was.reply; own = grows (record entry { reply = was.reply }) was.own }

same_entries : (old new : Client) → new.mine ≡ old.mine → (entry : Entry) → Contains (own_entries old) entry → Contains (own_entries new) entry
same_entries old new mine entry own = subst (λ (dated : List Dated). Contains (map dated_entry dated) entry) (sym mine) own

-- its request stays open
pub stays_open : (old new : Client) → new.mine ≡ old.mine → new.ask ≡ old.ask → is_idle new.stage ≡ false → GoesOn old new
stays_open old new mine ask asks = record { own = same_entries old new mine; asked = λ entry asked. go entry asked }
  where
    go : (entry : Entry) → HasAskedFor entry old → HasAskedFor entry new
    go entry (inl is_open) = inl (record { asks = asks; same = is_open.same ∙ ap (λ (a : Ask). entry_by a entry.reply) (sym ask) })
    go entry (inr was) = inr (answered_still old new entry (same_entries old new mine) was)

-- it had none, and asks
pub begins_asking : (old new : Client) → is_idle old.stage ≡ true → new.mine ≡ old.mine → GoesOn old new
begins_asking old new idle mine = record { own = same_entries old new mine; asked = λ entry asked. go entry asked }
  where
    go : (entry : Entry) → HasAskedFor entry old → HasAskedFor entry new
    go entry (inl is_open) = absurd (false≢true (sym is_open.asks ∙ idle))
    go entry (inr was) = inr (answered_still old new entry (same_entries old new mine) was)

-- it was answered
pub is_answered : (reply : Reply) (front : ℕ) (b : Client) → GoesOn b (answered reply front b)
is_answered reply front b = record { own = answered_keeps reply front b; asked = λ entry asked. go entry asked }
  where
    go : (entry : Entry) → HasAskedFor entry b → HasAskedFor entry (answered reply front b)
    go entry (inl is_open) = inr (record {
      reply = reply;
      own = subst (Contains (own_entries (answered reply front b))) (sym (ap (λ (e : Entry). record e { reply = reply }) is_open.same)) (answered_adds reply front b);
    })
    go entry (inr was) = inr (answered_still b (answered reply front b) entry (answered_keeps reply front b) was)

-- the others are as they were
pub others_go_on : (c : ℕ) (b : Client) (book : ℕ → Client) → GoesOn (book c) b → (d : ℕ) → GoesOn (book d) (with_at c b book d)
others_go_on c b book on d = go (eqb d c) refl
  where
    go : (same : Bool) → eqb d c ≡ same → GoesOn (book d) (cond same b (book d))
    go true is = subst (λ (k : ℕ). GoesOn (book k) b) (sym (eqb-true d c is)) on
    go false is = goes_nowhere (book d)

-- Rounds that were made

pub not_resting : Resting ≡ Recorded → ⊥
not_resting e = cc

pub not_doubtful : Doubtful ≡ Recorded → ⊥
not_doubtful e = cc

-- no round waits to be published where the engine knows of none
pub none_unpublished : (m : Memory) (engine : Engine) → m.engine ≡ engine → (engine ≡ Recorded → ⊥) → (round : Round) → IsUnpublished m round → ⊥
none_unpublished m engine is other round unpublished = other (sym is ∙ unpublished.recorded)

-- who was answered is so still
pub makers_stay : (m new : Memory) (calls : List EngineCall) → clients_of new ≡ clients_of m → ((d : ℕ) → GoesOn (m.book d) (new.book d))
    → ((round : Round) → IsUnpublished m round → HasAnsweredOne (clients_of new) new.book round ⊎ IsUnpublished new round) → AreAnsweredOrAhead m calls → AreAnsweredOrAhead new calls
makers_stay m new calls clients on coming have round ops call = go (have round ops call)
  where
    go : HasAnsweredOne (clients_of m) m.book round ⊎ IsUnpublished m round → HasAnsweredOne (clients_of new) new.book round ⊎ IsUnpublished new round
    go (inl maker) = inl (record {
      client = maker.client;
      there = omega (arith, maker.there, clients);
      has = record { entry = maker.has.entry; one = maker.has.one; own = (on maker.client).own maker.has.entry maker.has.own };
    })
    go (inr unpublished) = coming round unpublished

-- with a call more
pub makers_more : (m : Memory) (calls : List EngineCall) (call : EngineCall) → ((round : Round) (ops : List LogOp) → call ≡ Made round ops → HasAnsweredOne (clients_of m) m.book round ⊎ IsUnpublished m round) → AreAnsweredOrAhead m calls → AreAnsweredOrAhead m (calls ++ call ∷ [])
makers_more m calls call last have round ops is = elim (Contains-push_cases calls call (Made round ops) is) [
  | inl before ↦ have round ops before
  | inr same ↦ last round ops same
]

-- Rounds that failed

-- what was asked for is so still
pub asked_stay : (m new : Memory) (calls : List EngineCall) → clients_of new ≡ clients_of m → ((d : ℕ) → GoesOn (m.book d) (new.book d)) → AreAskedFor m calls → AreAskedFor new calls
asked_stay m new calls clients on have failed ops call entry one =
    let asked : IsAskedFor (clients_of m) m.book entry = have failed ops call entry one in
    record { there = omega (arith, asked.there, clients); asked = (on entry.client).asked entry asked.asked }

-- with a call more
pub asked_more : (m : Memory) (calls : List EngineCall) (call : EngineCall) → ((failed : FailedRound) (ops : List LogOp) → call ≡ Failed failed ops → (entry : Entry) → Contains failed.round.entries entry → IsAskedFor (clients_of m) m.book entry) → AreAskedFor m calls → AreAskedFor m (calls ++ call ∷ [])
asked_more m calls call last have failed ops is = elim (Contains-push_cases calls call (Failed failed ops) is) [
  | inl before ↦ have failed ops before
  | inr same ↦ last failed ops same
]

-- a request that is announced is open
announced_open : (stage : Stage) → is_announced stage ≡ true → is_idle stage ≡ false
announced_open Idle announced = absurd (false≢true announced)
announced_open (Storing count) announced = refl
announced_open Looking announced = refl
announced_open (LoadsNumber turn) announced = refl
announced_open (LoadsCode turn) announced = refl
announced_open (LoadsValue turn code) announced = refl
announced_open (LoadsExtra turn code value) announced = refl
announced_open (Confirming turn reply) announced = refl
announced_open (Lacking turn found) announced = refl
announced_open (Taking turn found) announced = refl
announced_open Holding announced = refl

-- each request of the round ahead is open
pub ahead_asked : {m : Memory} (round : Round) → IsMemory m → m.ahead ≡ Some round → (entry : Entry) → Contains round.entries entry → IsAskedFor (clients_of m) m.book entry
ahead_asked {m} round is ahead entry one = record { there = there; asked = inl (go (is.clients entry.client there).entries) }
  where
    shape : HasShape m.start (shown m)
    shape = shape_after m.start (m.past ++ m.published)

    legal : IsLegalRound (shown m) round
    legal = subst (λ (a : Option Round). IfSome a (IsLegalRound (shown m))) ahead is.history.next

    there : entry.client < m.start.clients
    there = omega (arith, legal-below (shown m) round.side round.entries entry legal.legal one, shape.clients)

    own : Contains (entries_ahead entry.client m.ahead) entry
    own = subst (λ (a : Option Round). Contains (entries_ahead entry.client a) entry) (sym ahead) (with_own round.entries entry one)

    go : HasEntries entry.client m.published m.ahead (kept_list_of (shown m) entry.client) (m.book entry.client) → IsOpen entry (m.book entry.client)
    go (inl clear) = absurd (contains-none entry (subst (λ (es : List Entry). Contains es entry) clear.none own))
    go (inr (inl coming)) =
        let same : entry_by (m.book entry.client).ask coming.reply ≡ entry = contains-one (entry_by (m.book entry.client).ask coming.reply) entry (subst (λ (es : List Entry). Contains es entry) coming.one own) in
        record {
          asks = announced_open (m.book entry.client).stage coming.announced;
          same = sym same ∙ ap (entry_by (m.book entry.client).ask) (ap (λ (e : Entry). e.reply) same);
        }
    go (inr (inr served)) = absurd (contains-none entry (subst (λ (es : List Entry). Contains es entry) served.none own))

-- Settlings that failed

-- the holder's request is its client's next one
pub held_next : {m : Memory} (c side : ℕ) → IsMemory m → c < m.start.clients → m.owner ≡ Held c side → IsNextOn (shown m) (m.book c).ask
held_next {m} c side is there holds =
    asking.number ∙ (ap (λ (l : List Kept). (newest l).number + 1) (sym (kept own.entries)) ∙ ap (λ (k : ℕ). (newest_of (shown m) k).number + 1) (sym asking.client))
  where
    own : OwnClient m c
    own = is.clients c there

    at : (m.book c).stage ≡ Holding
    at = (the_holder side own holds).stage

    asking : IsAsking m.start.kind c (m.book c)
    asking = own.asking (ap is_idle at)

    kept : HasEntries c m.published m.ahead (kept_list_of (shown m) c) (m.book c) → kept_list_of (shown m) c ≡ (m.book c).kept
    kept (inl clear) = clear.kept
    kept (inr (inl coming)) = coming.kept
    kept (inr (inr served)) = absurd (false≢true (sym served.waiting ∙ ap is_holding at))

-- calls after calls
next-append : (s : Standing) (p : Progress) (calls more : List EngineCall) (asks others : List Ask) → AreMadeFor calls asks → AreNextAtSettling s p calls asks → AreNextAtSettling s (after_calls p calls) more others → AreNextAtSettling s p (calls ++ more) (asks ++ others)
next-append s p [] more [] others made one two = two
next-append s p [] more (ask ∷ asks) others made one two = absurd made
next-append s p (Made round ops ∷ calls) more asks others made one two =
    next-append s (after_call p (Made round ops)) calls more asks others made one two
next-append s p (Failed failed ops ∷ calls) more [] others made one two = absurd made
next-append s p (Failed failed ops ∷ calls) more (ask ∷ asks) others made one two =
    next-append s (after_call p (Failed failed ops)) calls more asks others made.1 one two
next-append s p (Settled ops ∷ calls) more asks others made one two =
    next-append s (after_call p (Settled ops)) calls more asks others made one two
next-append s p (FailedSettling ops ∷ calls) more [] others made one two = absurd made
next-append s p (FailedSettling ops ∷ calls) more (ask ∷ asks) others made one two =
    (one.0, next-append s (after_call p (FailedSettling ops)) calls more asks others made one.1 two)

none_next : (s : Standing) (p : Progress) (calls more : List EngineCall) (asks : List Ask) → AreMadeFor calls asks → AreNextAtSettling s p calls asks → AreNextAtSettling s (after_calls p calls) more [] → AreNextAtSettling s p (calls ++ more) asks
none_next s p calls more asks made one two =
    subst (AreNextAtSettling s p (calls ++ more)) (append-nil asks) (next-append s p calls more asks [] made one two)

-- with a call more
pub round_next : (s : Standing) (p : Progress) (calls : List EngineCall) (round : Round) (ops : List LogOp) (asks : List Ask) → AreMadeFor calls asks → AreNextAtSettling s p calls asks → AreNextAtSettling s p (calls ++ Made round ops ∷ []) asks
round_next s p calls round ops asks made next = none_next s p calls (Made round ops ∷ []) asks made next tt

pub settling_next : (s : Standing) (p : Progress) (calls : List EngineCall) (ops : List LogOp) (asks : List Ask) → AreMadeFor calls asks → AreNextAtSettling s p calls asks → AreNextAtSettling s p (calls ++ Settled ops ∷ []) asks
settling_next s p calls ops asks made next = none_next s p calls (Settled ops ∷ []) asks made next tt

pub failed_next : (s : Standing) (p : Progress) (calls : List EngineCall) (failed : FailedRound) (ops : List LogOp) (asks : List Ask) (ask : Ask) → AreMadeFor calls asks → AreNextAtSettling s p calls asks → AreNextAtSettling s p (calls ++ Failed failed ops ∷ []) (asks ++ ask ∷ [])
failed_next s p calls failed ops asks ask made next = next-append s p calls (Failed failed ops ∷ []) asks (ask ∷ []) made next tt

pub failed_settling_next : (s : Standing) (p : Progress) (calls : List EngineCall) (ops : List LogOp) (asks : List Ask) (ask : Ask) → IsNextOn (state_after s (after_calls p calls).rounds) ask → AreMadeFor calls asks → AreNextAtSettling s p calls asks → AreNextAtSettling s p (calls ++ FailedSettling ops ∷ []) (asks ++ ask ∷ [])
failed_settling_next s p calls ops asks ask is made next =
    next-append s p calls (FailedSettling ops ∷ []) asks (ask ∷ []) made next (is, tt)
