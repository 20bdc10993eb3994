-- Requests of one round make a legal round.
use Rattle.std.proofs.Common.{◌≡◌, ◌≢◌, ℕ, suc, ◌+◌, ◌≤◌, List, [], ◌∷◌, ◌++◌, refl, sym, ap, subst, ◌∙◌, arith}
use Rattle.std.specs.List.{All}
use Rattle.std.proofs.lemmas.List.Elements.{All-head, All-tail}
use Rattle.pb_object.specs.declared.request.Ask.{Ask}
use Rattle.pb_object.specs.declared.request.Kept.{Kept}
use Rattle.pb_object.specs.Changes.{after_asks}
use Rattle.pb_object.specs.History.{Entry, after_entry, after_entries, AreLegal, ClientsRise, IsLegalRound}
use Rattle.pb_object.specs.Object.{State, next_state}
use Rattle.pb_object.specs.Standing.{Standing, kept_list_of, newest}
use Rattle.pb_layout_laws.proofs.Rounds.{after_entry-other}
use Rattle.pb_engine.specs.Asks.{IsNextAsk, AskersRise, MayBeServed, side_asked, answered_by, answered_from, state_from, asked_round}

-- no requests, and one more
pub answered_from-none : (state : State) → answered_from state [] ≡ []
unfolding answered_from
answered_from-none state = refl

pub answered_from-more : (state : State) (ask : Ask) (asks : List Ask) → answered_from state (ask ∷ asks) ≡ answered_by state ask ∷ answered_from (next_state state ask.op) asks
unfolding answered_from
answered_from-more state ask asks = refl

pub state_from-none : (state : State) → state_from state [] ≡ state
unfolding state_from
state_from-none state = refl

pub state_from-more : (state : State) (ask : Ask) (asks : List Ask) → state_from state (ask ∷ asks) ≡ state_from (next_state state ask.op) asks
unfolding state_from
state_from-more state ask asks = refl

-- one more behind others
pub answered_from-append : (state : State) (asks more : List Ask) → answered_from state (asks ++ more) ≡ answered_from state asks ++ answered_from (state_from state asks) more
answered_from-append state [] more =
    (λ i. answered_from (sym (state_from-none state) i) more) ∙ ap (λ (es : List Entry). es ++ answered_from (state_from state []) more) (sym (answered_from-none state))
answered_from-append state (ask ∷ asks) more =
    answered_from-more state ask (asks ++ more)
    ∙ (ap (λ (es : List Entry). answered_by state ask ∷ es) (answered_from-append (next_state state ask.op) asks more ∙ ap (λ (st : State). answered_from (next_state state ask.op) asks ++ answered_from st more) (sym (state_from-more state ask asks)))
    ∙ ap (λ (es : List Entry). es ++ answered_from (state_from state (ask ∷ asks)) more) (sym (answered_from-more state ask asks)))

pub state_from-append : (state : State) (asks more : List Ask) → state_from state (asks ++ more) ≡ state_from (state_from state asks) more
state_from-append state [] more = ap (λ (st : State). state_from st more) (sym (state_from-none state))
state_from-append state (ask ∷ asks) more =
    state_from-more state ask (asks ++ more) ∙ (state_from-append (next_state state ask.op) asks more ∙ ap (λ (st : State). state_from st more) (sym (state_from-more state ask asks)))

-- so it is the state after the requests in an object's words
pub state_is_after : (asks : List Ask) (state : State) → state_from state asks ≡ after_asks state asks
state_is_after [] state = state_from-none state
state_is_after (ask ∷ asks) state = state_from-more state ask asks ∙ state_is_after asks (next_state state ask.op)

-- the state after the entries that the requests become
pub state_after_entries : (s : Standing) (asks : List Ask) → (after_entries s (answered_from s.state asks)).state ≡ state_from s.state asks
state_after_entries s [] = ap (λ (es : List Entry). (after_entries s es).state) (answered_from-none s.state) ∙ sym (state_from-none s.state)
state_after_entries s (ask ∷ asks) =
    ap (λ (es : List Entry). (after_entries s es).state) (answered_from-more s.state ask asks)
    ∙ (state_after_entries (after_entry s (answered_by s.state ask)) asks ∙ sym (state_from-more s.state ask asks))

-- askers that rise, all above some client
abbrev pub AskersRiseFrom : ℕ → List Ask → Type 0
AskersRiseFrom floor [] = Unit {0}
AskersRiseFrom floor (ask ∷ asks) = (floor ≤ ask.client) × AskersRiseFrom (suc ask.client) asks

rise_from_first : (floor : ℕ) (ask : Ask) (asks : List Ask) → floor ≤ ask.client → AskersRise (ask ∷ asks) → AskersRiseFrom floor (ask ∷ asks)
rise_from_first floor ask [] above rise = (above, tt)
rise_from_first floor ask (second ∷ asks) above rise = (above, rise_from_first (suc ask.client) second asks rise.0 rise.1)

pub rise_from_zero : (asks : List Ask) → AskersRise asks → AskersRiseFrom 0 asks
rise_from_zero [] rise = tt
rise_from_zero (ask ∷ asks) rise = rise_from_first 0 ask asks (omega arith) rise

-- the entries' clients rise like the askers
pub entries_rise : (state : State) (asks : List Ask) → AskersRise asks → ClientsRise (answered_from state asks)
entries_rise state [] rise = subst ClientsRise (sym (answered_from-none state)) tt
entries_rise state (ask ∷ []) rise = subst ClientsRise (sym (answered_from-more state ask [] ∙ ap (λ (es : List Entry). answered_by state ask ∷ es) (answered_from-none (next_state state ask.op)))) tt
entries_rise state (first ∷ second ∷ asks) rise =
    let one : answered_from state (first ∷ second ∷ asks) ≡ answered_by state first ∷ answered_from (next_state state first.op) (second ∷ asks) = answered_from-more state first (second ∷ asks) in
    let two : answered_from (next_state state first.op) (second ∷ asks) ≡ answered_by (next_state state first.op) second ∷ answered_from (next_state (next_state state first.op) second.op) asks = answered_from-more (next_state state first.op) second asks in
    let rest : ClientsRise (answered_by (next_state state first.op) second ∷ answered_from (next_state (next_state state first.op) second.op) asks) = subst ClientsRise two (entries_rise (next_state state first.op) (second ∷ asks) rise.1) in
    subst ClientsRise (sym (one ∙ ap (λ (es : List Entry). answered_by state first ∷ es) two)) (rise.0, rest)

-- each request is its client's next in the standing that the ones before it leave: they are of other clients
legal_from : (s t : Standing) (side floor : ℕ) (asks : List Ask) → t.clients ≡ s.clients → t.kind ≡ s.kind → ((client : ℕ) → floor ≤ client → kept_list_of t client ≡ kept_list_of s client) → AskersRiseFrom floor asks → All (IsNextAsk s side) asks → AreLegal t side (answered_from t.state asks)
legal_from s t side floor [] clients kind kept rise next = subst (AreLegal t side) (sym (answered_from-none t.state)) tt
legal_from s t side floor (ask ∷ asks) clients kind kept rise next =
    let is = All-head (IsNextAsk s side) ask asks next in
    let entry : Entry = answered_by t.state ask in
    subst (AreLegal t side) (sym (answered_from-more t.state ask asks)) (
      record {
        client = omega (arith, is.client, clients);
        number = is.number ∙ ap (λ (list : List Kept). (newest list).number + 1) (sym (kept ask.client rise.0));
        few = is.few;
        operation = rw kind is.operation;
        of_side = is.of_side;
        reply = refl;
      },
      legal_from s (after_entry t entry) side (suc ask.client) asks clients kind (λ client above. after_entry-other t entry client (λ e. absurd (omega (arith, e, above))) ∙ kept client (omega (arith, above, rise.0))) rise.1 (All-tail (IsNextAsk s side) ask asks next),
    )

some_entries : (state : State) (asks : List Ask) → asks ≢ [] → answered_from state asks ≢ []
some_entries state [] some none = some refl
some_entries state (ask ∷ asks) some none = absurd (cc (answered_from-more state ask asks, none))

pub served_is_legal : (s : Standing) (asks : List Ask) → MayBeServed s asks → IsLegalRound s (asked_round s asks)
served_is_legal s asks may = record {
  some = some_entries s.state asks may.some;
  rising = entries_rise s.state asks may.rising;
  legal = legal_from s s (side_asked asks) 0 asks refl refl (λ client above. refl) (rise_from_zero asks may.rising) may.next;
}
