-- Requests that are answered one after the other, and the lines that stay when a record's last one is written.
use Rattle.std.proofs.Common.{◌≡◌, ℕ, suc, ◌+◌, ◌*◌, ◌<◌, List, [], ◌∷◌, ◌++◌, length, take, drop, get_or, sym, ap, ◌∙◌, subst, arith}
use Rattle.std.specs.List.{All}
use Rattle.std.proofs.Math.Seq.{split_at}
use Rattle.std.proofs.lemmas.List.{take_more}
use Rattle.std.proofs.lemmas.List.Elements.{All-nil, All-cons, All-head, All-tail}
use Rattle.pb_pmem.specs.declared.line.Line.{Line}
use Rattle.pb_object.specs.declared.request.Ask.{Ask}
use Rattle.pb_object.specs.declared.request.TheConstants.{KEPT_REQUESTS}
use Rattle.pb_object.specs.History.{Entry}
use Rattle.pb_object.specs.Object.{State, next_state}
use Rattle.pb_layout.specs.NextRecord.{HasEntryInFront, IsOfOther}
use Rattle.pb_layout.specs.Record.{slot_line_at}
use Rattle.pb_engine.specs.Asks.{AskersRise, answered_by, answered_from, state_from}
use Rattle.pb_engine.specs.Next.{KeepsBefore}
use Rattle.pb_engine.proofs.Entries.{earlier_are_others}
use Rattle.pb_engine.proofs.Served.{answered_from-none, answered_from-more, answered_from-append, state_from-none, state_from-more, state_from-append}

-- what holds of the clients of requests holds of those of their entries
pub clients_of_answers : (P : ℕ → Type 0) (state : State) (asks : List Ask) → All (λ (ask : Ask). P ask.client) asks → All (λ (entry : Entry). P entry.client) (answered_from state asks)
clients_of_answers P state [] all = subst (All (λ (entry : Entry). P entry.client)) (sym (answered_from-none state)) (All-nil (λ (entry : Entry). P entry.client))
clients_of_answers P state (ask ∷ asks) all =
    subst (All (λ (entry : Entry). P entry.client)) (sym (answered_from-more state ask asks))
    (All-cons (λ (entry : Entry). P entry.client) (answered_by state ask) (answered_from (next_state state ask.op) asks) (All-head (λ (a : Ask). P a.client) ask asks all) (clients_of_answers P (next_state state ask.op) asks (All-tail (λ (a : Ask). P a.client) ask asks all)))

-- the entries before a request's are of other clients
pub earlier_apart : (state : State) (asks : List Ask) (i : ℕ) (d : Ask) → AskersRise asks → i < length asks → All (IsOfOther (get_or asks i d).client) (answered_from state (take i asks))
earlier_apart state asks i d rise inside =
    earlier_are_others state (take i asks) (get_or asks i d) (drop (suc i) asks) (subst AskersRise (split_at asks i d inside) rise)

-- one more request is answered
pub answered_next : (state : State) (asks : List Ask) (i : ℕ) (d : Ask) → i < length asks → answered_from state (take (i + 1) asks) ≡ answered_from state (take i asks) ++ answered_by (state_from state (take i asks)) (get_or asks i d) ∷ []
answered_next state asks i d inside =
    let ask = get_or asks i d in
    let st = state_from state (take i asks) in
    ap (answered_from state) (take_more asks i d inside)
    ∙ (answered_from-append state (take i asks) (ask ∷ [])
    ∙ ap (λ (es : List Entry). answered_from state (take i asks) ++ es) (answered_from-more st ask [] ∙ ap (λ (es : List Entry). answered_by st ask ∷ es) (answered_from-none (next_state st ask.op))))

pub state_next : (state : State) (asks : List Ask) (i : ℕ) (d : Ask) → i < length asks → state_from state (take (i + 1) asks) ≡ next_state (state_from state (take i asks)) (get_or asks i d).op
state_next state asks i d inside =
    let ask = get_or asks i d in
    let st = state_from state (take i asks) in
    ap (state_from state) (take_more asks i d inside)
    ∙ (state_from-append state (take i asks) (ask ∷ []) ∙ (state_from-more st ask [] ∙ state_from-none (next_state st ask.op)))

-- The lines after the slots are written

slot_before : (first : ℕ) (old new : List Line) (client slot : ℕ) → KeepsBefore first old new → 8 * client + 8 < first → slot < KEPT_REQUESTS → slot_line_at new client slot ≡ slot_line_at old client slot
slot_before first old new client slot keeps room few = keeps.same (1 + (KEPT_REQUESTS * client + slot)) (omega arith)

-- the slots of clients that lie before the line that is written keep their entries
pub entries_before : (first : ℕ) (before old new : List Line) (entries : List Entry) → KeepsBefore first old new → All (λ (entry : Entry). 8 * entry.client + 8 < first) entries → All (HasEntryInFront before old) entries → All (HasEntryInFront before new) entries
entries_before first before old new entries keeps room have k d inside =
    let entry = get_or entries k d in
    let has = have k d inside in
    record {
      newest = slot_before first old new entry.client 0 keeps (room k d inside) (omega arith) ∙ has.newest;
      shifted = λ slot few. slot_before first old new entry.client (suc slot) keeps (room k d inside) few ∙ has.shifted slot few;
    }

pub others_before : (first : ℕ) (old new : List Line) (client slot : ℕ) → KeepsBefore first old new → 8 * client + 8 < first → slot < KEPT_REQUESTS → slot_line_at new client slot ≡ slot_line_at old client slot
others_before first old new client slot keeps room few = slot_before first old new client slot keeps room few
