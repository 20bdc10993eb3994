-- The round of the requests that a scan saw.
use Rattle.std.proofs.Common.{◌≡◌, ◌≢◌, ℕ, zero, suc, ◌+◌, ◌<◌, ◌⊎◌, true, false, List, [], ◌∷◌, Option, Some, None, option_map, unwrap_or, IsSomeAnd, cond, eqb, ap, subst, sym, refl, ◌∙◌, inl, inr, arith}
use Rattle.std.proofs.lemmas.Bool.{cases_eq, cases_Bool, eq-eqb, ne_eqb, cond-true, cond-false}
use Rattle.std.proofs.lemmas.List.{get_or-set_other}
use Rattle.pb_object.specs.declared.codes.Action.{Action}
use Rattle.pb_object.specs.declared.kind.Kind.{Kind}
use Rattle.pb_object.specs.declared.request.Ask.{Ask}
use Rattle.pb_object.specs.declared.request.Kept.{Kept}
use Rattle.pb_object.specs.declared.request.Op.{Op}
use Rattle.pb_object.specs.declared.request.Reply.{Reply}
use Rattle.pb_object.specs.Codes.{action_of, action_kind, action_side, argument_count}
use Rattle.pb_object.specs.History.{Entry, Round, History, kept_by, after_entry, IsOfSide, AreLegal, ClientsRise, IsLegalRound}
use Rattle.pb_object.specs.Object.{reply_of}
use Rattle.pb_object.specs.Request.{IsOperation, LeavesUnusedZero}
use Rattle.pb_object.specs.Standing.{Standing, keep, kept_list_of, newest, newest_of}
use Rattle.pb_core.specs.Client.{is_idle, is_announced, Client, ask_word, entry_by}
use Rattle.pb_core.specs.HolderMoves.{entries_by, round_by}
use Rattle.pb_core.specs.Laws.{AreDue}
use Rattle.pb_core.specs.Memory.{Owner, side_of_operation}
use Rattle.pb_core.specs.MemoryParts.{IsClient, IsAsking, IsServed, entries_ahead, HasEntries, IsSeen, AreSeen, entries_with}
use Rattle.pb_core.proofs.Asking.{quiet_low}
use Rattle.pb_core.proofs.Stages.{announced_busy, announced_words}

-- Sides

op_side : (o : Option Action) (kind : Kind) (op : Op) (side : ℕ) → IsSomeAnd o (λ action. (action_kind action ≡ kind) × LeavesUnusedZero (argument_count action) op) → unwrap_or (option_map action_side o) 0 ≡ side → IsSomeAnd o (λ action. action_side action ≡ side)
op_side None kind op side is same = absurd is
op_side (Some action) kind op side is same = same

-- an operation of the kind is of its side
pub of_side : (kind : Kind) (op : Op) (side : ℕ) → IsOperation kind op → side_of_operation op ≡ side → IsOfSide side op
of_side kind op side is same = op_side (action_of op.code) kind op side is same

-- Requests that are due

-- another client's entry leaves them due
due-after : (s : Standing) (side low : ℕ) (entry : Entry) (asks : List Ask) → entry.client < low → AreDue s side low asks → AreDue (after_entry s entry) side low asks
due-after s side low entry [] below due = tt
due-after s side low entry (ask ∷ asks) below due = (
  due.0,
  record {
    there = due.1.there;
    number = due.1.number ∙ ap (λ (l : List Kept). (newest l).number + 1) (sym other);
    few = due.1.few;
    operation = due.1.operation;
    side_is = due.1.side_is;
  },
  due-after s side (suc ask.client) entry asks (omega (arith, below, due.0)) due.2,
)
  where
    other : kept_list_of (after_entry s entry) ask.client ≡ kept_list_of s ask.client
    other =
        get_or-set_other s.kept entry.client ask.client (keep (kept_by entry) (kept_list_of s entry.client)) [] (λ e. omega (arith, e, below, due.0))

-- their entries are legal, ..
due-legal : (s : Standing) (side low : ℕ) (asks : List Ask) → AreDue s side low asks → AreLegal s side (entries_by s asks)
due-legal s side low [] due = tt
due-legal s side low (ask ∷ asks) due =
    let entry : Entry = entry_by ask (reply_of s.state ask.op) in
    (record { client = due.1.there; number = due.1.number; few = due.1.few; operation = due.1.operation; of_side = due.1.side_is; reply = refl }, due-legal (after_entry s entry) side (suc ask.client) asks (due-after s side (suc ask.client) entry asks (omega arith) due.2))

-- .. and their clients rise
due-rise : (s t : Standing) (side low : ℕ) (asks : List Ask) → AreDue t side low asks → ClientsRise (entries_by s asks)
due-rise s t side low [] due = tt
due-rise s t side low (ask ∷ []) due = tt
due-rise s t side low (ask ∷ second ∷ asks) due =
    (omega (arith, due.2.0), due-rise (after_entry s (entry_by ask (reply_of s.state ask.op))) t side (suc ask.client) (second ∷ asks) due.2)

some-entries : (s : Standing) (asks : List Ask) → asks ≢ [] → entries_by s asks ≢ []
some-entries s [] some e = some refl
some-entries s (ask ∷ asks) some e = cc

pub due-round : (s : Standing) (side : ℕ) (asks : List Ask) → asks ≢ [] → AreDue s side 0 asks → IsLegalRound s (round_by side s asks)
due-round s side asks some due = record {
  some = some-entries s asks some;
  rising = due-rise s s side 0 asks due;
  legal = due-legal s side 0 asks due;
}

-- A client's entries among those of the requests

-- none of a client that stands before
none_before : (s : Standing) (side : ℕ) (requests : ℕ → ℕ → ℕ) (t : Standing) (c low high : ℕ) (asks : List Ask) → c < low → AreSeen t side requests low high asks → entries_with c (entries_by s asks) ≡ []
none_before s side requests t c low high [] below seen = refl
none_before s side requests t c low high (ask ∷ asks) below seen =
    let entry : Entry = entry_by ask (reply_of s.state ask.op) in
    cond-false (eqb ask.client c) (entry ∷ entries_with c (entries_by (after_entry s entry) asks)) (entries_with c (entries_by (after_entry s entry) asks)) (ne_eqb ask.client c (λ e. omega (arith, e, below, seen.0))) ∙ none_before (after_entry s entry) side requests t c (suc ask.client) high asks (omega (arith, below, seen.0)) seen.3

-- the request of a client that was seen, and its entry
pub record IsMet (t : Standing) (side : ℕ) (requests : ℕ → ℕ → ℕ) (c : ℕ) (entries : List Entry) : Type 0 where
  pub ask : Ask
  pub client : ask.client ≡ c
  pub seen : IsSeen t side requests ask
  pub reply : Reply
  pub alone : entries ≡ entry_by ask reply ∷ []

pub met_or_none : (s : Standing) (side : ℕ) (requests : ℕ → ℕ → ℕ) (t : Standing) (c low high : ℕ) (asks : List Ask) → AreSeen t side requests low high asks → (entries_with c (entries_by s asks) ≡ []) ⊎ IsMet t side requests c (entries_with c (entries_by s asks))
met_or_none s side requests t c low high [] seen = inl refl
met_or_none s side requests t c low high (ask ∷ asks) seen =
    go (cases_eq ask.client c) (met_or_none (after_entry s entry) side requests t c (suc ask.client) high asks seen.3)
  where
    entry : Entry
    entry = entry_by ask (reply_of s.state ask.op)

    rest : List Entry
    rest = entries_with c (entries_by (after_entry s entry) asks)

    go : (ask.client ≡ c) ⊎ (ask.client ≢ c) → (rest ≡ []) ⊎ IsMet t side requests c rest → (cond (eqb ask.client c) (entry ∷ rest) rest ≡ []) ⊎ IsMet t side requests c (cond (eqb ask.client c) (entry ∷ rest) rest)
    go (inl same) more = inr (record {
      ask = ask;
      client = same;
      seen = seen.2;
      reply = reply_of s.state ask.op;
      alone = cond-true (eqb ask.client c) (entry ∷ rest) rest (eq-eqb ask.client c same) ∙ ap (λ (l : List Entry). entry ∷ l) (none_before (after_entry s entry) side requests t c (suc ask.client) high asks (omega (arith, same)) seen.3);
    })
    go (inr apart) (inl none) =
        inl (cond-false (eqb ask.client c) (entry ∷ rest) rest (ne_eqb ask.client c apart) ∙ none)
    go (inr apart) (inr met) = inr (record {
      ask = met.ask;
      client = met.client;
      seen = met.seen;
      reply = met.reply;
      alone = cond-false (eqb ask.client c) (entry ∷ rest) rest (ne_eqb ask.client c apart) ∙ met.alone;
    })

-- A request that was seen is its client's open one

ask_is : (x y : Ask) → x.client ≡ y.client → ((place : ℕ) → place < 5 → ask_word x place ≡ ask_word y place) → x ≡ y
ask_is x y client words =
    let number : x.number ≡ y.number = words 0 (omega arith) in
    let code : x.op.code ≡ y.op.code = words 1 (omega arith) in
    let a : x.op.a ≡ y.op.a = words 2 (omega arith) in
    let b : x.op.b ≡ y.op.b = words 3 (omega arith) in
    let c : x.op.c ≡ y.op.c = words 4 (omega arith) in
    λ i. record { client = client i; number = number i; op = record { code = code i; a = a i; b = b i; c = c i } }

pub record IsOpen (ask : Ask) (b : Client) : Type 0 where
  pub same : ask ≡ b.ask
  pub announced : is_announced b.stage ≡ true
  pub busy : is_idle b.stage ≡ false

pub seen_open : {kind : Kind} {list : List Kept} {published : History} {ahead : Option Round} {owner : Owner} {words : ℕ → ℕ} {c : ℕ} {b : Client} (ask : Ask) → IsClient kind list published ahead owner words c b → ask.client ≡ c → ((place : ℕ) → place < 5 → words place ≡ ask_word ask place) → ask.number ≡ (newest list).number + 1 → IsOpen ask b
seen_open {kind = kind} {words = words} {c = c} {b = b} ask is client seen due =
    record { same = ask_is ask b.ask (client ∙ sym asking.client) same; announced = announced; busy = busy }
  where
    announced : is_announced b.stage ≡ true
    announced = elim (cases_Bool (is_announced b.stage)) [
      | inl e ↦ e
      | inr e ↦ absurd (omega (arith, quiet_low is e, seen 0 (omega arith), due))
    ]

    busy : is_idle b.stage ≡ false
    busy = announced_busy b.stage announced

    asking : IsAsking kind c b
    asking = is.asking busy

    own : (place : ℕ) → place < 5 → words place ≡ ask_word b.ask place
    own zero few = is.has_words.announced announced
    own (suc place) few =
        is.has_words.stored (suc place) (omega arith) (omega (arith, few, announced_words b.stage announced))

    same : (place : ℕ) → place < 5 → ask_word ask place ≡ ask_word b.ask place
    same place few = sym (seen place few) ∙ own place few

-- A client's entries when the round begins

absurd_one : {entry : Entry} → ¬ ([] ≡ entry ∷ [])
absurd_one e = cc

begins_entries : {c : ℕ} {published : History} {list : List Kept} {b : Client} (round : Round) (reply : Reply) → is_announced b.stage ≡ true → ¬ ((newest list).number ≡ b.ask.number) → entries_with c round.entries ≡ entry_by b.ask reply ∷ [] → HasEntries c published None list b → HasEntries c published (Some round) list b
begins_entries round reply announced lacks one (inl clear) =
    inr (inl (record { reply = reply; announced = announced; told = clear.told; one = one; kept = clear.kept }))
begins_entries round reply announced lacks one (inr (inl coming)) = absurd (absurd_one coming.one)
begins_entries round reply announced lacks one (inr (inr served)) = absurd (lacks (ap (λ (l : List Kept). (newest l).number) served.kept))

-- an open request that is published stays so, whatever is ahead of others
pub served_still : {c : ℕ} {published : History} {ahead : Option Round} {list : List Kept} {b : Client} (other : Option Round) → entries_ahead c other ≡ [] → IsServed c published ahead list b → IsServed c published other list b
served_still other none served = record {
  reply = served.reply;
  announced = served.announced;
  waiting = served.waiting;
  told = served.told;
  none = none;
  kept = served.kept;
  dated = served.dated;
}

-- those of a client that the round has none of
begins_without : {c : ℕ} {published : History} {list : List Kept} {b : Client} (round : Round) → entries_with c round.entries ≡ [] → HasEntries c published None list b → HasEntries c published (Some round) list b
begins_without round none (inl clear) =
    inl (record { told = clear.told; none = none; kept = clear.kept })
begins_without round none (inr (inl coming)) = absurd (absurd_one coming.one)
begins_without round none (inr (inr served)) = inr (inr (served_still (Some round) none served))

-- a client when the round begins
pub begins_client : {kind : Kind} {published : History} {owner : Owner} {c : ℕ} {b : Client} (s : Standing) (side : ℕ) (requests : ℕ → ℕ → ℕ) (high : ℕ) (seen : List Ask) → IsClient kind (kept_list_of s c) published None owner (requests c) c b → AreSeen s side requests 0 high seen → IsClient kind (kept_list_of s c) published (Some (round_by side s seen)) owner (requests c) c b
begins_client {kind} {published} {owner} {c} {b} s side requests high seen is are = record {
  holding = is.holding;
  holder = is.holder;
  rests = is.rests;
  asking = is.asking;
  has_words = is.has_words;
  front = is.front;
  read = is.read;
  entries = go (met_or_none s side requests s c 0 high seen are);
  dates = is.dates;
}
  where
    round : Round
    round = round_by side s seen

    go : (entries_with c round.entries ≡ []) ⊎ IsMet s side requests c (entries_with c round.entries) → HasEntries c published (Some round) (kept_list_of s c) b
    go (inl none) = begins_without round none is.entries
    go (inr met) =
        let due : met.ask.number ≡ (newest_of s c).number + 1 = met.seen.due ∙ ap (λ (d : ℕ). (newest_of s d).number + 1) met.client in
        let words : (place : ℕ) → place < 5 → requests c place ≡ ask_word met.ask place = subst (λ (d : ℕ). (place : ℕ) → place < 5 → requests d place ≡ ask_word met.ask place) met.client met.seen.words in
        let request : IsOpen met.ask b = seen_open met.ask is met.client words due in
        begins_entries round met.reply request.announced (λ same. omega (arith, same, due, ap (λ (a : Ask). a.number) request.same)) (met.alone ∙ ap (λ (a : Ask). entry_by a met.reply ∷ []) request.same) is.entries
