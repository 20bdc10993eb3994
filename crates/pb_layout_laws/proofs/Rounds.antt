-- What the entries of a round do to a standing.
use Rattle.std.proofs.Common.{◌≡◌, ◌≢◌, ◌⊎◌, ℕ, suc, ◌+◌, ◌<◌, ◌≤◌, ◌==◌, Bool, true, false, Option, Some, None, IsSomeAnd, List, [], ◌∷◌, length, get_or, set, if◌then◌else◌, refl, sym, ap, ◌∙◌, subst, inl, inr, arith}
use Rattle.std.proofs.lemmas.Bool.{cases_eq}
use Rattle.std.specs.List.{All}
use Rattle.std.proofs.lemmas.List.{length-set, get_or-set_same, get_or-set_other}
use Rattle.std.proofs.lemmas.List.Elements.{All-nil, All-head, All-tail, All-cons}
use Rattle.pb_object.specs.declared.codes.Action.{Action}
use Rattle.pb_object.specs.declared.codes.Action.TheVariants.{Get, Put, Cas, Push, Pop, Top, Insert, RemoveMin, Min, QueuePut, QueueTake}
use Rattle.pb_object.specs.declared.codes.Answer.TheVariants.{Was}
use Rattle.pb_object.specs.declared.kind.Kind.{Kind}
use Rattle.pb_object.specs.declared.request.Kept.{Kept}
use Rattle.pb_object.specs.declared.request.Op.{Op}
use Rattle.pb_object.specs.Codes.{action_of, action_kind, action_side, argument_count, answer_code}
use Rattle.pb_object.specs.History.{Entry, Round, kept_by, after_entry, after_entries, after_round, IsOfSide, AreLegal, ClientsRise, IsLegalRound}
use Rattle.pb_object.specs.Map.{Register, map_reply}
use Rattle.pb_object.specs.Object.{State, Registers, Items, Rising, Waits, next_state}
use Rattle.pb_object.specs.ObjectLines.{kind_of, size_of}
use Rattle.pb_object.specs.Request.{LeavesUnusedZero, IsOperation}
use Rattle.pb_object.specs.Standing.{Standing, side_count, rounds_of, kept_list_of, newest_of, newest, keep}
use Rattle.pb_layout.specs.ClientLine.{IsRecorded}
use Rattle.pb_layout.specs.Represents.{header_for}
use Rattle.pb_layout.proofs.Keeping.{recorded_by}
use Rattle.pb_layout.specs.NextRecord.{IsOfOther}

length_by : (test : Bool) (left right : List Register) → length left ≡ length right → length (if test then left else right) ≡ length right
length_by true left right e = e
length_by false left right e = refl

-- an operation keeps an object's kind
pub next_state-kind : (state : State) (op : Op) → kind_of (next_state state op) ≡ kind_of state
next_state-kind (Registers registers) op = refl
next_state-kind (Items size items) op = refl
next_state-kind (Rising size items) op = refl
next_state-kind (Waits size queue) op = refl

-- .. and its size
pub next_state-size : (state : State) (op : Op) → size_of (next_state state op) ≡ size_of state
next_state-size (Registers registers) op = length_by ((map_reply registers op).code == answer_code Was) _ registers (length-set registers op.a _)
next_state-size (Items size items) op = refl
next_state-size (Rising size items) op = refl
next_state-size (Waits size queue) op = refl

-- entries keep the kind, the clients and the size
pub after_entries-header : (s : Standing) (entries : List Entry) → header_for (after_entries s entries) ≡ header_for s
after_entries-header s [] = refl
after_entries-header s (entry ∷ entries) = after_entries-header (after_entry s entry) entries

-- .. the counts of rounds
pub after_entries-rounds : (s : Standing) (entries : List Entry) → (after_entries s entries).rounds ≡ s.rounds
after_entries-rounds s [] = refl
after_entries-rounds s (entry ∷ entries) = after_entries-rounds (after_entry s entry) entries

-- .. how many requests are kept
pub after_entries-kept : (s : Standing) (entries : List Entry) → length (after_entries s entries).kept ≡ length s.kept
after_entries-kept s [] = refl
after_entries-kept s (entry ∷ entries) = after_entries-kept (after_entry s entry) entries ∙ length-set s.kept entry.client (keep (kept_by entry) (kept_list_of s entry.client))

-- .. the object's kind
pub after_entries-kind_of : (s : Standing) (entries : List Entry) → kind_of (after_entries s entries).state ≡ kind_of s.state
after_entries-kind_of s [] = refl
after_entries-kind_of s (entry ∷ entries) = after_entries-kind_of (after_entry s entry) entries ∙ next_state-kind s.state entry.op

-- .. and the object's size
pub after_entries-size_of : (s : Standing) (entries : List Entry) → size_of (after_entries s entries).state ≡ size_of s.state
after_entries-size_of s [] = refl
after_entries-size_of s (entry ∷ entries) = after_entries-size_of (after_entry s entry) entries ∙ next_state-size s.state entry.op

side_of_kind : (action : Action) → action_side action < side_count (action_kind action)
side_of_kind Get = omega arith
side_of_kind Put = omega arith
side_of_kind Cas = omega arith
side_of_kind Push = omega arith
side_of_kind Pop = omega arith
side_of_kind Top = omega arith
side_of_kind Insert = omega arith
side_of_kind RemoveMin = omega arith
side_of_kind Min = omega arith
side_of_kind QueuePut = omega arith
side_of_kind QueueTake = omega arith

side_inside : (o : Option Action) (kind : Kind) (side : ℕ) (op : Op) → IsSomeAnd o (λ action. (action_kind action ≡ kind) × LeavesUnusedZero (argument_count action) op) → IsSomeAnd o (λ action. action_side action ≡ side) → side < side_count kind
side_inside None kind side op operation of_side = absurd operation
side_inside (Some action) kind side op operation of_side = omega (arith, side_of_kind action, ap side_count operation.0, of_side)

-- the side of an operation is one of its kind's
pub operation_side : (kind : Kind) (side : ℕ) (op : Op) → IsOperation kind op → IsOfSide side op → side < side_count kind
operation_side kind side op operation of_side = side_inside (action_of op.code) kind side op operation of_side

two_sides : (o : Option Action) (first second : ℕ) → IsSomeAnd o (λ action. action_side action ≡ first) → IsSomeAnd o (λ action. action_side action ≡ second) → first ≡ second
two_sides None first second left right = absurd left
two_sides (Some action) first second left right = sym left ∙ right

-- no operation is of two sides
pub one_side : (first second : ℕ) (op : Op) → IsOfSide first op → IsOfSide second op → first ≡ second
one_side first second op left right = two_sides (action_of op.code) first second left right

-- a legal round is of a side that there is
pub next_side : (s : Standing) (round : Round) → IsLegalRound s round → round.side < side_count s.kind
next_side s round legal = go round.entries legal.some legal.legal
  where
    go : (entries : List Entry) → entries ≢ [] → AreLegal s round.side entries → round.side < side_count s.kind
    go [] some are = absurd (some refl)
    go (entry ∷ entries) some are = operation_side s.kind round.side entry.op are.0.operation are.0.of_side

-- a round keeps the kind, the clients and the size
pub next_header : (s : Standing) (round : Round) → header_for (after_round s round) ≡ header_for s
next_header s round = after_entries-header s round.entries

-- the counts of rounds after a round
pub next_round_list : (s : Standing) (round : Round) → (after_round s round).rounds ≡ set s.rounds round.side (rounds_of s round.side + 1)
next_round_list s round = ap (λ (rounds : List ℕ). set rounds round.side (get_or rounds round.side 0 + 1)) (after_entries-rounds s round.entries)

-- a round's side counts one round more
pub next_rounds : (s : Standing) (round : Round) → IsLegalRound s round → length s.rounds ≡ side_count s.kind → rounds_of (after_round s round) round.side ≡ rounds_of s round.side + 1
next_rounds s round legal sides =
    ap (λ (rounds : List ℕ). get_or rounds round.side 0) (next_round_list s round) ∙ get_or-set_same s.rounds round.side (rounds_of s round.side + 1) 0 (omega (arith, next_side s round legal, sides))

-- .. and the other side as many as before
pub next_rounds_other : (s : Standing) (round : Round) (other : ℕ) → other ≢ round.side → rounds_of (after_round s round) other ≡ rounds_of s other
next_rounds_other s round other apart =
    ap (λ (rounds : List ℕ). get_or rounds other 0) (next_round_list s round) ∙ get_or-set_other s.rounds round.side other (rounds_of s round.side + 1) 0 apart

-- clients rise from entry to entry, and none is below this
abbrev pub RiseFrom : ℕ → List Entry → Type 0
RiseFrom floor [] = Unit {0}
RiseFrom floor (entry ∷ entries) = (floor ≤ entry.client) × RiseFrom (suc entry.client) entries

-- clients that rise do so from the first one's on
pub rise_from : (floor : ℕ) (entry : Entry) (entries : List Entry) → floor ≤ entry.client → ClientsRise (entry ∷ entries) → RiseFrom floor (entry ∷ entries)
rise_from floor entry [] above rise = (above, tt)
rise_from floor entry (second ∷ entries) above rise = (above, rise_from (suc entry.client) second entries rise.0 rise.1)

-- clients that rise do so from 0 on
pub rise_from_zero : (entries : List Entry) → ClientsRise entries → RiseFrom 0 entries
rise_from_zero [] rise = tt
rise_from_zero (entry ∷ entries) rise = rise_from 0 entry entries (omega arith) rise

-- entries that rise from above a client are of others
pub rise-others : (client floor : ℕ) (entries : List Entry) → client < floor → RiseFrom floor entries → All (IsOfOther client) entries
rise-others client floor [] below rise = All-nil (IsOfOther client)
rise-others client floor (entry ∷ entries) below rise =
    All-cons (IsOfOther client) entry entries (λ e. absurd (omega (arith, rise.0, e))) (rise-others client (suc entry.client) entries (omega (arith, rise.0)) rise.1)

-- an entry leaves what is kept of others
pub after_entry-other : (s : Standing) (entry : Entry) (client : ℕ) → entry.client ≢ client → kept_list_of (after_entry s entry) client ≡ kept_list_of s client
after_entry-other s entry client apart = get_or-set_other s.kept entry.client client (keep (kept_by entry) (kept_list_of s entry.client)) [] (λ e. apart (sym e))

-- entries leave what is kept of clients that have none
pub after_entries-other : (s : Standing) (entries : List Entry) (client : ℕ) → All (IsOfOther client) entries → kept_list_of (after_entries s entries) client ≡ kept_list_of s client
after_entries-other s [] client others = refl
after_entries-other s (entry ∷ entries) client others =
    after_entries-other (after_entry s entry) entries client (All-tail (IsOfOther client) entry entries others) ∙ after_entry-other s entry client (All-head (IsOfOther client) entry entries others)

-- a client has this entry among these: it has the next number, and is what is kept of the client after them
pub record HasOwnEntry (P : Entry → Type 0) (s : Standing) (side : ℕ) (entries : List Entry) (client : ℕ) : Type 0 where
  pub entry : Entry
  pub own : entry.client ≡ client
  pub holds : P entry
  pub number : entry.number ≡ (newest_of s client).number + 1
  pub recorded : IsRecorded s.kind side (kept_by entry)
  pub kept : kept_list_of (after_entries s entries) client ≡ keep (kept_by entry) (kept_list_of s client)

-- a client has one of these legal entries, of which what holds of all holds, or all are of others
pub entry_or_others : (P : Entry → Type 0) (s : Standing) (side floor : ℕ) (entries : List Entry) (client : ℕ)
    → client < length s.kept → kind_of s.state ≡ s.kind → AreLegal s side entries → RiseFrom floor entries → All P entries
    → HasOwnEntry P s side entries client ⊎ All (IsOfOther client) entries
entry_or_others P s side floor [] client inside kind legal rise all = inr (All-nil (IsOfOther client))
entry_or_others P s side floor (entry ∷ entries) client inside kind legal rise all =
    elim (cases_eq entry.client client) [
      | inl e ↦ inl (record {
        entry = entry;
        own = e;
        holds = All-head P entry entries all;
        number = legal.0.number ∙ ap (λ (n : ℕ). (newest_of s n).number + 1) e;
        recorded = recorded_by s side entry kind legal.0;
        kept = after_entries-other (after_entry s entry) entries client (rise-others client (suc entry.client) entries (omega (arith, e)) rise.1)
            ∙ (ap (λ (n : ℕ). get_or (set s.kept n (keep (kept_by entry) (kept_list_of s n))) client []) e ∙ get_or-set_same s.kept client (keep (kept_by entry) (kept_list_of s client)) [] inside);
      })
      | inr apart ↦ more apart (entry_or_others P (after_entry s entry) side (suc entry.client) entries client (subst (λ (n : ℕ). client < n) (sym (length-set s.kept entry.client (keep (kept_by entry) (kept_list_of s entry.client)))) inside) (next_state-kind s.state entry.op ∙ kind) legal.1 rise.1 (All-tail P entry entries all))
    ]
  where
    more : entry.client ≢ client → HasOwnEntry P (after_entry s entry) side entries client ⊎ All (IsOfOther client) entries → HasOwnEntry P s side (entry ∷ entries) client ⊎ All (IsOfOther client) (entry ∷ entries)
    more apart (inr others) = inr (All-cons (IsOfOther client) entry entries apart others)
    more apart (inl has) = inl (record {
      entry = has.entry;
      own = has.own;
      holds = has.holds;
      number = has.number ∙ ap (λ (list : List Kept). (newest list).number + 1) (after_entry-other s entry client apart);
      recorded = has.recorded;
      kept = has.kept ∙ ap (keep (kept_by has.entry)) (after_entry-other s entry client apart);
    })
