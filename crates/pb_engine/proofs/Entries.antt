-- Several entries put in front of their clients' slots, one after the other.
use Rattle.std.proofs.Common.{◌≡◌, ◌≢◌, ◌⊎◌, ℕ, suc, ◌+◌, ◌*◌, ◌<◌, ◌≤◌, List, [], ◌∷◌, ◌++◌, length, refl, sym, subst, ◌∙◌, inl, inr, arith}
use Rattle.std.specs.List.{All}
use Rattle.std.proofs.lemmas.List.Elements.{All-nil, All-head, All-tail, All-cons, All-append}
use Rattle.std.proofs.lemmas.Bool.{cases_lt}
use Rattle.pb_pmem.specs.declared.line.Line.{Line}
use Rattle.pb_object.specs.declared.request.Ask.{Ask}
use Rattle.pb_object.specs.declared.request.TheConstants.{KEPT_REQUESTS}
use Rattle.pb_object.specs.History.{Entry, kept_by}
use Rattle.pb_object.specs.Object.{State, next_state}
use Rattle.pb_layout.specs.NextRecord.{HasEntryInFront, IsOfOther}
use Rattle.pb_layout.specs.Record.{slot_line_at}
use Rattle.pb_layout.specs.Slots.{PutsInFront}
use Rattle.pb_engine.specs.Asks.{answered_by, answered_from, AskersRise}
use Rattle.pb_engine.specs.Next.{PutsEntries}
use Rattle.pb_engine.proofs.Served.{AskersRiseFrom, rise_from_zero, answered_from-none, answered_from-more}

-- no entries
pub puts_none : (before lines : List Line) → PutsEntries before [] lines lines
puts_none before lines = record {
  long = refl;
  each = All-nil (HasEntryInFront before lines);
  first = refl;
  others = λ client slot below others. refl;
}

-- an entry of another client leaves a client's slots
slots_stay : (before : List Line) (entry : Entry) (old new : List Line) → PutsInFront before entry.client (kept_by entry) old new → (client slot : ℕ) → entry.client ≢ client → slot < KEPT_REQUESTS → slot_line_at new client slot ≡ slot_line_at old client slot
slots_stay before entry old new puts client slot apart below = puts.others (1 + (KEPT_REQUESTS * client + slot)) (by_order (lt_or_gt entry.client client apart))
  where
    lt_or_gt : (a b : ℕ) → a ≢ b → (a < b) ⊎ (b < a)
    lt_or_gt a b differ = elim (cases_lt a b) [ inl less ↦ inl less | inr most ↦ inr (omega (arith, most, differ)) ]

    by_order : (entry.client < client) ⊎ (client < entry.client) → (1 + (KEPT_REQUESTS * client + slot) ≤ KEPT_REQUESTS * entry.client) ⊎ (KEPT_REQUESTS * entry.client + KEPT_REQUESTS < 1 + (KEPT_REQUESTS * client + slot))
    by_order (inl after) = inr (omega (arith, after))
    by_order (inr before_it) = inl (omega (arith, before_it, below))

entries_stay : (before : List Line) (entry : Entry) (old new : List Line) (entries : List Entry) → PutsInFront before entry.client (kept_by entry) old new → All (IsOfOther entry.client) entries → All (HasEntryInFront before old) entries → All (HasEntryInFront before new) entries
entries_stay before entry old new [] puts apart each = All-nil (HasEntryInFront before new)
entries_stay before entry old new (first ∷ entries) puts apart each =
    let own = All-head (HasEntryInFront before old) first entries each in
    let differ : entry.client ≢ first.client = λ same. All-head (IsOfOther entry.client) first entries apart (sym same) in
    All-cons (HasEntryInFront before new) first entries
    (record {
      newest = slots_stay before entry old new puts first.client 0 differ (omega arith) ∙ own.newest;
      shifted = λ slot below. slots_stay before entry old new puts first.client (suc slot) differ below ∙ own.shifted slot below;
    })
    (entries_stay before entry old new entries puts (All-tail (IsOfOther entry.client) first entries apart) (All-tail (HasEntryInFront before old) first entries each))

all_front : (P : Entry → Type 0) (entries more : List Entry) → All P (entries ++ more) → All P entries
all_front P [] more all = All-nil P
all_front P (entry ∷ entries) more all =
    All-cons P entry entries (All-head P entry (entries ++ more) all) (all_front P entries more (All-tail P entry (entries ++ more) all))

all_last : (P : Entry → Type 0) (entries : List Entry) (entry : Entry) → All P (entries ++ entry ∷ []) → P entry
all_last P [] entry all = All-head P entry [] all
all_last P (first ∷ entries) entry all = all_last P entries entry (All-tail P first (entries ++ entry ∷ []) all)

-- one more entry, of another client than those before
pub puts_more : (before : List Line) (entries : List Entry) (entry : Entry) (old middle new : List Line) → PutsEntries before entries old middle → All (IsOfOther entry.client) entries → PutsInFront before entry.client (kept_by entry) middle new → length new ≡ length middle → PutsEntries before (entries ++ entry ∷ []) old new
puts_more before entries entry old middle new so_far apart puts long = record {
  long = long ∙ so_far.long;
  each = All-append (HasEntryInFront before new) entries (entry ∷ []) (entries_stay before entry middle new entries puts apart so_far.each)
      (All-cons (HasEntryInFront before new) entry [] (record { newest = puts.newest; shifted = puts.shifted }) (All-nil (HasEntryInFront before new)));
  first = puts.others 0 (inl (omega arith)) ∙ so_far.first;
  others = λ client slot below others.
      slots_stay before entry middle new puts client slot (all_last (IsOfOther client) entries entry others) below
      ∙ so_far.others client slot below (all_front (IsOfOther client) entries (entry ∷ []) others);
}

-- the clients of requests before one are others than its own

rises_to : (floor : ℕ) (done : List Ask) (ask : Ask) (rest : List Ask) → AskersRiseFrom floor (done ++ ask ∷ rest) → floor ≤ ask.client
rises_to floor [] ask rest rise = rise.0
rises_to floor (first ∷ done) ask rest rise = omega (arith, rise.0, rises_to (suc first.client) done ask rest rise.1)

others_before : (state : State) (floor : ℕ) (done : List Ask) (ask : Ask) (rest : List Ask) → AskersRiseFrom floor (done ++ ask ∷ rest) → All (IsOfOther ask.client) (answered_from state done)
others_before state floor [] ask rest rise = subst (All (IsOfOther ask.client)) (sym (answered_from-none state)) (All-nil (IsOfOther ask.client))
others_before state floor (first ∷ done) ask rest rise =
    subst (All (IsOfOther ask.client)) (sym (answered_from-more state first done))
    (All-cons (IsOfOther ask.client) (answered_by state first) (answered_from (next_state state first.op) done) (λ same. absurd (omega (arith, same, rises_to (suc first.client) done ask rest rise.1)))
    (others_before (next_state state first.op) (suc first.client) done ask rest rise.1))

pub earlier_are_others : (state : State) (done : List Ask) (ask : Ask) (rest : List Ask) → AskersRise (done ++ ask ∷ rest) → All (IsOfOther ask.client) (answered_from state done)
earlier_are_others state done ask rest rise = others_before state 0 done ask rest (rise_from_zero (done ++ ask ∷ rest) rise)
