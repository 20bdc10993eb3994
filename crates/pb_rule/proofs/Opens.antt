-- The table as it is made.
use Rattle.std.proofs.Common.{◌≡◌, ◌≢◌, ◌⊎◌, ℕ, zero, suc, ◌+◌, ◌*◌, ◌<◌, ◌≤◌, true, List, [], ◌∷◌, length, map, get_or, set, Option, Some, sym, refl, ap, ◌∙◌, subst, inl, inr, arith, length-set, get_or-set_same, get_or-set_other}
use Rattle.std.proofs.lemmas.Bool.{cases_eq, cases_lt, false≢true}
use mathlib.Core.Option.{some, some-injective, some-ne-none}
use lib.ListN.{get_elem?}
use Rattle.atomic_table.specs.Table.{opening}
use Rattle.pb_object.specs.declared.kind.Kind.{Kind}
use Rattle.pb_object.specs.declared.request.Kept.{Kept}
use Rattle.pb_object.specs.Standing.{Standing, kept_list_of, newest_of}
use Rattle.pb_core.specs.Client.{row_word, fresh_client}
use Rattle.pb_core.specs.MemoryRun.{begun}
use Rattle.pb_engine.specs.View.{EngineView, IsEngine}
use Rattle.pb_engine.specs.Calls.{Made, Failed}
use Rattle.pb_engine.proofs.Coming.{at_start}
use Rattle.pb_rule.specs.Opening.{HasStart}
use Rattle.pb_rule.specs.View.{PassView, fresh_views}
use Rattle.pb_rule.specs.Rule.{request_place, row_place, word_count, HasWords, IsOther, AreViews, Keeps}
use Rattle.pb_rule.proofs.Members.{contains-none}

-- Words at first

-- one word more
pub put_start : (s : Standing) (client row place word : ℕ) (words : List ℕ) → client < s.clients → row < 2 → place < 4 → word ≡ row_word (newest_of s client) place → HasStart s client (4 * row + place) words → HasStart s client (4 * row + place + 1) (set words (row_place client row place) word)
put_start s client row place word words there which few word_is has = record {
  long = length-set words here word ∙ has.long;
  turn = get_or-set_other words here 0 word 0 (λ e. omega (arith, e)) ∙ has.turn;
  noted = get_or-set_other words here 1 word 0 (λ e. omega (arith, e)) ∙ has.noted;
  requests = λ d p inside less. get_or-set_other words here (request_place d p) word 0 (λ e. omega (arith, e, which, few, less)) ∙ has.requests d p inside less;
  rows = λ r d p two inside less done. by r d p two inside less done (cases_eq (row_place d r p) here);
}
  where
    here : ℕ
    here = row_place client row place

    low : row_place client row place < length words
    low = omega (arith, has.long, there, which, few)

    by : (r d p : ℕ) → r < 2 → d < s.clients → p < 4 → (d < client) ⊎ ((d ≡ client) × (4 * r + p < 4 * row + place + 1)) → (row_place d r p ≡ row_place client row place) ⊎ (row_place d r p ≢ row_place client row place)
        → get_or (set words (row_place client row place) word) (row_place d r p) 0 ≡ row_word (newest_of s d) p
    by r d p two inside less done (inl same) =
        let same_client : d ≡ client = omega (arith, same, two, which, less, few) in
        let same_place : p ≡ place = omega (arith, same, two, which, less, few) in
        ap (λ (n : ℕ). get_or (set words here word) n 0) same ∙ (get_or-set_same words here word 0 low ∙ (word_is ∙ (λ i. row_word (newest_of s (sym same_client i)) (sym same_place i))))
    by r d p two inside less done (inr apart) =
        get_or-set_other words here (row_place d r p) word 0 apart ∙ has.rows r d p two inside less (before done)
      where
        before : (d < client) ⊎ ((d ≡ client) × (4 * r + p < 4 * row + place + 1)) → (d < client) ⊎ ((d ≡ client) × (4 * r + p < 4 * row + place))
        before (inl earlier) = inl earlier
        before (inr own) = go (cases_lt (4 * r + p) (4 * row + place))
          where
            go : (4 * r + p < 4 * row + place) ⊎ (4 * row + place ≤ 4 * r + p) → (d < client) ⊎ ((d ≡ client) × (4 * r + p < 4 * row + place))
            go (inl less_words) = inr (own.0, less_words)
            go (inr no_less) = absurd (apart (omega (arith, own.0, own.1, no_less, less, few)))

-- all words of a client
pub next_client : (s : Standing) (client : ℕ) (words : List ℕ) → HasStart s client 8 words → HasStart s (client + 1) 0 words
next_client s client words has = record {
  long = has.long;
  turn = has.turn;
  noted = has.noted;
  requests = has.requests;
  rows = λ r d p two inside less done. has.rows r d p two inside less (before r d p two less done);
}
  where
    before : (r d p : ℕ) → r < 2 → p < 4 → (d < client + 1) ⊎ ((d ≡ client + 1) × (4 * r + p < 0)) → (d < client) ⊎ ((d ≡ client) × (4 * r + p < 8))
    before r d p two less (inr never) = absurd (omega (arith, never.1))
    before r d p two less (inl below) = go (cases_lt d client)
      where
        go : (d < client) ⊎ (client ≤ d) → (d < client) ⊎ ((d ≡ client) × (4 * r + p < 8))
        go (inl earlier) = inl earlier
        go (inr own) = inr (omega (arith, below, own), omega (arith, two, less))

-- words of zeros
pub zeros_start : (s : Standing) (words : List ℕ) → length words ≡ word_count s.clients → ((place : ℕ) → get_or words place 0 ≡ 0) → HasStart s 0 0 words
zeros_start s words long zeros = record {
  long = long;
  turn = zeros 0;
  noted = zeros 1;
  requests = λ d p inside less. zeros (request_place d p);
  rows = λ r d p two inside less done. absurd (never r d p done);
}
  where
    never : (r d p : ℕ) → (d < 0) ⊎ ((d ≡ 0) × (4 * r + p < 0)) → ⊥
    never r d p (inl below) = omega (arith, below)
    never r d p (inr below) = omega (arith, below.1)

start_words : (s : Standing) (count : ℕ) (words : List ℕ) → HasStart s s.clients 0 words → HasWords (begun s count) words
start_words s count words has = record {
  long = has.long;
  turn = has.turn;
  noted = has.noted;
  requests = has.requests;
  rows = λ row client place which there few. has.rows row client place which there few (inl there);
}

-- Views at first

later_other : (clients client other : ℕ) (lists : List (List Kept)) → client < other → IsOther client (fresh_views clients other lists)
later_other clients client other [] below = tt
later_other clients client other (list ∷ lists) below =
    ((λ e. omega (arith, below, e)), later_other clients client (suc other) lists (omega (arith, below)))

first_views : (start : EngineView) (count from : ℕ) (lists : List (List Kept)) → from + length lists ≡ start.standing.clients → ((k : ℕ) → k < length lists → get_or lists k [] ≡ kept_list_of start.standing (from + k))
    → AreViews (begun start.standing count) start [] (λ d. 0) 0 (fresh_views start.standing.clients from lists)
first_views start count from [] long same = tt
first_views start count from (list ∷ lists) long same = (
  record {
    clients = refl;
    there = omega (arith, long);
    body = ap fresh_client (same 0 (omega arith) ∙ ap (kept_list_of start.standing) (omega arith));
    front = tt;
    holder = λ holds. absurd (false≢true holds);
    other = λ free. record { work = refl; hand = refl; own = refl };
    served = tt;
  },
  refl,
  refl,
  later_other start.standing.clients from (suc from) lists (omega arith),
  first_views start count (suc from) lists (omega (arith, long)) (λ k below. same (suc k) (omega (arith, below)) ∙ ap (kept_list_of start.standing) (omega arith)),
)

module _ {X : Type 0} (seen : X → EngineView) (kind : Kind) where
  pub opens : (x : X) (words : List ℕ) (slots : List (Option X)) → slots ≡ Some x ∷ [] → (seen x).sure ≡ true → IsEngine kind (seen x) → HasStart (seen x).standing (seen x).standing.clients 0 words
      → Keeps seen kind (seen x) (opening words slots (fresh_views (seen x).standing.clients 0 (seen x).standing.kept))
  opens x words slots slots_are sure sound has = record {
    m = begun start.standing start.device.faults;
    engine = start;
    faults = [];
    place = λ d. 0;
    run = record { moves = 0; run = refl };
    kept = sound.kept.count;
    words = start_words start.standing start.device.faults words has;
    tied = record { standing = refl; count = refl; suits = sure; calls = []; come = at_start start; called_for = record { failed = tt; next = tt; asked = λ failed ops call. absurd (contains-none (Failed failed ops) call); made = λ round ops call. absurd (contains-none (Made round ops) call) }; sound = sound };
    lies = (x, refl, ap (λ (l : List (Option X)). map some l) slots_are);
    below = tt;
    apart = omega arith;
    clients = tt;
    views = λ seat list at. go seat list at;
  }
    where
      start : EngineView
      start = seen x

      all : AreViews (begun (seen x).standing (seen x).device.faults) (seen x) [] (λ d. 0) 0 (fresh_views (seen x).standing.clients 0 (seen x).standing.kept)
      all = first_views start start.device.faults 0 start.standing.kept (omega (arith, sound.kept.count)) (λ k below. ap (kept_list_of start.standing) (omega arith))

      go : (seat : ℕ) (list : List PassView) → get_elem? (fresh_views (seen x).standing.clients 0 (seen x).standing.kept ∷ []) seat ≡ some list → AreViews (begun (seen x).standing (seen x).device.faults) (seen x) [] (λ d. 0) seat list
      go zero list at = subst (AreViews (begun start.standing start.device.faults) start [] (λ d. 0) 0) (some-injective _ _ at) all
      go (suc seat) list at = absurd (some-ne-none list (sym at))

pub start_count : (s : Standing) (client count other : ℕ) (words : List ℕ) → count ≡ other → HasStart s client count words → HasStart s client other words
start_count s client count other words same has =
    subst (λ (n : ℕ). HasStart s client n words) same has
