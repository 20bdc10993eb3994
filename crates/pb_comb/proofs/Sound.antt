-- The fields of a combining engine say a sound one.
use Rattle.std.proofs.Common.{◌≡◌, ◌≢◌, ◌⊎◌, ℕ, zero, suc, ◌+◌, ◌*◌, ◌<◌, true, false, Option, Some, List, [], ◌∷◌, get_or, refl, sym, ap, subst, ◌∙◌, inl, inr, arith}
use Rattle.pb_pmem.specs.declared.line.Line.{Line}
use Rattle.pb_pmem.specs.Lines.{line_at}
use Rattle.pb_object.specs.declared.kind.Kind.{Kind}
use Rattle.pb_object.specs.declared.request.Ask.{Ask}
use Rattle.pb_object.specs.declared.request.Kept.{Kept}
use Rattle.pb_object.specs.declared.request.TheConstants.{KEPT_REQUESTS}
use Rattle.pb_object.specs.History.{IsLegalRound}
use Rattle.pb_object.specs.Object.{State}
use Rattle.pb_object.specs.Request.{none_kept}
use Rattle.pb_object.specs.Standing.{side_count, kept_list_of, rounds_of}
use Rattle.pb_layout.specs.ClientLine.{kept_in, IsKept}
use Rattle.pb_layout.specs.Header.{slot_count, word}
use Rattle.pb_layout.specs.Record.{kept_from, slot_line_at, AreSlots}
use Rattle.pb_layout.proofs.KeptLists.{records_keep_lists}
use Rattle.pb_layout.proofs.SlotLemmas.{Falling, falling_after, kept_from-empty, kept_from-full, slot_at_most, slots_fall, empty_slot}
use Rattle.pb_layout_laws.proofs.FewRounds.{records_few}
use Rattle.pb_pair.specs.declared.known.Known.{Known}
use Rattle.pb_pair.specs.declared.known.Known.TheVariants.{Sure, Opened, Failed}
use Rattle.pb_pair.specs.Settle.{was_called}
use Rattle.pb_pair.specs.View.{PairView, lines_of}
use Rattle.pb_engine.specs.View.{FailedRound, IsEngine, HoldsKnown, known_of, record_in_memory}
use Rattle.pb_engine.proofs.Served.{served_is_legal}
use Rattle.pb_engine.specs.Pairs.{is_sure, doubt_of}
use Rattle.pb_comb.specs.View.{standing_of, comb_view, HasDoubt, IsComb}
use Rattle.pb_comb.proofs.Records.{one_side, kept_is}
use Rattle.std.proofs.lemmas.Bool.{cases_eq}
use Rattle.pb_engine.proofs.Known.{known_holds, known_in_memory}

-- a sure engine has no request in doubt
pub none_in_doubt : (kind : Kind) (pair : PairView) (state ahead : State) (next : List Line) (asked : List Ask) → IsComb kind pair state ahead next asked → is_sure pair.known ≡ true → asked ≡ []
none_in_doubt kind pair state ahead next [] is sure = refl
none_in_doubt kind pair state ahead next (ask ∷ asks) is sure =
    absurd (cc (ap is_sure (is.some (λ none. cc (none))).failed, sure))

pub known_sure : (known : Known) → is_sure known ≡ true → known ≡ Sure
known_sure Sure is = refl
known_sure Opened is = absurd (cc (is))
known_sure Failed is = absurd (cc (is))

pub known_unsure : (known : Known) → is_sure known ≡ false → known ≢ Sure
known_unsure Sure is sure = absurd (cc (is))
known_unsure Opened is sure = absurd (cc (sure))
known_unsure Failed is sure = absurd (cc (sure))

pub engine_of : (kind : Kind) (pair : PairView) (state ahead : State) (next : List Line) (asked : List Ask) → IsComb kind pair state ahead next asked → IsEngine kind (comb_view pair state asked)
engine_of kind pair state ahead next asked is = record {
  kind_is = is.kind_is;
  valid = is.records.valid;
  sides = sym (one_side kind is.one_side);
  state_kind = is.records.kind ∙ is.kind_is;
  state_size = is.records.size;
  kept = records_keep_lists (lines_of pair) (standing_of pair state) is.records;
  few = records_few (lines_of pair) (standing_of pair state) is.records;
  decided = λ sure. ap (λ (asks : List Ask). doubt_of (standing_of pair state) asks (was_called pair.doubt)) (none_in_doubt kind pair state ahead next asked is sure);
  legal = legal asked is.some;
  records = records;
  in_memory = in_memory;
}
  where
    in_memory : (side : ℕ) → side < side_count kind → (lines : List Line) → (known_of (comb_view pair state asked) side).in_use ≡ Some lines → record_in_memory (comb_view pair state asked) side ≡ lines
    in_memory zero below lines known = known_in_memory pair.first lines known
    in_memory (suc side) below lines known = known_in_memory pair.second lines known

    records : (image : List Line) → pair.device.now ≡ Some image → (side : ℕ) → side < side_count kind → HoldsKnown pair.head side (rounds_of (standing_of pair state) side) (known_of (comb_view pair state asked) side) image
    records image now zero below =
        known_holds pair.head 0 pair.first image (is.sound.holds image now 0 (omega (arith, below, ap side_count is.kind_is)))
    records image now (suc side) below = absurd (omega (arith, below, one_side kind is.one_side))

    legal : (asks : List Ask) → (asks ≢ [] → HasDoubt pair (standing_of pair state) asks) → (failed : FailedRound) → doubt_of (standing_of pair state) asks (was_called pair.doubt) ≡ Some failed → IsLegalRound (standing_of pair state) failed.round
    legal [] some failed none = absurd (cc (none))
    legal (ask ∷ asks) some failed here =
        let may = (some (λ none. cc (none))).may in
        subst (IsLegalRound (standing_of pair state)) (ap (λ (f : FailedRound). f.round) (the (record { round = _; called = was_called pair.doubt }) failed here)) (served_is_legal (standing_of pair state) (ask ∷ asks) may)
      where
        the : (a b : FailedRound) → ◌≡◌ {A = Option FailedRound} (Some a) (Some b) → a ≡ b
        the a b e = cc

-- the request at a place of a client's list is that of its slot

shifted : (first k : ℕ) → first + suc k ≡ suc first + k
shifted first k = omega arith

slot_kept_by : (kind : Kind) (side : ℕ) (lines : List Line) (first count place : ℕ) → Falling lines first (suc count) → ((k : ℕ) → k < suc count → IsKept kind side (kept_in (line_at lines (first + k)))) → place < suc count
    → ((k : ℕ) → k < count → get_or (kept_from lines (suc first) count) k none_kept ≡ kept_in (line_at lines (suc first + k)))
    → (word (line_at lines first) 0 ≡ 0) ⊎ (word (line_at lines first) 0 ≢ 0)
    → get_or (kept_from lines first (suc count)) place none_kept ≡ kept_in (line_at lines (first + place))
slot_kept_by kind side lines first count place falls kept below rest (inl empty) =
    ap (λ (list : List Kept). get_or list place none_kept) (kept_from-empty lines first (suc count) falls empty)
    ∙ sym (empty_slot kind side (kept_in (line_at lines (first + place))) (kept place below) (omega (arith, slot_at_most lines first (suc count) place falls below, empty)))
slot_kept_by kind side lines first count zero falls kept below rest (inr full) =
    let here : first ≡ first + 0 = omega arith in
    ap (λ (list : List Kept). get_or list 0 none_kept) (kept_from-full lines first count full) ∙ ap (λ (n : ℕ). kept_in (line_at lines n)) here
slot_kept_by kind side lines first count (suc place) falls kept below rest (inr full) =
    ap (λ (list : List Kept). get_or list (suc place) none_kept) (kept_from-full lines first count full)
    ∙ (rest place (omega (arith, below)) ∙ ap (λ (n : ℕ). kept_in (line_at lines n)) (sym (shifted first place)))

slot_kept : (kind : Kind) (side : ℕ) (lines : List Line) (first count place : ℕ) → Falling lines first count → ((k : ℕ) → k < count → IsKept kind side (kept_in (line_at lines (first + k)))) → place < count → get_or (kept_from lines first count) place none_kept ≡ kept_in (line_at lines (first + place))
slot_kept kind side lines first zero place falls kept below = absurd (omega arith)
slot_kept kind side lines first (suc count) place falls kept below =
    slot_kept_by kind side lines first count place falls kept below
    (λ k less. slot_kept kind side lines (suc first) count k (falling_after lines first count falls) (λ n few. subst (λ (at : ℕ). IsKept kind side (kept_in (line_at lines at))) (shifted first n) (kept (suc n) (omega (arith, few)))) less)
    (cases_eq (word (line_at lines first) 0) 0)

pub kept_at_place : (kind : Kind) (pair : PairView) (state ahead : State) (next : List Line) (asked : List Ask) (client place : ℕ) → IsComb kind pair state ahead next asked → client < pair.head.clients → place < KEPT_REQUESTS → get_or (kept_list_of (standing_of pair state) client) place none_kept ≡ kept_in (slot_line_at (lines_of pair 0) client place)
kept_at_place kind pair state ahead next asked client place is inside below =
    ap (λ (list : List Kept). get_or list place none_kept) (kept_is pair state client inside)
    ∙ (slot_kept pair.head.kind 0 (lines_of pair 0) (1 + KEPT_REQUESTS * client) KEPT_REQUESTS place (slots_fall pair.head 0 (lines_of pair 0) client slots inside) each below
    ∙ ap (λ (n : ℕ). kept_in (line_at (lines_of pair 0) n)) (at place))
  where
    slots : AreSlots pair.head.kind 0 (lines_of pair 0) (slot_count pair.head)
    slots = (is.records.own 0 (omega (arith, one_side kind is.one_side, ap side_count is.kind_is))).slots

    at : (k : ℕ) → 1 + KEPT_REQUESTS * client + k ≡ 1 + (KEPT_REQUESTS * client + k)
    at k = omega arith

    each : (k : ℕ) → k < KEPT_REQUESTS → IsKept pair.head.kind 0 (kept_in (line_at (lines_of pair 0) (1 + KEPT_REQUESTS * client + k)))
    each k less =
        subst (λ (n : ℕ). IsKept pair.head.kind 0 (kept_in (line_at (lines_of pair 0) n))) (sym (at k)) (slots (KEPT_REQUESTS * client + k) (omega (arith, inside, less))).allowed
