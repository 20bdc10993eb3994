-- The fields of a queue's engine say a sound one.
use Rattle.std.proofs.Common.{◌≡◌, ◌≢◌, ℕ, ◌<◌, true, Some, List, [], ◌∷◌, get_or, refl, sym, ap, subst, ◌∙◌, zero, suc, arith}
use Rattle.pb_pmem.specs.declared.line.Line.{Line}
use Rattle.pb_object.specs.declared.kind.Kind.TheVariants.{Queue}
use Rattle.pb_object.specs.declared.request.Ask.{Ask}
use Rattle.pb_object.specs.declared.request.Kept.{Kept}
use Rattle.pb_object.specs.History.{IsLegalRound}
use Rattle.pb_object.specs.Object.{Waits}
use Rattle.pb_object.specs.Queue.{Waiting}
use Rattle.pb_object.specs.Request.{none_kept}
use Rattle.pb_object.specs.Standing.{kept_list_of, rounds_of, side_count}
use Rattle.pb_layout.specs.declared.header.Header.{Header}
use Rattle.pb_layout.specs.Represents.{kept_list, header_for}
use Rattle.pb_layout.proofs.KeptLists.{records_keep_lists}
use Rattle.pb_layout_laws.proofs.FewRounds.{records_few}
use Rattle.pb_pair.specs.Settle.{was_called}
use Rattle.pb_pair.specs.View.{PairView, lines_of}
use Rattle.pb_engine.specs.Asks.{state_from}
use Rattle.pb_engine.specs.Pairs.{is_sure, doubt_of}
use Rattle.pb_engine.specs.View.{FailedRound, IsEngine, HoldsKnown, known_of, record_in_memory}
use Rattle.pb_engine.proofs.Pairs.{round_as}
use Rattle.pb_engine.proofs.Served.{served_is_legal, state_from-none}
use Rattle.pb_queue.specs.Items.{ItemsView}
use Rattle.pb_queue.specs.Standing.{standing_of}
use Rattle.pb_queue.specs.View.{twin_view, HasDoubt, IsTwin}
use Rattle.pb_queue.proofs.Standings.{head_is}
use Rattle.pb_engine.proofs.Known.{known_holds, known_in_memory}

-- a sure engine has no request in doubt
pub none_in_doubt : (pair : PairView) (items : ItemsView) (next : List Line) (asked : List Ask) → IsTwin pair items next asked → is_sure pair.known ≡ true → asked ≡ []
none_in_doubt pair items next [] is sure = refl
none_in_doubt pair items next (ask ∷ asks) is sure = absurd (cc (ap is_sure (is.some (λ none. cc (none))).failed, sure))

one_state : (size : ℕ) (first second : Waiting) → Waits size first ≡ Waits size second → first ≡ second
one_state size first second same = cc

-- and its items are sure
pub nothing_ahead : (pair : PairView) (items : ItemsView) (next : List Line) (asked : List Ask) → IsTwin pair items next asked → asked ≡ [] → items.next ≡ items.sure
nothing_ahead pair items next asked is none =
    one_state items.size items.next items.sure (is.ahead_by ∙ (ap (state_from (Waits items.size items.sure)) none ∙ state_from-none (Waits items.size items.sure)))

pub engine_of : (pair : PairView) (items : ItemsView) (next : List Line) (asked : List Ask) → IsTwin pair items next asked → IsEngine Queue (twin_view pair items asked)
engine_of pair items next asked is = record {
  kind_is = refl;
  valid = is.records.valid;
  sides = refl;
  state_kind = refl;
  state_size = refl;
  kept = records_keep_lists (lines_of pair) (standing_of pair items.sure) is.records;
  few = records_few (lines_of pair) (standing_of pair items.sure) is.records;
  decided = λ sure. ap (λ (asks : List Ask). doubt_of (standing_of pair items.sure) asks (was_called pair.doubt)) (none_in_doubt pair items next asked is sure);
  legal = legal asked is.some;
  records = records;
  in_memory = in_memory;
}
  where
    in_memory : (side : ℕ) → side < 2 → (lines : List Line) → (known_of (twin_view pair items asked) side).in_use ≡ Some lines → record_in_memory (twin_view pair items asked) side ≡ lines
    in_memory zero below lines known = known_in_memory pair.first lines known
    in_memory (suc side) below lines known = known_in_memory pair.second lines known

    head : header_for (standing_of pair items.sure) ≡ pair.head
    head = λ i. record { kind = sym is.queue i; clients = pair.head.clients; size = pair.head.size }

    at_side_is : (image : List Line) → pair.device.now ≡ Some image → (side : ℕ) → side < 2 → HoldsKnown pair.head side (rounds_of (standing_of pair items.sure) side) (known_of (twin_view pair items asked) side) image
    at_side_is image now zero below = known_holds pair.head 0 pair.first image (is.sound.holds image now 0 (omega (arith, ap side_count is.queue)))
    at_side_is image now (suc zero) below = known_holds pair.head 1 pair.second image (is.sound.holds image now 1 (omega (arith, ap side_count is.queue)))
    at_side_is image now (suc (suc side)) below = absurd (omega arith)

    records : (image : List Line) → pair.device.now ≡ Some image → (side : ℕ) → side < 2 → HoldsKnown (header_for (standing_of pair items.sure)) side (rounds_of (standing_of pair items.sure) side) (known_of (twin_view pair items asked) side) image
    records image now side below =
        subst (λ (h : Header). HoldsKnown h side (rounds_of (standing_of pair items.sure) side) (known_of (twin_view pair items asked) side) image) (sym head) (at_side_is image now side below)

    legal : (asks : List Ask) → (asks ≢ [] → HasDoubt pair (standing_of pair items.sure) asks) → (failed : FailedRound) → doubt_of (standing_of pair items.sure) asks (was_called pair.doubt) ≡ Some failed → IsLegalRound (standing_of pair items.sure) failed.round
    legal [] some failed none = absurd (cc (none))
    legal (ask ∷ asks) some failed here =
        subst (IsLegalRound (standing_of pair items.sure)) (round_as (standing_of pair items.sure) (ask ∷ asks) (was_called pair.doubt) failed here).0
        (served_is_legal (standing_of pair items.sure) (ask ∷ asks) (some (λ none. cc (none))).may)

-- the request at a place of a client's list is that of its slots
pub kept_at_place : (pair : PairView) (items : ItemsView) (next : List Line) (asked : List Ask) (client place : ℕ) (kept : Kept) → IsTwin pair items next asked → client < pair.head.clients → kept ≡ get_or (kept_list pair.head (lines_of pair) client) place none_kept → kept ≡ get_or (kept_list_of (standing_of pair items.sure) client) place none_kept
kept_at_place pair items next asked client place kept is inside found =
    found
    ∙ (ap (λ (h : Header). get_or (kept_list h (lines_of pair) client) place none_kept) (head_is pair items.sure is.queue)
    ∙ ap (λ (list : List Kept). get_or list place none_kept) (sym (is.records.kept client inside)))
