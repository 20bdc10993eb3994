-- A round of a queue that was stored, and one that failed.
use Rattle.std.proofs.Common.{◌≡◌, ℕ, zero, suc, ◌+◌, ◌<◌, Bool, true, false, Option, Some, None, IfSome, option_map, List, [], ◌∷◌, ◌++◌, length, refl, sym, ap, subst, ◌∙◌, arith}
use Rattle.std.proofs.lemmas.List.{append_assoc}
use Rattle.pb_pmem.specs.declared.device.DeviceFault.{DeviceFault}
use Rattle.pb_pmem.specs.declared.line.Line.{Line}
use Rattle.pb_pmem.specs.declared.log.LogOp.{LogOp}
use Rattle.pb_pmem.specs.Contents.{contents}
use Rattle.pb_pmem.specs.Device.{Device, Tale}
use Rattle.pb_pmem.specs.Past.{is_clean}
use Rattle.pb_pmem.specs.Operations.{after as after_ops, with_ops, Does, Stops, IsFailedPrefix, IsFailedPrefixAfter}
use Rattle.pb_pmem.proofs.CrashLaws.{IsAtRest-none}
use Rattle.pb_pmem.proofs.Lines.{contents-none, contents-append}
use Rattle.pb_pmem.proofs.OperationSteps.{does_then, stops_after, stops_early, stops_late}
use Rattle.pb_object.specs.declared.kind.Kind.TheVariants.{Queue}
use Rattle.pb_object.specs.declared.request.Ask.{Ask}
use Rattle.pb_object.specs.History.{Round, after_round}
use Rattle.pb_object.specs.Object.{State, Registers, Items, Rising, Waits}
use Rattle.pb_object.specs.Queue.{Waiting, tail_of}
use Rattle.pb_object.specs.Standing.{Standing, side_count, rounds_of}
use Rattle.pb_layout.specs.declared.header.Header.{Header}
use Rattle.pb_layout.specs.Exits.{sealed_round}
use Rattle.pb_layout.specs.Header.{record_length}
use Rattle.pb_layout.specs.NextRecord.{IsNextOf, next_position, AddedCellsRepresent, AreBacked, HasCells}
use Rattle.pb_layout.specs.Region.{cell_place}
use Rattle.pb_layout.specs.Ready.{IsReady}
use Rattle.pb_layout.specs.Recovered.{Represents, listed}
use Rattle.pb_layout.specs.RegionOps.{commit_ops, stage_over, spare_place}
use Rattle.pb_layout.specs.Represents.{header_for, kept_list_by, record_in_use, record_of_side, AreRecords}
use Rattle.pb_layout.specs.ToldExits.{IsCoveredExit, IsInDoubt, IsReadyWith, contents_of}
use Rattle.pb_layout.proofs.Readiness.{at_rest_is_ready}
use Rattle.pb_layout_laws.proofs.ReadyWithOne.{only_member}
use Rattle.pb_layout_laws.proofs.ToldCalls.{told_exit, told_then_sealed}
use Rattle.pb_pair.specs.declared.known.Known.TheVariants.{Failed}
use Rattle.pb_pair.specs.Safe.{IsPairOf, IsStoreOf, StoreCovers}
use Rattle.pb_pair.specs.Settle.{was_called}
use Rattle.pb_pair.specs.Store.{stored_ops, staged_ops, stored_side, IsNext, IsStored, IsFailedStore}
use Rattle.pb_pair.specs.View.{SideView, PairView, IsPair, at_side, view_of_side, round_of_side, lines_of, forgotten}
use Rattle.pb_pair.proofs.Safe.{stored_represents}
use Rattle.pb_pair.proofs.Told.{told_after, if_some_mapped}
use Rattle.pb_engine.specs.Asks.{MayBeServed, side_asked, state_from, asked_round}
use Rattle.pb_engine.specs.Covers.{RoundCovers, FailedRoundCovers}
use Rattle.pb_engine.specs.Operations.{puts_from, cell_ops, prepared_ops, committed_ops, round_ops, IsFailedRoundOps}
use Rattle.pb_engine.specs.Outcomes.{stored_on_first, stored_on_second, HasMade, IsUnsure, HasFailedToMake, IsNextRecordOf}
use Rattle.pb_engine.specs.Pairs.{is_sure, known_records, doubt_of}
use Rattle.pb_engine.specs.View.{KnownRecords, known_of, AreInUse, was_called as engine_called}
use Rattle.pb_engine.proofs.InUse.{HasInUse, stored_in_use}
use Rattle.pb_engine.proofs.Pairs.{some_doubt, called_is}
use Rattle.pb_engine.proofs.Served.{state_from-none}
use Rattle.pb_queue.specs.Items.{ItemsView}
use Rattle.pb_queue.specs.Rounds.{added_since, HavePut, HasFailedAmongCells, HasFailedAfterCells}
use Rattle.pb_queue.specs.Standing.{standing_of}
use Rattle.pb_queue.specs.View.{twin_view, LeavesRecord, HasDoubt, IsTwin}
use Rattle.pb_queue.proofs.CellExits.{putting_cells, putting_cells_failing, ready_long}
use Rattle.pb_queue.proofs.InUse.{in_engine, of_engine, put_in_use}
use Rattle.pb_queue.proofs.Prepared.{rounds_are}
use Rattle.pb_queue.proofs.Rounds.{round_for, IsRound, IsStep, side_here, after_is, store_next, are_free, next_in, held_is, have_cells, HasMoved, standing_moved, records_moved}
use Rattle.pb_queue.proofs.Standings.{head_is, pair_of}

-- a round of which the cells were put, and the pair with these cells
pub record IsCelled (pair between : PairView) (before after : Waiting) (asks : List Ask) (lines : List Line) : Type 0 where
  pub round : IsRound pair before after asks lines
  pub step : IsStep (side_asked asks) pair.head.size before after
  pub cells : HavePut (tail_of before) (added_since before after) pair between

-- the cells of a round
abbrev pub cells_put : PairView → Waiting → Waiting → List LogOp
cells_put pair before after = puts_from pair.head (tail_of before) (added_since before after)

-- The pair with the cells says what the pair before says

same_round : (pair between : PairView) (from : ℕ) (put : List ℕ) → HavePut from put pair between → (side : ℕ) → view_of_side between side ≡ view_of_side pair side
same_round pair between from put cells zero = cells.first
same_round pair between from put cells (suc side) = cells.second

same_lines : (pair between : PairView) (from : ℕ) (put : List ℕ) → HavePut from put pair between → lines_of between ≡ lines_of pair
same_lines pair between from put cells = λ i. λ side. (same_round pair between from put cells side i).lines

same_standing : (pair between : PairView) (from : ℕ) (put : List ℕ) (queue : Waiting) → HavePut from put pair between → standing_of between queue ≡ standing_of pair queue
same_standing pair between from put queue cells = λ i. record {
  kind = Queue;
  clients = (cells.head i).clients;
  size = (cells.head i).size;
  rounds = (cells.first i).round ∷ (cells.second i).round ∷ [];
  state = Waits (cells.head i).size queue;
  kept = listed (cells.head i).clients (kept_list_by Queue (λ side. same_lines pair between from put cells i side));
}

-- the round is one of that pair
round_between : (pair between : PairView) (before after : Waiting) (asks : List Ask) (lines : List Line) → IsCelled pair between before after asks lines → IsRound between before after asks lines
round_between pair between before after asks lines is = record {
  sound = is.cells.sound;
  queue = ap (λ (h : Header). h.kind) is.cells.head ∙ is.round.queue;
  records = subst (AreRecords (lines_of between)) (sym same) (subst (λ (records : ℕ → List Line). AreRecords records s) (sym lines_same) is.round.records);
  may = subst (λ (t : Standing). MayBeServed t asks) (sym same) is.round.may;
  state = subst (λ (h : Header). Waits h.size after ≡ state_from (Waits h.size before) asks) (sym is.cells.head) is.round.state;
  next = subst (λ (t : Standing). IsNextOf (lines_of between) t (asked_round t asks) lines) (sym same) (subst (λ (records : ℕ → List Line). IsNextOf records s (asked_round s asks) lines) (sym lines_same) is.round.next);
}
  where
    s : Standing
    s = standing_of pair before

    same : standing_of between before ≡ s
    same = same_standing pair between (tail_of before) (added_since before after) before is.cells

    lines_same : lines_of between ≡ lines_of pair
    lines_same = same_lines pair between (tail_of before) (added_since before after) is.cells

pair_between : (pair between : PairView) (before after : Waiting) (asks : List Ask) (lines : List Line) → IsCelled pair between before after asks lines → IsPairOf between (standing_of pair before)
pair_between pair between before after asks lines is =
    subst (IsPairOf between) (same_standing pair between (tail_of before) (added_since before after) before is.cells)
    (pair_of between before (ap (λ (h : Header). h.kind) is.cells.head ∙ is.round.queue))

cells_for : (pair : PairView) (before after : Waiting) → pair.head.kind ≡ Queue → cells_put pair before after ≡ puts_from (header_for (standing_of pair before)) (tail_of before) (added_since before after)
cells_for pair before after queue = ap (λ (h : Header). puts_from h (tail_of before) (added_since before after)) (head_is pair before queue)

-- Where the device tells its log

-- the log with the cells
cells_told : (pair between : PairView) (before after : Waiting) (asks : List Ask) (lines : List Line) (tale : Tale) → IsCelled pair between before after asks lines → pair.device.told ≡ Some tale → between.device.told ≡ Some (with_ops (puts_from (header_for (standing_of pair before)) (tail_of before) (added_since before after)) tale)
cells_told pair between before after asks lines tale is told =
    told_after pair.device.told between.device.told tale (puts_from (header_for (standing_of pair before)) (tail_of before) (added_since before after)) told
    (is.cells.device.told ∙ ap (λ (ops : List LogOp). option_map (with_ops ops) pair.device.told) (cells_for pair before after is.round.queue))

abbrev cells_exit : (pair between : PairView) (before after : Waiting) (asks : List Ask) (lines : List Line) (tale : Tale) → IsCelled pair between before after asks lines → pair.device.told ≡ Some tale → IsReadyWith (Some (standing_of pair before) ∷ []) tale → IsCoveredExit tale between.device (standing_of pair before) [] (Some (standing_of pair before) ∷ [])
cells_exit pair between before after asks lines tale is told ready =
    record {
      ops = puts_from (header_for (standing_of pair before)) (tail_of before) (added_since before after);
      told = cells_told pair between before after asks lines tale is told;
      exit = putting_cells tale.base tale.log (standing_of pair before) (tail_of before) (added_since before after) ready (are_free pair (side_asked asks) before after is.step);
    }

-- the store begins there
store_of : (pair between : PairView) (before after : Waiting) (asks : List Ask) (lines : List Line) (tale : Tale) (is : IsCelled pair between before after asks lines) (told : pair.device.told ≡ Some tale) (ready : IsReadyWith (Some (standing_of pair before) ∷ []) tale) → IsStoreOf between (side_asked asks) lines (standing_of pair before) (round_for pair before asks) (with_ops (cells_exit pair between before after asks lines tale is told ready).ops tale)
store_of pair between before after asks lines tale is told ready = record {
  ready = left.exit.ready;
  of = pair_between pair between before after asks lines is;
  side_is = refl;
  next = next_in pair before after asks lines (contents_of middle) is.round is.step (only_member (contents_of middle) s left.exit.ready.holds) held;
  cells = have_cells tale.base tale.log pair before after asks lines is.round is.step (ready_long tale.base tale.log s ready);
}
  where
    s : Standing
    s = standing_of pair before

    side : ℕ
    side = side_asked asks

    left : IsCoveredExit tale between.device s [] (Some s ∷ [])
    left = cells_exit pair between before after asks lines tale is told ready

    middle : Tale
    middle = with_ops left.ops tale

    queue : between.head.kind ≡ Queue
    queue = ap (λ (h : Header). h.kind) is.cells.head ∙ is.round.queue

    here : side < 2
    here = side_here pair before after asks lines is.round

    in_use : record_in_use (contents_of middle) between.head side (round_of_side between side) ≡ lines_of between side
    in_use = (is.cells.sound.records middle left.told).in_use side (omega (arith, here, ap side_count queue))

    held : record_of_side (contents_of middle) s side ≡ lines_of pair side
    held = held_is pair before (contents_of middle) side is.round.queue here
        ((λ i. record_in_use (contents_of middle) (sym is.cells.head i) side (sym (same_round pair between (tail_of before) (added_since before after) is.cells side) i).round) ∙ (in_use ∙ ap (λ (part : SideView). part.lines) (same_round pair between (tail_of before) (added_since before after) is.cells side)))

-- The operations of a round

cell_ops_are : (pair : PairView) (before after : Waiting) (asks : List Ask) (lines : List Line) → IsRound pair before after asks lines → cell_ops (header_for (standing_of pair before)) (next_position (standing_of pair before).state) (after_round (standing_of pair before) (round_for pair before asks)).state ≡ cells_put pair before after
cell_ops_are pair before after asks lines is =
    ap (cell_ops (header_for (standing_of pair before)) (tail_of before)) (after_is pair before after asks lines is) ∙ sym (cells_for pair before after is.queue)

known_is : (pair : PairView) (items : ItemsView) (asked : List Ask) (side : ℕ) → known_of (twin_view pair items asked) side ≡ known_records (view_of_side pair side)
known_is pair items asked zero = refl
known_is pair items asked (suc side) = refl

pub ops_of : (pair between : PairView) (items : ItemsView) (after : Waiting) (asks : List Ask) (lines : List Line) → IsCelled pair between items.sure after asks lines → prepared_ops (twin_view pair items []) (round_for pair items.sure asks) lines ≡ cells_put pair items.sure after ++ staged_ops between.head (side_asked asks) (view_of_side between (side_asked asks)) lines
ops_of pair between items after asks lines is =
    (λ i. cell_ops_are pair items.sure after asks lines is.round i ++ stage_over (place i) (spare i) lines)
  where
    s : Standing
    s = standing_of pair items.sure

    side : ℕ
    side = side_asked asks

    here : side < 2
    here = side_here pair items.sure after asks lines is.round

    part : view_of_side between side ≡ view_of_side pair side
    part = same_round pair between (tail_of items.sure) (added_since items.sure after) is.cells side

    place : spare_place (header_for s) side (rounds_of s side) ≡ spare_place between.head side (round_of_side between side)
    place =
        let head = is.cells.head ∙ head_is pair items.sure is.round.queue in
        let round = ap (λ (p : SideView). p.round) part ∙ rounds_are pair items.sure side here in
        λ i. spare_place (sym head i) side (sym round i)

    spare : (known_of (twin_view pair items []) side).spare ≡ (view_of_side between side).spare
    spare = ap (λ (k : KnownRecords). k.spare) (known_is pair items [] side) ∙ sym (ap (λ (p : SideView). p.spare) part)

pub commits_of : (pair between : PairView) (items : ItemsView) (after : Waiting) (asks : List Ask) (lines : List Line) → IsCelled pair between items.sure after asks lines → committed_ops (twin_view pair items []) (round_for pair items.sure asks) ≡ commit_ops (side_asked asks) (round_of_side between (side_asked asks) + 1)
commits_of pair between items after asks lines is =
    let side = side_asked asks in
    let part = same_round pair between (tail_of items.sure) (added_since items.sure after) is.cells side in
    let round = ap (λ (p : SideView). p.round) part ∙ rounds_are pair items.sure side (side_here pair items.sure after asks lines is.round) in
    ap (λ (n : ℕ). commit_ops side (n + 1)) (sym round)

engine_ops : (pair between : PairView) (items : ItemsView) (after : Waiting) (asks : List Ask) (lines : List Line) → IsCelled pair between items.sure after asks lines → round_ops (twin_view pair items []) (round_for pair items.sure asks) lines ≡ cells_put pair items.sure after ++ stored_ops between.head (side_asked asks) (view_of_side between (side_asked asks)) lines
engine_ops pair between items after asks lines is =
    (λ i. ops_of pair between items after asks lines is i ++ commits_of pair between items after asks lines is i)
    ∙ append_assoc (cells_put pair items.sure after) (staged_ops between.head (side_asked asks) (view_of_side between (side_asked asks)) lines) (commit_ops (side_asked asks) (round_of_side between (side_asked asks) + 1))

-- A round that was stored

stored_moves : (side : ℕ) (between new : PairView) (lines : List Line) → side < 2 → IsStored side lines between new → HasMoved side lines between new
stored_moves zero between new lines below stored = record {
  head = stored.head;
  first_round = ap (λ (part : SideView). part.round) stored.first;
  second_round = ap (λ (part : SideView). part.round) stored.second;
  first_lines = ap (λ (part : SideView). part.lines) stored.first;
  second_lines = ap (λ (part : SideView). part.lines) stored.second;
}
stored_moves (suc side) between new lines below stored = record {
  head = stored.head;
  first_round = ap (λ (part : SideView). part.round) stored.first;
  second_round = ap (λ (part : SideView). part.round) stored.second;
  first_lines = ap (λ (part : SideView). part.lines) stored.first;
  second_lines = ap (λ (part : SideView). part.lines) stored.second;
}

-- the items are sure of what was applied
pub record HasConfirmed (after : Waiting) (old new : ItemsView) : Type 0 where
  pub size : new.size ≡ old.size
  pub sure : new.sure ≡ after
  pub next : new.next ≡ after

-- a pair and items of which no request is in doubt
pub record AreSettled (pair : PairView) (items : ItemsView) (next : List Line) : Type 0 where
  pub sound : IsPair pair
  pub queue : pair.head.kind ≡ Queue
  pub records : AreRecords (lines_of pair) (standing_of pair items.sure)
  pub size : items.size ≡ pair.head.size
  pub same : items.next ≡ items.sure
  pub long : length next ≡ record_length pair.head
  pub none : pair.doubt ≡ None

pub settled_twin : (pair : PairView) (items : ItemsView) (next : List Line) → AreSettled pair items next → IsTwin pair items next []
settled_twin pair items next are = record {
  sound = are.sound;
  queue = are.queue;
  records = are.records;
  size = are.size;
  ahead_by = ap (Waits items.size) are.same ∙ sym (state_from-none (Waits items.size items.sure));
  long = are.long;
  none = λ nothing. are.none;
  some = λ some. absurd (some refl);
}

pub stored_twin : (pair between new : PairView) (old items : ItemsView) (after : Waiting) (asks : List Ask) (lines next : List Line) → IsCelled pair between old.sure after asks lines → old.size ≡ pair.head.size → HasConfirmed after old items → IsStored (side_asked asks) lines between new → next ≡ lines → IsTwin new items next []
stored_twin pair between new old items after asks lines next is size confirmed stored same = settled_twin new items next (record {
  sound = stored.sound;
  queue = ap (λ (h : Header). h.kind) head ∙ is.round.queue;
  records = subst (λ (w : Waiting). AreRecords (lines_of new) (standing_of new w)) (sym confirmed.sure)
      (records_moved between new old.sure after asks lines (round_between pair between old.sure after asks lines is) (stored_moves (side_asked asks) between new lines (side_here pair old.sure after asks lines is.round) stored));
  size = confirmed.size ∙ (size ∙ ap (λ (h : Header). h.size) (sym head));
  same = confirmed.next ∙ sym confirmed.sure;
  long = ap length same ∙ (is.round.next.long ∙ ap record_length (sym (head ∙ head_is pair old.sure is.round.queue)));
  none = stored.doubt;
})
  where
    head : new.head ≡ pair.head
    head = stored.head ∙ is.cells.head

on_first : (side : ℕ) (pair between new : PairView) (items : ItemsView) (lines : List Line) (from : ℕ) (put : List ℕ) → HavePut from put pair between → new.first ≡ at_side (stored_side between.first lines) between.first side → known_records new.first ≡ stored_on_first (twin_view pair items []) side lines
on_first zero pair between new items lines from put cells first = ap known_records (first ∙ ap (λ (part : SideView). stored_side part lines) cells.first)
on_first (suc side) pair between new items lines from put cells first = ap known_records (first ∙ cells.first)

on_second : (side : ℕ) (pair between new : PairView) (items : ItemsView) (lines : List Line) (from : ℕ) (put : List ℕ) → HavePut from put pair between → new.second ≡ at_side between.second (stored_side between.second lines) side → known_records new.second ≡ stored_on_second (twin_view pair items []) side lines
on_second zero pair between new items lines from put cells second = ap known_records (second ∙ cells.second)
on_second (suc side) pair between new items lines from put cells second = ap known_records (second ∙ ap (λ (part : SideView). stored_side part lines) cells.second)

-- an empty log wrote nothing
clean_none : (line : ℕ) → is_clean line [] ≡ true
unfolding is_clean
clean_none line = refl

none_backed : (head : Header) (from : ℕ) (state : State) → AreBacked [] head from state
none_backed head from (Registers registers) = tt
none_backed head from (Items size items) = tt
none_backed head from (Rising size items) = tt
none_backed head from (Waits size queue) = λ place inside new. clean_none (cell_place head (queue.taken + place))

-- the lines with the cells represent the same, and hold them
record HasCelled (pair between : PairView) (before after : Waiting) (asks : List Ask) (image : List Line) : Type 0 where
  stands : Represents (contents image (cells_put pair before after)) (standing_of pair before)
  cells : HasCells (contents image (cells_put pair before after)) [] (standing_of pair before) (round_for pair before asks)

celled : (pair between : PairView) (before after : Waiting) (asks : List Ask) (lines image : List Line) → IsCelled pair between before after asks lines → Represents image (standing_of pair before) → HasCelled pair between before after asks image
celled pair between before after asks lines image is stands = record {
  stands = subst (λ (ops : List LogOp). Represents (contents image ops) s) (sym same) (only_member (contents image ops) s (putting_cells image [] s (tail_of before) (added_since before after) ready (are_free pair (side_asked asks) before after is.step)).ready.holds);
  cells = subst (λ (o : List LogOp). HasCells (contents image o) [] s (round_for pair before asks)) (sym same) (apart (have_cells image [] pair before after asks lines is.round is.step stands.whole));
}
  where
    s : Standing
    s = standing_of pair before

    ops : List LogOp
    ops = puts_from (header_for s) (tail_of before) (added_since before after)

    same : cells_put pair before after ≡ ops
    same = cells_for pair before after is.round.queue

    ready : IsReady image [] (Some s ∷ [])
    ready = at_rest_is_ready image [] (Some s) (IsAtRest-none image) (subst (λ (ls : List Line). Represents ls s) (sym (contents-none image)) stands)

    apart : HasCells image ops s (round_for pair before asks) → HasCells (contents image ops) [] s (round_for pair before asks)
    apart have = record {
      hold = subst (λ (ls : List Line). AddedCellsRepresent ls (header_for s) (next_position s.state) (after_round s (round_for pair before asks)).state) (sym (contents-none (contents image ops))) have.hold;
      backed = none_backed (header_for s) (next_position s.state) (after_round s (round_for pair before asks)).state;
    }

-- the record is one of its side's next round
next_is : (pair : PairView) (old : ItemsView) (after : Waiting) (asks : List Ask) (lines : List Line) → IsRound pair old.sure after asks lines → IsNextRecordOf (standing_of pair old.sure) (round_for pair old.sure asks) lines
next_is pair old after asks lines is = record {
  records = lines_of pair;
  say = is.records;
  next = is.next;
}

pub made : (pair between new : PairView) (old items : ItemsView) (after : Waiting) (asks : List Ask) (lines : List Line) → IsCelled pair between old.sure after asks lines → HasConfirmed after old items → IsStored (side_asked asks) lines between new → HasMade (round_for pair old.sure asks) (twin_view pair old []) (twin_view new items [])
made pair between new old items after asks lines is confirmed stored = record {
  standing = moved;
  sure = ap is_sure stored.known;
  doubt = refl;
  lines = lines;
  record_is = next_is pair old after asks lines is.round;
  device = subst (λ (ops : List LogOp). Does ops pair.device new.device) (sym (engine_ops pair between old after asks lines is))
      (does_then cells stores pair.device between.device new.device is.cells.device stored.device);
  first = on_first side pair between new old lines (tail_of old.sure) (added_since old.sure after) is.cells stored.first;
  second = on_second side pair between new old lines (tail_of old.sure) (added_since old.sure after) is.cells stored.second;
  holds = λ used holds. if_some_mapped (λ (ls : List Line). IsHeld ls) (λ (ls : List Line). Represents ls s) (λ (ls : List Line). Represents ls (standing_of new items.sure)) (after_ops (cells ++ stores)) pair.device.now new.device.now
      (does_then cells stores pair.device between.device new.device is.cells.device stored.device).now (held pair.device.now refl (between_used side here (of_engine pair old [] side is.round.queue here used))) holds stands;
  in_use = in_use;
}
  where
    s : Standing
    s = standing_of pair old.sure

    round : Round
    round = round_for pair old.sure asks

    side : ℕ
    side = side_asked asks

    here : side < 2
    here = side_here pair old.sure after asks lines is.round

    cells : List LogOp
    cells = cells_put pair old.sure after

    stores : List LogOp
    stores = stored_ops between.head side (view_of_side between side) lines

    same : standing_of between old.sure ≡ s
    same = same_standing pair between (tail_of old.sure) (added_since old.sure after) old.sure is.cells

    moved : standing_of new items.sure ≡ after_round s round
    moved =
        ap (standing_of new) confirmed.sure
        ∙ (standing_moved between new old.sure after asks lines (round_between pair between old.sure after asks lines is) (stored_moves side between new lines here stored)
        ∙ ap (λ (t : Standing). after_round t (asked_round t asks)) same)

    part : view_of_side between side ≡ view_of_side pair side
    part = same_round pair between (tail_of old.sure) (added_since old.sure after) is.cells side

    queue : between.head.kind ≡ Queue
    queue = ap (λ (h : Header). h.kind) is.cells.head ∙ is.round.queue

    between_used : (one : ℕ) → one < 2 → HasInUse pair one → HasInUse between one
    between_used one below used = put_in_use (tail_of old.sure) (added_since old.sure after) pair between one is.round.sound.valid is.round.queue below is.cells used

    -- the device's lines, whose record in use is the pair's once the cells are there
    IsHeld : List Line → Type 0
    IsHeld image = (record_in_use (contents image cells) between.head side (round_of_side between side) ≡ lines_of between side) × (between.device.now ≡ Some (contents image cells))

    held : (now : Option (List Line)) → pair.device.now ≡ now → HasInUse between side → IfSome now (λ ls. IsHeld ls)
    held None told used = tt
    held (Some image) told used =
        let now : between.device.now ≡ Some (contents image cells) = is.cells.device.now ∙ ap (option_map (after_ops cells)) told in
        (subst (λ (o : Option (List Line)). IfSome o (λ ls. record_in_use ls between.head side (round_of_side between side) ≡ lines_of between side)) now used, now)

    next_pair : IsNext between side lines
    next_pair = store_next between old.sure after asks lines (round_between pair between old.sure after asks lines is)

    in_use : AreInUse (twin_view pair old []) → AreInUse (twin_view new items [])
    in_use before one below =
        in_engine new items [] one (ap (λ (h : Header). h.kind) stored.head ∙ queue) below
        (stored_in_use side lines between new one stored next_pair (omega (arith, below, ap side_count queue))
        (between_used one below (of_engine pair old [] one is.round.queue below (before one below))))

    stands : (image : List Line) → IsHeld image → Represents image s → Represents (after_ops (cells ++ stores) image) (standing_of new items.sure)
    stands image has here_stands =
        let with_cells = celled pair between old.sure after asks lines image is here_stands in
        let in_use : record_of_side (contents image cells) s side ≡ lines_of pair side = held_is pair old.sure (contents image cells) side is.round.queue here
        ((λ i. record_in_use (contents image cells) (sym is.cells.head i) side (sym part i).round) ∙ (has.0 ∙ ap (λ (p : SideView). p.lines) part)) in
        subst (λ (ls : List Line). Represents ls (standing_of new items.sure)) (sym (contents-append image cells stores))
        (subst (Represents (contents (contents image cells) stores)) (sym moved)
        (stored_represents side lines between s round (contents image cells) is.cells.sound has.1 next_pair (pair_between pair between old.sure after asks lines is) refl with_cells.stands (next_in pair old.sure after asks lines (contents image cells) is.round is.step with_cells.stands in_use) with_cells.cells))

pub made_safely : (pair between new : PairView) (old items : ItemsView) (after : Waiting) (asks : List Ask) (lines : List Line) → IsCelled pair between old.sure after asks lines → StoreCovers (side_asked asks) lines between new.device → RoundCovers (round_for pair old.sure asks) (twin_view pair old []) (twin_view new items [])
made_safely pair between new old items after asks lines is safely tale told ready =
    let s = standing_of pair old.sure in
    let round = round_for pair old.sure asks in
    let one = cells_exit pair between old.sure after asks lines tale is told ready in
    let two : IsCoveredExit (with_ops one.ops tale) new.device s (sealed_round round ∷ []) (Some (after_round s round) ∷ []) = safely (with_ops one.ops tale) s round one.told (store_of pair between old.sure after asks lines tale is told ready) in
    told_then_sealed one two tt

-- A round that failed

-- an engine whose pair has failed knows nothing for sure
pub unsure : (new old : PairView) (items : ItemsView) (asked : List Ask) → new.known ≡ Failed → new.first ≡ forgotten old.first → new.second ≡ forgotten old.second → IsUnsure (twin_view new items asked)
unsure new old items asked known first second = record {
  sure = ap is_sure known;
  first = ap known_records first;
  second = ap known_records second;
}

-- the standing stays where the header, the rounds and the lines do
pub record StaysStanding (old new : PairView) : Type 0 where
  pub head : new.head ≡ old.head
  pub first : new.first ≡ forgotten old.first
  pub second : new.second ≡ forgotten old.second

pub lines_stay : (old new : PairView) → StaysStanding old new → lines_of new ≡ lines_of old
lines_stay old new stays = λ i. λ side. same side i
  where
    same : (side : ℕ) → lines_of new side ≡ lines_of old side
    same zero = ap (λ (part : SideView). part.lines) stays.first
    same (suc side) = ap (λ (part : SideView). part.lines) stays.second

pub standing_stays : (old new : PairView) (queue : Waiting) → StaysStanding old new → standing_of new queue ≡ standing_of old queue
standing_stays old new queue stays = λ i. record {
  kind = Queue;
  clients = (stays.head i).clients;
  size = (stays.head i).size;
  rounds = (stays.first i).round ∷ (stays.second i).round ∷ [];
  state = Waits (stays.head i).size queue;
  kept = listed (stays.head i).clients (kept_list_by Queue (λ side. lines_stay old new stays i side));
}

pub records_stay : (old new : PairView) (queue : Waiting) → StaysStanding old new → AreRecords (lines_of old) (standing_of old queue) → AreRecords (lines_of new) (standing_of new queue)
records_stay old new queue stays are =
    subst (AreRecords (lines_of new)) (sym (standing_stays old new queue stays)) (subst (λ (records : ℕ → List Line). AreRecords records (standing_of old queue)) (sym (lines_stay old new stays)) are)

among_stays : (pair new : PairView) (fault : DeviceFault) (from : ℕ) (put : List ℕ) → HasFailedAmongCells from put pair fault new → StaysStanding pair new
among_stays pair new fault from put failed = record { head = failed.head; first = failed.first; second = failed.second }

after_stays : (pair new : PairView) (fault : DeviceFault) (from : ℕ) (put : List ℕ) (side : ℕ) (lines : List Line) → HasFailedAfterCells from put side lines pair fault new → StaysStanding pair new
after_stays pair new fault from put side lines failed = record {
  head = failed.failed.failed.head ∙ failed.cells.head;
  first = failed.failed.failed.first ∙ ap forgotten failed.cells.first;
  second = failed.failed.failed.second ∙ ap forgotten failed.cells.second;
}

-- the items are ahead by a round that isn't sure
pub record IsAhead (after : Waiting) (old new : ItemsView) : Type 0 where
  pub size : new.size ≡ old.size
  pub sure : new.sure ≡ old.sure
  pub next : new.next ≡ after

-- what a failed round leaves
pub record HasLeft (pair new : PairView) (queue : Waiting) (asks : List Ask) : Type 0 where
  pub sound : IsPair new
  pub stays : StaysStanding pair new
  pub known : new.known ≡ Failed
  pub left : LeavesRecord new (standing_of new queue) asks new.doubt

pub failed_twin : (pair new : PairView) (old items : ItemsView) (after : Waiting) (asks asked : List Ask) (lines next : List Line) → IsRound pair old.sure after asks lines → old.size ≡ pair.head.size → IsAhead after old items → HasLeft pair new old.sure asks → next ≡ lines → asked ≡ asks → IsTwin new items next asked
failed_twin pair new old items after asks asked lines next is size ahead left same kept = record {
  sound = left.sound;
  queue = ap (λ (h : Header). h.kind) left.stays.head ∙ is.queue;
  records = subst (λ (w : Waiting). AreRecords (lines_of new) (standing_of new w)) (sym ahead.sure) (records_stay pair new old.sure left.stays is.records);
  size = ahead.size ∙ (size ∙ ap (λ (h : Header). h.size) (sym left.stays.head));
  ahead_by = (λ i. Waits ((ahead.size ∙ size) i) (ahead.next i)) ∙ (is.state ∙ (λ i. state_from (Waits (sym (ahead.size ∙ size) i) (sym ahead.sure i)) (sym kept i)));
  long = ap length same ∙ (is.next.long ∙ ap record_length (sym (left.stays.head ∙ head_is pair old.sure is.queue)));
  none = λ nothing. absurd (is.may.some (sym kept ∙ nothing));
  some = λ some. subst (HasDoubt new (standing_of new items.sure)) (sym kept) (subst (λ (w : Waiting). HasDoubt new (standing_of new w) asks) (sym ahead.sure) (record {
    failed = left.known;
    may = subst (λ (t : Standing). MayBeServed t asks) (sym (standing_stays pair new old.sure left.stays)) is.may;
    left = left.left;
  }));
}

pub among_left : (pair new : PairView) (before after : Waiting) (asks : List Ask) (fault : DeviceFault) → HasFailedAmongCells (tail_of before) (added_since before after) pair fault new → HasLeft pair new before asks
among_left pair new before after asks fault failed = record {
  sound = failed.sound;
  stays = among_stays pair new fault (tail_of before) (added_since before after) failed;
  known = failed.known;
  left = subst (LeavesRecord new (standing_of new before) asks) (sym failed.doubt) tt;
}

pub after_left : (pair new : PairView) (before after : Waiting) (asks : List Ask) (lines : List Line) (fault : DeviceFault) → IsRound pair before after asks lines → HasFailedAfterCells (tail_of before) (added_since before after) (side_asked asks) lines pair fault new → HasLeft pair new before asks
after_left pair new before after asks lines fault is failed = record {
  sound = failed.failed.failed.sound;
  stays = stays;
  known = failed.failed.failed.known;
  left = subst (LeavesRecord new (standing_of new before) asks) (sym failed.failed.failed.doubt)
      (refl, subst (λ (t : Standing). IsNextOf (lines_of new) t (asked_round t asks) lines) (sym (standing_stays pair new before stays)) (subst (λ (records : ℕ → List Line). IsNextOf records (standing_of pair before) (round_for pair before asks) lines) (sym (lines_stay pair new stays)) is.next));
}
  where
    stays : StaysStanding pair new
    stays = after_stays pair new fault (tail_of before) (added_since before after) (side_asked asks) lines failed

-- the engine says so: among the cells no index word was called
pub failed_among : (pair new : PairView) (old items : ItemsView) (after : Waiting) (asks : List Ask) (lines : List Line) (fault : DeviceFault) → IsRound pair old.sure after asks lines → IsAhead after old items → HasFailedAmongCells (tail_of old.sure) (added_since old.sure after) pair fault new → HasFailedToMake (round_for pair old.sure asks) fault (twin_view pair old []) (twin_view new items asks)
failed_among pair new old items after asks lines fault is ahead failed = record {
  standing = same;
  called = false;
  doubt = (λ i. doubt_of (same i) asks (was_called (failed.doubt i))) ∙ some_doubt (standing_of pair old.sure) asks false is.may.some;
  unsure = unsure new pair items asks failed.known failed.first failed.second;
  lines = lines;
  record_is = next_is pair old after asks lines is;
  device = record {
    from = failed.device.from;
    to = failed.device.to;
    stops = subst (λ (cells : List LogOp). Stops (IsFailedPrefix (cells ++ rest)) pair.device new.device) (sym (cell_ops_are pair old.sure after asks lines is)) (stops_early (cells_put pair old.sure after) rest pair.device new.device failed.device.stops);
  };
}
  where
    same : standing_of new items.sure ≡ standing_of pair old.sure
    same = ap (standing_of new) ahead.sure ∙ standing_stays pair new old.sure (among_stays pair new fault (tail_of old.sure) (added_since old.sure after) failed)

    rest : List LogOp
    rest = stage_over (spare_place (header_for (standing_of pair old.sure)) (side_asked asks) (rounds_of (standing_of pair old.sure) (side_asked asks))) (known_of (twin_view pair old []) (side_asked asks)).spare lines

pub failed_after : (pair new : PairView) (old items : ItemsView) (after : Waiting) (asks : List Ask) (lines : List Line) (fault : DeviceFault) → IsRound pair old.sure after asks lines → IsStep (side_asked asks) pair.head.size old.sure after → IsAhead after old items → HasFailedAfterCells (tail_of old.sure) (added_since old.sure after) (side_asked asks) lines pair fault new → HasFailedToMake (round_for pair old.sure asks) fault (twin_view pair old []) (twin_view new items asks)
failed_after pair new old items after asks lines fault is step ahead failed = record {
  standing = same;
  called = called;
  doubt = (λ i. doubt_of (same i) asks (was_called (failed.failed.failed.doubt i))) ∙ some_doubt (standing_of pair old.sure) asks called is.may.some;
  unsure = unsure new pair items asks failed.failed.failed.known stays.first stays.second;
  lines = lines;
  record_is = next_is pair old after asks lines is;
  device = record {
    from = failed.failed.failed.device.from ∙ failed.cells.device.faults;
    to = failed.failed.failed.device.to;
    stops = stops called failed.failed.failed.device.stops;
  };
}
  where
    side : ℕ
    side = side_asked asks

    called : Bool
    called = failed.failed.called

    between : PairView
    between = failed.between

    celled_is : IsCelled pair between old.sure after asks lines
    celled_is = record { round = is; step = step; cells = failed.cells }

    stays : StaysStanding pair new
    stays = after_stays pair new fault (tail_of old.sure) (added_since old.sure after) side lines failed

    same : standing_of new items.sure ≡ standing_of pair old.sure
    same = ap (standing_of new) ahead.sure ∙ standing_stays pair new old.sure stays

    cells : List LogOp
    cells = cells_put pair old.sure after

    staged : List LogOp
    staged = staged_ops between.head side (view_of_side between side) lines

    commits : List LogOp
    commits = commit_ops side (round_of_side between side + 1)

    stops : (b : Bool) → Stops (IsFailedStore between.head side (view_of_side between side) lines b) between.device new.device → Stops (IsFailedRoundOps (twin_view pair old []) (round_for pair old.sure asks) lines b) pair.device new.device
    stops false cut =
        subst (λ (all : List LogOp). Stops (IsFailedPrefix all) pair.device new.device) (sym (ops_of pair between old after asks lines celled_is))
        (stops_late cells staged pair.device between.device new.device failed.cells.device cut)
    stops true cut =
        subst (λ (front : List LogOp). Stops (IsFailedPrefixAfter front (committed_ops (twin_view pair old []) (round_for pair old.sure asks))) pair.device new.device) (sym (ops_of pair between old after asks lines celled_is))
        (subst (λ (back : List LogOp). Stops (IsFailedPrefixAfter (cells ++ staged) back) pair.device new.device) (sym (commits_of pair between old after asks lines celled_is))
        (stops_after (IsFailedPrefixAfter staged commits) (IsFailedPrefixAfter (cells ++ staged) commits) cells pair.device between.device new.device
        (λ ops was. record { tail = was.tail; cut = was.cut; whole = ap (λ (o : List LogOp). cells ++ o) was.whole ∙ sym (append_assoc cells staged was.tail) })
        failed.cells.device cut))

-- What a crash leaves of a failed round

in_doubt_then : {tale : Tale} {middle new : Device} {s : Standing} {round : Round} (one : IsCoveredExit tale middle s [] (Some s ∷ [])) → IsInDoubt (with_ops one.ops tale) new s round → IsInDoubt tale new s round
in_doubt_then {tale} {middle} {new} {s} {round} one doubt = record {
  history = doubt.history;
  left = told_then_sealed one doubt.left tt;
  rounds = doubt.rounds;
}

pub among_safely : (pair new : PairView) (old items : ItemsView) (after : Waiting) (asks : List Ask) (lines : List Line) (fault : DeviceFault) → IsRound pair old.sure after asks lines → IsStep (side_asked asks) pair.head.size old.sure after → HasFailedAmongCells (tail_of old.sure) (added_since old.sure after) pair fault new → FailedRoundCovers (round_for pair old.sure asks) (twin_view pair old []) (twin_view new items asks)
among_safely pair new old items after asks lines fault is step failed = record {
  uncalled = λ uncalled tale told ready.
      told_exit failed.device.stops.ops (told_after pair.device.told new.device.told tale failed.device.stops.ops told failed.device.stops.told)
      (putting_cells_failing tale.base tale.log failed.device.stops.ops (standing_of pair old.sure) (tail_of old.sure) (added_since old.sure after) ready (are_free pair (side_asked asks) old.sure after step)
      (subst (λ (all : List LogOp). IsFailedPrefix all failed.device.stops.ops) (cells_for pair old.sure after is.queue) failed.device.stops.cut));
  called = λ called. absurd (cc (sym (called_is (standing_of new items.sure) asks (was_called new.doubt) is.may.some) ∙ called, ap was_called failed.doubt));
}

pub after_safely : (pair new : PairView) (old items : ItemsView) (after : Waiting) (asks : List Ask) (lines : List Line) (fault : DeviceFault) → IsRound pair old.sure after asks lines → IsStep (side_asked asks) pair.head.size old.sure after → HasFailedAfterCells (tail_of old.sure) (added_since old.sure after) (side_asked asks) lines pair fault new → FailedRoundCovers (round_for pair old.sure asks) (twin_view pair old []) (twin_view new items asks)
after_safely pair new old items after asks lines fault is step failed = record {
  uncalled = λ uncalled tale told ready.
      let one = cells_exit pair between old.sure after asks lines tale celled_is told ready in
      let two : IsCoveredExit (with_ops one.ops tale) new.device s [] (Some s ∷ []) = failed.safe.stopped (sym as_pair ∙ uncalled) (with_ops one.ops tale) s one.told one.exit.ready (pair_between pair between old.sure after asks lines celled_is) in
      told_then_sealed one two tt;
  called = λ called tale told ready.
      let one = cells_exit pair between old.sure after asks lines tale celled_is told ready in
      let two : IsInDoubt (with_ops one.ops tale) new.device s (round_for pair old.sure asks) = failed.safe.in_doubt (sym as_pair ∙ called) (with_ops one.ops tale) s (round_for pair old.sure asks) one.told (store_of pair between old.sure after asks lines tale celled_is told ready) in
      in_doubt_then one two;
}
  where
    s : Standing
    s = standing_of pair old.sure

    between : PairView
    between = failed.between

    celled_is : IsCelled pair between old.sure after asks lines
    celled_is = record { round = is; step = step; cells = failed.cells }

    as_pair : engine_called (twin_view new items asks).doubt ≡ was_called new.doubt
    as_pair = called_is (standing_of new items.sure) asks (was_called new.doubt) is.may.some
