-- The calls that are planned are those of the round.
use Rattle.std.proofs.Common.{◌≡◌, ℕ, suc, ◌+◌, ◌-◌, ◌%◌, ◌<◌, ◌≤◌, Bool, true, false, inl, List, [], ◌∷◌, ◌++◌, Some, length, drop, slice_index, refl, sym, ap, subst, ◌∙◌, arith}
use Rattle.std.specs.List.{All, AllByRecursion}
use Rattle.std.specs.Prelude.{if◌then◌else◌, ◌==◌}
use Rattle.std.proofs.lemmas.List.{get_or-take, get_or-drop, length-drop}
use Rattle.std.proofs.lemmas.List.Elements.{All-nil, All-cons}
use Rattle.pb_pmem.specs.declared.line.Line.{Line}
use Rattle.pb_pmem.specs.declared.line.TheConstants.{LINES}
use Rattle.pb_pmem.specs.declared.log.LogOp.{LogOp}
use Rattle.pb_pmem.specs.declared.log.LogOp.TheVariants.{Whole, Back}
use Rattle.pb_pmem.specs.Contents.{contents}
use Rattle.pb_pmem.specs.Device.{Tale}
use Rattle.pb_pmem.specs.Lines.{line_at, zero_line}
use Rattle.pb_pmem.proofs.Lines.{length-contents, contents-append}
use Rattle.pb_object.specs.declared.kind.Kind.TheVariants.{Queue}
use Rattle.pb_object.specs.History.{Round, after_round}
use Rattle.pb_object.specs.Object.{State, Registers, Items, Rising, Waits}
use Rattle.pb_object.specs.ObjectLines.{kind_of, size_of, LinesRepresent}
use Rattle.pb_object.specs.Queue.{Waiting, tail_of}
use Rattle.pb_object.specs.Standing.{Standing, rounds_of, side_count}
use Rattle.pb_layout.specs.declared.header.Header.{Header}
use Rattle.pb_layout.specs.Cell.{cell_line_of}
use Rattle.pb_layout.specs.Header.{record_length, first_record_line}
use Rattle.pb_layout.specs.NextRecord.{HasEntryInFront, IsNextOf, IsNextRecord, next_position, HasCells}
use Rattle.pb_layout.specs.PutCell.{HasCell, HaveCells, put_ops}
use Rattle.pb_layout.specs.Record.{slot_line_at}
use Rattle.pb_layout.specs.Recovered.{Represents}
use Rattle.pb_layout.specs.Region.{record_place, cell_place}
use Rattle.pb_layout.specs.RegionOps.{changes_from, is_same, fenced_ops, commit_ops, spare_place, store_over}
use Rattle.pb_layout.specs.Represents.{header_for, object_part, record_at, record_in_use, record_of_side, with_record, RegionParts}
use Rattle.pb_layout.specs.Shape.{IsHeader}
use Rattle.pb_layout.specs.Stages.{StagesRecord}
use Rattle.pb_layout.proofs.ChangedRegion.{SameRecords, object_parts-same}
use Rattle.pb_layout.proofs.OneRecovery.{parts, record_fits}
use Rattle.pb_layout.proofs.SparseWrites.{changes_from-none, changes_from-more, changes-there, over_stage}
use Rattle.pb_layout.proofs.Untouched.{Spares, record_at-spared}
use Rattle.pb_layout_laws.proofs.Geometry.{cell_below, record_after_cells}
use Rattle.pb_layout_laws.proofs.PutCells.{cells_of_a_round}
use Rattle.pb_layout_laws.proofs.Rounds.{next_side, after_entries-kind_of}
use Rattle.pb_core.specs.World as core
use Rattle.pb_core.specs.World.{Put, puts_at, puts_between, WritesLine, AreFreePositions, IsRoundPlan}
use Rattle.pb_core.specs.Play.{ListsRising, IsPlayedPlan}
use Rattle.pb_engine.specs.Operations.{puts_from, cell_ops}
use Rattle.pb_queue.proofs.CellExits.{cells_there}
use Rattle.pb_queue.proofs.PutCells.{puts_from-none, puts_from-more}
use Rattle.pb_round_play.specs.Rounds.{StepsQueue}

-- The cells

same_puts : (head : Header) (from : ℕ) (items : List ℕ) → core.ops_of_puts head (puts_at from items) ≡ puts_from head from items
same_puts head from [] = sym (puts_from-none head from)
same_puts head from (item ∷ items) = ap (λ (l : List LogOp). put_ops head from item ++ l) (same_puts head (suc from) items) ∙ sym (puts_from-more head from item items)

free_puts : (size : ℕ) (queue : Waiting) (from : ℕ) (items : List ℕ) → tail_of queue ≤ from → from + length items ≤ queue.taken + size → AreFreePositions (Waits size queue) (puts_at from items)
free_puts size queue from [] after near = tt
free_puts size queue from (item ∷ items) after near = ((after, omega (arith, near)), free_puts size queue (suc from) items (omega (arith, after)) (omega (arith, near)))

-- what a round puts, as the core has it
record HasPuts (head : Header) (before after : State) : Type 0 where
  puts : List Put
  its_own : puts ≡ puts_between before after
  are : core.ops_of_puts head puts ≡ cell_ops head (next_position before) after
  free : AreFreePositions before puts

no_puts : (head : Header) (before after : State) → puts_between before after ≡ [] → cell_ops head (next_position before) after ≡ [] → HasPuts head before after
no_puts head before after no_items none = record { puts = []; its_own = sym no_items; are = sym none; free = tt }

has_puts : (head : Header) (before after : State) → kind_of after ≡ kind_of before → StepsQueue before after → HasPuts head before after
has_puts head before (Registers registers) kind step = no_puts head before (Registers registers) refl refl
has_puts head before (Items size items) kind step = no_puts head before (Items size items) refl refl
has_puts head before (Rising size items) kind step = no_puts head before (Rising size items) refl refl
has_puts head (Registers registers) (Waits n after) kind step = absurd cc
has_puts head (Items size items) (Waits n after) kind step = absurd cc
has_puts head (Rising size items) (Waits n after) kind step = absurd cc
has_puts head (Waits size before) (Waits n after) kind step =
    let added = drop (tail_of before - after.taken) after.items in
    record {
      puts = puts_at (tail_of before) added;
      its_own = refl;
      are = same_puts head (tail_of before) added;
      free = free_puts size before (tail_of before) added (omega arith) (omega (arith, step.0, step.1, step.2, length-drop (tail_of before - after.taken) after.items));
    }

-- each is in its cell
have_cells : (base : List Line) (log : List LogOp) (head : Header) (before after : State) → kind_of after ≡ kind_of before → size_of before ≡ head.size → StepsQueue before after → IsHeader head → length base ≡ LINES → HaveCells base (log ++ cell_ops head (next_position before) after) head (next_position before) after
have_cells base log head before (Registers registers) kind size step valid long = tt
have_cells base log head before (Items n items) kind size step valid long = tt
have_cells base log head before (Rising n items) kind size step valid long = tt
have_cells base log head (Registers registers) (Waits n after) kind size step valid long = absurd cc
have_cells base log head (Items m items) (Waits n after) kind size step valid long = absurd cc
have_cells base log head (Rising m items) (Waits n after) kind size step valid long = absurd cc
have_cells base log head (Waits m before) (Waits n after) kind size step valid long = λ place inside later.
    let skipped = tail_of before - after.taken in
    let from = tail_of before in
    let at : from + (place - skipped) ≡ after.taken + place = omega (arith, step.0, later) in
    let back : skipped + (place - skipped) ≡ place = omega (arith, step.0, later) in
    let added = drop skipped after.items in
    let item : slice_index added (place - skipped) ≡ slice_index after.items place = get_or-drop skipped after.items (place - skipped) 0 ∙ ap (slice_index after.items) back in
    let few : length added ≤ head.size = omega (arith, size, step.0, step.1, step.2, length-drop skipped after.items) in
    let within : place - skipped < length added = omega (arith, inside, step.0, later, length-drop skipped after.items) in
    subst (λ (line : Line). HasCell base (log ++ puts_from head from added) head (after.taken + place) line) (ap (cell_line_of (after.taken + place)) item)
    (subst (λ (position : ℕ). HasCell base (log ++ puts_from head from added) head position (cell_line_of position (slice_index added (place - skipped)))) at
    (cells_there base log head from added (place - skipped) valid long few within))

-- they lie before the records
puts_spare : (head : Header) (first count from : ℕ) (items : List ℕ) → IsHeader head → head.kind ≡ Queue → first_record_line head ≤ first → All (Spares first count) (puts_from head from items)
puts_spare head first count from [] valid queue after = subst (All (Spares first count)) (sym (puts_from-none head from)) (All-nil (Spares first count))
puts_spare head first count from (item ∷ items) valid queue after =
    let place = cell_place head from in
    let rest = puts_from head (suc from) items in
    subst (All (Spares first count)) (sym (puts_from-more head from item items))
    (All-cons (Spares first count) (Whole place (cell_line_of from item)) (Back place 1 ∷ rest) (inl (omega (arith, cell_below head from valid queue, after)))
    (All-cons (Spares first count) (Back place 1) rest tt (puts_spare head first count (suc from) items valid queue after)))

cells_spare : (head : Header) (first count from : ℕ) (state : State) → IsHeader head → kind_of state ≡ head.kind → first_record_line head ≤ first → All (Spares first count) (cell_ops head from state)
cells_spare head first count from (Registers registers) valid kind after = All-nil (Spares first count)
cells_spare head first count from (Items size items) valid kind after = All-nil (Spares first count)
cells_spare head first count from (Rising size items) valid kind after = All-nil (Spares first count)
cells_spare head first count from (Waits size queue) valid kind after = puts_spare head first count from (drop (from - queue.taken) queue.items) valid (sym kind) after

-- The record over records that are the same

next_along : (f g : ℕ → List Line) (s : Standing) (round : Round) (lines : List Line) → SameRecords s.kind f g → round.side < side_count s.kind → IsNextOf f s round lines → IsNextOf g s round lines
next_along f g s round lines same here next = record {
  legal = next.legal;
  long = next.long;
  carries = next.carries;
  entries = subst (λ (ls : List Line). All (HasEntryInFront ls lines) round.entries) own next.entries;
  others = λ client slot inside below others. next.others client slot inside below others ∙ ap (λ (ls : List Line). slot_line_at ls client slot) own;
  state = subst (λ (ls : List Line). LinesRepresent ls (after_round s round).state) (object_parts-same s.kind (header_for s) (with_record f round.side lines) (with_record g round.side lines) exchanged) next.state;
}
  where
    own : f round.side ≡ g round.side
    own = same round.side here

    exchanged : SameRecords s.kind (with_record f round.side lines) (with_record g round.side lines)
    exchanged x there = ap (λ (ls : List Line). if x == round.side then lines else ls) (same x there)

-- The writes

one_write : (first : ℕ) (whole : List Line) (at : ℕ) (line : Line) (rest : List LogOp) (same : Bool) → at < length whole → line ≡ line_at whole at → AllByRecursion (WritesLine first whole) rest → AllByRecursion (WritesLine first whole) ((if same then [] else Whole (first + at) line ∷ []) ++ rest)
one_write first whole at line rest true inside is all = all
one_write first whole at line rest false inside is all = ((at, inside, refl, is), all)

-- the changes of a part of a record write its lines
changes_write : (first : ℕ) (whole : List Line) (at : ℕ) (before lines : List Line) → ((place : ℕ) → place < length lines → line_at lines place ≡ line_at whole (at + place)) → at + length lines ≤ length whole → AllByRecursion (WritesLine first whole) (changes_from (first + at) before lines)
changes_write first whole at before [] part fits = subst (AllByRecursion (WritesLine first whole)) (sym (changes_from-none (first + at) before)) tt
changes_write first whole at before (line ∷ lines) part fits =
    let next : suc (first + at) ≡ first + suc at = omega arith in
    let here : at + 0 ≡ at = omega arith in
    subst (AllByRecursion (WritesLine first whole)) (sym (changes_from-more (first + at) before line lines))
    (one_write first whole at line (changes_from (suc (first + at)) (drop 1 before) lines) (is_same (line_at before 0) line) (omega (arith, fits)) (part 0 (omega arith) ∙ ap (line_at whole) here)
    (subst (λ (n : ℕ). AllByRecursion (WritesLine first whole) (changes_from n (drop 1 before) lines)) (sym next)
    (changes_write first whole (suc at) (drop 1 before) lines (λ place inside. let on : at + suc place ≡ suc at + place = omega arith in part (suc place) (omega (arith, inside)) ∙ ap (line_at whole) on) (omega (arith, fits)))))

-- a line of a record
line_in_record : (image : List Line) (head : Header) (side which place : ℕ) → place < record_length head → line_at image (record_place head side which + place) ≡ line_at (record_at image head side which) place
line_in_record image head side which place inside =
    sym (get_or-take (record_length head) (drop (record_place head side which) image) place zero_line inside ∙ get_or-drop (record_place head side which) image place zero_line)

-- All of it

pub is_planned : {tale : Tale} (s : Standing) (round : Round) (next : List Line) (plan : List LogOp) → length tale.base ≡ LINES → Represents (contents tale.base tale.log) s → IsNextRecord (contents tale.base tale.log) s round next → StepsQueue s.state (after_round s round).state
    → plan ≡ cell_ops (header_for s) (next_position s.state) (after_round s round).state ++ store_over (header_for s) round.side (rounds_of s round.side) (Some (record_in_use (contents tale.base tale.log) (header_for s) round.side (rounds_of s round.side + 1))) next
    → IsRoundPlan tale s round plan
is_planned {tale} s round next plan long stands is step planned = record {
  puts = found.puts;
  its_own = found.its_own;
  free = found.free;
  cells = subst (λ (l : List LogOp). HasCells tale.base (tale.log ++ l) s round) (sym found.are)
      (cells_of_a_round tale.base (tale.log ++ cells) s round (have_cells tale.base tale.log head s.state after kind (region.size) step region.valid long));
  lines = next;
  next = subst (λ (l : List LogOp). IsNextRecord (contents tale.base (tale.log ++ l)) s round next) (sym found.are)
      (next_along (record_of_side image s) (record_of_side (contents tale.base (tale.log ++ cells)) s) s round next (λ x there. sym (in_use x)) here is);
  writes = writes;
  new = subst (λ (n : ℕ). AllByRecursion (WritesLine first next) (changes_from n before next)) start (changes_write first next 0 before next (λ place inside. let on : place ≡ 0 + place = omega arith in ap (line_at next) on) (omega arith));
  staged = subst (λ (l : List LogOp). StagesRecord first next (contents tale.base (tale.log ++ l)) writes) (sym found.are) (record {
    all = over_stage first (Some before) next;
    there = changes-there (contents tale.base (tale.log ++ cells)) first before next holds fits;
  });
  is = planned ∙ (λ i. (sym found.are i) ++ (fenced_ops writes first (is.long i) ++ commit_ops round.side (rounds_of s round.side + 1)));
}
  where
    head : Header
    head = header_for s

    image : List Line
    image = contents tale.base tale.log

    region : RegionParts image s
    region = parts image s stands

    after : State
    after = (after_round s round).state

    kind : kind_of after ≡ kind_of s.state
    kind = after_entries-kind_of s round.entries

    found : HasPuts head s.state after
    found = has_puts head s.state after kind step

    cells : List LogOp
    cells = cell_ops head (next_position s.state) after

    here : round.side < side_count s.kind
    here = next_side s round is.legal

    first : ℕ
    first = spare_place head round.side (rounds_of s round.side)

    before : List Line
    before = record_in_use image head round.side (rounds_of s round.side + 1)

    writes : List LogOp
    writes = changes_from first before next

    start : first + 0 ≡ first
    start = omega arith

    same_record : (side which : ℕ) → record_at (contents tale.base (tale.log ++ cells)) head side which ≡ record_at image head side which
    same_record side which =
        ap (λ (ls : List Line). record_at ls head side which) (contents-append tale.base tale.log cells)
        ∙ record_at-spared cells image head side which (cells_spare head (record_place head side which) (record_length head) (next_position s.state) after region.valid (kind ∙ region.kind) (record_after_cells head side which))

    in_use : (x : ℕ) → record_of_side (contents tale.base (tale.log ++ cells)) s x ≡ record_of_side image s x
    in_use x = same_record x (rounds_of s x % 2)

    holds : (place : ℕ) → place < length next → line_at (contents tale.base (tale.log ++ cells)) (first + place) ≡ line_at before place
    holds place inside =
        line_in_record (contents tale.base (tale.log ++ cells)) head round.side ((rounds_of s round.side + 1) % 2) place (omega (arith, inside, is.long)) ∙ ap (λ (ls : List Line). line_at ls place) (same_record round.side ((rounds_of s round.side + 1) % 2))

    fits : first + length next ≤ length (contents tale.base (tale.log ++ cells))
    fits = omega (arith, length-contents tale.base (tale.log ++ cells), long, is.long, record_fits head round.side ((rounds_of s round.side + 1) % 2) region.valid here (omega arith))

-- .. and they are those that are played
pub is_played_plan : {tale : Tale} (s : Standing) (round : Round) (next : List Line) (plan : List LogOp) → Represents (contents tale.base tale.log) s → IsNextRecord (contents tale.base tale.log) s round next → ListsRising (after_round s round).state (object_part (header_for s) next) → StepsQueue s.state (after_round s round).state
    → plan ≡ cell_ops (header_for s) (next_position s.state) (after_round s round).state ++ store_over (header_for s) round.side (rounds_of s round.side) (Some (record_in_use (contents tale.base tale.log) (header_for s) round.side (rounds_of s round.side + 1))) next
    → IsPlayedPlan tale s round plan
is_played_plan {tale} s round next plan stands is listed step planned = record {
  lines = next;
  next = is;
  listed = listed;
  is = planned
      ∙ ap (λ (l : List LogOp). l ++ store_over (header_for s) round.side (rounds_of s round.side) (Some (record_in_use (contents tale.base tale.log) (header_for s) round.side (rounds_of s round.side + 1))) next)
      (sym found.are ∙ ap (core.ops_of_puts (header_for s)) found.its_own);
}
  where
    found : HasPuts (header_for s) s.state (after_round s round).state
    found = has_puts (header_for s) s.state (after_round s round).state (after_entries-kind_of s round.entries) step
