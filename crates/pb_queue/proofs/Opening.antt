-- A queue's engine over a pair that was just formatted or opened.
use Rattle.std.proofs.Common.{◌≡◌, ◌≢◌, ℕ, zero, suc, ◌+◌, ◌<◌, true, Some, None, option_map, List, [], ◌∷◌, length, replicate, refl, sym, ap, subst, ◌∙◌, inl, arith}
use Rattle.std.proofs.lemmas.List.{append-nil, length-replicate, get_or-replicate}
use Rattle.std.proofs.lemmas.List.Elements.{All-nil}
use Rattle.pb_pmem.specs.declared.device.DeviceFault.{DeviceFault}
use Rattle.pb_pmem.specs.declared.line.Line.{Line}
use Rattle.pb_pmem.specs.declared.line.TheConstants.{LINES}
use Rattle.pb_pmem.specs.declared.log.LogOp.{LogOp}
use Rattle.pb_pmem.specs.Device.{Device, IsWhole, IsReplay}
use Rattle.pb_pmem.specs.Lines.{line_at, zero_line}
use Rattle.pb_pmem.specs.Operations.{after, with_ops}
use Rattle.pb_pmem.proofs.CrashLaws.{IsAtRest-none}
use Rattle.pb_pmem.proofs.Lines.{contents-none}
use Rattle.pb_pmem.proofs.OperationSteps.{does_none}
use Rattle.pb_object.specs.declared.kind.Kind.TheVariants.{Queue}
use Rattle.pb_object.specs.declared.request.Kept.{Kept}
use Rattle.pb_object.specs.declared.request.TheConstants.{KEPT_REQUESTS}
use Rattle.pb_object.specs.Object.{Waits}
use Rattle.pb_object.specs.ObjectLines.{LinesRepresent}
use Rattle.pb_object.specs.Queue.{Waiting, empty_queue}
use Rattle.pb_object.specs.Standing.{rounds_of, side_count}
use Rattle.pb_layout.specs.declared.header.Header.{Header}
use Rattle.pb_layout.specs.Damage.{HasRegion}
use Rattle.pb_layout.specs.Exits.{IsEmptyRecord, AreEmptyRecords, records_of, empty_for}
use Rattle.pb_layout.specs.Header.{record_length, slot_count, word}
use Rattle.pb_layout.specs.Record.{IsRecord}
use Rattle.pb_layout.specs.Recovered.{Represents}
use Rattle.pb_layout.specs.RegionOps.{format_ops}
use Rattle.pb_layout.specs.Represents.{newest_of_two, kept_list_by, AreRecords}
use Rattle.pb_layout.specs.Shape.{IsHeader}
use Rattle.pb_layout.proofs.Readiness.{at_rest_is_ready}
use Rattle.pb_layout.proofs.SlotLemmas.{newest_of_two-first}
use Rattle.pb_layout_laws.proofs.EmptyRegion.{own_record, no_kept}
use Rattle.pb_layout_laws.proofs.Formatting.{makes_a_region}
use Rattle.pb_layout_laws.proofs.Preparing.{quiet_leaves}
use Rattle.pb_layout_laws.proofs.Quiet.{IsQuiet}
use Rattle.pb_layout_laws.proofs.ReadyWithOne.{only_member}
use Rattle.pb_pair.specs.declared.known.Known.TheVariants.{Sure}
use Rattle.pb_pair.specs.declared.why.Why.{Why}
use Rattle.pb_pair.specs.declared.why.Why.TheVariants.{Memory, Device as DeviceWhy, Taken, NoRegion, Damaged}
use Rattle.pb_pair.specs.Cells.{IsNothing}
use Rattle.pb_pair.specs.Format.{AreFirst, IsFormatted, IsFormatRefusal}
use Rattle.pb_pair.specs.Open.{IsOpened, HasFailedRead}
use Rattle.pb_pair.specs.Safe.{FormatCovers, FailedFormatCovers}
use Rattle.pb_pair.specs.View.{SideView, PairView, HasFailed, view_of_side, lines_of}
use Rattle.pb_pair.proofs.Opened.{told_both}
use Rattle.pb_pair.proofs.Told.{told_length, if_some_mapped}
use Rattle.pb_engine.specs.Opening.{IsFreshEngine, IsFreshRefusal, IsAdopted, IsAdoptRefusal}
use Rattle.pb_engine.specs.Pairs.{is_sure, known_records}
use Rattle.pb_engine.specs.View.{AreInUse}
use Rattle.pb_engine.proofs.InUse.{written_in_use, opened_in_use}
use Rattle.pb_queue.specs.Items.{ItemsView, none_waiting, empty_items}
use Rattle.pb_queue.specs.Recovery.{PassesAndSays, IsRecovered, IsRecoveryRefusal}
use Rattle.pb_queue.specs.Standing.{standing_of}
use Rattle.pb_queue.specs.View.{twin_view, IsTwin}
use Rattle.pb_queue.proofs.InUse.{in_engine}
use Rattle.pb_queue.proofs.Made.{settled_twin}
use Rattle.pb_queue.proofs.Prepared.{two_lines, counts_stand, count_alone}
use Rattle.pb_queue.proofs.Standings.{records_along, SaysStanding, standing_is, records_are}

-- A region that was just made

abbrev pub queue_header : ℕ → ℕ → Header
queue_header clients size = record { kind = Queue; clients = clients; size = size }

-- both first records are zeros
pub record AreFirstLines (clients size : ℕ) (lines : List Line) : Type 0 where
  pub valid : IsHeader (queue_header clients size)
  pub zero : lines ≡ replicate (record_length (queue_header clients size)) zero_line

zero_at : (clients size : ℕ) (lines : List Line) (line : ℕ) → AreFirstLines clients size lines → line < record_length (queue_header clients size) → line_at lines line ≡ zero_line
zero_at clients size lines line are below =
    ap (λ (ls : List Line). line_at ls line) are.zero ∙ get_or-replicate (record_length (queue_header clients size)) line zero_line zero_line below

first_long : (clients size : ℕ) (lines : List Line) → AreFirstLines clients size lines → length lines ≡ record_length (queue_header clients size)
first_long clients size lines are = ap length are.zero ∙ length-replicate (record_length (queue_header clients size)) zero_line

empty_record : (clients size : ℕ) (lines : List Line) → AreFirstLines clients size lines → IsEmptyRecord (queue_header clients size) lines
empty_record clients size lines are = record {
  long = first_long clients size lines are;
  round = zero_at clients size lines 0 are (omega arith);
  slots = λ place inside. zero_at clients size lines (1 + place) are (omega (arith, inside));
}

pub empty_records : (clients size : ℕ) (lines : List Line) → AreFirstLines clients size lines → AreEmptyRecords (queue_header clients size) lines lines
empty_records clients size lines are = record {
  first_record = empty_record clients size lines are;
  second_record = λ more. empty_record clients size lines are;
  no_second = λ one. absurd (omega (arith, one));
  state = subst (λ (ls : List Line). LinesRepresent ls (Waits size empty_queue)) (sym (two_lines (queue_header clients size) (records_of lines lines) (first_long clients size lines are) (first_long clients size lines are)))
      (counts_stand size empty_queue (line_at lines last) (line_at lines last) (record {
        tail = ap (λ (l : Line). word l 0) last_zero;
        taken = ap (λ (l : Line). word l 0) last_zero;
        tail_alone = count_alone (line_at lines last) 0 last_zero;
        taken_alone = count_alone (line_at lines last) 0 last_zero;
      }) (record { room = omega arith; last = omega arith }));
}
  where
    last : ℕ
    last = 1 + slot_count (queue_header clients size)

    last_zero : line_at lines last ≡ zero_line
    last_zero = zero_at clients size lines last are (omega arith)

pub are_first : (clients size : ℕ) (lines : List Line) → AreFirstLines clients size lines → AreFirst (queue_header clients size) lines lines
are_first clients size lines are = record {
  valid = are.valid;
  long = first_long clients size lines are;
  own = own_record (queue_header clients size) 0 lines (empty_record clients size lines are);
  second_long = λ more. first_long clients size lines are;
  second_own = λ more. own_record (queue_header clients size) 1 lines (empty_record clients size lines are);
  no_second = λ one. absurd (omega (arith, one));
}

-- the first records say the empty standing
empty_say : (clients size : ℕ) (lines : List Line) → AreFirstLines clients size lines → AreRecords (λ side. lines) (empty_for (queue_header clients size))
empty_say clients size lines are = record {
  valid = are.valid;
  sides = refl;
  own = own;
  kind = refl;
  size = refl;
  state = (empty_records clients size lines are).state;
  clients = length-replicate {A = List Kept} clients [];
  apart = λ queue place inside some. absurd (some (ap (λ (l : Line). word l 0) (zero_at clients size lines (1 + place) are (omega (arith, inside)))));
  kept = λ client inside. get_or-replicate {A = List Kept} clients client [] [] inside ∙ sym (none_kept client inside);
}
  where
    own : (side : ℕ) → side < 2 → IsRecord (queue_header clients size) side (rounds_of (empty_for (queue_header clients size)) side) lines
    own zero below = own_record (queue_header clients size) 0 lines (empty_record clients size lines are)
    own (suc zero) below = own_record (queue_header clients size) 1 lines (empty_record clients size lines are)
    own (suc (suc side)) below = absurd (omega (arith, below))

    none_kept : (client : ℕ) → client < clients → kept_list_by Queue (λ side. lines) client ≡ []
    none_kept client inside =
        let none = no_kept (queue_header clients size) lines client (empty_record clients size lines are) inside in
        (λ i. newest_of_two KEPT_REQUESTS (none i) (none i)) ∙ newest_of_two-first KEPT_REQUESTS []

-- an engine over a pair that was just formatted
pub record HasFormatted (clients size : ℕ) (lines : List Line) (old : Device) (pair : PairView) (items : ItemsView) : Type 0 where
  pub first : AreFirstLines clients size lines
  pub formatted : IsFormatted (queue_header clients size) lines lines old pair
  pub items_are : items ≡ empty_items size 0

fresh_says : (clients size : ℕ) (lines : List Line) (old : Device) (pair : PairView) (items : ItemsView) → HasFormatted clients size lines old pair items → SaysStanding pair (none_waiting 0) (empty_for (queue_header clients size))
fresh_says clients size lines old pair items has = record {
  kind = refl;
  head = has.formatted.head;
  rounds = (λ i. (has.formatted.first_side i).round ∷ (has.formatted.second_side i).round ∷ []);
  state = ap (λ (h : Header). Waits h.size (none_waiting 0)) has.formatted.head;
  records = records_along (λ side. lines) (lines_of pair) (empty_for (queue_header clients size)) same (empty_say clients size lines has.first);
}
  where
    same : (side : ℕ) → side < 2 → lines ≡ lines_of pair side
    same zero below = sym (ap (λ (part : SideView). part.lines) has.formatted.first_side)
    same (suc side) below = sym (ap (λ (part : SideView). part.lines) has.formatted.second_side)

pub fresh_twin : (clients size : ℕ) (lines : List Line) (old : Device) (pair : PairView) (items : ItemsView) → HasFormatted clients size lines old pair items → IsTwin pair items lines []
fresh_twin clients size lines old pair items has = settled_twin pair items lines (record {
  sound = has.formatted.sound;
  queue = ap (λ (h : Header). h.kind) has.formatted.head;
  records = subst (λ (w : Waiting). AreRecords (lines_of pair) (standing_of pair w)) (sym (ap (λ (v : ItemsView). v.sure) has.items_are))
      (records_are pair (none_waiting 0) (empty_for (queue_header clients size)) (fresh_says clients size lines old pair items has));
  size = ap (λ (v : ItemsView). v.size) has.items_are ∙ ap (λ (h : Header). h.size) (sym has.formatted.head);
  same = ap (λ (v : ItemsView). v.next) has.items_are ∙ ap (λ (v : ItemsView). v.sure) (sym has.items_are);
  long = first_long clients size lines has.first ∙ ap record_length (sym has.formatted.head);
  none = has.formatted.doubt;
})

-- formatting lines that have no region makes them the empty one
formatted_stands : (clients size : ℕ) (lines image : List Line) → AreFirstLines clients size lines → length image ≡ LINES → ¬ HasRegion image → Represents (after (format_ops (queue_header clients size) lines lines) image) (empty_for (queue_header clients size))
formatted_stands clients size lines image are long bare =
    only_member (after (format_ops (queue_header clients size) lines lines) image) (empty_for (queue_header clients size))
    (makes_a_region image [] (queue_header clients size) lines lines are.valid long (empty_records clients size lines are) (at_rest_is_ready image [] None (IsAtRest-none image) (subst (λ ls. ¬ HasRegion ls) (sym (contents-none image)) bare))).ready.holds

pub fresh_is : (clients size : ℕ) (lines : List Line) (old : Device) (pair : PairView) (items : ItemsView) → HasFormatted clients size lines old pair items → FormatCovers (queue_header clients size) lines lines old pair.device → IsWhole old → IsFreshEngine (queue_header clients size) old (twin_view pair items [])
fresh_is clients size lines old pair items has safely whole = record {
  standing = ap (λ (v : ItemsView). standing_of pair v.sure) has.items_are ∙ standing_is pair (none_waiting 0) (empty_for (queue_header clients size)) (fresh_says clients size lines old pair items has);
  doubt = refl;
  sure = ap is_sure has.formatted.known;
  first_lines = lines;
  second_lines = lines;
  empty = empty_records clients size lines has.first;
  first = ap known_records has.formatted.first_side;
  second = ap known_records has.formatted.second_side;
  device = has.formatted.device;
  no_region = has.formatted.no_region;
  holds = if_some_mapped (λ (ls : List Line). length ls ≡ LINES) (λ (ls : List Line). ¬ HasRegion ls) (λ (ls : List Line). Represents ls (empty_for (queue_header clients size))) (after (format_ops (queue_header clients size) lines lines)) old.now pair.device.now has.formatted.device.now whole has.formatted.no_region
      (λ image long bare. formatted_stands clients size lines image has.first long bare);
  in_use = in_use;
  covers = safely (empty_records clients size lines has.first);
}
  where
    queue : pair.head.kind ≡ Queue
    queue = ap (λ (h : Header). h.kind) has.formatted.head

    written : (side : ℕ) → (view_of_side pair side).written ≡ true
    written zero = ap (λ (part : SideView). part.written) has.formatted.first_side
    written (suc side) = ap (λ (part : SideView). part.written) has.formatted.second_side

    in_use : AreInUse (twin_view pair items [])
    in_use side below =
        in_engine pair items [] side queue below (written_in_use pair side has.formatted.sound (omega (arith, below, ap side_count queue)) (written side))

pub fresh_refusal : (clients size : ℕ) (lines : List Line) (old new : Device) (why : Why) → AreFirstLines clients size lines → IsFormatRefusal (queue_header clients size) lines lines old new why → FailedFormatCovers (queue_header clients size) lines lines old new → IsFreshRefusal (queue_header clients size) old new why
fresh_refusal clients size lines old new why are refusal safely = record {
  first_lines = lines;
  second_lines = lines;
  empty = λ fault is_device. empty_records clients size lines are;
  refusal = refusal;
  covers = safely (empty_records clients size lines are);
}

memory_is_none : (fault : DeviceFault) → Memory ≡ DeviceWhy fault → ⊥
memory_is_none fault is = cc (is)

-- where memory ran out, nothing was done
pub fresh_memory : (clients size : ℕ) (old : Device) → IsWhole old → IsReplay old → IsFreshRefusal (queue_header clients size) old old Memory
fresh_memory clients size old whole replay = record {
  first_lines = [];
  second_lines = [];
  empty = λ fault is_device. absurd (memory_is_none fault is_device);
  refusal = refl;
  covers = λ tale told ready. inl (record {
    ops = [];
    told = told ∙ ap (λ (log : List LogOp). Some (record tale { log = log })) (sym (append-nil tale.log));
    exit = quiet_leaves tale.base tale.log [] (empty_for (queue_header clients size)) (omega (arith, told_length old tale whole replay told)) ready (All-nil IsQuiet);
  });
}

-- A region that was opened

pub adopted_twin : (pair : PairView) (items : ItemsView) (next : List Line) → IsOpened pair.device pair → pair.head.kind ≡ Queue → IsRecovered pair items → length next ≡ record_length pair.head → IsTwin pair items next []
adopted_twin pair items next opened queue is long = settled_twin pair items next (record {
  sound = opened.sound;
  queue = queue;
  records = is.records;
  size = is.size;
  same = is.sure;
  long = long;
  none = opened.doubt;
})

pub adopted_is : (pair : PairView) (items : ItemsView) → IsOpened pair.device pair → pair.head.kind ≡ Queue → IsRecovered pair items → IsAdopted pair.device (twin_view pair items [])
adopted_is pair items opened queue is = record {
  same = refl;
  stands = told_both pair.device.now (λ (ls : List Line). length ls ≡ LINES) (PassesAndSays (standing_of pair items.sure)) (λ (ls : List Line). Represents ls (standing_of pair items.sure))
      (λ image long says. record { whole = long; passes = says.passes; says = says.says }) opened.whole is.told;
  in_use = λ side below. in_engine pair items [] side queue below (opened_in_use pair side opened (omega (arith, below, ap side_count queue)));
  doubt = refl;
  sure = ap is_sure opened.known;
  first = ap known_records (opened.sound.unsure_first unsure);
  second = ap known_records (opened.sound.unsure_second unsure);
}
  where
    unsure : pair.known ≢ Sure
    unsure sure = absurd (cc (opened.known, sure))

-- a read that failed added nothing
fails_of : (fault : DeviceFault) (old new : PairView) → HasFailed IsNothing old.doubt old fault new → HasFailedRead fault old.device new.device
fails_of fault old new failed = record {
  from = failed.device.from;
  to = failed.device.to;
  fails = record {
    rose = failed.device.stops.rose;
    told = inl (failed.device.stops.told ∙ (ap (λ (ops : List LogOp). option_map (with_ops ops) old.device.told) failed.device.stops.cut ∙ sym (does_none old.device).told));
  };
}

pub adopt_refusal : (old new : PairView) (why : Why) → IsRecoveryRefusal old new why → IsAdoptRefusal old.device new.device why
adopt_refusal old new Memory refusal = ap (λ (p : PairView). p.device) refusal
adopt_refusal old new (DeviceWhy fault) refusal = fails_of fault old new refusal
adopt_refusal old new Taken refusal = refusal
adopt_refusal old new NoRegion refusal = refusal
adopt_refusal old new (Damaged line) refusal = (ap (λ (p : PairView). p.device) refusal.0, refusal.1)
