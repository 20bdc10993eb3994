-- A round from its parts, and what it comes to in the words of engines.
use Rattle.std.proofs.Common.{◌≡◌, ◌≢◌, ℕ, ◌+◌, ◌*◌, ◌/◌, ◌%◌, ◌∷◌, ◌-◌, ◌<◌, ◌≤◌, List, [], length, drop, sym, ap, subst, ◌∙◌, arith, ◌++◌, Result, Ok, Err, IsOk, OnOk, ◌↔◌}
use Rattle.pb_pmem.specs.declared.device.DeviceFault.{DeviceFault}
use Rattle.std.specs.List.{All}
use Rattle.std.proofs.lemmas.List.{ext_get_or, get_or-drop, length-drop}
use Rattle.std.proofs.lemmas.List.Elements.{All-nil, All-head, All-tail, All-cons}
use Rattle.pb_pmem.specs.declared.line.Line.{Line}
use Rattle.pb_pmem.specs.Lines.{line_at, zero_line}
use Rattle.pb_object.specs.declared.kind.Kind.{Kind}
use Rattle.pb_object.specs.declared.request.Ask.{Ask}
use Rattle.pb_object.specs.declared.kind.Kind.TheVariants.{Queue}
use Rattle.pb_object.specs.declared.request.TheConstants.{KEPT_REQUESTS}
use Rattle.pb_object.specs.Changes.{after_asks}
use Rattle.pb_object.specs.Object.{State, next_state}
use Rattle.pb_object.specs.ObjectLines.{size_of, object_line_count, LinesRepresent}
use Rattle.pb_object.specs.Standing.{Standing, side_count}
use Rattle.pb_layout.specs.NextRecord.{IsOfOther}
use Rattle.pb_layout.specs.Header.{slot_count}
use Rattle.pb_layout_laws.proofs.FewRounds.{records_few}
use Rattle.pb_pair.specs.Safe.{StoreCovers, FailedStoreCovers}
use Rattle.pb_pair.specs.Store.{IsStored, HasFailedStore}
use Rattle.pb_pair.specs.View.{PairView, round_of_side, lines_of}
use Rattle.pb_engine.specs.Asks.{MayBeServed, IsNextAsk, side_asked, answered_by, answered_from, state_from, asked_round}
use Rattle.pb_engine.specs.Covers.{RoundCovers, FailedRoundCovers}
use Rattle.pb_engine.specs.Next.{IsBegun, PutsEntries, KeepsBefore}
use Rattle.pb_engine.specs.Outcomes.{HasMade, HasFailedToMake}
use Rattle.pb_engine.specs.View.{EngineView}
use Rattle.pb_engine.proofs.Served.{state_from-none, state_is_after, answered_from-none, answered_from-more}
use Rattle.pb_comb.specs.View.{standing_of, comb_view, IsComb}
use Rattle.pb_comb.proofs.Made.{made, made_safely, failed_to_make, failed_safely, stored_comb}
use Rattle.pb_comb.proofs.Records.{one_side, parts_of_one, next_of}
use Rattle.pb_comb.proofs.Rounds.{IsRound}
use Rattle.pb_comb.proofs.Settling.{size_from}

-- the record that a round wrote: the lines in use with the next number, then with the entries, and then with the object's lines
pub record IsWritten (kind : Kind) (pair : PairView) (ahead after : State) (asks : List Ask) (round : ℕ) (before again begun served lines : List Line) : Type 0 where
  pub round_is : round ≡ round_of_side pair 0
  pub before_is : before ≡ lines_of pair 0
  pub again_is : again ≡ lines_of pair 0
  pub begins : IsBegun before (round + 1) begun
  pub serves : PutsEntries again (answered_from ahead asks) begun served
  pub moves : after ≡ state_from ahead asks

-- where the object's lines begin
object_first : (kind : Kind) (pair : PairView) (state ahead after : State) (next : List Line) (asks : List Ask) (round : ℕ) (before again begun served lines : List Line) → IsComb kind pair state ahead next [] → IsWritten kind pair ahead after asks round before again begun served lines → length served ≡ 1 + slot_count pair.head + object_line_count kind (size_of after)
object_first kind pair state ahead after next asks round before again begun served lines is written =
    let long = (is.sound.sides 0 (omega (arith, one_side kind is.one_side, ap side_count is.kind_is))).long in
    let size : size_of after ≡ pair.head.size = ap size_of written.moves ∙ (size_from asks ahead ∙ (ap size_of (is.ahead_by ∙ state_from-none state) ∙ is.records.size)) in
    written.serves.long ∙ (written.begins.long ∙ (ap length written.before_is ∙ (long ∙ (λ i. 1 + slot_count pair.head + object_line_count (is.kind_is i) (sym size i)))))

pub fits_object : (kind : Kind) (pair : PairView) (state ahead after : State) (next : List Line) (asked asks : List Ask) (round : ℕ) (before again begun served lines : List Line) → asked ≡ [] → IsComb kind pair state ahead next asked → IsWritten kind pair ahead after asks round before again begun served lines → object_line_count kind (size_of after) ≤ length served
fits_object kind pair state ahead after next asked asks round before again begun served lines none is written =
    omega (arith, object_first kind pair state ahead after next asks round before again begun served lines (subst (IsComb kind pair state ahead next) none is) written)

pub round_from : (kind : Kind) (pair : PairView) (state ahead after : State) (next : List Line) (asked asks : List Ask) (round : ℕ) (before again begun served lines : List Line) → asked ≡ [] → IsComb kind pair state ahead next asked → MayBeServed (standing_of pair state) asks → IsWritten kind pair ahead after asks round before again begun served lines
    → KeepsBefore (length served - object_line_count kind (size_of after)) served lines → LinesRepresent (drop (length served - object_line_count kind (size_of after)) lines) after → IsRound kind pair state asks lines
round_from kind pair state ahead after next asked asks round before again begun served lines none is may written keeps object = record {
  sound = is.sound;
  kind_is = is.kind_is;
  not_queue = is.one_side;
  records = is.records;
  may = may;
  next = next_of pair state asks begun served lines is.sound (λ queue. is.one_side (sym is.kind_is ∙ queue)) may (record {
    begins = subst (λ (ls : List Line). IsBegun ls (round_of_side pair 0 + 1) begun) written.before_is (subst (λ (n : ℕ). IsBegun before (n + 1) begun) written.round_is written.begins);
    serves = subst (λ (ls : List Line). PutsEntries ls (answered_from state asks) begun served) written.again_is (subst (λ (st : State). PutsEntries again (answered_from st asks) begun served) same written.serves);
    keeps = subst (λ (n : ℕ). KeepsBefore n served lines) first keeps;
    object = subst (LinesRepresent (drop (1 + slot_count pair.head) lines)) (written.moves ∙ ap (λ (st : State). state_from st asks) same) (subst (λ (n : ℕ). LinesRepresent (drop n lines) after) first object);
  });
}
  where
    same : ahead ≡ state
    same = is.ahead_by ∙ (ap (state_from state) none ∙ state_from-none state)

    first : length served - object_line_count kind (size_of after) ≡ 1 + slot_count pair.head
    first = omega (arith, object_first kind pair state ahead after next asks round before again begun served lines (subst (IsComb kind pair state ahead next) none is) written)

-- The object's lines stay while the slots are written

-- no request is of a client that isn't there
apart_from : (s : Standing) (side client : ℕ) (state : State) (asks : List Ask) → s.clients ≤ client → All (IsNextAsk s side) asks → All (IsOfOther client) (answered_from state asks)
apart_from s side client state [] past next = subst (All (IsOfOther client)) (sym (answered_from-none state)) (All-nil (IsOfOther client))
apart_from s side client state (ask ∷ asks) past next =
    let is = All-head (IsNextAsk s side) ask asks next in
    subst (All (IsOfOther client)) (sym (answered_from-more state ask asks))
    (All-cons (IsOfOther client) (answered_by state ask) (answered_from (next_state state ask.op) asks) (λ e. absurd (omega (arith, e, is.client, past)))
    (apart_from s side client (next_state state ask.op) asks past (All-tail (IsNextAsk s side) ask asks next)))

line_stays : (kind : Kind) (pair : PairView) (state ahead after : State) (asks : List Ask) (round : ℕ) (before again begun served lines : List Line) → MayBeServed (standing_of pair state) asks → IsWritten kind pair ahead after asks round before again begun served lines → (k : ℕ) → line_at served (1 + slot_count pair.head + k) ≡ line_at (lines_of pair 0) (1 + slot_count pair.head + k)
line_stays kind pair state ahead after asks round before again begun served lines may written k =
    let client : ℕ = pair.head.clients + k / 8 in
    let at : 1 + slot_count pair.head + k ≡ 1 + (KEPT_REQUESTS * client + k % 8) = omega arith in
    ap (line_at served) at
    ∙ (written.serves.others client (k % 8) (omega arith) (apart_from (standing_of pair state) (side_asked asks) client ahead asks (omega arith) may.next)
    ∙ (written.begins.others (1 + (KEPT_REQUESTS * client + k % 8)) (omega arith)
    ∙ (λ i. line_at (written.before_is i) (sym at i))))

object_stays : (kind : Kind) (pair : PairView) (state ahead after : State) (asks : List Ask) (round : ℕ) (before again begun served lines : List Line) → MayBeServed (standing_of pair state) asks → IsWritten kind pair ahead after asks round before again begun served lines → drop (1 + slot_count pair.head) served ≡ drop (1 + slot_count pair.head) (lines_of pair 0)
object_stays kind pair state ahead after asks round before again begun served lines may written =
    let first = 1 + slot_count pair.head in
    let long : length served ≡ length (lines_of pair 0) = written.serves.long ∙ (written.begins.long ∙ ap length written.before_is) in
    ext_get_or zero_line (drop first served) (drop first (lines_of pair 0)) (omega (arith, length-drop first served, length-drop first (lines_of pair 0), long))
    (λ k inside. get_or-drop first served k zero_line ∙ (line_stays kind pair state ahead after asks round before again begun served lines may written k ∙ sym (get_or-drop first (lines_of pair 0) k zero_line)))

-- so the object brings them up to date
pub round_by : {others : List Ask} (kind : Kind) (pair : PairView) (state ahead after : State) (next : List Line) (asked asks : List Ask) (round : ℕ) (before again begun served lines : List Line) → asked ≡ [] → IsComb kind pair state ahead next asked → MayBeServed (standing_of pair state) asks → IsWritten kind pair ahead after asks round before again begun served lines
    → KeepsBefore (length served - object_line_count kind (size_of after)) served lines → others ≡ asks
    → ((was : State) → LinesRepresent (drop (length served - object_line_count kind (size_of after)) served) was → after ≡ after_asks was others → LinesRepresent (drop (length served - object_line_count kind (size_of after)) lines) after) → IsRound kind pair state asks lines
round_by {others} kind pair state ahead after next asked asks round before again begun served lines none is may written keeps same_asks changes =
    round_from kind pair state ahead after next asked asks round before again begun served lines none is may written keeps
    (changes state stands (written.moves ∙ (ap (λ (st : State). state_from st asks) same ∙ (state_is_after asks state ∙ ap (after_asks state) (sym same_asks)))))
  where
    same : ahead ≡ state
    same = is.ahead_by ∙ (ap (state_from state) none ∙ state_from-none state)

    first : length served - object_line_count kind (size_of after) ≡ 1 + slot_count pair.head
    first = omega (arith, object_first kind pair state ahead after next asks round before again begun served lines (subst (IsComb kind pair state ahead next) none is) written)

    not_queue : pair.head.kind ≢ Queue
    not_queue queue = is.one_side (sym is.kind_is ∙ queue)

    stands : LinesRepresent (drop (length served - object_line_count kind (size_of after)) served) state
    stands =
        subst (λ (n : ℕ). LinesRepresent (drop n served) state) (sym first)
        (subst (λ (ls : List Line). LinesRepresent ls state) (sym (object_stays kind pair state ahead after asks round before again begun served lines may written))
        (subst (λ (ls : List Line). LinesRepresent ls state) (parts_of_one pair.head.kind pair.head (lines_of pair) not_queue) is.records.state))

-- the next round number fits a word
pub number_fits : (kind : Kind) (pair : PairView) (state ahead : State) (next : List Line) (asked : List Ask) → IsComb kind pair state ahead next asked → round_of_side pair 0 + 1 < 18446744073709551616
number_fits kind pair state ahead next asked is =
    omega (arith, records_few (lines_of pair) (standing_of pair state) is.records 0)

-- What it comes to

pub done : (kind : Kind) (old new : PairView) (state after : State) (lines : List Line) (asked asks : List Ask) (engine : EngineView) → comb_view old state asked ≡ engine → asked ≡ [] → IsRound kind old state asks lines → IsStored 0 lines old new → StoreCovers 0 lines old new.device → after ≡ state_from state asks
    → HasMade (asked_round engine.standing asks) engine (comb_view new after asked) × RoundCovers (asked_round engine.standing asks) engine (comb_view new after asked)
done kind old new state after lines asked asks engine seen none is stored safely moved =
    subst (λ (e : EngineView). HasMade (asked_round e.standing asks) e (comb_view new after asked) × RoundCovers (asked_round e.standing asks) e (comb_view new after asked)) seen
    (subst (λ (rest : List Ask). HasMade (asked_round (standing_of old state) asks) (comb_view old state rest) (comb_view new after rest) × RoundCovers (asked_round (standing_of old state) asks) (comb_view old state rest) (comb_view new after rest)) (sym none)
    (subst (λ (st : State). HasMade (asked_round (standing_of old state) asks) (comb_view old state []) (comb_view new st []) × RoundCovers (asked_round (standing_of old state) asks) (comb_view old state []) (comb_view new st [])) (sym moved)
    (made kind old new state asks lines is stored, made_safely kind old new state asks lines is safely)))

pub done_comb : (kind : Kind) (old new : PairView) (state ahead after after_ahead : State) (next lines : List Line) (asked asks : List Ask) → asked ≡ [] → IsRound kind old state asks lines → IsStored 0 lines old new → next ≡ lines → after ≡ state_from state asks → after_ahead ≡ state_from state asks → IsComb kind new after after_ahead next asked
done_comb kind old new state ahead after after_ahead next lines asked asks none is stored same first second =
    subst (IsComb kind new after after_ahead next) (sym none)
    (subst (λ (st : State). IsComb kind new st after_ahead next []) (sym first) (subst (λ (st : State). IsComb kind new (state_from state asks) st next []) (sym second) (stored_comb kind old new state asks lines next is stored same)))

pub failed : (kind : Kind) (old new : PairView) (state : State) (lines : List Line) (asked asks kept : List Ask) (fault : DeviceFault) (engine : EngineView) → comb_view old state asked ≡ engine → asked ≡ [] → IsRound kind old state asks lines → HasFailedStore 0 lines old fault new → FailedStoreCovers 0 lines old new → kept ≡ asks
    → HasFailedToMake (asked_round engine.standing asks) fault engine (comb_view new state kept) × FailedRoundCovers (asked_round engine.standing asks) engine (comb_view new state kept)
failed kind old new state lines asked asks kept fault engine seen none is fails safely same =
    subst (λ (e : EngineView). HasFailedToMake (asked_round e.standing asks) fault e (comb_view new state kept) × FailedRoundCovers (asked_round e.standing asks) e (comb_view new state kept)) seen
    (subst (λ (rest : List Ask). HasFailedToMake (asked_round (standing_of old state) asks) fault (comb_view old state rest) (comb_view new state kept) × FailedRoundCovers (asked_round (standing_of old state) asks) (comb_view old state rest) (comb_view new state kept)) (sym none)
    (subst (λ (l : List Ask). HasFailedToMake (asked_round (standing_of old state) asks) fault (comb_view old state []) (comb_view new state l) × FailedRoundCovers (asked_round (standing_of old state) asks) (comb_view old state []) (comb_view new state l)) (sym same)
    (failed_to_make kind old new state asks lines fault is fails, failed_safely kind old new state asks lines is safely)))

-- all requests are kept behind a failed round
pub kept_all : {E : Type 0} (cleared slice items asks kept : List Ask) (result : Result Unit E) → cleared ≡ [] → slice ≡ items → asks ≡ items → length slice ≤ 16 → (IsOk result ↔ (length cleared + length slice ≤ 16)) → OnOk result (kept ≡ cleared ++ slice) → kept ≡ asks
kept_all cleared slice items asks kept (Ok value) empty same was few fits is = is ∙ (ap (λ (l : List Ask). l ++ slice) empty ∙ (same ∙ sym was))
kept_all cleared slice items asks kept (Err error) empty same was few fits is = absurd (cc (fits.1 (omega (arith, few, ap length empty))))
