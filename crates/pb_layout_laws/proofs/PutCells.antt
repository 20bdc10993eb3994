-- Putting the cells of a queue's next positions.
use Rattle.std.proofs.Common.{◌≡◌, ◌≢◌, ℕ, ◌+◌, ◌*◌, ◌/◌, ◌%◌, ◌<◌, ◌≤◌, Bool, true, false, ◌||◌, ◌&&◌, ◌==◌, not, List, [], ◌∷◌, ◌++◌, All, length, reverse, Some, ap, sym, refl, ◌∙◌, inl, inr, arith}
use Rattle.std.proofs.Math.Nat.{mul-le-mul_left}
use Rattle.std.proofs.lemmas.Bool.{cases_lt}
use Rattle.std.proofs.lemmas.Bool.Decides.{nat_tests}
use Rattle.std.proofs.lemmas.List.{reverse-append, get_or-set_same}
use Rattle.std.proofs.lemmas.List.Elements.{All-nil, All-cons}
use Rattle.pb_pmem.specs.declared.line.Line.{Line}
use Rattle.pb_pmem.specs.declared.line.TheConstants.{LINES}
use Rattle.pb_pmem.specs.declared.log.LogOp.{LogOp}
use Rattle.pb_pmem.specs.declared.log.LogOp.TheVariants.{Whole, Back}
use Rattle.pb_pmem.specs.Contents.{applied, contents}
use Rattle.pb_pmem.specs.Crash.{is_back_of}
use Rattle.pb_pmem.specs.Lines.{line_at, zero_line}
use Rattle.pb_pmem.specs.Operations.{IsFailedPrefix}
use Rattle.pb_pmem.specs.Past.{is_clean}
use Rattle.pb_pmem.proofs.Lines.{length-contents, contents-append, contents-none, contents-first}
use Rattle.pb_pmem.proofs.Words.{line_at-applied_other}
use Rattle.pb_object.specs.declared.kind.Kind.TheVariants.{Queue}
use Rattle.pb_object.specs.History.{Round, after_round}
use Rattle.pb_object.specs.Object.{State, Registers, Items, Rising, Waits}
use Rattle.pb_object.specs.ObjectLines.{kind_of, size_of}
use Rattle.pb_object.specs.Standing.{Standing, rounds_of}
use Rattle.pb_layout.specs.declared.header.Header.{Header}
use Rattle.pb_layout.specs.Exits.{IsExit}
use Rattle.pb_layout.specs.Shape.{IsHeader}
use Rattle.pb_layout.specs.InUse.{IsCellInUse, IsInUse, IsOutside}
use Rattle.pb_layout.specs.NextRecord.{next_position, AddedCellsRepresent, AreBacked, HasCells}
use Rattle.pb_layout.specs.PutCell.{put_cell_ops, IsFreePosition, HasCell, HaveCells}
use Rattle.pb_layout.specs.Ready.{IsReady}
use Rattle.pb_layout.specs.Recovered.{Represents}
use Rattle.pb_layout.specs.Region.{cell_place}
use Rattle.pb_layout.specs.Represents.{header_for}
use Rattle.pb_layout.proofs.OneRecovery.{parts}
use Rattle.pb_layout_laws.proofs.Geometry.{cell_after, cell_offset, cell_below, record_after_cells}
use Rattle.pb_layout_laws.proofs.ReadyWithOne.{only_member}
use Rattle.pb_layout_laws.proofs.UnusedLines.{writing_unused, writing_unused_failing}

-- A free position's cell is not in use

-- numbers that are less than n apart have other remainders
remainders_apart : (n p q : ℕ) → 0 < n → q < p → p < q + n → p % n ≢ q % n
remainders_apart n p q some above near same =
    elim (cases_lt (q / n) (p / n)) [
      | inl more ↦ let step : n * (q / n + 1) ≤ n * (p / n) = mul-le-mul_left n (omega (arith, more)) in omega (arith, step, same)
      | inr less ↦ let step : n * (p / n) ≤ n * (q / n) = mul-le-mul_left n less in omega (arith, step, same)
    ]

not_waiting : (s : Standing) (state : State) (position : ℕ) → IsHeader (header_for s) → size_of state ≡ s.size → IsFreePosition state position → ¬ IsCellInUse s state (cell_place (header_for s) position)
not_waiting s (Registers registers) position valid size free = absurd free
not_waiting s (Items n items) position valid size free = absurd free
not_waiting s (Rising n items) position valid size free = absurd free
not_waiting s (Waits n queue) position valid size free =
    λ cell. remainders_apart s.size position (queue.taken + cell.0) (omega (arith, valid.some_size)) (omega (arith, free.0, cell.1)) (omega (arith, free.1, size)) (omega (arith, cell.2))

free_is_queue : (state : State) (position : ℕ) → IsFreePosition state position → kind_of state ≡ Queue
free_is_queue (Registers registers) position free = absurd free
free_is_queue (Items size items) position free = absurd free
free_is_queue (Rising size items) position free = absurd free
free_is_queue (Waits size queue) position free = refl

pub free_unused : (image : List Line) (s : Standing) (position : ℕ) → Represents image s → IsFreePosition s.state position → ¬ IsInUse s (cell_place (header_for s) position)
free_unused image s position stands free = go
  where
    queue : s.kind ≡ Queue
    queue = sym (parts image s stands).kind ∙ free_is_queue s.state position free

    go : ¬ IsInUse s (cell_place (header_for s) position)
    go (inl front) = omega (arith, front, cell_after (header_for s) position)
    go (inr (inl line)) =
        omega (arith, line.at, record_after_cells (header_for s) line.side (rounds_of s line.side % 2), cell_below (header_for s) position (parts image s stands).valid queue)
    go (inr (inr cell)) = not_waiting s s.state position (parts image s stands).valid (parts image s stands).size free cell

put_outside : (image : List Line) (s : Standing) (position : ℕ) (line : Line) → Represents image s → IsFreePosition s.state position → All (IsOutside s) (put_cell_ops (header_for s) position line)
put_outside image s position line stands free =
    All-cons (IsOutside s) (Whole (cell_place (header_for s) position) line) (Back (cell_place (header_for s) position) 1 ∷ []) (free_unused image s position stands free) (All-cons (IsOutside s) (Back (cell_place (header_for s) position) 1) [] tt (All-nil (IsOutside s)))

pub putting_a_cell : (base : List Line) (log : List LogOp) (s : Standing) (position : ℕ) (line : Line) → IsReady base log (Some s ∷ []) → IsFreePosition s.state position → IsExit base log (put_cell_ops (header_for s) position line) s [] (Some s ∷ [])
putting_a_cell base log s position line ready free =
    writing_unused base log (put_cell_ops (header_for s) position line) s ready (put_outside (contents base log) s position line (only_member (contents base log) s ready.holds) free)

pub putting_a_cell_failing : (base : List Line) (log ops : List LogOp) (s : Standing) (position : ℕ) (line : Line) → IsReady base log (Some s ∷ []) → IsFreePosition s.state position → IsFailedPrefix (put_cell_ops (header_for s) position line) ops → IsExit base log ops s [] (Some s ∷ [])
putting_a_cell_failing base log ops s position line ready free cut =
    writing_unused_failing base log (put_cell_ops (header_for s) position line) ops s ready (put_outside (contents base log) s position line (only_member (contents base log) s ready.holds) free) cut

-- What a put cell is

contents-put : (base : List Line) (log : List LogOp) (head : Header) (position : ℕ) (line : Line) → contents base (log ++ put_cell_ops head position line) ≡ applied (Whole (cell_place head position) line) (contents base log)
contents-put base log head position line =
    let here = contents base log in
    let op = Whole (cell_place head position) line in
    let back = Back (cell_place head position) 1 in
    contents-append base log (op ∷ back ∷ []) ∙ (contents-first here op (back ∷ []) ∙ (contents-first (applied op here) back [] ∙ contents-none (applied op here)))

past_put : (log : List LogOp) (head : Header) (position : ℕ) (line : Line) → reverse (log ++ put_cell_ops head position line) ≡ Back (cell_place head position) 1 ∷ Whole (cell_place head position) line ∷ reverse log
past_put log head position line = reverse-append log (put_cell_ops head position line)

clean_back : (line : ℕ) (past : List LogOp) → is_clean line (Back line 1 ∷ past) ≡ true
unfolding is_clean
clean_back line past =
    let back : is_back_of line (Back line 1) ≡ true = grind (arith, nat_tests) in
    ap (λ (b : Bool). b || (true && is_clean line past)) back

clean_other : (line at count : ℕ) (to : Line) (past : List LogOp) → at ≢ line → is_clean line past ≡ true → is_clean line (Back at count ∷ Whole at to ∷ past) ≡ true
unfolding is_clean
clean_other line at count to past apart clean = go (is_back_of line (Back at count))
  where
    other : (at == line) ≡ false
    other = grind (arith, nat_tests)

    go : (b : Bool) → (b || (true && (false || (not (at == line) && is_clean line past)))) ≡ true
    go true = refl
    go false = rw (other, clean) refl

pub put_cell_is_there : (base : List Line) (log : List LogOp) (head : Header) (position : ℕ) (line : Line) → IsHeader head → length base ≡ LINES → HasCell base (log ++ put_cell_ops head position line) head position line
put_cell_is_there base log head position line valid long = record {
  there = ap (λ (l : List Line). line_at l (cell_place head position)) (contents-put base log head position line) ∙ get_or-set_same (contents base log) (cell_place head position) line zero_line (omega (arith, length-contents base log, long, cell_offset head position valid, valid.small_size));
  clean = ap (is_clean (cell_place head position)) (past_put log head position line) ∙ clean_back (cell_place head position) (Whole (cell_place head position) line ∷ reverse log);
}

pub put_cells_stay : (base : List Line) (log : List LogOp) (head : Header) (position other : ℕ) (line to : Line) → HasCell base log head position line → cell_place head other ≢ cell_place head position → HasCell base (log ++ put_cell_ops head other to) head position line
put_cells_stay base log head position other line to has apart = record {
  there = ap (λ (l : List Line). line_at l (cell_place head position)) (contents-put base log head other to) ∙ (line_at-applied_other (Whole (cell_place head other) to) (contents base log) (cell_place head position) (λ e. apart (cc)) ∙ has.there);
  clean = ap (is_clean (cell_place head position)) (past_put log head other to) ∙ clean_other (cell_place head position) (cell_place head other) 1 to (reverse log) apart has.clean;
}

-- The cells of a round

added_there : (base : List Line) (log : List LogOp) (head : Header) (from : ℕ) (state : State) → HaveCells base log head from state → AddedCellsRepresent (contents base log) head from state
added_there base log head from (Registers registers) have = tt
added_there base log head from (Items size items) have = tt
added_there base log head from (Rising size items) have = tt
added_there base log head from (Waits size queue) have = λ place inside added. (have place inside added).there

added_clean : (base : List Line) (log : List LogOp) (head : Header) (from : ℕ) (state : State) → HaveCells base log head from state → AreBacked log head from state
added_clean base log head from (Registers registers) have = tt
added_clean base log head from (Items size items) have = tt
added_clean base log head from (Rising size items) have = tt
added_clean base log head from (Waits size queue) have = λ place inside added. (have place inside added).clean

pub cells_of_a_round : (base : List Line) (log : List LogOp) (s : Standing) (round : Round) → HaveCells base log (header_for s) (next_position s.state) (after_round s round).state → HasCells base log s round
cells_of_a_round base log s round have = record {
  hold = added_there base log (header_for s) (next_position s.state) (after_round s round).state have;
  backed = added_clean base log (header_for s) (next_position s.state) (after_round s round).state have;
}
