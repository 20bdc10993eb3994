-- What the cells of a round leave: the standing alone, and each item in its cell.
use Rattle.std.proofs.Common.{◌≡◌, ◌≢◌, ℕ, zero, suc, ◌+◌, ◌<◌, ◌≤◌, Some, List, [], ◌∷◌, ◌++◌, length, slice_index, sym, ap, subst, ◌∙◌, arith}
use Rattle.std.specs.List.{All}
use Rattle.std.proofs.lemmas.List.{append-nil, append_assoc}
use Rattle.std.proofs.lemmas.List.Elements.{All-nil, All-cons}
use Rattle.pb_pmem.specs.declared.line.Line.{Line}
use Rattle.pb_pmem.specs.declared.line.TheConstants.{LINES}
use Rattle.pb_pmem.specs.declared.log.LogOp.{LogOp}
use Rattle.pb_pmem.specs.declared.log.LogOp.TheVariants.{Whole, Back}
use Rattle.pb_pmem.specs.Contents.{contents}
use Rattle.pb_pmem.specs.Operations.{IsFailedPrefix}
use Rattle.pb_pmem.proofs.Lines.{length-contents}
use Rattle.pb_object.specs.Standing.{Standing}
use Rattle.pb_layout.specs.Cell.{cell_line_of}
use Rattle.pb_layout.specs.Exits.{IsExit}
use Rattle.pb_layout.specs.InUse.{IsOutside}
use Rattle.pb_layout.specs.PutCell.{IsFreePosition, HasCell, put_ops}
use Rattle.pb_layout.specs.Ready.{IsReady}
use Rattle.pb_layout.specs.Recovered.{Represents}
use Rattle.pb_layout.specs.Region.{cell_place}
use Rattle.pb_layout.specs.Represents.{header_for}
use Rattle.pb_layout.specs.Shape.{IsHeader}
use Rattle.pb_layout.specs.declared.header.Header.{Header}
use Rattle.pb_layout_laws.proofs.PutCells.{free_unused, put_cell_is_there, put_cells_stay}
use Rattle.pb_layout_laws.proofs.ReadyWithOne.{only_member}
use Rattle.pb_layout_laws.proofs.UnusedLines.{writing_unused, writing_unused_failing}
use Rattle.pb_engine.specs.Operations.{puts_from}
use Rattle.pb_queue.proofs.PutCells.{puts_from-none, puts_from-more}
use Rattle.pb_queue.proofs.RingLemmas.{places_apart}

-- positions from one on are free, so many
abbrev pub AreFree : Standing → ℕ → ℕ → Type 0
AreFree s from count = (position : ℕ) → from ≤ position → position < from + count → IsFreePosition s.state position

-- Their cells are not in use

puts_outside : (image : List Line) (s : Standing) (from : ℕ) (items : List ℕ) → Represents image s → AreFree s from (length items) → All (IsOutside s) (puts_from (header_for s) from items)
puts_outside image s from [] stands free = subst (All (IsOutside s)) (sym (puts_from-none (header_for s) from)) (All-nil (IsOutside s))
puts_outside image s from (item ∷ items) stands free =
    let place = cell_place (header_for s) from in
    let line = cell_line_of from item in
    let rest = puts_from (header_for s) (suc from) items in
    subst (All (IsOutside s)) (sym (puts_from-more (header_for s) from item items))
    (All-cons (IsOutside s) (Whole place line) (Back place 1 ∷ rest) (free_unused image s from stands (free from (omega arith) (omega arith)))
    (All-cons (IsOutside s) (Back place 1) rest tt
    (puts_outside image s (suc from) items stands (λ position after below. free position (omega (arith, after)) (omega (arith, below))))))

pub putting_cells : (base : List Line) (log : List LogOp) (s : Standing) (from : ℕ) (items : List ℕ) → IsReady base log (Some s ∷ []) → AreFree s from (length items) → IsExit base log (puts_from (header_for s) from items) s [] (Some s ∷ [])
putting_cells base log s from items ready free =
    writing_unused base log (puts_from (header_for s) from items) s ready (puts_outside (contents base log) s from items (only_member (contents base log) s ready.holds) free)

pub putting_cells_failing : (base : List Line) (log ops : List LogOp) (s : Standing) (from : ℕ) (items : List ℕ) → IsReady base log (Some s ∷ []) → AreFree s from (length items) → IsFailedPrefix (puts_from (header_for s) from items) ops → IsExit base log ops s [] (Some s ∷ [])
putting_cells_failing base log ops s from items ready free cut =
    writing_unused_failing base log (puts_from (header_for s) from items) ops s ready (puts_outside (contents base log) s from items (only_member (contents base log) s ready.holds) free) cut

pub ready_long : (base : List Line) (log : List LogOp) (s : Standing) → IsReady base log (Some s ∷ []) → length base ≡ LINES
ready_long base log s ready = sym (length-contents base log) ∙ (only_member (contents base log) s ready.holds).whole

-- Each item is in its cell

-- a cell that is there stays while those of later positions are put
cell_stays : (base : List Line) (log : List LogOp) (head : Header) (position : ℕ) (line : Line) (from : ℕ) (items : List ℕ) → position < from → from + length items ≤ position + head.size → HasCell base log head position line → HasCell base (log ++ puts_from head from items) head position line
cell_stays base log head position line from [] after near has =
    subst (λ (l : List LogOp). HasCell base l head position line) (sym (ap (λ (ops : List LogOp). log ++ ops) (puts_from-none head from) ∙ append-nil log)) has
cell_stays base log head position line from (item ∷ items) after near has =
    let apart : cell_place head from ≢ cell_place head position = λ same. places_apart head.size from position after (omega (arith, near)) (omega (arith, same)) in
    subst (λ (l : List LogOp). HasCell base l head position line) (append_assoc log (put_ops head from item) (puts_from head (suc from) items) ∙ ap (λ (ops : List LogOp). log ++ ops) (sym (puts_from-more head from item items)))
    (cell_stays base (log ++ put_ops head from item) head position line (suc from) items (omega (arith, after)) (omega (arith, near))
    (put_cells_stay base log head position from line (cell_line_of from item) has apart))

pub cells_there : (base : List Line) (log : List LogOp) (head : Header) (from : ℕ) (items : List ℕ) (place : ℕ) → IsHeader head → length base ≡ LINES → length items ≤ head.size → place < length items → HasCell base (log ++ puts_from head from items) head (from + place) (cell_line_of (from + place) (slice_index items place))
cells_there base log head from [] place valid long few inside = absurd (omega (arith, inside))
cells_there base log head from (item ∷ items) zero valid long few inside =
    let at : from ≡ from + 0 = omega arith in
    subst (λ (n : ℕ). HasCell base (log ++ puts_from head from (item ∷ items)) head n (cell_line_of n item)) at
    (subst (λ (l : List LogOp). HasCell base l head from (cell_line_of from item)) (append_assoc log (put_ops head from item) (puts_from head (suc from) items) ∙ ap (λ (ops : List LogOp). log ++ ops) (sym (puts_from-more head from item items)))
    (cell_stays base (log ++ put_ops head from item) head from (cell_line_of from item) (suc from) items (omega arith) (omega (arith, few)) (put_cell_is_there base log head from (cell_line_of from item) valid long)))
cells_there base log head from (item ∷ items) (suc place) valid long few inside =
    let at : suc from + place ≡ from + suc place = omega arith in
    subst (λ (n : ℕ). HasCell base (log ++ puts_from head from (item ∷ items)) head n (cell_line_of n (slice_index items place))) at
    (subst (λ (l : List LogOp). HasCell base l head (suc from + place) (cell_line_of (suc from + place) (slice_index items place))) (append_assoc log (put_ops head from item) (puts_from head (suc from) items) ∙ ap (λ (ops : List LogOp). log ++ ops) (sym (puts_from-more head from item items)))
    (cells_there base (log ++ put_ops head from item) head (suc from) items place valid long (omega (arith, few)) (omega (arith, inside))))
