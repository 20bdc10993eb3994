-- A store before its index word: the images stay what they were, and in the end the spare record is there.
use Rattle.std.proofs.Common.{◌≡◌, ℕ, ◌+◌, ◌-◌, ◌%◌, ◌<◌, ◌≤◌, ◌⊎◌, List, [], ◌∷◌, ◌++◌, length, reverse, ap, subst, sym, refl, ◌∙◌, inl, inr, arith}
use Rattle.std.specs.List.{All}
use Rattle.std.proofs.lemmas.List.{append_assoc}
use Rattle.std.proofs.lemmas.List.Elements.{All-head, All-tail, All-nil, All-cons, All-append}
use Rattle.pb_pmem.specs.declared.line.Line.{Line}
use Rattle.pb_pmem.specs.declared.line.TheConstants.{LINES}
use Rattle.pb_pmem.specs.declared.log.LogOp.{LogOp}
use Rattle.pb_pmem.specs.declared.log.LogOp.TheVariants.{Whole, Word, Back, Fence, Sync}
use Rattle.pb_pmem.specs.Contents.{applied, contents}
use Rattle.pb_pmem.specs.Lines.{line_at, word_of}
use Rattle.pb_pmem.specs.Past.{Words, DiffersBy, Bounds}
use Rattle.pb_pmem.proofs.Bounds.{Bounds-write, Bounds-Back, Bounds-Fence, Bounds-weaker}
use Rattle.pb_pmem.proofs.Lines.{contents-none, contents-first}
use Rattle.pb_pmem.proofs.Words.{reverse-cons, line_at-applied_other}
use Rattle.pb_object.specs.History.{Round, after_round}
use Rattle.pb_object.specs.Object.{State, Registers, Items, Rising, Waits}
use Rattle.pb_object.specs.ObjectLines.{kind_of}
use Rattle.pb_object.specs.Standing.{Standing, side_count, rounds_of}
use Rattle.pb_layout.specs.Shape.{IsHeader}
use Rattle.pb_layout.specs.Header.{record_length}
use Rattle.pb_layout.specs.declared.header.Header.{Header}
use Rattle.pb_object.specs.declared.kind.Kind.TheVariants.{Queue}
use Rattle.pb_layout_laws.proofs.Rounds.{after_entries-kind_of}
use Rattle.pb_layout.specs.LogHistory.{recorded_by_op, history_after}
use Rattle.pb_layout.specs.Region.{cell_place}
use Rattle.pb_layout.specs.Represents.{header_for, CellsRepresent}
use Rattle.pb_layout.specs.Recovered.{Represents}
use Rattle.pb_layout.proofs.LogHistories.{history_after-none, history_after-first}
use Rattle.pb_pmem.specs.Operations.{writes_from}
use Rattle.pb_layout.specs.RegionOps.{fenced_ops, spare_place}
use Rattle.pb_layout.specs.Stages.{IsLineFrom, IsStagingOp, StagesRecord}
use Rattle.pb_layout.specs.InUse.{IsInUse}
use Rattle.pb_layout_laws.proofs.Entering.{Implies}
use Rattle.pb_layout_laws.proofs.Frame.{represents_by_words}
use Rattle.pb_layout_laws.proofs.Geometry.{spare_not_in_use, cell_below, record_after_cells, parity-lt}
use Rattle.pb_layout.proofs.OneRecovery.{parts, record_fits}
use Rattle.pb_layout.proofs.SparseWrites.{quiet_writes}
use Rattle.pb_layout_laws.proofs.Images.{image_of, length-image_of, word_of-image_of, line_at-image_of, line_in-same}
use Rattle.pb_pmem.proofs.WrittenLines.{line_at-writes_here}

-- Operations that stage a record, and don't wait

-- writes, and a `Back` and a fence after them
pub quiet_fenced : (first count : ℕ) (writes : List LogOp) → All (IsStagingOp first count) writes → All (IsStagingOp first count) (fenced_ops writes first count)
quiet_fenced first count writes quiet =
    All-append (IsStagingOp first count) writes (Back first count ∷ Fence ∷ []) quiet (All-cons (IsStagingOp first count) (Back first count) (Fence ∷ []) tt (All-cons (IsStagingOp first count) Fence [] tt (All-nil (IsStagingOp first count))))

quiet_contents : (first count : ℕ) (a : List Line) (op : LogOp) (line : ℕ) → IsStagingOp first count op → ¬ IsLineFrom first count line → line_at (applied op a) line ≡ line_at a line
quiet_contents first count a (Whole at to) line quiet out = line_at-applied_other (Whole at to) a line (λ e. out (subst (IsLineFrom first count) (cc) quiet))
quiet_contents first count a (Word at word to) line quiet out = absurd quiet
quiet_contents first count a (Back at many) line quiet out = refl
quiet_contents first count a Fence line quiet out = refl
quiet_contents first count a Sync line quiet out = absurd quiet

-- other lines stay as they are
pub quiet_lines : (first count : ℕ) (a : List Line) (ops : List LogOp) (line : ℕ) → All (IsStagingOp first count) ops → ¬ IsLineFrom first count line → line_at (contents a ops) line ≡ line_at a line
quiet_lines first count a [] line quiet out = ap (λ (l : List Line). line_at l line) (contents-none a)
quiet_lines first count a (op ∷ ops) line quiet out =
    ap (λ (l : List Line). line_at l line) (contents-first a op ops) ∙ (quiet_lines first count (applied op a) ops line (All-tail (IsStagingOp first count) op ops quiet) out ∙ quiet_contents first count a op line (All-head (IsStagingOp first count) op ops quiet) out)

-- writes of all lines stage a record
pub all_lines_stage : (first : ℕ) (lines before : List Line) → first + length lines ≤ length before → StagesRecord first lines before (writes_from first lines)
all_lines_stage first lines before fits = record {
  all = quiet_writes first (length lines) first lines (omega arith) (omega arith);
  there = λ place inside. line_at-writes_here before first lines place inside fits;
}

-- quiet operations record no round, and hold no sync
pub quiet_history : (first count : ℕ) (lines : List Line) (ops : List LogOp) → All (IsStagingOp first count) ops → history_after lines [] ops ≡ []
quiet_history first count lines [] quiet = history_after-none lines []
quiet_history first count lines (op ∷ ops) quiet =
    history_after-first lines [] op ops ∙ go op (All-head (IsStagingOp first count) op ops quiet) (λ l. quiet_history first count l ops (All-tail (IsStagingOp first count) op ops quiet))
  where
    go : (o : LogOp) → IsStagingOp first count o → ((l : List Line) → history_after l [] ops ≡ []) → history_after (applied o lines) (recorded_by_op o lines []) ops ≡ []
    go (Whole line to) q rest = rest (applied (Whole line to) lines)
    go (Word line word to) q rest = absurd q
    go (Back at many) q rest = rest lines
    go Fence q rest = rest lines
    go Sync q rest = absurd q

-- a property of images that goes by lines outside a piece
abbrev pub KeepsOutside : ℕ → ℕ → (Words → Type 0) → Type 0
KeepsOutside first count P =
    (before image : Words) → P before → ((line word : ℕ) → (image line word ≡ before line word) ⊎ IsLineFrom first count line) → P image

quiet_differs : (first count line : ℕ) (to : Line) (before image : Words) → IsLineFrom first count line → DiffersBy (Whole line to) before image → (l word : ℕ) → (image l word ≡ before l word) ⊎ IsLineFrom first count l
quiet_differs first count line to before image inside differs l word =
    elim (differs l word) [ inl same ↦ inl same | inr written ↦ inr (subst (λ (n : ℕ). IsLineFrom first count n) written inside) ]

quiet_op : {base : List Line} {past : List LogOp} (first count : ℕ) (A S : Words → Type 0) → Implies S A → KeepsOutside first count A → KeepsOutside first count S → (op : LogOp) → IsStagingOp first count op → Bounds base past A A S → Bounds base (op ∷ past) A A S
quiet_op first count A S inside keeps_all keeps_held (Whole line to) quiet bounds =
    Bounds-write (Whole line to) line A A S refl bounds (λ before image a differs. keeps_all before image a (quiet_differs first count line to before image quiet differs)) (λ before image s differs. keeps_held before image s (quiet_differs first count line to before image quiet differs)) (λ image a. a) (λ image a. a)
quiet_op first count A S inside keeps_all keeps_held (Word line word to) quiet bounds = absurd quiet
quiet_op first count A S inside keeps_all keeps_held (Back at many) quiet bounds = Bounds-Back at many S bounds (λ image s given. s)
quiet_op first count A S inside keeps_all keeps_held Fence quiet bounds = Bounds-weaker A A S (Bounds-Fence bounds) (λ image a. a) inside (λ image s. s)
quiet_op first count A S inside keeps_all keeps_held Sync quiet bounds = absurd quiet

-- quiet operations keep such properties
pub quiet_bounds : {base : List Line} (past : List LogOp) (first count : ℕ) (A S : Words → Type 0) → Implies S A → KeepsOutside first count A → KeepsOutside first count S → (ops : List LogOp) → All (IsStagingOp first count) ops → Bounds base past A A S → Bounds base (reverse ops ++ past) A A S
quiet_bounds past first count A S inside keeps_all keeps_held [] quiet bounds = bounds
quiet_bounds {base} past first count A S inside keeps_all keeps_held (op ∷ ops) quiet bounds =
    subst (λ (l : List LogOp). Bounds base l A A S) (sym (ap (λ (l : List LogOp). l ++ past) (reverse-cons op ops) ∙ append_assoc (reverse ops) (op ∷ []) past)) (quiet_bounds (op ∷ past) first count A S inside keeps_all keeps_held ops (All-tail (IsStagingOp first count) op ops quiet) (quiet_op first count A S inside keeps_all keeps_held op (All-head (IsStagingOp first count) op ops quiet) bounds))

-- What a store keeps while it stages

-- an image that represents s
abbrev pub IsOld : List Line → Standing → Words → Type 0
IsOld base s words = Represents (image_of (length base) words) s

-- an image that has the cells of the next state
abbrev pub HasNextCells : List Line → Standing → Round → Words → Type 0
HasNextCells base s round words = CellsRepresent (image_of (length base) words) (header_for s) (after_round s round).state

abbrev pub place_of : Standing → Round → ℕ
place_of s round = spare_place (header_for s) round.side (rounds_of s round.side)

-- writes to the spare record change no image's standing
pub keeps_old : (base : List Line) (s : Standing) (round : Round) (count : ℕ) → count ≡ record_length (header_for s) → KeepsOutside (place_of s round) count (IsOld base s)
keeps_old base s round count long before image stands differs =
    represents_by_words (image_of (length base) before) (image_of (length base) image) s (length-image_of (length base) before ∙ sym (length-image_of (length base) image)) same stands
  where
    same : (line word : ℕ) → IsInUse s line → line < length (image_of (length base) before) → word < 8 → word_of (image_of (length base) before) line word ≡ word_of (image_of (length base) image) line word
    same line word used inside few =
        let fits : line < length base = omega (arith, length-image_of (length base) before) in
        elim (differs line word) [
          | inl e ↦ word_of-image_of (length base) before line word fits few ∙ (sym e ∙ sym (word_of-image_of (length base) image line word fits few))
          | inr there ↦ absurd (spare_not_in_use s round.side (line - place_of s round) (parts (image_of (length base) before) s stands).valid (parts (image_of (length base) before) s stands).kind (omega (arith, there.0, there.1)) (subst (λ (n : ℕ). IsInUse s n) (omega (arith, there.0)) used))
        ]

-- and neither a cell
line_kept : (base : List Line) (first count line : ℕ) (before image : Words) → line < first → line < length base → ((l word : ℕ) → (image l word ≡ before l word) ⊎ IsLineFrom first count l) → line_at (image_of (length base) image) line ≡ line_at (image_of (length base) before) line
line_kept base first count line before image low inside differs =
    line_at-image_of (length base) image line inside ∙ (line_in-same image before line (λ word few. elim (differs line word) [ inl e ↦ e | inr there ↦ absurd (omega (arith, there.0)) ]) ∙ sym (line_at-image_of (length base) before line inside))

cells_kept : (base : List Line) (head : Header) (first count : ℕ) (state : State) (before image : Words) → ((position : ℕ) → kind_of state ≡ Queue → (cell_place head position < first) × (cell_place head position < length base)) → ((l word : ℕ) → (image l word ≡ before l word) ⊎ IsLineFrom first count l) → CellsRepresent (image_of (length base) before) head state → CellsRepresent (image_of (length base) image) head state
cells_kept base head first count (Registers registers) before image low differs hold = tt
cells_kept base head first count (Items size items) before image low differs hold = tt
cells_kept base head first count (Rising size items) before image low differs hold = tt
cells_kept base head first count (Waits size queue) before image low differs hold =
    λ place inside. line_kept base first count (cell_place head (queue.taken + place)) before image (low (queue.taken + place) refl).0 (low (queue.taken + place) refl).1 differs ∙ hold place inside

pub keeps_cells : (base : List Line) (s : Standing) (round : Round) (count : ℕ) → length base ≡ LINES → IsHeader (header_for s) → kind_of s.state ≡ s.kind → round.side < side_count s.kind → KeepsOutside (place_of s round) count (HasNextCells base s round)
keeps_cells base s round count long valid kind here before image hold differs =
    cells_kept base (header_for s) (place_of s round) count (after_round s round).state before image low differs hold
  where
    low : (position : ℕ) → kind_of (after_round s round).state ≡ Queue → (cell_place (header_for s) position < place_of s round) × (cell_place (header_for s) position < length base)
    low position queue =
        let is_queue : s.kind ≡ Queue = sym kind ∙ (sym (after_entries-kind_of s round.entries) ∙ queue) in
        let below = cell_below (header_for s) position valid is_queue in
        let after = record_after_cells (header_for s) round.side ((rounds_of s round.side + 1) % 2) in
        let fits = record_fits (header_for s) round.side ((rounds_of s round.side + 1) % 2) valid here (parity-lt (rounds_of s round.side + 1)) in
        (omega arith, omega (arith, long))
