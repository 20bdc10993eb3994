-- The cells of a queue that were read one after the other.
use Rattle.std.proofs.Common.{◌≡◌, ℕ, ◌+◌, ◌-◌, ◌<◌, List, [], ◌∷◌, ◌++◌, IfSome, length, slice_index, sym, ap, ◌∙◌, subst, inl, inr, arith, length-append}
use Rattle.std.proofs.Math.ListN.{get_or-append}
use Rattle.std.proofs.lemmas.Bool.{cases_lt}
use Rattle.std.proofs.lemmas.List.{get_or_push}
use Rattle.pb_pmem.specs.declared.line.Line.{Line}
use Rattle.pb_pmem.specs.Lines.{line_at}
use Rattle.pb_object.specs.Object.{Waits}
use Rattle.pb_object.specs.Queue.{Waiting, tail_of}
use Rattle.pb_layout.specs.Cell.{cell_line_of, IsCell}
use Rattle.pb_layout.specs.Region.{cell_place}
use Rattle.pb_layout.specs.Represents.{CellsRepresent}
use Rattle.pb_layout.specs.declared.header.Header.{Header}
use Rattle.pb_pair.specs.View.{PairView}
use Rattle.pb_pair.proofs.Opened.{told_both}
use Rattle.pb_queue.specs.Items.{ItemsView, with_item}
use Rattle.pb_queue.specs.Recovery.{HasReadCells, HasBadCell}

-- one more item lies in the cell of its position
pub cells-with_item : (image : List Line) (head : Header) (size : ℕ) (queue : Waiting) (position value : ℕ) → CellsRepresent image head (Waits size queue) → tail_of queue ≡ position → line_at image (cell_place head position) ≡ cell_line_of position value → CellsRepresent image head (Waits size (with_item queue value))
cells-with_item image head size queue position value hold tail here place inside =
    elim (cases_lt place (length queue.items)) [
      | inl before ↦ hold place before ∙ ap (cell_line_of (queue.taken + place)) (sym (get_or-append queue.items (value ∷ []) 0 place before))
      | inr last ↦
          let same : length queue.items ≡ place = omega (arith, length-append queue.items (value ∷ [])) in
          let at : queue.taken + place ≡ position = omega (arith, tail) in
          let item : slice_index (queue.items ++ value ∷ []) place ≡ value = get_or_push queue.items value 0 place same in
          ap (λ (n : ℕ). line_at image (cell_place head n)) at ∙ (here ∙ (λ i. cell_line_of (sym at i) (sym item i)))
    ]

-- a cell was read of what the device tells
abbrev pub WasRead : PairView → ℕ → Line → Type 0
WasRead pair position line = IfSome pair.device.now (λ lines. line ≡ line_at lines (cell_place pair.head position))

pub cells_more : (pair : PairView) (old items more : ItemsView) (position value : ℕ) (line : Line) → HasReadCells pair position old items → WasRead pair position line → line ≡ cell_line_of position value → more ≡ record items { next = with_item items.next value } → HasReadCells pair (position + 1) old more
cells_more pair old items more position value line have was is appended =
    subst (HasReadCells pair (position + 1) old) (sym appended) (record {
      size = have.size;
      sure = have.sure;
      taken = have.taken;
      tail_is = omega (arith, have.tail_is, length-append items.next.items (value ∷ []));
      cells = told_both pair.device.now (λ image. CellsRepresent image pair.head (Waits pair.head.size items.next)) (λ lines. line ≡ line_at lines (cell_place pair.head position)) (λ image. CellsRepresent image pair.head (Waits pair.head.size (with_item items.next value)))
          (λ image hold read. cells-with_item image pair.head pair.head.size items.next position value hold have.tail_is (sym read ∙ is)) have.cells was;
    })

-- the cells before one that is none are there: it is the first
pub bad_cell_is : (pair : PairView) (old items : ItemsView) (position tail at : ℕ) (line : Line) → HasReadCells pair position old items → position < tail → WasRead pair position line → ¬ IsCell position line → at ≡ cell_place pair.head position → IfSome pair.device.now (HasBadCell pair.head old.next.taken (tail - old.next.taken) at)
bad_cell_is pair old items position tail at line have below was none is =
    told_both pair.device.now (λ image. CellsRepresent image pair.head (Waits pair.head.size items.next)) (λ lines. line ≡ line_at lines (cell_place pair.head position)) (HasBadCell pair.head old.next.taken (tail - old.next.taken) at) bad have.cells was
  where
    place : ℕ
    place = length items.next.items

    here : old.next.taken + place ≡ position
    here = omega (arith, have.tail_is, have.taken)

    bad : (image : List Line) → CellsRepresent image pair.head (Waits pair.head.size items.next) → line ≡ line_at image (cell_place pair.head position) → HasBadCell pair.head old.next.taken (tail - old.next.taken) at image
    bad image hold read = record {
      place = place;
      at = is ∙ ap (cell_place pair.head) (sym here);
      first = record {
        within = omega (arith, here, below);
        before = λ earlier before.
            subst (λ (n : ℕ). IsCell (n + earlier) (line_at image (cell_place pair.head (n + earlier)))) have.taken (slice_index items.next.items earlier, hold earlier before);
        refused = λ cell. none (subst (IsCell position) (sym read) (subst (λ (n : ℕ). IsCell n (line_at image (cell_place pair.head n))) here cell));
      };
    }
