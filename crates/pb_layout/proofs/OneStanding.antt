-- The parts of a region say one standing at most.
use Rattle.std.proofs.Common.{◌≡◌, ℕ, ◌+◌, ◌<◌, ◌≤◌, List, [], length, get_or, sym, ap, ◌∙◌, subst, arith}
use Rattle.std.proofs.lemmas.List.{ext_get_or}
use Rattle.pb_pmem.specs.declared.line.Line.{Line}
use Rattle.pb_pmem.specs.Lines.{line_at}
use Rattle.pb_object.specs.Heap.{rising_of}
use Rattle.pb_object.specs.Map.{Register, empty_register}
use Rattle.pb_object.specs.MapLines.{WordsRepresentRegisters}
use Rattle.pb_object.specs.Queue.{Waiting}
use Rattle.pb_object.specs.Object.{State, Registers, Items, Rising, Waits}
use Rattle.pb_object.specs.ObjectLines.{kind_of, size_of, WordsRepresent}
use Rattle.pb_object.specs.Standing.{Standing, side_count}
use Rattle.pb_object.proofs.CodeLemmas.{same_kind}
use Rattle.pb_object.proofs.ObjectLinesLemmas.{same_items}
use Rattle.pb_object.proofs.Sides.{few_sides}
use Rattle.pb_layout.specs.Header.{header_line_of, word}
use Rattle.pb_layout.specs.Region.{cell_place}
use Rattle.pb_layout.specs.Represents.{header_for, record_in_use, record_of_side, object_parts, kept_list, CellsRepresent, RegionParts}
use Rattle.pb_layout.specs.declared.header.Header.{Header}

-- a line spells one header
pub same_header : (a b : Header) → header_line_of a ≡ header_line_of b → a ≡ b
same_header a b e =
    let kind = same_kind a.kind b.kind (ap (λ (line : Line). word line 2) e) in
    let clients = ap (λ (line : Line). word line 3) e in
    let size = ap (λ (line : Line). word line 4) e in
    λ i. record { kind = kind i; clients = clients i; size = size i }

same_registers : (lines : List Line) (a b : List Register) → length a ≡ length b → WordsRepresentRegisters lines a → WordsRepresentRegisters lines b → a ≡ b
same_registers lines a b long left right =
    ext_get_or empty_register a b long (λ place inside. left place inside ∙ sym (right place (omega arith)))

same_waiting : (image lines : List Line) (head : Header) (size : ℕ) (a b : Waiting) → WordsRepresent lines (Waits size a) → WordsRepresent lines (Waits size b) → CellsRepresent image head (Waits size a) → CellsRepresent image head (Waits size b) → a ≡ b
same_waiting image lines head size a b left right left_cells right_cells =
    let taken : a.taken ≡ b.taken = left.1 ∙ sym right.1 in
    let long : length a.items ≡ length b.items = omega (arith, left.0, right.0) in
    let cell = λ (place : ℕ) (inside : place < length a.items). sym (left_cells place inside) ∙ (ap (λ (n : ℕ). line_at image (cell_place head (n + place))) taken ∙ right_cells place (omega arith)) in
    let items = ext_get_or 0 a.items b.items long (λ place inside. ap (λ (line : Line). word line 1) (cell place inside)) in
    λ i. record { taken = taken i; items = items i }

-- lines hold one state of a kind and size
pub same_state : (image lines : List Line) (head : Header) (a b : State) → kind_of a ≡ kind_of b → size_of a ≡ size_of b → WordsRepresent lines a → WordsRepresent lines b → CellsRepresent image head a → CellsRepresent image head b → a ≡ b
same_state image lines head (Registers a) (Registers b) kind size left right left_cells right_cells = ap Registers (same_registers lines a b size left right)
same_state image lines head (Items n a) (Items m b) kind size left right left_cells right_cells =
    let items = same_items lines a b left right in cc
same_state image lines head (Rising n a) (Rising m b) kind size left right left_cells right_cells =
    let items = same_items lines left.0 right.0 left.1 right.1 in
    let rising = left.2 ∙ (ap rising_of items ∙ sym right.2) in cc
same_state image lines head (Waits n a) (Waits m b) kind size left right left_cells right_cells =
    let waiting = same_waiting image lines head n a b left right left_cells right_cells in cc
same_state image lines head a b kind size left right left_cells right_cells = absurd (cc)

same_rounds : (image : List Line) (s t : Standing) → side_count s.kind ≤ 2 → s.kind ≡ t.kind → RegionParts image s → RegionParts image t → s.rounds ≡ t.rounds
same_rounds image s t few kind left right =
    let long : length s.rounds ≡ length t.rounds = left.sides ∙ (ap side_count kind ∙ sym right.sides) in
    ext_get_or 0 s.rounds t.rounds long (λ side inside. ap (λ (line : Line). word line 0) (sym (left.rounds side (omega (arith, left.sides))) ∙ right.rounds side (omega (arith, left.sides))))

pub one_standing : (image : List Line) (s t : Standing) → RegionParts image s → RegionParts image t → s ≡ t
one_standing image s t left right =
    let head = same_header (header_for s) (header_for t) (sym left.header ∙ right.header) in
    let kind = ap (λ (h : Header). h.kind) head in
    let clients = ap (λ (h : Header). h.clients) head in
    let size = ap (λ (h : Header). h.size) head in
    let rounds = same_rounds image s t (few_sides s.kind) kind left right in
    let records : record_of_side image s ≡ record_of_side image t = λ i. λ side. record_in_use image (head i) side (get_or (rounds i) side 0) in
    let lines : object_parts (header_for s) (record_of_side image s) ≡ object_parts (header_for t) (record_of_side image t) = λ i. object_parts (head i) (records i) in
    let long : length s.kept ≡ length t.kept = left.clients ∙ (clients ∙ sym right.clients) in
    let last = λ (client : ℕ) (inside : client < length s.kept). left.kept client (omega (arith, left.clients)) ∙ (ap (λ (h : Header). kept_list h (record_of_side image s) client) head ∙ (ap (λ (r : ℕ → List Line). kept_list (header_for t) r client) records ∙ sym (right.kept client (omega (arith, left.clients))))) in
    let kept = ext_get_or [] s.kept t.kept long last in
    let state = same_state image (object_parts (header_for t) (record_of_side image t)) (header_for t) s.state t.state (left.kind ∙ (kind ∙ sym right.kind)) (left.size ∙ (size ∙ sym right.size)) (subst (λ (ls : List Line). WordsRepresent ls s.state) lines left.state.hold) right.state.hold (subst (λ (h : Header). CellsRepresent image h s.state) head left.cells) right.cells in
    λ i. record { kind = kind i; clients = clients i; size = size i; rounds = rounds i; state = state i; kept = kept i }
