-- Memory for the object of a header.
use Rattle.std.specs.Prelude.{◌≡◌, ℕ, ◌<◌, List, length, slice_index}
use Rattle.pb_pmem.specs.declared.line.Line.{Line}
use Rattle.pb_object.specs.declared.kind.Kind.TheVariants.{Map as MapKind, Stack as StackKind, Heap as HeapKind, Queue as QueueKind}
use Rattle.pb_object.specs.ItemLines.{item_in}
use Rattle.pb_layout.specs.declared.header.Header.{Header}
use Rattle.pb_round_play.specs.declared.items.Items.{Items}
use Rattle.pb_round_play.specs.declared.items.Items.TheVariants.{Map, Stack, Heap, Queue}

-- it is of the header's kind and size
abbrev pub ItemsFit : Header → Items → Type 0
ItemsFit head (Map map) = (head.kind ≡ MapKind) × (length map ≡ head.size)
ItemsFit head (Stack stack) = (head.kind ≡ StackKind) × (stack.size ≡ head.size)
ItemsFit head (Heap heap rising) = (head.kind ≡ HeapKind) × (heap.size ≡ head.size) × (length rising.items ≡ head.size)
ItemsFit head Queue = head.kind ≡ QueueKind

-- so many items of a heap's lines, in the order of their places
pub record IsReadFrom (lines : List Line) (count : ℕ) (read : List ℕ) : Type 0 where
  pub long : length read ≡ count
  pub each : (place : ℕ) → place < count → slice_index read place ≡ item_in lines place
