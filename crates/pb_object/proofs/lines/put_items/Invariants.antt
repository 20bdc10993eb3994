use Rattle.std.proofs.Common.{◌≡◌, ℕ, ◌<◌, slice_index}
use Rattle.pb_object.specs.ItemLines.{item_in}
use Rattle.pb_pmem.specs.Lines.{line_at}
use Rattle.pb_object.proofs.lines.put_items.Given as goal

abbrev pub invariant-loop-place : goal.invariant-loop-place
invariant-loop-place l = record {
  first : line_at l.into 0 ≡ line_at l.initial.into 0;
  places : (place : ℕ) → place < l.place → item_in l.into place ≡ slice_index l.items place;
}
