use Rattle.std.specs.Prelude.{ℕ, ◌≡◌, ◌<◌, length, slice_index}
use Rattle.pb_crash.proofs.image.note_none.Given as goal

abbrev pub invariant-loop-line : goal.invariant-loop-line
invariant-loop-line l = record {
  whole : length l.backs ≡ length l.initial.backs;
  none : (k : ℕ) → k < l.line → slice_index l.backs k ≡ 0;
}
