use Rattle.std.specs.Prelude.{ℕ, ◌≡◌, ◌≤◌, ◌&&◌, nat_le, nat_lt, length, slice_index, if◌then◌else◌}
use Rattle.pb_pmem.specs.declared.line.TheConstants.{LINES}
use Rattle.pb_crash.proofs.image.note_back.Given as goal

abbrev pub invariant-loop-line : goal.invariant-loop-line
invariant-loop-line l = record {
  whole : length l.backs ≡ LINES;
  low : l.first ≤ l.line;
  noted : (k : ℕ) → slice_index l.backs k ≡ (if nat_le l.first k && nat_lt k l.line then l.place else slice_index l.initial.backs k);
}
