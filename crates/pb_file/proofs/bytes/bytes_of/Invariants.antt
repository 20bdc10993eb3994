use Rattle.std.proofs.Common.{◌≡◌, ◌*◌, length}
use Rattle.pb_file.specs.Bytes.{first_words}
use Rattle.pb_file.proofs.bytes.bytes_of.Given as goal

abbrev pub invariant-loop-place : goal.invariant-loop-place
invariant-loop-place l = record {
  len : length l.bytes.items ≡ l.place * 8;
  bytes : l.bytes.items ≡ first_words l.place l.line.words;
}
