use Rattle.std.proofs.Common.{rules, arith, ◌++◌, add-one, ap, ◌∙◌, length, length-append, slice_index}
use Rattle.std.specs.Int.{to_le_bytes, w64}
use Rattle.pb_file.specs.Bytes.{first_words}
use Rattle.pb_file.proofs.bytes.bytes_of.Goals as goal

pub loop-place-init : goal.loop-place-init
unfolding first_words
loop-place-init c = record { len = search rules; bytes = c.new-bytes.ensures }

pub loop-place-preserved : goal.loop-place-preserved
unfolding first_words
loop-place-preserved c =
    let word = to_le_bytes w64 (slice_index c.args.line.now.words c.loop-place.place) in
    let more = c.put_word.ensures in
    record {
      len = omega (arith, c.loop-place.invariant.len, ap length more, length-append c.loop-place.bytes.items word);
      bytes = rw add-one (more ∙ ap (λ l. l ++ word) c.loop-place.invariant.bytes);
    }
