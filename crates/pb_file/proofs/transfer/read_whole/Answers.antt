use Rattle.std.proofs.Common.{arith, ◌≡◌, ◌-◌, length, length-drop, length-take}
use borrow.Rule.Slice.PartMut.{mid_of, same_len_mid}
use Rattle.pb_file.proofs.Pieces.{consumes_more}
use Rattle.pb_file.proofs.transfer.read_whole.Goals as goal

pub loop-len-preserved : goal.loop-len-preserved
loop-len-preserved g c =
    let into = c.loop-len.into in
    let len = c.loop-len.len in
    let mid : length c.read.new.buf ≡ length (mid_of len (length into - len) into) = c.read.auto.buf in
    record {
      within = omega (arith, same_len_mid len (length into - len) into c.read.new.buf mid, c.in_ok-count.ensures.bound.0, mid, simp (length-take, length-drop) at mid);
      consumed = consumes_more _ _ _ into c.read.new.buf _ len c.in_ok-count.count c.loop-len.invariant.within c.in_ok-count.ensures.bound.0 c.loop-len.invariant.consumed c.in_ok-count.ensures.bytes.0;
    }
