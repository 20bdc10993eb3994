use Rattle.std.proofs.Common.{rules, arith, ◌≡◌, ◌-◌, length, length-drop, length-take}
use borrow.Rule.Slice.PartMut.{mid_of, same_len_mid}
use Rattle.pb_broker.proofs.Bytes.{consumes_more}
use Rattle.pb_broker.proofs.source.fill.Goals as goal

pub loop-len-preserved : goal.loop-len-preserved
loop-len-preserved g c =
    let into = c.loop-len.into in
    let len = c.loop-len.len in
    let mid : length c.read.new.into ≡ length (mid_of len (length into - len) into) = c.read.auto.into in
    record {
      within = omega (arith, same_len_mid len (length into - len) into c.read.new.into mid, c.in_ok-count.ensures.bound, mid, simp (length-take, length-drop) at mid);
      consumed = consumes_more _ _ _ into c.read.new.into _ len c.in_ok-count.count c.loop-len.invariant.within c.in_ok-count.ensures.bound c.loop-len.invariant.consumed c.in_ok-count.ensures.bytes.0;
      no_fault = search rules;
    }
