-- What was read of the header's fields is said of the header.
use Rattle.std.proofs.Common.{refl, subst, inr, arith}
use Rattle.pb_layout.specs.Record.{IsBadRecordAt}
use Rattle.pb_layout.specs.declared.header.Header.{Header}
use Rattle.pb_layout.proofs.record.judge_slots.Goals as goal

pub returns-then-round-sum_numbers-clause-refused : goal.returns-then-round-sum_numbers-clause-refused
returns-then-round-sum_numbers-clause-refused c =
    subst (λ (h : Header). IsBadRecordAt h c.args.side c.args.round c.args.lines.now 0) c.head.view_is (inr (inr (record {
      place = refl;
      carries = c.requires.carries;
      slots = c.in-None.ensures;
      refused = omega arith;
    })))
