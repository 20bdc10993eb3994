-- So many of the newest requests were gone through, and the newer one of those that are left is next.
use Rattle.std.proofs.Common.{◌≡◌, ℕ, List, sym, ap, subst, ◌∙◌, arith}
use Rattle.pb_pmem.specs.declared.line.Line.{Line}
use Rattle.pb_object.specs.declared.request.Kept.{Kept}
use Rattle.pb_layout.specs.Slots.{newer_of}
use Rattle.pb_layout.proofs.SlotLemmas.{HasGone, none_gone, gone_take, gone_put, gone_next}
use Rattle.pb_layout.proofs.slots.kept_of_both.Goals as goal
use Rattle.pb_layout.proofs.slots.kept_of_both.Goals.{then-put-take, else-put-take}

along : {puts takes : List Line} {client gone a b x y : ℕ} → x ≡ a → y ≡ b → HasGone puts takes client gone a b → HasGone puts takes client gone x y
along {puts} {takes} {client} {gone} {a} {b} {x} {y} left right has =
    subst (λ (n : ℕ). HasGone puts takes client gone n y) (sym left) (subst (λ (n : ℕ). HasGone puts takes client gone a n) (sym right) has)

pub loop-init : goal.loop-init
loop-init c = none_gone c.args.puts.now c.args.takes.now c.args.client

pub kept_in_slot-put-requires-clause-slot : goal.kept_in_slot-put-requires-clause-slot
kept_in_slot-put-requires-clause-slot c = omega (arith, c.loop.invariant.both)

pub kept_in_slot-take-requires-clause-slot : goal.kept_in_slot-take-requires-clause-slot
kept_in_slot-take-requires-clause-slot c = omega (arith, c.loop.invariant.both)

pub overflow_add-takes_before : goal.overflow_add-takes_before
overflow_add-takes_before c = omega (arith, c.loop.invariant.both)

pub overflow_add-puts_before : goal.overflow_add-puts_before
overflow_add-puts_before c = omega (arith, c.loop.invariant.both)

pub loop-preserved : goal.loop-preserved
loop-preserved c =
    let put = ap (λ (k : Kept). k.number) c.kept_in_slot-put.ensures in
    let take = ap (λ (k : Kept). k.number) c.kept_in_slot-take.ensures in
    elim c.if-put-take.branch [
      | then-put-take w ↦
          along w.puts_before-is w.takes_before-is (gone_take c.args.puts.now c.args.takes.now c.args.client c.loop.counter c.loop.puts_before c.loop.takes_before c.requires.puts (omega arith) c.loop.invariant (omega (arith, put, take, w.if-put-take)))
      | else-put-take w ↦
          along w.puts_before-is w.takes_before-is (gone_put c.args.puts.now c.args.takes.now c.args.client c.loop.counter c.loop.puts_before c.loop.takes_before c.requires.puts c.requires.takes (omega arith) c.loop.invariant (omega (arith, put, take, w.if-put-take)))
    ]

pub kept_in_slot-requires-clause-slot : goal.kept_in_slot-requires-clause-slot
kept_in_slot-requires-clause-slot c = omega (arith, c.loop.invariant.both)

pub kept_in_slot-requires-2-clause-slot : goal.kept_in_slot-requires-2-clause-slot
kept_in_slot-requires-2-clause-slot c = omega (arith, c.loop.invariant.both)

pub returns : goal.returns
returns c =
    let whole : c.loop.counter ≡ c.args.place = omega arith in
    let gone = subst (λ (n : ℕ). HasGone c.args.puts.now c.args.takes.now c.args.client n c.loop.puts_before c.loop.takes_before) whole c.loop.invariant in
    let put = c.kept_in_slot.ensures in
    let take = c.kept_in_slot-2.ensures in
    c.newer.ensures ∙ ((λ i. newer_of (put i) (take i)) ∙ sym (gone_next c.args.puts.now c.args.takes.now c.args.client c.args.place c.loop.puts_before c.loop.takes_before c.requires.puts c.requires.takes c.requires.place gone))
