use Rattle.std.proofs.Common.{◌≡◌, Some, None, length, take, rules, arith, ap, sym, ◌∙◌}
use Rattle.std.proofs.lemmas.List.{length-take-le, take_more_set, get_or-set_other, length-set}
use Rattle.pb_script.specs.Request.{arguments_of}
use Rattle.pb_script.specs.Words.{words}
use Rattle.pb_script.proofs.Arguments.{HasRead_more, arguments_all, arguments_few, arguments_bad, arguments_many}
use Rattle.pb_script.proofs.request.read_arguments.Goals as goal

pub returns-in_err-word : goal.returns-in_err-word
returns-in_err-word c =
    let prefix = take c.loop-i.i c.loop-i.values in
    let len : length prefix ≡ c.loop-i.i = length-take-le c.loop-i.i c.loop-i.values (omega arith) in
    let e : arguments_of c.args.count (words c.args.text.now) ≡ None = arguments_few c.args.count (words c.args.text.now) prefix (rw c.in_err-word.ensures at c.loop-i.invariant.reads) (omega arith) in
    search (rules, e)

pub returns-in_err-values : goal.returns-in_err-values
returns-in_err-values c =
    let prefix = take c.loop-i.i c.loop-i.values in
    let e : arguments_of c.args.count (words c.args.text.now) ≡ None = arguments_bad c.args.count (words c.args.text.now) prefix c.in_ok-word.word.now (words c.in_ok-word.after.now) (rw c.in_ok-word.ensures at c.loop-i.invariant.reads) (sym c.in_err-values.ensures) in
    search (rules, e)

pub loop-i-preserved : goal.loop-i-preserved
loop-i-preserved c = record {
  three = length-set c.loop-i.values c.loop-i.i _ ∙ c.loop-i.invariant.three;
  reads = rw (take_more_set c.loop-i.values c.loop-i.i _ (omega arith)) (HasRead_more (words c.args.text.now) _ c.in_ok-word.word.now (words c.in_ok-word.after.now) _ (rw c.in_ok-word.ensures at c.loop-i.invariant.reads) (sym c.in_ok-values.ensures));
  zero_after = λ k h. get_or-set_other c.loop-i.values c.loop-i.i k _ 0 (omega arith) ∙ c.loop-i.invariant.zero_after k (omega arith);
}

pub returns-in-None : goal.returns-in-None
returns-in-None c =
    let at_end : c.loop-i.i ≡ c.args.count = omega arith in
    let prefix = take c.loop-i.i c.loop-i.values in
    let len : length prefix ≡ c.args.count = length-take-le c.loop-i.i c.loop-i.values (omega arith) ∙ at_end in (
      arguments_all c.args.count (words c.args.text.now) prefix (rw c.in-None.ensures at c.loop-i.invariant.reads) len ∙ ap (λ n. Some (take n c.loop-i.values)) at_end,
      λ k h. c.loop-i.invariant.zero_after k (omega arith),
    )

pub returns-in-Some : goal.returns-in-Some
returns-in-Some c =
    let at_end : c.loop-i.i ≡ c.args.count = omega arith in
    let prefix = take c.loop-i.i c.loop-i.values in
    let len : length prefix ≡ c.args.count = length-take-le c.loop-i.i c.loop-i.values (omega arith) ∙ at_end in
    arguments_many c.args.count (words c.args.text.now) prefix c.in-Some.field-0.0.now (words c.in-Some.field-0.1.now) (rw c.in-Some.ensures at c.loop-i.invariant.reads) len
