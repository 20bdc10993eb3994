use Rattle.std.proofs.Common.{Some, sym, ap, ◌∙◌, arith, rules}
use Rattle.std.proofs.lemmas.Bool.Decides.{nat_tests}
use Rattle.std.proofs.lemmas.Grind.{common_steps}
use Rattle.std.proofs.lemmas.List.{take_all}
use Rattle.std.proofs.lemmas.Int.Digits.{digits_value_more, digits_more}
use Rattle.std.specs.Str.Parse.{digits_value}
use Rattle.pb_object.proofs.Numbers.{number_of_length, number_of_byte, number_of_large, number_of_digits}
use Rattle.pb_object.proofs.number.parse_number.Goals as goal

pub returns-then-is_empty : goal.returns-then-is_empty
returns-then-is_empty c = sym (number_of_length c.args.text.now (λ some. grind (arith, nat_tests)))

pub returns-then-not-is_ascii_digit : goal.returns-then-not-is_ascii_digit
returns-then-not-is_ascii_digit c = sym (number_of_byte c.args.text.now c.loop-byte.byte-index (omega arith) (search rules))

pub returns-in_err-checked_mul : goal.returns-in_err-checked_mul
returns-in_err-checked_mul c = grind (arith, common_steps, number_of_large c.args.text.now c.loop-byte.byte-index)

pub returns-in_err-value : goal.returns-in_err-value
returns-in_err-value c = grind (arith, common_steps, number_of_large c.args.text.now c.loop-byte.byte-index)

pub loop-byte-preserved : goal.loop-byte-preserved
loop-byte-preserved c = record {
  value = grind (arith, common_steps, digits_value_more 10 c.args.text.now c.loop-byte.byte-index);
  small = grind (arith, common_steps);
  digits = digits_more 10 c.args.text.now c.loop-byte.byte-index (omega arith) c.loop-byte.invariant.digits (search rules);
}

pub returns : goal.returns
returns c =
    let text = c.args.text.now in
    let whole = take_all c.loop-byte.byte-index text c.loop-byte-test.false in
    let value = c.loop-byte.invariant.value ∙ ap (digits_value 10) whole in
    let digits = rw whole at c.loop-byte.invariant.digits in
    ap (λ v. Some v) value ∙ sym (number_of_digits text (grind (arith, nat_tests)) c.if-text-gt-MOST_DIGITS.false digits (omega arith))
