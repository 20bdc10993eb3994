-- Numbers are read back as they are printed.
use Rattle.std.proofs.Common.{◌≡◌, ℕ, ◌+◌, ◌*◌, ◌^◌, ◌<◌, ◌≤◌, true, false, cond, List, Some, None, length, get_or, take, refl, sym, ap, ◌∙◌, arith, lit≤, lit<}
use Rattle.std.proofs.lemmas.Bool.{false≢true}
use Rattle.std.proofs.lemmas.Bool.Decides.{nat_tests}
use Rattle.std.proofs.lemmas.Fmt.{digits_decimal, digits_value-decimal, length-decimal-le, decimal_nonempty}
use Rattle.std.proofs.lemmas.Int.Digits.{digits_value_more}
use Rattle.std.proofs.lemmas.List.Recursion.{and_at}
use Rattle.std.proofs.lemmas.Option.{cond_some}
use Rattle.std.proofs.lemmas.Str.Parse.{IsNumeralModel, numerals_by_value, tells_all_ascii_digits, digits_value-take-le}
use Rattle.std.specs.Char.{digit_value, is_ascii_digit}
use Rattle.std.specs.Fmt.{decimal}
use Rattle.std.specs.Str.{all_ascii_digits}
use Rattle.std.specs.Str.Parse.{AllDigits, digits_value}
use Rattle.pb_object.specs.Number.{is_number, number_of}

-- std's words for digits are a model of numerals
pub digits : IsNumeralModel (λ ds. all_ascii_digits ds ≡ true) (digits_value 10)
digits = numerals_by_value _ tells_all_ascii_digits

-- what a number is, as facts
pub record IsNumber (text : List ℕ) : Type 0 where
  pub some : 0 < length text
  pub few : length text ≤ 20
  pub digits : all_ascii_digits text ≡ true
  pub small : digits_value 10 text < 2 ^ 64

pub is_number-from_parts : (text : List ℕ) → IsNumber text → is_number text ≡ true
is_number-from_parts text h = grind (arith, nat_tests)

pub IsNumber-from_test : (text : List ℕ) → is_number text ≡ true → IsNumber text
IsNumber-from_test text h = record { some = grind (arith, nat_tests); few = grind (arith, nat_tests); digits = grind (arith, nat_tests); small = grind (arith, nat_tests) }

pub number_of_some : (text : List ℕ) → IsNumber text → number_of text ≡ Some (digits_value 10 text)
unfolding number_of
number_of_some text h = let e = is_number-from_parts text h in grind (arith, nat_tests)

pub number_of_none : (text : List ℕ) → (IsNumber text → ⊥) → number_of text ≡ None
unfolding number_of
number_of_none text h = elim (is_number text) as (λ b. is_number text ≡ b → (cond b (Some (digits_value 10 text)) None) ≡ None) [ true ↦ (λ e. absurd (h (IsNumber-from_test text e))) | false ↦ (λ e. refl) ] refl

-- a text of another length is no number
pub number_of_length : (text : List ℕ) → (0 < length text → 20 < length text) → number_of text ≡ None
number_of_length text h = number_of_none text (λ p. let some = p.some in let few = p.few in let far = h some in omega arith)

-- nor is a text with another byte
pub number_of_byte : (text : List ℕ) (i : ℕ) → i < length text → is_ascii_digit (get_or text i 0) ≡ false → number_of text ≡ None
number_of_byte text i l e = number_of_none text (λ p. false≢true (sym e ∙ and_at all_ascii_digits is_ascii_digit refl (λ _ _. refl) text i 0 l p.digits))

-- nor one whose digits up to some place are too large
pub number_of_large : (text : List ℕ) (i : ℕ) → i < length text → 2 ^ 64 ≤ digits_value 10 (take i text) * 10 + digit_value (get_or text i 0) → number_of text ≡ None
number_of_large text i l large = number_of_none text
    (λ p. let small = p.small in let more = digits_value_more 10 text i l in let at_most = digits_value-take-le 10 text (i + 1) (lit≤ tt) in omega arith)

-- digits to the end are a number
pub number_of_digits : (text : List ℕ) → 0 < length text → length text ≤ 20 → AllDigits 10 text → digits_value 10 text < 2 ^ 64 → number_of text ≡ Some (digits_value 10 text)
number_of_digits text some few all small = number_of_some text (record { some = some; few = few; digits = digits.from text all; small = small })

-- a printed number is read as itself
pub number_of-decimal : (n : ℕ) → n < 2 ^ 64 → number_of (decimal n) ≡ Some n
number_of-decimal n small =
    let value = digits_value-decimal digits n small in
    number_of_some (decimal n) (record {
      some = decimal_nonempty n small;
      few = length-decimal-le 20 n (lit< tt) (omega arith) small;
      digits = digits_decimal digits n small;
      small = rw value small;
    }) ∙ ap (λ v. Some v) value

-- a number that is read is one of 64 bits
pub number_of_small : (text : List ℕ) (n : ℕ) → number_of text ≡ Some n → n < 2 ^ 64
unfolding number_of
number_of_small text n e =
    let read = cond_some (is_number text) (digits_value 10 text) n e in
    let small = (IsNumber-from_test text read.0).small in
    let same = read.1 in omega arith
