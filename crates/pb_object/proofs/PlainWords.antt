-- Words of the plain form: the numbers, and the words of operations and replies.
use Rattle.std.proofs.Common.{◌≡◌, ℕ, ◌<◌, ◌≤◌, ◌^◌, true, ltb, leb, List, length, refl, arith}
use Rattle.std.proofs.lemmas.Bool.{ltb-true, leb-true}
use Rattle.std.proofs.lemmas.Fmt.{decimal_is_IsNumeral}
use Rattle.std.proofs.lemmas.List.{get_or_default}
use Rattle.std.proofs.lemmas.List.Elements.{All-weaker}
use Rattle.std.proofs.lemmas.List.Sums.{AllPass-from_list_all}
use Rattle.std.proofs.lemmas.Str.Parse.{digit_at}
use Rattle.std.specs.Fmt.{decimal}
use Rattle.std.specs.List.{All, list_all}
use Rattle.pb_object.specs.declared.codes.Action.{Action}
use Rattle.pb_object.specs.declared.codes.Action.TheVariants.{Get, Put, Cas, Push, Pop, Top, Insert, RemoveMin, Min, QueuePut, QueueTake}
use Rattle.pb_object.specs.declared.codes.Answer.{Answer}
use Rattle.pb_object.specs.declared.codes.Answer.TheVariants.{Is, Was, Stale, NoKey, Worn, Depth, Full, Item, Empty, Size, At}
use Rattle.pb_object.specs.Codes.{action_word, answer_word}

-- a word of the plain form: its bytes are above the space
pub record IsWord (word : List ℕ) : Type 0 where
  pub some : 0 < length word
  pub bytes : All (λ byte. 33 ≤ byte) word

pub decimal_word : (n : ℕ) → n < 2 ^ 64 → IsWord (decimal n)
decimal_word n small =
    let numeral = (decimal_is_IsNumeral n small).0 in
    record { some = numeral.0; bytes = λ k d h. let digit = digit_at (decimal n) k numeral.1 h in let same = get_or_default (decimal n) k d 0 h in omega arith }

word_from_tests : (word : List ℕ) → ltb 0 (length word) ≡ true → list_all (leb 33) word ≡ true → IsWord word
word_from_tests word some bytes = record { some = ltb-true 0 (length word) some; bytes = All-weaker (λ byte. leb 33 byte ≡ true) (λ byte. 33 ≤ byte) (leb-true 33) word (AllPass-from_list_all (leb 33) word bytes) }

pub action_word_is : (action : Action) → IsWord (action_word action)
action_word_is Get = word_from_tests _ refl refl
action_word_is Put = word_from_tests _ refl refl
action_word_is Cas = word_from_tests _ refl refl
action_word_is Push = word_from_tests _ refl refl
action_word_is Pop = word_from_tests _ refl refl
action_word_is Top = word_from_tests _ refl refl
action_word_is Insert = word_from_tests _ refl refl
action_word_is RemoveMin = word_from_tests _ refl refl
action_word_is Min = word_from_tests _ refl refl
action_word_is QueuePut = word_from_tests _ refl refl
action_word_is QueueTake = word_from_tests _ refl refl

pub answer_word_is : (answer : Answer) → IsWord (answer_word answer)
answer_word_is Is = word_from_tests _ refl refl
answer_word_is Was = word_from_tests _ refl refl
answer_word_is Stale = word_from_tests _ refl refl
answer_word_is NoKey = word_from_tests _ refl refl
answer_word_is Worn = word_from_tests _ refl refl
answer_word_is Depth = word_from_tests _ refl refl
answer_word_is Full = word_from_tests _ refl refl
answer_word_is Item = word_from_tests _ refl refl
answer_word_is Empty = word_from_tests _ refl refl
answer_word_is Size = word_from_tests _ refl refl
answer_word_is At = word_from_tests _ refl refl
