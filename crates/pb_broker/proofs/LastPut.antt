-- What a get answers after a put.
use Rattle.std.proofs.Common.{◌≡◌, ◌≢◌, ℕ, ◌+◌, ◌<◌, Bool, true, false, if◌then◌else◌, nat_lt, ◌==◌, Option, Some, List, [], ◌∷◌, length, refl, sym, ap, subst, ◌∙◌, arith}
use Rattle.std.proofs.lemmas.Bool.Decides.{nat_tests}
use Rattle.std.proofs.lemmas.List.{get_or-set_same, get_or-set_other, length-set}
use Rattle.std.proofs.lemmas.List.Elements.{All-head, All-tail}
use Rattle.std.specs.List.{All, slice_set}
use Rattle.pb_object.specs.declared.codes.Action.TheVariants.{Get, Put}
use Rattle.pb_object.specs.declared.codes.Answer.TheVariants.{Is, Was, NoKey}
use Rattle.pb_object.specs.declared.request.Op.{Op}
use Rattle.pb_object.specs.declared.request.Reply.{Reply}
use Rattle.pb_object.specs.declared.codes.Action.{Action}
use Rattle.pb_object.specs.Codes.{action_of, answer_code}
use Rattle.pb_object.specs.Laws.{after_operations}
use Rattle.pb_object.specs.Map.{Register, register_at, last_version, map_reply, next_registers, register_reply, written, empty_register}
use Rattle.pb_object.specs.Object.{Registers, reply_of}
use Rattle.pb_object.specs.Request.{reply}
use Rattle.pb_broker.specs.Laws.{GetAnswersThePut}

set_other : (test : Bool) (registers : List Register) (key at : ℕ) (register : Register) → key ≢ at → register_at (if test then slice_set registers at register else registers) key ≡ register_at registers key
set_other true registers key at register other = get_or-set_other registers at key register empty_register other
set_other false registers key at register other = refl

set_count : (test : Bool) (registers : List Register) (at : ℕ) (register : Register) → length (if test then slice_set registers at register else registers) ≡ length registers
set_count true registers at register = length-set registers at register
set_count false registers at register = refl

next_other : (registers : List Register) (op : Op) (key : ℕ) → key ≢ op.a → register_at (next_registers registers op) key ≡ register_at registers key
next_other registers op key other = set_other _ registers key op.a _ other

next_count : (registers : List Register) (op : Op) → length (next_registers registers op) ≡ length registers
next_count registers op = set_count _ registers op.a _

-- the map after an operation, by its action
abbrev next_by : Option Action → List Register → Op → List Register
next_by action registers op =
    if (if nat_lt op.a (length registers) then register_reply action (register_at registers op.a) op else reply NoKey 0 0).code == answer_code Was
    then slice_set registers op.a (record { value = written action op; version = (register_at registers op.a).version + 1 })
    else registers

put_writes : (registers : List Register) (put : Op) → action_of put.code ≡ Some Put → put.a < length registers → (register_at registers put.a).version < last_version
    → register_at (next_registers registers put) put.a ≡ record { value = put.b; version = (register_at registers put.a).version + 1 }
put_writes registers put is present unworn =
    let last : Register = record { value = put.b; version = (register_at registers put.a).version + 1 } in
    let set = get_or-set_same registers put.a last empty_register present in
    ap (λ action. register_at (next_by action registers put) put.a) is ∙ grind (arith, nat_tests, set)

get_reply : (registers : List Register) (get : Op) → action_of get.code ≡ Some Get → get.a < length registers → map_reply registers get ≡ reply Is (register_at registers get.a).value (register_at registers get.a).version
get_reply registers get is present =
    ap (λ action. if nat_lt get.a (length registers) then register_reply action (register_at registers get.a) get else reply NoKey 0 0) is ∙ grind (arith, nat_tests)

abbrev is_of : Register → Reply
is_of register = reply Is register.value register.version

abbrev IsApart : ℕ → Op → Type 0
IsApart key op = op.a ≢ key

-- what others than its own register's operations leave of a get's reply
get_after : (others : List Op) (registers : List Register) (get : Op) → action_of get.code ≡ Some Get → get.a < length registers → All (IsApart get.a) others
    → reply_of (after_operations (Registers registers) others) get ≡ reply Is (register_at registers get.a).value (register_at registers get.a).version
get_after [] registers get is present apart = get_reply registers get is present
get_after (op ∷ others) registers get is present apart =
    get_after others (next_registers registers op) get is (subst (λ n. get.a < n) (sym (next_count registers op)) present) (All-tail (IsApart get.a) op others apart)
    ∙ ap is_of (next_other registers op get.a (λ e. All-head (IsApart get.a) op others apart (sym e)))

pub get_answers : (registers : List Register) (put : Op) (others : List Op) (get : Op) → action_of put.code ≡ Some Put → action_of get.code ≡ Some Get → get.a ≡ put.a → put.a < length registers
    → (register_at registers put.a).version < last_version → All (IsApart put.a) others → GetAnswersThePut registers put others get
get_answers registers put others get is_put is_get same present unworn apart =
    get_after others (next_registers registers put) get is_get (subst (λ n. get.a < n) (sym (next_count registers put)) (omega arith)) (subst (λ key. All (IsApart key) others) (sym same) apart)
    ∙ ap (λ key. is_of (register_at (next_registers registers put) key)) same
    ∙ ap is_of (put_writes registers put is_put present unworn)
