-- What holds of each request of a script.
use Rattle.std.proofs.Common.{◌≡◌, ℕ, ◌+◌, ◌<◌, ◌≤◌, Bool, true, false, cond, List, [], ◌∷◌, Option, Some, None, Result, Ok, Err, length, refl, sym, arith, subst, leb, ltb, ◌&&◌}
use Rattle.std.proofs.lemmas.Bool.{and_parts, leb-true, ltb-true}
use Rattle.std.proofs.lemmas.List.{get_or_past}
use Rattle.std.proofs.lemmas.List.Elements.{All-nil, All-cons}
use Rattle.std.proofs.lemmas.Option.{none-some, same_Some, option_and_then_some, cond_some}
use Rattle.std.specs.List.{All, AllByRecursion, find}
use Rattle.std.specs.Option.{option_and_then, IsSomeAnd}
use Rattle.std.specs.Global.{Vec}
use Rattle.std.specs.Result.{IfOk}
use Rattle.std.specs.Str.{bytes_eq}
use Rattle.pb_object.specs.declared.kind.Kind.{Kind}
use Rattle.pb_object.specs.declared.kind.Kind.TheVariants.{Map, Stack, Heap, Queue}
use Rattle.pb_object.specs.declared.codes.Action.{Action}
use Rattle.pb_object.specs.declared.request.Op.{Op}
use Rattle.pb_object.specs.declared.request.Ask.{Ask}
use Rattle.pb_object.specs.declared.request.TheConstants.{LAST_NUMBER}
use Rattle.pb_object.specs.Codes.{action_kind, action_named, action_word, actions_of, argument_count}
use Rattle.pb_object.specs.Number.{number_of}
use Rattle.pb_object.specs.Request.{IsOperation, LeavesUnusedZero}
use Rattle.pb_script.specs.declared.script.ScriptFault.{ScriptFault}
use Rattle.pb_script.specs.Request.{each, number_within, op_with, request_of}
use Rattle.pb_script.specs.Script.{IsAskOf, IsReadAs, IsScript, request_lines}
use Rattle.pb_object.proofs.CodeLemmas.{action_of-code}
use Rattle.pb_script.proofs.Again.{PlainAsk, PlainOp, ask_parts}

find_keeps : {A : Type 0} (P : A → Type 0) (p : A → Bool) (xs : List A) (x : A) → AllByRecursion P xs → find p xs ≡ Some x → P x
find_keeps P p [] x all e = absurd (none-some x e)
find_keeps P p (y ∷ ys) x all e =
    elim (p y) as (λ b. cond b (Some y) (find p ys) ≡ Some x → P x) [
      | true ↦ (λ found. subst P (same_Some y x found) all.0)
      | false ↦ (λ found. find_keeps P p ys x all.1 found)
    ] e

of_kind : (kind : Kind) → AllByRecursion (λ action. action_kind action ≡ kind) (actions_of kind)
of_kind Map = (refl, (refl, (refl, tt)))
of_kind Stack = (refl, (refl, (refl, tt)))
of_kind Heap = (refl, (refl, (refl, tt)))
of_kind Queue = (refl, (refl, tt))

named_kind : (kind : Kind) (word : List ℕ) (action : Action) → action_named kind word ≡ Some action → action_kind action ≡ kind
unfolding action_named
named_kind kind word action e = find_keeps (λ action. action_kind action ≡ kind) (λ action. bytes_eq (action_word action) word) (actions_of kind) action (of_kind kind) e

within_bounds : (low high : ℕ) (word : List ℕ) (n : ℕ) → number_within low high word ≡ Some n → (low ≤ n) × (n < high)
unfolding number_within
within_bounds low high word n e =
    option_and_then_some (λ number. cond (leb low number && ltb number high) (Some number) None) (number_of word) n e
    (λ m read passed.
    let p = cond_some (leb low m && ltb m high) m n passed in
    let q = and_parts (leb low m) (ltb m high) p.0 in
    let above = leb-true low m q.0 in let below = ltb-true m high q.1 in let same = p.1 in
    (omega arith, omega arith))

unused_zero : (action : Action) (arguments : List ℕ) → length arguments ≡ argument_count action → LeavesUnusedZero (argument_count action) (op_with action arguments)
unused_zero action arguments many = record {
  a = λ h. get_or_past arguments 0 0 (omega arith);
  b = λ h. get_or_past arguments 1 0 (omega arith);
  c = λ h. get_or_past arguments 2 0 (omega arith);
}

is_operation_plain : (kind : Kind) (op : Op) → PlainOp kind op → IsOperation kind op
is_operation_plain kind op p =
    let P : Op → Type 0 = λ op. IsOperation kind op in
    let Q : Option Action → Type 0 = λ o. IsSomeAnd o (λ action. (action_kind action ≡ kind) × LeavesUnusedZero (argument_count action) (op_with p.action p.arguments)) in
    subst P (sym p.made) (subst Q (sym (action_of-code p.action)) (named_kind kind (action_word p.action) p.action p.named, unused_zero p.action p.arguments p.many))

is_ask_plain : (kind : Kind) (clients : ℕ) (ask : Ask) → PlainAsk kind clients ask → IsAskOf kind clients ask
is_ask_plain kind clients ask p =
    let client = within_bounds 0 clients _ ask.client p.client in
    let number = within_bounds 1 (LAST_NUMBER + 1) _ ask.number p.number in
    record { client = client.1; some = number.0; few = omega arith; operation = is_operation_plain kind ask.op p.op }

asks_by : (kind : Kind) (clients : ℕ) (fs : List (List (List ℕ))) (asks : List Ask) → each (request_of kind clients) fs ≡ Some asks → All (IsAskOf kind clients) asks
unfolding each
asks_by kind clients [] asks e = let P : List Ask → Type 0 = λ asks. All (IsAskOf kind clients) asks in subst P (same_Some [] asks e) (All-nil (IsAskOf kind clients))
asks_by kind clients (f ∷ fs) asks e =
    let P : List Ask → Type 0 = λ asks. All (IsAskOf kind clients) asks in
    option_and_then_some (λ ask. option_and_then (λ asks. Some (ask ∷ asks)) (each (request_of kind clients) fs)) (request_of kind clients f) asks e
    (λ ask read more. option_and_then_some (λ asks. Some (ask ∷ asks)) (each (request_of kind clients) fs) asks more
    (λ others rest whole. subst P (same_Some (ask ∷ others) asks whole)
    (All-cons (IsAskOf kind clients) ask others (is_ask_plain kind clients ask (ask_parts kind clients f ask read)) (asks_by kind clients fs others rest))))

-- each request of a script is one of its kind and clients
pub IsAskOf-from_script : (kind : Kind) (clients : ℕ) (lines : List (List ℕ)) (asks : List Ask) → IsScript kind clients lines asks → All (IsAskOf kind clients) asks
IsAskOf-from_script kind clients lines asks h = asks_by kind clients (request_lines lines) asks h.reads

-- and so are the requests that a source is read as
pub asks_of_read : (kind : Kind) (clients : ℕ) (lines : List (List ℕ)) (result : Result (Vec Ask) ScriptFault) → IsReadAs kind clients lines result → IfOk result (λ asks. All (IsAskOf kind clients) asks.items)
asks_of_read kind clients lines (Ok asks) h = IsAskOf-from_script kind clients lines asks.items h.1
asks_of_read kind clients lines (Err fault) h = tt
