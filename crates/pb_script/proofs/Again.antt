-- What is printed in the plain form is read again as the same requests.
use Rattle.std.proofs.Common.{◌≡◌, ℕ, ◌+◌, ◌<◌, ◌≤◌, ◌^◌, Bool, true, false, cond, not, eqb, List, [], ◌∷◌, ◌++◌, Some, None, length, get_or, take, map, refl, sym, ap, ◌∙◌, arith, subst, decimal, leb, ltb, ◌&&◌, lit≤}
use Rattle.std.proofs.lemmas.Bool.{cond-true, eq-eqb, eqb-true, ne_eqb}
use Rattle.std.proofs.lemmas.Option.{none-some, same_Some, option_and_then_some, cond_some}
use Rattle.std.proofs.lemmas.Slice.Eq.{bytes_eq-Decides}
use Rattle.std.proofs.lemmas.Fmt.{decimal_is_IsNumeral}
use Rattle.std.proofs.lemmas.Str.Parse.{digit_at}
use Rattle.std.specs.List.{find}
use Rattle.std.specs.Option.{option_and_then}
use Rattle.std.specs.Str.{bytes_eq}
use Rattle.pb_object.specs.declared.kind.Kind.{Kind}
use Rattle.pb_object.specs.declared.codes.Action.{Action}
use Rattle.pb_object.specs.declared.codes.Action.TheVariants.{Get, Put, Cas, Push, Pop, Top, Insert, RemoveMin, Min, QueuePut, QueueTake}
use Rattle.pb_object.specs.declared.request.Op.{Op}
use Rattle.pb_object.specs.declared.request.Ask.{Ask}
use Rattle.pb_object.specs.declared.request.TheConstants.{LAST_NUMBER}
use Rattle.pb_object.specs.Codes.{action_named, action_word, actions_of, argument_count}
use Rattle.pb_object.specs.Number.{number_of}
use Rattle.pb_object.specs.Text.{op_text, op_text_by, spaced}
use Rattle.pb_object.proofs.CodeLemmas.{action_of-code}
use Rattle.pb_object.proofs.PlainWords.{decimal_word, action_word_is}
use Rattle.pb_object.proofs.Numbers.{number_of-decimal, number_of_small}
use Rattle.pb_script.specs.Print.{request_text, script_text}
use Rattle.pb_script.specs.Request.{arguments_of, each, number_within, op_of, op_with, request_of}
use Rattle.pb_script.specs.Script.{IsScript, request_lines}
use Rattle.pb_script.specs.Words.{fields, is_request, lines, words}
use Rattle.pb_script.proofs.Arguments.{each_none, each_first_some}
use Rattle.pb_script.proofs.Cuts.{lines_none}
use Rattle.pb_script.proofs.Plain.{AllSmall, IsText, words_spaced, words_numbers, word_text, space_text, append_text, spaced_text, lines_first, no_return, script_text_first, script_text_none}

-- an operation of a kind, by its action and its arguments
pub record PlainOp (kind : Kind) (op : Op) : Type 0 where
  pub action : Action
  pub arguments : List ℕ
  pub made : op ≡ op_with action arguments
  pub named : action_named kind (action_word action) ≡ Some action
  pub many : length arguments ≡ argument_count action
  pub small : AllSmall arguments

-- a request whose printed fields read as itself
pub record PlainAsk (kind : Kind) (clients : ℕ) (ask : Ask) : Type 0 where
  pub client : number_within 0 clients (decimal ask.client) ≡ Some ask.client
  pub client_small : ask.client < 2 ^ 64
  pub number : number_within 1 (LAST_NUMBER + 1) (decimal ask.number) ≡ Some ask.number
  pub number_small : ask.number < 2 ^ 64
  pub op : PlainOp kind ask.op

find_passes : {A : Type 0} (p : A → Bool) (xs : List A) (x : A) → find p xs ≡ Some x → p x ≡ true
find_passes p [] x e = absurd (none-some x e)
find_passes p (y ∷ ys) x e =
    elim (p y) as (λ b. p y ≡ b → cond b (Some y) (find p ys) ≡ Some x → p x ≡ true) [
      | true ↦ (λ passes found. sym (ap p (same_Some y x found)) ∙ passes)
      | false ↦ (λ fails found. find_passes p ys x found)
    ] refl e

named_by_its_word : (kind : Kind) (word : List ℕ) (action : Action) → action_named kind word ≡ Some action → action_named kind (action_word action) ≡ Some action
unfolding action_named
named_by_its_word kind word action e =
    let passes = find_passes (λ action. bytes_eq (action_word action) word) (actions_of kind) action e in
    let same : action_word action ≡ word = (bytes_eq-Decides (action_word action) word).0 passes in
    ap (λ w. find (λ action. bytes_eq (action_word action) w) (actions_of kind)) same ∙ e

within_read : (low high : ℕ) (word : List ℕ) (n : ℕ) → number_within low high word ≡ Some n → (number_of word ≡ Some n) × (n < 2 ^ 64)
unfolding number_within
within_read low high word n e =
    option_and_then_some (λ number. cond (leb low number && ltb number high) (Some number) None) (number_of word) n e
    (λ m read passed.
    let same : m ≡ n = (cond_some (leb low m && ltb m high) m n passed).1 in
    let is : number_of word ≡ Some n = read ∙ ap (λ k. Some k) same in
    (is, number_of_small word n is))

within_plain : (low high : ℕ) (word : List ℕ) (n : ℕ) → number_within low high word ≡ Some n → number_within low high (decimal n) ≡ Some n
unfolding number_within
within_plain low high word n e =
    let read = within_read low high word n e in
    ap (option_and_then (λ number. cond (leb low number && ltb number high) (Some number) None)) (number_of-decimal n read.1 ∙ sym read.0) ∙ e

each_small : (ws : List (List ℕ)) (ns : List ℕ) → each number_of ws ≡ Some ns → AllSmall ns
unfolding each
each_small [] ns e = let P : List ℕ → Type 0 = λ ns. AllSmall ns in subst P (same_Some [] ns e) tt
each_small (w ∷ ws) ns e =
    option_and_then_some (λ n. option_and_then (λ ns. Some (n ∷ ns)) (each number_of ws)) (number_of w) ns e
    (λ n read more. option_and_then_some (λ ns. Some (n ∷ ns)) (each number_of ws) ns more
    (λ others rest whole. let P : List ℕ → Type 0 = λ ns. AllSmall ns in subst P (same_Some (n ∷ others) ns whole) (number_of_small w n read, each_small ws others rest)))

each_plain : (ns : List ℕ) → AllSmall ns → each number_of (map decimal ns) ≡ Some ns
each_plain [] small = each_none number_of
each_plain (n ∷ ns) small = each_first_some number_of (decimal n) (map decimal ns) n (number_of-decimal n small.0) ∙ ap (option_and_then (λ ms. Some (n ∷ ms))) (each_plain ns small.1)

op_parts : (kind : Kind) (ws : List (List ℕ)) (op : Op) → op_of kind ws ≡ Some op → PlainOp kind op
unfolding op_of arguments_of
op_parts kind [] op e = absurd (none-some op e)
op_parts kind (word ∷ numbers) op e =
    option_and_then_some (λ action. option_and_then (λ arguments. Some (op_with action arguments)) (arguments_of (argument_count action) numbers)) (action_named kind word) op e
    (λ action named more. option_and_then_some (λ arguments. Some (op_with action arguments)) (arguments_of (argument_count action) numbers) op more
    (λ arguments read whole. option_and_then_some (λ ns. cond (eqb (length ns) (argument_count action)) (Some ns) None) (each number_of numbers) arguments read
    (λ ns all counted.
    let p = cond_some (eqb (length ns) (argument_count action)) ns arguments counted in
    let P : List ℕ → Type 0 = λ ns. AllSmall ns in
    record {
      action = action;
      arguments = arguments;
      made = sym (same_Some (op_with action arguments) op whole);
      named = named_by_its_word kind word action named;
      many = sym (ap length p.1) ∙ eqb-true (length ns) (argument_count action) p.0;
      small = subst P p.1 (each_small numbers ns all);
    })))

pub ask_parts : (kind : Kind) (clients : ℕ) (fs : List (List ℕ)) (ask : Ask) → request_of kind clients fs ≡ Some ask → PlainAsk kind clients ask
unfolding request_of
ask_parts kind clients [] ask e = absurd (none-some ask e)
ask_parts kind clients (client ∷ []) ask e = absurd (none-some ask e)
ask_parts kind clients (client ∷ number ∷ operation) ask e =
    option_and_then_some (λ c. option_and_then (λ n. option_and_then (λ op. Some (record { client = c; number = n; op = op })) (op_of kind operation)) (number_within 1 (LAST_NUMBER + 1) number)) (number_within 0 clients client) ask e
    (λ c client_read more. option_and_then_some (λ n. option_and_then (λ op. Some (record { client = c; number = n; op = op })) (op_of kind operation)) (number_within 1 (LAST_NUMBER + 1) number) ask more
    (λ n number_read still. option_and_then_some (λ op. Some (record { client = c; number = n; op = op })) (op_of kind operation) ask still
    (λ op op_read whole.
    let P : Ask → Type 0 = λ ask. PlainAsk kind clients ask in
    let made : Ask = record { client = c; number = n; op = op } in
    subst P (same_Some made ask whole) (record {
      client = within_plain 0 clients client c client_read;
      client_small = (within_read 0 clients client c client_read).1;
      number = within_plain 1 (LAST_NUMBER + 1) number n number_read;
      number_small = (within_read 1 (LAST_NUMBER + 1) number n number_read).1;
      op = op_parts kind operation op op_read;
    }))))

three_at_most : (action : Action) → argument_count action ≤ 3
three_at_most Get = lit≤ tt
three_at_most Put = lit≤ tt
three_at_most Cas = lit≤ tt
three_at_most Push = lit≤ tt
three_at_most Pop = lit≤ tt
three_at_most Top = lit≤ tt
three_at_most Insert = lit≤ tt
three_at_most RemoveMin = lit≤ tt
three_at_most Min = lit≤ tt
three_at_most QueuePut = lit≤ tt
three_at_most QueueTake = lit≤ tt

taken_back : (n : ℕ) (ns : List ℕ) → length ns ≡ n → n ≤ 3 → take n (get_or ns 0 0 ∷ get_or ns 1 0 ∷ get_or ns 2 0 ∷ []) ≡ ns
taken_back n [] e few = rw (← e) refl
taken_back n (a ∷ []) e few = rw (← e) refl
taken_back n (a ∷ b ∷ []) e few = rw (← e) refl
taken_back n (a ∷ b ∷ c ∷ []) e few = rw (← e) refl
taken_back n (a ∷ b ∷ c ∷ d ∷ more) e few = absurd (omega arith)

op_text_plain : (kind : Kind) (op : Op) (p : PlainOp kind op) → op_text op ≡ action_word p.action ++ spaced p.arguments
op_text_plain kind op p =
    ap op_text p.made
    ∙ ap (λ action. op_text_by action (op_with p.action p.arguments)) (action_of-code p.action)
    ∙ ap (λ ns. action_word p.action ++ spaced ns) (taken_back (argument_count p.action) p.arguments p.many (three_at_most p.action))

op_again : (kind : Kind) (op : Op) (p : PlainOp kind op) → op_of kind (action_word p.action ∷ map decimal p.arguments) ≡ Some op
unfolding op_of arguments_of
op_again kind op p =
    let count = argument_count p.action in
    rw (p.named, each_plain p.arguments p.small, p.many)
    (ap (option_and_then (λ arguments. Some (op_with p.action arguments))) (cond-true (eqb count count) (Some p.arguments) None (eq-eqb count count refl)) ∙ ap (λ o. Some o) (sym p.made))

-- the words of a printed request
request_words : (kind : Kind) (clients : ℕ) (ask : Ask) (p : PlainAsk kind clients ask) → words (request_text ask) ≡ decimal ask.client ∷ decimal ask.number ∷ action_word p.op.action ∷ map decimal p.op.arguments
request_words kind clients ask p =
    words_spaced (decimal ask.client) (decimal ask.number ++ (32 ∷ op_text ask.op)) (decimal_word ask.client p.client_small)
    ∙ ap (λ ws. decimal ask.client ∷ ws) (words_spaced (decimal ask.number) (op_text ask.op) (decimal_word ask.number p.number_small))
    ∙ ap (λ t. decimal ask.client ∷ decimal ask.number ∷ words t) (op_text_plain kind ask.op p.op)
    ∙ ap (λ ws. decimal ask.client ∷ decimal ask.number ∷ ws) (words_numbers (action_word p.op.action) p.op.arguments (action_word_is p.op.action) p.op.small)

request_is_text : (kind : Kind) (clients : ℕ) (ask : Ask) (p : PlainAsk kind clients ask) → IsText (request_text ask)
request_is_text kind clients ask p =
    let op : IsText (op_text ask.op) = let P : List ℕ → Type 0 = λ t. IsText t in subst P (sym (op_text_plain kind ask.op p.op))
    (append_text (action_word p.op.action) (spaced p.op.arguments) (word_text (action_word p.op.action) (action_word_is p.op.action)) (spaced_text p.op.arguments p.op.small)) in
    append_text (decimal ask.client) (32 ∷ (decimal ask.number ++ (32 ∷ op_text ask.op))) (word_text (decimal ask.client) (decimal_word ask.client p.client_small))
    (space_text (decimal ask.number ++ (32 ∷ op_text ask.op)) (append_text (decimal ask.number) (32 ∷ op_text ask.op) (word_text (decimal ask.number) (decimal_word ask.number p.number_small))
    (space_text (op_text ask.op) op)))

request_fields : (kind : Kind) (clients : ℕ) (ask : Ask) (p : PlainAsk kind clients ask) → fields (request_text ask) ≡ decimal ask.client ∷ decimal ask.number ∷ action_word p.op.action ∷ map decimal p.op.arguments
request_fields kind clients ask p = ap words (no_return (request_text ask) (request_is_text kind clients ask p)) ∙ request_words kind clients ask p

asks_for_it : (kind : Kind) (clients : ℕ) (ask : Ask) (p : PlainAsk kind clients ask) → is_request (fields (request_text ask)) ≡ true
asks_for_it kind clients ask p =
    let numeral = (decimal_is_IsNumeral ask.client p.client_small).0 in
    let digit = digit_at (decimal ask.client) 0 numeral.1 numeral.0 in
    ap is_request (request_fields kind clients ask p) ∙ ap not (ne_eqb (get_or (decimal ask.client) 0 0) 35 (λ e. omega arith))

ask_again : (kind : Kind) (clients : ℕ) (ask : Ask) (p : PlainAsk kind clients ask) → request_of kind clients (fields (request_text ask)) ≡ Some ask
unfolding request_of
ask_again kind clients ask p =
    ap (request_of kind clients) (request_fields kind clients ask p) ∙ rw (p.client, p.number, op_again kind ask.op p.op) refl

lines_again : (ask : Ask) (asks : List Ask) (kind : Kind) (clients : ℕ) (p : PlainAsk kind clients ask) → request_lines (lines (script_text (ask ∷ asks))) ≡ fields (request_text ask) ∷ request_lines (lines (script_text asks))
unfolding request_lines
lines_again ask asks kind clients p =
    ap (λ t. request_lines (lines t)) (script_text_first ask asks)
    ∙ ap request_lines (lines_first (request_text ask) (script_text asks) (request_is_text kind clients ask p))
    ∙ cond-true (is_request (fields (request_text ask))) _ _ (asks_for_it kind clients ask p)

none_again : request_lines (lines (script_text [])) ≡ []
unfolding request_lines
none_again = ap (λ t. request_lines (lines t)) script_text_none ∙ ap request_lines lines_none

reads_again : (kind : Kind) (clients : ℕ) (fs : List (List (List ℕ))) (asks : List Ask) → each (request_of kind clients) fs ≡ Some asks → each (request_of kind clients) (request_lines (lines (script_text asks))) ≡ Some asks
unfolding each
reads_again kind clients [] asks e =
    let P : List Ask → Type 0 = λ asks. each (request_of kind clients) (request_lines (lines (script_text asks))) ≡ Some asks in
    subst P (same_Some [] asks e) (ap (each (request_of kind clients)) none_again)
reads_again kind clients (f ∷ fs) asks e =
    let P : List Ask → Type 0 = λ asks. each (request_of kind clients) (request_lines (lines (script_text asks))) ≡ Some asks in
    option_and_then_some (λ ask. option_and_then (λ asks. Some (ask ∷ asks)) (each (request_of kind clients) fs)) (request_of kind clients f) asks e
    (λ ask read more. option_and_then_some (λ asks. Some (ask ∷ asks)) (each (request_of kind clients) fs) asks more
    (λ others rest whole.
    let p = ask_parts kind clients f ask read in
    subst P (same_Some (ask ∷ others) asks whole)
    (ap (each (request_of kind clients)) (lines_again ask others kind clients p)
    ∙ each_first_some (request_of kind clients) (fields (request_text ask)) (request_lines (lines (script_text others))) ask (ask_again kind clients ask p)
    ∙ ap (option_and_then (λ asks. Some (ask ∷ asks))) (reads_again kind clients fs others rest))))

-- the lines of the printed text are a script of the same requests
pub script_again : (kind : Kind) (clients : ℕ) (source : List (List ℕ)) (asks : List Ask) → IsScript kind clients source asks → IsScript kind clients (lines (script_text asks)) asks
script_again kind clients source asks h = record { reads = reads_again kind clients (request_lines source) asks h.reads; follow = h.follow }
