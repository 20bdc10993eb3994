-- A script is read line by line.
use Rattle.std.proofs.Common.{◌≡◌, ℕ, ◌+◌, ◌-◌, ◌<◌, ◌≤◌, Bool, true, false, cond, eqb, List, [], ◌∷◌, ◌++◌, Option, Some, None, length, get_or, take, set, refl, sym, ap, ◌∙◌, arith, subst, ⊎_elim}
use Rattle.std.proofs.lemmas.Bool.{false≢true, cases_lt, cases_eq, cond-true, cond-false, eq-eqb, ne_eqb}
use Rattle.std.proofs.lemmas.List.{append-nil, take-append-le, take_at, take_all, get_or_append_left, get_or_at, length-take, length_push, length-set, take-take, get_or-take, get_or-set_same, get_or-set_other}
use Rattle.std.proofs.lemmas.List.Sums.{fold_push}
use Rattle.std.proofs.lemmas.Option.{none-some, same_Some}
use Rattle.std.specs.Option.{is_some, IfSome, MatchOption}
use Rattle.pb_object.specs.declared.kind.Kind.{Kind}
use Rattle.pb_object.specs.declared.request.Ask.{Ask}
use Rattle.pb_script.specs.Request.{each, request_of}
use Rattle.pb_script.specs.declared.script.Reading.{Reading}
use Rattle.pb_script.specs.declared.script.TheConstants.{MOST_REQUESTS}
use Rattle.pb_script.specs.Reading.{some_number, FollowsLast, Holds, HoldsLast}
use Rattle.pb_script.specs.Script.{Follows, IsRefused, IsScript, NumbersFollow, last_number, request_lines}
use Rattle.pb_script.specs.Words.{fields, is_request}
use Rattle.pb_script.proofs.Arguments.{each_push, each_front}

pub request_lines_none : request_lines [] ≡ []
unfolding request_lines
request_lines_none = refl

request_lines_append_by : (line : List ℕ) (lines more : List (List ℕ)) (b : Bool) → cond b (fields line ∷ request_lines (lines ++ more)) (request_lines (lines ++ more)) ≡ cond b (fields line ∷ (request_lines lines ++ request_lines more)) (request_lines lines ++ request_lines more) → cond b (fields line ∷ request_lines (lines ++ more)) (request_lines (lines ++ more)) ≡ cond b (fields line ∷ request_lines lines) (request_lines lines) ++ request_lines more
request_lines_append_by line lines more true e = e
request_lines_append_by line lines more false e = e

pub request_lines_append : (lines more : List (List ℕ)) → request_lines (lines ++ more) ≡ request_lines lines ++ request_lines more
unfolding request_lines
request_lines_append [] more = refl
request_lines_append (line ∷ lines) more =
    request_lines_append_by line lines more (is_request (fields line))
    (ap (λ r. cond (is_request (fields line)) (fields line ∷ r) r) (request_lines_append lines more))

pub request_lines_no : (read : List (List ℕ)) (line : List ℕ) → is_request (fields line) ≡ false → request_lines (read ++ line ∷ []) ≡ request_lines read
unfolding request_lines
request_lines_no read line e = request_lines_append read (line ∷ []) ∙ ap (λ r. request_lines read ++ r) (cond-false (is_request (fields line)) (fields line ∷ []) [] e) ∙ append-nil (request_lines read)

pub request_lines_yes : (read : List (List ℕ)) (line : List ℕ) → is_request (fields line) ≡ true → request_lines (read ++ line ∷ []) ≡ request_lines read ++ fields line ∷ []
unfolding request_lines
request_lines_yes read line e = request_lines_append read (line ∷ []) ∙ ap (λ r. request_lines read ++ r) (cond-true (is_request (fields line)) (fields line ∷ []) [] e)

pub request_lines_skipping : (line : List ℕ) (more : List (List ℕ)) → is_request (fields line) ≡ false → request_lines (line ∷ more) ≡ request_lines more
unfolding request_lines
request_lines_skipping line more e = cond-false (is_request (fields line)) (fields line ∷ request_lines more) (request_lines more) e

pub request_lines_taking : (line : List ℕ) (more : List (List ℕ)) → is_request (fields line) ≡ true → request_lines (line ∷ more) ≡ fields line ∷ request_lines more
unfolding request_lines
request_lines_taking line more e = cond-true (is_request (fields line)) (fields line ∷ request_lines more) (request_lines more) e

-- numbers go on following after one more request
pub NumbersFollow_push : (asks : List Ask) (ask : Ask) → NumbersFollow asks → Follows asks ask → NumbersFollow (asks ++ ask ∷ [])
NumbersFollow_push asks ask before next = λ k d h.
    ⊎_elim
    (λ (l : k < length asks). rw (take-append-le k asks (ask ∷ []) (omega arith), get_or_append_left asks (ask ∷ []) d k l) (before k d l))
    (λ (l : length asks ≤ k).
    let at : length asks ≡ k = omega (arith, length_push asks ask) in
    rw (take_at asks (ask ∷ []) k at, get_or_at asks ask [] d k at) next)
    (cases_lt k (length asks))

pub Follows-from_push : (asks : List Ask) (ask : Ask) → NumbersFollow (asks ++ ask ∷ []) → Follows asks ask
Follows-from_push asks ask h =
    let there : length asks < length (asks ++ ask ∷ []) = omega (arith, length_push asks ask) in
    let next = h (length asks) ask there in
    rw (take_at asks (ask ∷ []) (length asks) refl, get_or_at asks ask [] ask (length asks) refl) at next

pub NumbersFollow_take : (n : ℕ) (asks : List Ask) → NumbersFollow asks → NumbersFollow (take n asks)
NumbersFollow_take n asks h = λ k d l.
    let few : k < n = omega (arith, length-take n asks) in
    let there : k < length asks = omega (arith, length-take n asks) in
    rw (take-take k n asks (omega arith), get_or-take n asks k d few) (h k d there)

-- a line that asks for nothing changes nothing
pub IsScript_skip : (kind : Kind) (clients : ℕ) (read : List (List ℕ)) (line : List ℕ) (asks : List Ask) → is_request (fields line) ≡ false → IsScript kind clients read asks → IsScript kind clients (read ++ line ∷ []) asks
IsScript_skip kind clients read line asks e h = record { reads = ap (each (request_of kind clients)) (request_lines_no read line e) ∙ h.reads; follow = h.follow }

-- one more request
pub IsScript_push : (kind : Kind) (clients : ℕ) (read : List (List ℕ)) (line : List ℕ) (asks : List Ask) (ask : Ask) → is_request (fields line) ≡ true → request_of kind clients (fields line) ≡ Some ask → IsScript kind clients read asks → Follows asks ask → IsScript kind clients (read ++ line ∷ []) (asks ++ ask ∷ [])
IsScript_push kind clients read line asks ask e reads h next = record {
  reads = rw (request_lines_yes read line e, each_push (request_of kind clients) (request_lines read) (fields line), h.reads, reads) refl;
  follow = NumbersFollow_push asks ask h.follow next;
}

none_by : (kind : Kind) (clients : ℕ) (read : List (List ℕ)) (line : List ℕ) (asks : List Ask) (o : Option Ask) → request_of kind clients (fields line) ≡ o → is_request (fields line) ≡ true → IsScript kind clients read asks → ((ask : Ask) → request_of kind clients (fields line) ≡ Some ask → Follows asks ask → ⊥) → (all : List Ask) → IsScript kind clients (read ++ line ∷ []) all → ⊥
none_by kind clients read line asks None e asks_for h refuses all script =
    let reads = rw (request_lines_yes read line asks_for, each_push (request_of kind clients) (request_lines read) (fields line), h.reads, e) at script.reads in
    none-some all reads
none_by kind clients read line asks (Some ask) e asks_for h refuses all script =
    let reads = rw (request_lines_yes read line asks_for, each_push (request_of kind clients) (request_lines read) (fields line), h.reads, e) at script.reads in
    let whole : asks ++ ask ∷ [] ≡ all = same_Some (asks ++ ask ∷ []) all reads in
    refuses ask e (Follows-from_push asks ask (let P : List Ask → Type 0 = λ all. NumbersFollow all in subst P (sym whole) script.follow))

-- a request line that reads as none, or doesn't follow, ends what is a script
pub IsScript_none : (kind : Kind) (clients : ℕ) (read : List (List ℕ)) (line : List ℕ) (asks : List Ask) → is_request (fields line) ≡ true → IsScript kind clients read asks → ((ask : Ask) → request_of kind clients (fields line) ≡ Some ask → Follows asks ask → ⊥) → (all : List Ask) → IsScript kind clients (read ++ line ∷ []) all → ⊥
IsScript_none kind clients read line asks asks_for h refuses all script = none_by kind clients read line asks (request_of kind clients (fields line)) refl asks_for h refuses all script

-- the first lines of a script are a script
pub IsScript_front : (kind : Kind) (clients : ℕ) (lines more : List (List ℕ)) (asks : List Ask) → IsScript kind clients (lines ++ more) asks → IsScript kind clients lines (take (length (request_lines lines)) asks)
IsScript_front kind clients lines more asks h = record {
  reads = each_front (request_of kind clients) (request_lines lines) (request_lines more) asks (ap (each (request_of kind clients)) (sym (request_lines_append lines more)) ∙ h.reads);
  follow = NumbersFollow_take (length (request_lines lines)) asks h.follow;
}

-- lines after the first refused one change nothing
pub IsRefused_more : (kind : Kind) (clients : ℕ) (read more : List (List ℕ)) (number : ℕ) → number ≤ length read → IsRefused kind clients read number → IsRefused kind clients (read ++ more) number
IsRefused_more kind clients read more number within h = record {
  before = (h.before.0, rw (take-append-le (number - 1) read more (omega arith)) h.before.1);
  none = λ asks script. h.none asks (rw (take-append-le number read more within) at script);
}

-- the line after a script, with which the lines are none
pub IsRefused_now : (kind : Kind) (clients : ℕ) (read : List (List ℕ)) (line : List ℕ) (asks : List Ask) → IsScript kind clients read asks → ((all : List Ask) → IsScript kind clients (read ++ line ∷ []) all → ⊥) → IsRefused kind clients (read ++ line ∷ []) (length read + 1)
IsRefused_now kind clients read line asks h none = record {
  before = (asks, rw (take_at read (line ∷ []) (length read + 1 - 1) (omega arith)) h);
  none = λ all script. none all (rw (take_all (length read + 1) (read ++ line ∷ []) (omega (arith, length_push read line))) at script);
}

known_some : (n : ℕ) → 1 ≤ n → some_number n ≡ Some n
known_some n some = cond-false (eqb n 0) None (Some n) (ne_eqb n 0 (λ e. omega arith))

last_number_push : (client : ℕ) (asks : List Ask) (ask : Ask) → last_number client (asks ++ ask ∷ []) ≡ cond (eqb ask.client client) (Some ask.number) (last_number client asks)
last_number_push client asks ask = fold_push (λ (last : Option ℕ) (ask : Ask). cond (eqb ask.client client) (Some ask.number) last) None asks ask

-- the last numbers after one more request
pub HoldsLast_push : (last : List ℕ) (asks : List Ask) (ask : Ask) → length last ≡ 16 → ask.client < 16 → 1 ≤ ask.number → HoldsLast last asks → HoldsLast (set last ask.client ask.number) (asks ++ ask ∷ [])
HoldsLast_push last asks ask len within some h = λ client l.
    ⊎_elim
    (λ (e : ask.client ≡ client).
    last_number_push client asks ask ∙ cond-true (eqb ask.client client) _ _ (eq-eqb ask.client client e)
    ∙ sym (ap some_number (ap (λ k. get_or (set last ask.client ask.number) k 0) (sym e) ∙ get_or-set_same last ask.client ask.number 0 (omega arith)) ∙ known_some ask.number some))
    (λ (e : ask.client ≡ client → ⊥).
    last_number_push client asks ask ∙ cond-false (eqb ask.client client) _ _ (ne_eqb ask.client client e)
    ∙ h client l ∙ sym (ap some_number (get_or-set_other last ask.client client ask.number 0 (λ f. e (sym f)))))
    (cases_eq ask.client client)

pub Follows-from_last : (last : List ℕ) (asks : List Ask) (ask : Ask) → ask.client < 16 → HoldsLast last asks → FollowsLast last ask → Follows asks ask
Follows-from_last last asks ask within h next = let P : Option ℕ → Type 0 = λ o. IfSome o (λ number. ask.number ≡ number + 1) in subst P (sym (h ask.client within)) next

pub FollowsLast-from_asks : (last : List ℕ) (asks : List Ask) (ask : Ask) → ask.client < 16 → HoldsLast last asks → Follows asks ask → FollowsLast last ask
FollowsLast-from_asks last asks ask within h next = let P : Option ℕ → Type 0 = λ o. IfSome o (λ number. ask.number ≡ number + 1) in subst P (h ask.client within) next

pub length_request_lines_yes : (read : List (List ℕ)) (line : List ℕ) → is_request (fields line) ≡ true → length (request_lines (read ++ line ∷ [])) ≡ length (request_lines read) + 1
length_request_lines_yes read line e = ap length (request_lines_yes read line e) ∙ length_push (request_lines read) (fields line)

skip_by : (kind : Kind) (clients : ℕ) (read : List (List ℕ)) (line : List ℕ) (asks : List Ask) (last : List ℕ) (refused : Option ℕ) → is_request (fields line) ≡ false
    → MatchOption refused (IsScript kind clients read asks × HoldsLast last asks) (λ number. (number ≤ length read) × IsRefused kind clients read number)
    → MatchOption refused (IsScript kind clients (read ++ line ∷ []) asks × HoldsLast last asks) (λ number. (number ≤ length (read ++ line ∷ [])) × IsRefused kind clients (read ++ line ∷ []) number)
skip_by kind clients read line asks last None e h = (IsScript_skip kind clients read line asks e h.0, h.1)
skip_by kind clients read line asks last (Some number) e h = (omega (arith, h.0, length_push read line), IsRefused_more kind clients read (line ∷ []) number h.0 h.1)

refused_by : (kind : Kind) (clients : ℕ) (read : List (List ℕ)) (line : List ℕ) (asks : List Ask) (last : List ℕ) (refused : Option ℕ) → is_some refused ≡ true
    → MatchOption refused (IsScript kind clients read asks × HoldsLast last asks) (λ number. (number ≤ length read) × IsRefused kind clients read number)
    → MatchOption refused (IsScript kind clients (read ++ line ∷ []) asks × HoldsLast last asks) (λ number. (number ≤ length (read ++ line ∷ [])) × IsRefused kind clients (read ++ line ∷ []) number)
refused_by kind clients read line asks last None e h = absurd (false≢true e)
refused_by kind clients read line asks last (Some number) e h = (omega (arith, h.0, length_push read line), IsRefused_more kind clients read (line ∷ []) number h.0 h.1)

-- no line was refused yet
pub unrefused : (kind : Kind) (clients : ℕ) (read : List (List ℕ)) (asks : List Ask) (last : List ℕ) (refused : Option ℕ) → is_some refused ≡ false
    → MatchOption refused (IsScript kind clients read asks × HoldsLast last asks) (λ number. (number ≤ length read) × IsRefused kind clients read number)
    → IsScript kind clients read asks × HoldsLast last asks
unrefused kind clients read asks last None e h = h
unrefused kind clients read asks last (Some number) e h = absurd (false≢true (sym e))

-- after a line that asks for nothing
pub Holds_skip : (kind : Kind) (clients : ℕ) (read : List (List ℕ)) (line : List ℕ) (reading : Reading) → is_request (fields line) ≡ false → Holds kind clients read reading → Holds kind clients (read ++ line ∷ []) (record reading { lines = reading.lines + 1 })
Holds_skip kind clients read line reading e h = record {
  lines = ap (λ n. n + 1) h.lines ∙ sym (length_push read line);
  requests = h.requests ∙ sym (ap length (request_lines_no read line e));
  last = h.last;
  few = h.few;
  script = skip_by kind clients read line reading.asks.items reading.last reading.refused e h.script;
}

-- after a request line that comes after a refused one
pub Holds_after : (kind : Kind) (clients : ℕ) (read : List (List ℕ)) (line : List ℕ) (reading : Reading) → is_request (fields line) ≡ true → reading.requests < MOST_REQUESTS → is_some reading.refused ≡ true → Holds kind clients read reading → Holds kind clients (read ++ line ∷ []) (record reading { lines = reading.lines + 1; requests = reading.requests + 1 })
Holds_after kind clients read line reading e room refused h = record {
  lines = ap (λ n. n + 1) h.lines ∙ sym (length_push read line);
  requests = ap (λ n. n + 1) h.requests ∙ sym (length_request_lines_yes read line e);
  last = h.last;
  few = omega arith;
  script = refused_by kind clients read line reading.asks.items reading.last reading.refused refused h.script;
}

-- after the first refused line
pub Holds_refused : (kind : Kind) (clients : ℕ) (read : List (List ℕ)) (line : List ℕ) (reading : Reading) → is_request (fields line) ≡ true → reading.requests < MOST_REQUESTS → is_some reading.refused ≡ false
    → ((ask : Ask) → request_of kind clients (fields line) ≡ Some ask → (ask.client < 16) × (FollowsLast reading.last ask → ⊥))
    → Holds kind clients read reading → Holds kind clients (read ++ line ∷ []) (record reading { lines = reading.lines + 1; requests = reading.requests + 1; refused = Some (reading.lines + 1) })
Holds_refused kind clients read line reading e room refused refuses h =
    let script = unrefused kind clients read reading.asks.items reading.last reading.refused refused h.script in
    let lines : reading.lines + 1 ≡ length (read ++ line ∷ []) = ap (λ n. n + 1) h.lines ∙ sym (length_push read line) in
    let none = IsScript_none kind clients read line reading.asks.items e script.0
    (λ ask reads next. let p = refuses ask reads in p.1 (FollowsLast-from_asks reading.last reading.asks.items ask p.0 script.1 next)) in
    record {
      lines = lines;
      requests = ap (λ n. n + 1) h.requests ∙ sym (length_request_lines_yes read line e);
      last = h.last;
      few = omega arith;
      script = (omega arith, rw h.lines (IsRefused_now kind clients read line reading.asks.items script.0 none));
    }

pub none_if : (o : Option ℕ) → is_some o ≡ false → o ≡ None
none_if None e = refl
none_if (Some n) e = absurd (false≢true (sym e))

-- after one more request
pub Holds_push : (kind : Kind) (clients : ℕ) (read : List (List ℕ)) (line : List ℕ) (reading new : Reading) (ask : Ask) → is_request (fields line) ≡ true → reading.requests < MOST_REQUESTS → is_some reading.refused ≡ false
    → request_of kind clients (fields line) ≡ Some ask → ask.client < 16 → 1 ≤ ask.number → FollowsLast reading.last ask
    → new.asks.items ≡ reading.asks.items ++ ask ∷ [] → new.last ≡ set reading.last ask.client ask.number → new.lines ≡ reading.lines + 1 → new.requests ≡ reading.requests + 1 → new.refused ≡ reading.refused
    → Holds kind clients read reading → Holds kind clients (read ++ line ∷ []) new
Holds_push kind clients read line reading new ask e room refused reads within some next asks last lines requests same h =
    let script = unrefused kind clients read reading.asks.items reading.last reading.refused refused h.script in
    let pushed = IsScript_push kind clients read line reading.asks.items ask e reads script.0 (Follows-from_last reading.last reading.asks.items ask within script.1 next) in
    let held = HoldsLast_push reading.last reading.asks.items ask h.last within some script.1 in
    record {
      lines = lines ∙ ap (λ n. n + 1) h.lines ∙ sym (length_push read line);
      requests = requests ∙ ap (λ n. n + 1) h.requests ∙ sym (length_request_lines_yes read line e);
      last = ap length last ∙ length-set reading.last ask.client ask.number ∙ h.last;
      few = omega arith;
      script = rw (same ∙ none_if reading.refused refused, asks, last) (pushed, held);
    }

-- one request line too many
pub too_many : (kind : Kind) (clients : ℕ) (read : List (List ℕ)) (line : List ℕ) (reading : Reading) → is_request (fields line) ≡ true → MOST_REQUESTS ≤ reading.requests → Holds kind clients read reading → MOST_REQUESTS < length (request_lines (read ++ line ∷ []))
too_many kind clients read line reading e full h = let requests = h.requests in let more = length_request_lines_yes read line e in omega arith
