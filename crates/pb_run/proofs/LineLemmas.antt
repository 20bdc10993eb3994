-- Lines of a script, one after the other.
use Rattle.std.proofs.Common.{◌≡◌, ◌≢◌, ℕ, Bool, true, false, cond, eqb, ◌||◌, List, [], ◌∷◌, ◌++◌, length, refl, sym, ap, subst, ◌∙◌, eq-eqb, arith}
use Rattle.std.specs.List.{zip, filter}
use Rattle.std.proofs.lemmas.Bool.{false≢true}
use Rattle.std.proofs.lemmas.Bool.Decides.{nat_tests}
use Rattle.std.proofs.lemmas.List.{append-nil}
use Rattle.std.proofs.lemmas.List.Elements.{filter-append}
use Rattle.pb_object.specs.declared.request.Ask.{Ask}
use Rattle.pb_object.specs.declared.request.Kept.{Kept as KeptRequest}
use Rattle.pb_object.specs.History.{History}
use Rattle.pb_report.specs.declared.outcome.Outcome.{Outcome}
use Rattle.pb_report.specs.declared.outcome.Outcome.TheVariants.{Left}
use Rattle.pb_report.specs.Outcomes.{AreLines, lines_of_client}
use Rattle.pb_report.specs.GoingOn.{is_ending, has_ended, kept_next, kept_after}
use Rattle.pb_report.proofs.GoingOn.{Line, IsNextLine, HasEntriesOf, lines_push, lines_leave, lines_over}
use Rattle.pb_run.specs.Line.{ends_run}

pub zip-push : (asks : List Ask) (list : List Outcome) (ask : Ask) (o : Outcome) → length list ≡ length asks
    → zip (asks ++ ask ∷ []) (list ++ o ∷ []) ≡ zip asks list ++ (ask, o) ∷ []
zip-push [] [] ask o same = refl
zip-push [] (first ∷ list) ask o same = absurd (omega (arith, same))
zip-push (first ∷ asks) [] ask o same = absurd (omega (arith, same))
zip-push (first ∷ asks) (second ∷ list) ask o same =
    ap (λ (lines : List Line). (first, second) ∷ lines) (zip-push asks list ask o (omega (arith, same)))

-- a line is of its own client, and of no other
abbrev IsOf : ℕ → Line → Bool
IsOf client line = eqb line.0.client client

pub own_push : (lines : List Line) (ask : Ask) (o : Outcome)
    → lines_of_client ask.client (lines ++ (ask, o) ∷ []) ≡ lines_of_client ask.client lines ++ (ask, o) ∷ []
own_push lines ask o =
    let line : Line = (ask, o) in
    filter-append (IsOf ask.client) lines (line ∷ [])
    ∙ ap (λ (own : Bool). filter (IsOf ask.client) lines ++ cond own (line ∷ []) []) (eq-eqb ask.client ask.client refl)

pub other_push : (lines : List Line) (ask : Ask) (o : Outcome) (client : ℕ) → client ≢ ask.client
    → lines_of_client client (lines ++ (ask, o) ∷ []) ≡ lines_of_client client lines
other_push lines ask o client other =
    let line : Line = (ask, o) in
    let apart : eqb ask.client client ≡ false = grind (arith, nat_tests) in
    filter-append (IsOf client) lines (line ∷ [])
    ∙ (ap (λ (own : Bool). filter (IsOf client) lines ++ cond own (line ∷ []) []) apart ∙ append-nil
    (filter (IsOf client) lines))

pub kept_after-push : (kept : List KeptRequest) (lines : List Line) (ask : Ask) (o : Outcome)
    → kept_after kept (lines ++ (ask, o) ∷ []) ≡ kept_next (kept_after kept lines) ask o
kept_after-push kept [] ask o = refl
kept_after-push kept (line ∷ lines) ask o = kept_after-push (kept_next kept line.0 line.1) lines ask o

or_assoc : (a b c : Bool) → (a || (b || c)) ≡ ((a || b) || c)
or_assoc true b c = refl
or_assoc false b c = refl

or_none : (a : Bool) → (a || false) ≡ a
or_none true = refl
or_none false = refl

pub has_ended-push : (lines : List Line) (ask : Ask) (o : Outcome)
    → has_ended (lines ++ (ask, o) ∷ []) ≡ (has_ended lines || is_ending o)
has_ended-push [] ask o = or_none (is_ending o)
has_ended-push (line ∷ lines) ask o =
    ap (λ (b : Bool). is_ending line.1 || b) (has_ended-push lines ask o) ∙ or_assoc (is_ending line.1)
    (has_ended lines) (is_ending o)

-- A client's lines when the script goes on

-- these lines of it have their outcomes; whether its further ones are left; and else what is known to be kept of it by now
pub record IsClientSoFar (rounds : History) (first : List KeptRequest) (lines : List Line) (known : List KeptRequest) (left : Bool) : Type 0 where
  pub are : AreLines rounds first lines
  pub ended : has_ended lines ≡ left
  pub kept : left ≡ false → known ≡ kept_after first lines

-- its own lines go on with one more
pub next_line : (rounds more : History) (first : List KeptRequest) (lines : List Line) (known next : List KeptRequest)
    (ask : Ask) (o : Outcome)
    → HasEntriesOf more rounds → IsNextLine more known ask o → ends_run o ≡ is_ending o
    → (is_ending o ≡ false → next ≡ kept_next known ask o)
    → IsClientSoFar rounds first lines known false → IsClientSoFar more first (lines ++ (ask, o) ∷ []) next (ends_run o)
next_line rounds more first lines known next ask o entries is same then so =
    let same_kept : known ≡ kept_after first lines = so.kept refl in
    record {
      are = lines_push more lines first ask o (lines_over rounds more lines first entries so.are) so.ended
          (subst (λ (k : List KeptRequest). IsNextLine more k ask o) same_kept is);
      ended = has_ended-push lines ask o ∙ (ap (λ (b : Bool). b || is_ending o) so.ended ∙ sym same);
      kept = λ goes. then (sym same ∙ goes) ∙ (ap (λ (k : List KeptRequest). kept_next k ask o) same_kept ∙ sym
          (kept_after-push first lines ask o));
    }

-- or one more is left
pub left_line : (rounds : History) (first : List KeptRequest) (lines : List Line) (known : List KeptRequest) (ask : Ask)
    → IsClientSoFar rounds first lines known true → IsClientSoFar rounds first (lines ++ (ask, Left) ∷ []) known true
left_line rounds first lines known ask so = record {
  are = lines_leave rounds lines first ask so.are so.ended;
  ended = has_ended-push lines ask Left ∙ (or_none (has_ended lines) ∙ so.ended);
  kept = λ goes. absurd (false≢true (sym goes));
}
