-- The outcomes of a client's lines, one line after the other.
use Rattle.std.proofs.Common.{◌≡◌, ℕ, zero, suc, ◌+◌, leb, eqb, Bool, true, false, cond, ◌||◌, List, [], ◌∷◌, ◌++◌, Option, Some, None, refl, sym, subst, arith}
use Rattle.std.proofs.lemmas.Bool.{false≢true}
use Rattle.std.proofs.lemmas.List.Elements.{All-append}
use Rattle.pb_object.specs.declared.request.Ask.{Ask}
use Rattle.pb_object.specs.declared.request.Kept.{Kept as KeptRequest}
use Rattle.pb_object.specs.History.{Entry, History}
use Rattle.pb_object.specs.Standing.{newest}
use Rattle.pb_report.specs.declared.outcome.Outcome.{Outcome}
use Rattle.pb_report.specs.declared.outcome.Outcome.TheVariants.{New, Kept, Old, Gap, Changed, Doubt, Left}
use Rattle.pb_report.specs.GoingOn.{is_ending, has_ended, kept_next, kept_after}
use Rattle.pb_report.specs.Outcomes.{AreLeft, AreLines, GoesOn, IsLine, HasEntry, decided_outcome, entry_of, outcome_by}
use Rattle.pb_object.specs.KeptLists.{kept_with}
use Rattle.pb_object.specs.Request.{is_same_op}

abbrev pub Line : Type 0
Line = Ask × Outcome

-- an outcome that kept requests decide
abbrev IsDecided : Outcome → Type 0
IsDecided (New reply) = ⊥
IsDecided Doubt = ⊥
IsDecided Left = ⊥
IsDecided _ = Unit {0}

abbrev AreDecided : Option Outcome → Type 0
AreDecided None = Unit {0}
AreDecided (Some outcome) = IsDecided outcome

decided_by_cases : (one : Option KeptRequest) (last : ℕ) (ask : Ask) → AreDecided (outcome_by one last ask)
decided_by_cases (Some one) last ask = elim (is_same_op one.op ask.op) as (λ same. IsDecided (cond same (Kept one.reply) Changed)) [ true ↦ tt | false ↦ tt ]
decided_by_cases None last ask =
    elim (leb ask.number last) as (λ old. AreDecided (cond old (Some Old) (cond (eqb ask.number (last + 1)) None (Some Gap)))) [
      | true ↦ tt
      | false ↦ elim (eqb ask.number (last + 1)) as (λ next. AreDecided (cond next None (Some Gap))) [ true ↦ tt | false ↦ tt ]
    ]

are_decided : (kept : List KeptRequest) (ask : Ask) → AreDecided (decided_outcome kept ask)
are_decided kept ask = decided_by_cases (kept_with ask.number kept) (newest kept).number ask

-- what holds of further lines may be replaced by what follows from it
abbrev Goes : (List KeptRequest → Type 0) → (List KeptRequest → Type 0) → List KeptRequest → Ask → Outcome → Type 0
Goes on more kept ask outcome = is_ending outcome ≡ false → on (kept_next kept ask outcome) → more (kept_next kept ask outcome)

abbrev Ends : Type 0 → Type 0 → Outcome → Type 0
Ends left rest outcome = is_ending outcome ≡ true → left → rest

decided_moves : (decided : Outcome) (on more : List KeptRequest → Type 0) (left rest : Type 0) (kept : List KeptRequest) (ask : Ask)
    → IsDecided decided → Goes on more kept ask decided → Ends left rest decided → GoesOn decided (on kept) left → GoesOn decided (more kept) rest
decided_moves (New reply) on more left rest kept ask is goes ends x = absurd is
decided_moves (Kept reply) on more left rest kept ask is goes ends x = goes refl x
decided_moves Old on more left rest kept ask is goes ends x = goes refl x
decided_moves Gap on more left rest kept ask is goes ends x = ends refl x
decided_moves Changed on more left rest kept ask is goes ends x = ends refl x
decided_moves Doubt on more left rest kept ask is goes ends x = absurd is
decided_moves Left on more left rest kept ask is goes ends x = absurd is

line_moves : (decided : Option Outcome) (history : History) (kept : List KeptRequest) (ask : Ask) (o : Outcome) (on more : List KeptRequest → Type 0) (left rest : Type 0)
    → AreDecided decided → Goes on more kept ask o → Ends left rest o → IsLine decided history kept ask o on left → IsLine decided history kept ask o more rest
line_moves (Some decided) history kept ask o on more left rest is goes ends x =
    (x.0, decided_moves decided on more left rest kept ask is (subst (λ (outcome : Outcome). Goes on more kept ask outcome) x.0 goes) (subst (λ (outcome : Outcome). Ends left rest outcome) x.0 ends) x.1)
line_moves None history kept ask (New reply) on more left rest is goes ends x = (x.0, goes refl x.1)
line_moves None history kept ask Doubt on more left rest is goes ends x = ends refl x
line_moves None history kept ask (Kept reply) on more left rest is goes ends x = absurd x
line_moves None history kept ask Old on more left rest is goes ends x = absurd x
line_moves None history kept ask Gap on more left rest is goes ends x = absurd x
line_moves None history kept ask Changed on more left rest is goes ends x = absurd x
line_moves None history kept ask Left on more left rest is goes ends x = absurd x

-- one more line, by what is kept after those before it
abbrev pub IsNextLine : History → List KeptRequest → Ask → Outcome → Type 0
IsNextLine history kept ask o = IsLine (decided_outcome kept ask) history kept ask o (λ next. Unit {0}) (Unit {0})

first_ends : (a b : Bool) → (a || b) ≡ false → a ≡ true → ⊥
first_ends true b none ends = false≢true (sym none)
first_ends false b none ends = false≢true ends

rest_goes : (a b : Bool) → (a || b) ≡ false → b ≡ false
rest_goes true b none = absurd (false≢true (sym none))
rest_goes false b none = none

rest_ends : (a b : Bool) → (a || b) ≡ true → a ≡ false → b ≡ true
rest_ends true b some goes = absurd (false≢true (sym goes))
rest_ends false b some goes = some

-- lines of which none ended the client's run go on with one more
pub lines_push : (history : History) (lines : List Line) (kept : List KeptRequest) (ask : Ask) (o : Outcome) → AreLines history kept lines → has_ended lines ≡ false
    → IsNextLine history (kept_after kept lines) ask o → AreLines history kept (lines ++ (ask, o) ∷ [])
unfolding AreLines
lines_push history [] kept ask o lines_are none next =
    line_moves (decided_outcome kept ask) history kept ask o (λ next. Unit {0}) (λ next. AreLines history next []) (Unit {0}) (AreLeft [])
    (are_decided kept ask) (λ goes x. tt) (λ ends x k d h. absurd (omega arith)) next
lines_push history (line ∷ lines) kept ask o lines_are none next =
    line_moves (decided_outcome kept line.0) history kept line.0 line.1 (λ then_kept. AreLines history then_kept lines) (λ then_kept. AreLines history then_kept (lines ++ (ask, o) ∷ []))
    (AreLeft lines) (AreLeft (lines ++ (ask, o) ∷ [])) (are_decided kept line.0)
    (λ goes x. lines_push history lines (kept_next kept line.0 line.1) ask o x (rest_goes (is_ending line.1) (has_ended lines) none) next)
    (λ ends x. absurd (first_ends (is_ending line.1) (has_ended lines) none ends)) lines_are

abbrev IsLeftLine : Line → Type 0
IsLeftLine line = line.1 ≡ Left

left_push : (lines : List Line) (ask : Ask) → AreLeft lines → AreLeft (lines ++ (ask, Left) ∷ [])
left_push lines ask left = All-append IsLeftLine lines ((ask, Left) ∷ []) left (left_one ask)
  where
    left_one : (ask : Ask) → AreLeft ((ask, Left) ∷ [])
    left_one ask zero d h = refl
    left_one ask (suc k) d h = absurd (omega arith)

-- after one that did, one more is left
pub lines_leave : (history : History) (lines : List Line) (kept : List KeptRequest) (ask : Ask) → AreLines history kept lines → has_ended lines ≡ true
    → AreLines history kept (lines ++ (ask, Left) ∷ [])
unfolding AreLines
lines_leave history [] kept ask lines_are some = absurd (false≢true some)
lines_leave history (line ∷ lines) kept ask lines_are some =
    line_moves (decided_outcome kept line.0) history kept line.0 line.1 (λ then_kept. AreLines history then_kept lines) (λ then_kept. AreLines history then_kept (lines ++ (ask, Left) ∷ []))
    (AreLeft lines) (AreLeft (lines ++ (ask, Left) ∷ [])) (are_decided kept line.0)
    (λ goes x. lines_leave history lines (kept_next kept line.0 line.1) ask x (rest_ends (is_ending line.1) (has_ended lines) some goes))
    (λ ends x. left_push lines ask x) lines_are

-- a history with more entries has the same lines
abbrev pub HasEntriesOf : History → History → Type 0
HasEntriesOf longer history = (entry : Entry) → HasEntry history entry → HasEntry longer entry

line_over : (decided : Option Outcome) (history longer : History) (kept : List KeptRequest) (ask : Ask) (o : Outcome) (on : List KeptRequest → Type 0) (left : Type 0)
    → HasEntriesOf longer history → IsLine decided history kept ask o on left → IsLine decided longer kept ask o on left
line_over (Some decided) history longer kept ask o on left more x = x
line_over None history longer kept ask (New reply) on left more x = (more (entry_of ask reply) x.0, x.1)
line_over None history longer kept ask Doubt on left more x = x
line_over None history longer kept ask (Kept reply) on left more x = absurd x
line_over None history longer kept ask Old on left more x = absurd x
line_over None history longer kept ask Gap on left more x = absurd x
line_over None history longer kept ask Changed on left more x = absurd x
line_over None history longer kept ask Left on left more x = absurd x

pub lines_over : (history longer : History) (lines : List Line) (kept : List KeptRequest) → HasEntriesOf longer history → AreLines history kept lines → AreLines longer kept lines
unfolding AreLines
lines_over history longer [] kept more lines_are = tt
lines_over history longer (line ∷ lines) kept more lines_are =
    line_over (decided_outcome kept line.0) history longer kept line.0 line.1 (λ then_kept. AreLines longer then_kept lines) (AreLeft lines) more
    (line_moves (decided_outcome kept line.0) history kept line.0 line.1 (λ then_kept. AreLines history then_kept lines) (λ then_kept. AreLines longer then_kept lines)
    (AreLeft lines) (AreLeft lines) (are_decided kept line.0)
    (λ goes x. lines_over history longer lines (kept_next kept line.0 line.1) more x) (λ ends x. x) lines_are)
