-- What asking again says of a line's outcome.
use Rattle.std.proofs.Common.{◌≡◌, ◌≢◌, ℕ, suc, ◌+◌, ◌<◌, ◌≤◌, leb, eqb, Bool, true, false, cond, List, [], ◌∷◌, ◌++◌, length, map, Option, Some, None, refl, sym, ap, subst, ◌∙◌, arith}
use Rattle.std.proofs.lemmas.Bool.Decides.{nat_tests}
use Rattle.std.proofs.lemmas.List.{map-append}
use Rattle.pb_object.specs.declared.request.Ask.{Ask}
use Rattle.pb_object.specs.declared.request.Kept.{Kept as KeptRequest}
use Rattle.pb_object.specs.declared.request.Op.{Op}
use Rattle.pb_object.specs.KeptLists.{IsKeptList, kept_number, kept_with}
use Rattle.pb_object.specs.Standing.{newest}
use Rattle.pb_core.specs.Client.{Client}
use Rattle.pb_core.specs.MemoryParts.{own_entries}
use Rattle.pb_object.proofs.KeptLists.{at_most_newest}
use Rattle.pb_report.specs.declared.outcome.Outcome.{Outcome}
use Rattle.pb_report.specs.declared.outcome.Outcome.TheVariants as outcome
use Rattle.pb_report.specs.Outcomes.{decided_outcome, outcome_by}
use Rattle.pb_object.specs.Request.{is_same_op}
use Rattle.pb_rule.specs.View.{PassView}
use Rattle.pb_shared.specs.declared.answers.Attempt.TheVariants.{Fault}
use Rattle.pb_shared.specs.declared.answers.Again.{Again}
use Rattle.pb_shared.specs.declared.answers.Again.TheVariants.{Announced, Kept, Old, Gap, Changed}
use Rattle.pb_shared.specs.Kept.{again_on, again_by}
use Rattle.pb_shared.specs.Passes.{PassSeen, announces}
use Rattle.pb_shared.specs.Tries.{HasTried}
use Rattle.pb_run.specs.Line.{met_ask, asks_met, StaysOpen, TriesAsk, DecidesOrTries, RunsLine}

-- the outcome that asking again decides, and none where the request is announced
abbrev pub outcome_of : Again → Option Outcome
outcome_of Announced = None
outcome_of (Kept reply) = Some (outcome.Kept reply)
outcome_of (Old last) = Some outcome.Old
outcome_of (Gap last) = Some outcome.Gap
outcome_of (Changed kept) = Some outcome.Changed

there : (number : ℕ) (first : KeptRequest) (rest : List KeptRequest) → first.number ≢ number → kept_with number (first ∷ rest) ≡ kept_with number rest
there number first rest other = grind (arith, nat_tests)

none_with : (number : ℕ) (list : List KeptRequest) → ((place : ℕ) → place < length list → kept_number list place ≢ number) → kept_with number list ≡ None
none_with number [] apart = refl
none_with number (first ∷ rest) apart =
    there number first rest (apart 0 (omega arith)) ∙ none_with number rest (λ place inside. apart (suc place) (omega (arith, inside)))

-- no kept request has a number beyond the newest
none_beyond : (number : ℕ) (list : List KeptRequest) → IsKeptList list → (newest list).number < number → kept_with number list ≡ None
none_beyond number list is beyond =
    none_with number list (λ place inside same. omega (arith, at_most_newest list place is inside, beyond, same))

by_kept : (one : Option KeptRequest) (last : ℕ) (ask : Ask) → ask.number ≤ last → outcome_by one last ask ≡ outcome_of (again_by one last ask.op)
by_kept (Some one) last ask within = go (is_same_op one.op ask.op)
  where
    go : (same : Bool) → Some (cond same (outcome.Kept one.reply) outcome.Changed) ≡ outcome_of (cond same (Kept one.reply) (Changed one))
    go true = refl
    go false = refl
by_kept None last ask within = grind (arith, nat_tests)

beyond_kept : (last : ℕ) (ask : Ask) → last < ask.number → outcome_by None last ask ≡ outcome_of (cond (eqb ask.number (last + 1)) Announced (Gap last))
beyond_kept last ask beyond = go (eqb ask.number (last + 1)) refl (leb ask.number last) refl
  where
    go : (next : Bool) → eqb ask.number (last + 1) ≡ next → (old : Bool) → leb ask.number last ≡ old → cond old (Some outcome.Old) (cond next None (Some outcome.Gap)) ≡ outcome_of (cond next Announced (Gap last))
    go next is true within = absurd (grind (arith, nat_tests))
    go true is false within = refl
    go false is false within = refl

pub judged : (list : List KeptRequest) (ask : Ask) → IsKeptList list → decided_outcome list ask ≡ outcome_of (again_on list ask.number ask.op)
judged list ask is = go (leb ask.number last) refl
  where
    last : ℕ
    last = (newest list).number

    go : (within : Bool) → leb ask.number (newest list).number ≡ within
        → decided_outcome list ask ≡ outcome_of (cond within (again_by (kept_with ask.number list) (newest list).number ask.op) (cond (eqb ask.number ((newest list).number + 1)) Announced (Gap (newest list).number)))
    go true within = by_kept (kept_with ask.number list) last ask (grind (arith, nat_tests))
    go false beyond =
        let above : last < ask.number = grind (arith, nat_tests) in
        ap (λ (one : Option KeptRequest). outcome_by one last ask) (none_beyond ask.number list is above) ∙ beyond_kept last ask above

-- what a try comes to from where the request was announced it comes to from where it wasn't yet
from_idle : (op : Op) (ask : Ask) (pass : PassSeen) (new : PassView) (o : Outcome) → TriesAsk ask (announces op pass).view new o → TriesAsk ask pass.view new o
from_idle op ask pass new (outcome.New reply) tried = record { mine = tried.mine; kept = tried.kept; idle = tried.idle; met = tried.met }
from_idle op ask pass new outcome.Doubt tried = record { mine = tried.mine; kept = tried.kept; pending = tried.pending; asked = tried.asked; met = tried.met }
from_idle op ask pass new (outcome.Kept reply) tried = absurd tried
from_idle op ask pass new outcome.Old tried = absurd tried
from_idle op ask pass new outcome.Gap tried = absurd tried
from_idle op ask pass new outcome.Changed tried = absurd tried
from_idle op ask pass new outcome.Left tried = absurd tried

-- a request that isn't left goes by what asking again answers
pub goes_by : (left : Bool) (ask : Ask) (old new : PassView) (o : Outcome) (again : Again) → left ≡ false → IsKeptList old.body.kept → again ≡ again_on old.body.kept ask.number ask.op → DecidesOrTries (outcome_of again) ask old new o → RunsLine left ask old new o
goes_by true ask old new o again goes is judged_is by = absurd (cc (goes))
goes_by false ask old new o again goes is judged_is by =
    subst (λ (decided : Option Outcome). DecidesOrTries decided ask old new o) (ap outcome_of judged_is ∙ sym (judged old.body.kept ask is)) by

pub tries_after : (left : Bool) (ask : Ask) (old : PassSeen) (between new : PassSeen) (o : Outcome) → left ≡ false → IsKeptList old.view.body.kept → Announced ≡ again_on old.view.body.kept ask.number ask.op → between ≡ announces ask.op old → TriesAsk ask between.view new.view o → RunsLine left ask old.view new.view o
tries_after left ask old between new o goes is judged_is announced tried =
    goes_by left ask old.view new.view o Announced goes is judged_is
    (from_idle ask.op ask old new.view o (subst (λ (p : PassSeen). TriesAsk ask p.view new.view o) announced tried))

-- a fault leaves the request in doubt
pub left_in_doubt : (ask : Ask) (old new : PassView) (from to : ℕ) → old.body.ask ≡ ask → HasTried old new (Fault from to) → StaysOpen ask old new
left_in_doubt ask old new from to asked tried = record {
  mine = ap own_entries tried.0.body;
  kept = ap (λ (b : Client). b.kept) tried.0.body;
  pending = ap (λ (b : Client). b.stage) tried.0.body;
  asked = ap (λ (b : Client). b.ask) tried.0.body ∙ asked;
  met = ap (map met_ask) tried.1 ∙ (map-append met_ask old.met (record { ask = old.body.ask; from = from; to = to } ∷ []) ∙ ap (λ (a : Ask). asks_met old ++ a ∷ []) asked);
}
