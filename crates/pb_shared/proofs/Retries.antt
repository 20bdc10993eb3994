-- Tries one after the other.
use Rattle.std.proofs.Common.{◌≡◌, ℕ, [], ◌∷◌, ◌++◌, arith, refl, ap, ◌∙◌, subst}
use Rattle.pb_object.specs.declared.request.Reply.{Reply}
use Rattle.pb_core.specs.Client.{Client, Stage, Looking}
use Rattle.pb_core.specs.WordMoves.{answered}
use Rattle.pb_rule.specs.View.{PassView}
use Rattle.pb_shared.specs.declared.answers.Attempt.{Attempt}
use Rattle.pb_shared.specs.declared.answers.Attempt.TheVariants.{Done, Busy, Fault}
use Rattle.pb_shared.specs.declared.answers.Performed.TheVariants as performed
use Rattle.pb_shared.specs.Tries.{HasTried, HasPerformed, HasWaited, StaysOpen, HasFailedHolding, IsSamePass}
use Rattle.pb_shared.proofs.TryLemmas.{done_as}

pub waits_begin : (v : PassView) → v.body.stage ≡ Looking → HasWaited v v
waits_begin v is = record {
  stays = record { body = ap (λ (stage : Stage). record v.body { stage = stage }) is; front = omega arith };
  met = refl;
  served = refl;
  same = record { clients = refl; client = refl };
}

open_still : {old now : PassView} (new : PassView) → StaysOpen old now → StaysOpen now new → StaysOpen old new
open_still new first next = record {
  body = next.body ∙ ap (λ (b : Client). record b { stage = Looking; front = new.body.front }) first.body;
  front = omega (arith, first.front, next.front);
}

same_number : {old now : PassView} → StaysOpen old now → now.body.ask.number ≡ old.body.ask.number
same_number stays = ap (λ (b : Client). b.ask.number) stays.body

pub waits_on : (old now new : PassView) (answer : Attempt) (from to : ℕ) → HasWaited old now → HasTried now new answer → IsSamePass now new → answer ≡ Busy from to → HasWaited old new
waits_on old now new answer from to waited tried same is = record {
  stays = open_still new waited.stays busy.0;
  met = busy.1 ∙ waited.met;
  served = busy.3 ∙ waited.served;
  same = record { clients = same.clients ∙ waited.same.clients; client = same.client ∙ waited.same.client };
}
  where
    busy : HasTried now new (Busy from to)
    busy = subst (HasTried now new) is tried

pub performs : (old now new : PassView) (answer : Attempt) (reply : Reply) → HasWaited old now → HasTried now new answer → answer ≡ Done reply → HasPerformed old new (performed.Done reply)
performs old now new answer reply waited tried is = (
  done.0 ∙ ap (λ (b : Client). answered reply new.body.front b) waited.stays.body,
  omega (arith, waited.stays.front, done.1),
  done.2 ∙ waited.met,
  done_as (same_number waited.stays) waited.served done.3,
)
  where
    done : HasTried now new (Done reply)
    done = subst (HasTried now new) is tried

pub fails : (old now new : PassView) (answer : Attempt) (from to : ℕ) → HasWaited old now → HasTried now new answer → answer ≡ Fault from to → HasPerformed old new (performed.Fault from to)
fails old now new answer from to waited tried is = (
  open_still new waited.stays fault.0,
  fault.1 ∙ (λ i. waited.met i ++ record { ask = (waited.stays.body i).ask; from = from; to = to } ∷ []),
  fault.2,
  fault.3 ∙ waited.served,
  subst (λ (n : ℕ). HasFailedHolding n new) (same_number waited.stays) fault.4,
)
  where
    fault : HasTried now new (Fault from to)
    fault = subst (HasTried now new) is tried
