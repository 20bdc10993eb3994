-- The slot that a holder is lent.
use Rattle.std.proofs.Common.{◌≡◌, ℕ, List, ◌∷◌, Option, Some, Result, Ok, Err, OnOk, sym, ap, ◌∙◌, subst}
use Rattle.atomic_table.specs.Table.{rest}
use Rattle.pb_object.specs.declared.request.Ask.{Ask}
use Rattle.pb_engine.specs.Asks.{asked_round}
use Rattle.pb_engine.specs.Covers.{RoundCovers}
use Rattle.pb_engine.specs.Outcomes.{HasMade}
use Rattle.pb_engine.specs.View.{EngineView}
use Rattle.pb_rule.specs.Ready.{MadeRound}
use Rattle.pb_rule.specs.Plays.{Seated, HoldsSlot, slot_seen, value_seen}

module _ {X : Type 0} where
  pub lent : {me : Seated X} → HoldsSlot me → (old : Option X) × (me.1 ≡ (0, old) ∷ rest me.1)
  lent {me} holds =
      (Some holds.value, ap (λ (m : Seated X). m.1) holds.is ∙ ap (λ (l : List (ℕ × Option X)). (0, Some holds.value) ∷ rest l) (sym (ap (λ (m : Seated X). m.1) holds.is)))

-- an answer of the engine in the slot, as one of the engine that the seat holds
pub made_on : {T F : Type 0} (result : Result T F) (asks : List Ask) (was old new : EngineView) → was ≡ old → OnOk result (HasMade (asked_round was.standing asks) was new) → OnOk result (RoundCovers (asked_round was.standing asks) was new) → OnOk result (MadeRound asks old new)
made_on (Ok answer) asks was old new same made covers =
    subst (λ (e : EngineView). MadeRound asks e new) same (record { made = made; covers = covers })
made_on (Err fault) asks was old new same made covers = tt

pub slot_is : {X : Type 0} (seen : X → EngineView) (slots : List (ℕ × Option X)) (value : Option X) (engine : X) → slots ≡ (0, value) ∷ rest slots → value ≡ Some engine → seen engine ≡ slot_seen seen slots
slot_is seen slots value engine is some =
    sym (ap (slot_seen seen) is ∙ ap (value_seen seen) some)
