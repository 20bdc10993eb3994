-- A holder that just took the turn, and one that gives it up.
use Rattle.std.specs.Prelude.{◌≡◌, ℕ, ◌*◌, ◌++◌, ◌∷◌, [], Some, None}
use Rattle.pb_pmem.specs.declared.device.DeviceFault.{DeviceFault}
use Rattle.pb_pmem.specs.Count.{Rose}
use Rattle.pb_object.specs.declared.kind.Kind.{Kind}
use Rattle.pb_core.specs.Client.{Looking}
use Rattle.pb_core.specs.Memory.{NoWork}
use Rattle.pb_core.specs.WordMoves.{go_to}
use Rattle.pb_engine.specs.View.{EngineView, IsEngine}
use Rattle.pb_rule.specs.View.{PassView}
use Rattle.pb_rule.specs.Holding.{notes_now}
use Rattle.pb_rule.specs.Plays.{Seated, the_view, HoldsSlot, engine_before, engine_now, first_work}
use Rattle.pb_rule.specs.Ready.{IsReadyFor}

-- it has the engine as it found it, and did nothing yet
pub record IsHolding {X : Type 0} (seen : X → EngineView) (kind : Kind) (turn : ℕ) (me : Seated X) : Type 0 where
  pub holds : HoldsSlot me
  pub sound : IsEngine kind (engine_now seen me)
  pub hand : (the_view me).hand ≡ Some (engine_before me)
  pub same : engine_now seen me ≡ engine_before me
  pub work : (the_view me).work ≡ first_work (engine_now seen me).sure
  pub own : (the_view me).own ≡ None
  pub looked : (the_view me).looked ≡ []
  pub clients : (engine_now seen me).standing.clients ≡ (the_view me).clients
  pub turn_is : turn ≡ 2 * (the_view me).body.front

-- a call of the device failed since its last step
pub record HasFailed {X : Type 0} (seen : X → EngineView) (kind : Kind) (fault : DeviceFault) (me : Seated X) : Type 0 where
  pub ready : IsReadyFor seen kind (notes_now (engine_before me) (engine_now seen me)) me
  pub from : fault.from ≡ (engine_before me).device.faults
  pub to : fault.to ≡ (engine_now seen me).device.faults
  pub rose : Rose fault.from fault.to

-- the view after giving up
abbrev pub after_fault : DeviceFault → PassView → PassView
after_fault fault v = record v {
  body = go_to Looking v.body;
  met = v.met ++ record { ask = v.body.ask; from = fault.from; to = fault.to } ∷ [];
  work = NoWork;
  hand = None;
  own = None;
}
