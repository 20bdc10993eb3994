-- Where the holder of the turn stands before its steps.
use Rattle.std.specs.Prelude.{◌≡◌, ℕ, List}
use Rattle.pb_object.specs.declared.request.Ask.{Ask}
use Rattle.pb_core.specs.Memory.{Part, AtNumber, AtCode, AtFirst, AtSecond, AtThird, Work, Scanning, Noting, GivingUp}
use Rattle.pb_engine.specs.View.{EngineView}

-- the word that a scan loads next
abbrev pub part_place : Part → ℕ
part_place AtNumber = 0
part_place (AtCode number) = 1
part_place (AtFirst number code) = 2
part_place (AtSecond number code a) = 3
part_place (AtThird number code a b) = 4

pub record IsScanPlace (work : Work) (client place : ℕ) : Type 0 where
  pub part : Part
  pub seen : List Ask
  pub at : work ≡ Scanning client part seen
  pub place_is : place ≡ part_place part

-- a call of the device failed since the last step
abbrev pub notes_now : EngineView → EngineView → Work → Work
notes_now before after work = Noting before.device.faults after.device.faults

pub record IsGivingUp (work : Work) : Type 0 where
  pub from : ℕ
  pub to : ℕ
  pub at : work ≡ GivingUp from to
