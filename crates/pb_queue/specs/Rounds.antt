-- Storing a round: the cells of the items that it puts, and then its record.
use Rattle.std.specs.Prelude.{◌≡◌, ◌⊎◌, ℕ, ◌-◌, List, drop, None}
use Rattle.pb_pmem.specs.declared.device.DeviceFault.{DeviceFault}
use Rattle.pb_pmem.specs.declared.line.Line.{Line}
use Rattle.pb_pmem.specs.Operations.{Does, IsFailedPrefix}
use Rattle.pb_object.specs.Queue.{Waiting, tail_of}
use Rattle.pb_pair.specs.declared.known.Known.TheVariants.{Sure}
use Rattle.pb_pair.specs.Safe.{StoreCovers, FailedStoreCovers}
use Rattle.pb_pair.specs.Store.{IsStored, HasFailedStore}
use Rattle.pb_pair.specs.View.{PairView, IsPair, HasFailed}
use Rattle.pb_engine.specs.Operations.{puts_from}
use Rattle.pb_queue.specs.Items.{ItemsView}

-- the items that a later queue has from the tail of an earlier one on: so were put since
abbrev pub added_since : Waiting → Waiting → List ℕ
added_since before after = drop (tail_of before - after.taken) after.items

-- the items that were put since what is known for sure
abbrev pub added : ItemsView → List ℕ
added items = added_since items.sure items.next

-- items were put into their cells, from a position on: else the pair is as before
pub record HavePut (from : ℕ) (put : List ℕ) (old new : PairView) : Type 0 where
  pub sound : IsPair new
  pub device : Does (puts_from old.head from put) old.device new.device
  pub head : new.head ≡ old.head
  pub first : new.first ≡ old.first
  pub second : new.second ≡ old.second
  pub known : new.known ≡ Sure
  pub doubt : new.doubt ≡ None

-- a call of the device failed among the cells
abbrev pub HasFailedAmongCells : ℕ → List ℕ → PairView → DeviceFault → PairView → Type 0
HasFailedAmongCells from put old fault new = HasFailed (IsFailedPrefix (puts_from old.head from put)) None old fault new

-- the cells were put and the record was stored
pub record HasStoredRound (from : ℕ) (put : List ℕ) (side : ℕ) (lines : List Line) (old new : PairView) : Type 0 where
  pub between : PairView
  pub cells : HavePut from put old between
  pub stored : IsStored side lines between new
  pub safe : StoreCovers side lines between new.device

-- the cells were put and the store failed
pub record HasFailedAfterCells (from : ℕ) (put : List ℕ) (side : ℕ) (lines : List Line) (old : PairView) (fault : DeviceFault) (new : PairView) : Type 0 where
  pub between : PairView
  pub cells : HavePut from put old between
  pub failed : HasFailedStore side lines between fault new
  pub safe : FailedStoreCovers side lines between new

-- a round failed among its cells or after them
abbrev pub HasFailedRound : ℕ → List ℕ → ℕ → List Line → PairView → DeviceFault → PairView → Type 0
HasFailedRound from put side lines old fault new = HasFailedAmongCells from put old fault new ⊎ HasFailedAfterCells from put side lines old fault new
