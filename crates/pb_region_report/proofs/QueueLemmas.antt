-- A queue's state, by what waits in it.
use Rattle.std.proofs.Common.{◌≡◌, refl}
use Rattle.pb_object.specs.declared.kind.Kind.TheVariants.{Queue}
use Rattle.pb_object.specs.Object.{State, Registers, Items, Rising, Waits}
use Rattle.pb_object.specs.ObjectLines.{kind_of, size_of}
use Rattle.pb_queue.specs.Waits.{waiting_of}

pub waits_in : (state : State) → kind_of state ≡ Queue → state ≡ Waits (size_of state) (waiting_of state)
waits_in (Registers registers) is = absurd cc
waits_in (Items size items) is = absurd cc
waits_in (Rising size items) is = absurd cc
waits_in (Waits size queue) is = refl
