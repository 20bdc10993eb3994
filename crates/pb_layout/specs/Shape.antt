-- What a region holds, as its header says it.
use Rattle.std.specs.Prelude.{ℕ, ◌≤◌}
use Rattle.pb_object.specs.declared.kind.Kind.{Kind}
use Rattle.pb_object.specs.declared.limits.TheConstants.{MOST_CLIENTS, MOST_SIZE}

-- the kind of the object, how many clients have slots, and the object's size
pub record Shape : Type 0 where
  pub kind : Kind
  pub clients : ℕ
  pub size : ℕ

-- the clients and the size that a region can have
pub record IsHeader (head : Shape) : Type 0 where
  pub some_clients : 1 ≤ head.clients
  pub few_clients : head.clients ≤ MOST_CLIENTS
  pub some_size : 1 ≤ head.size
  pub small_size : head.size ≤ MOST_SIZE
