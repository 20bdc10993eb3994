-- An object that isn't a queue has one side.
use Rattle.std.specs.Prelude.{◌≡◌, ◌≢◌, refl}
use Rattle.pb_object.specs.declared.kind.Kind.{Kind}
use Rattle.pb_object.specs.declared.kind.Kind.TheVariants.{Map, Stack, Heap, Queue}
use Rattle.pb_object.specs.Standing.{side_count}

pub one_of_kind : (kind : Kind) → kind ≢ Queue → 1 ≡ side_count kind
one_of_kind Map not_queue = refl
one_of_kind Stack not_queue = refl
one_of_kind Heap not_queue = refl
one_of_kind Queue not_queue = absurd (not_queue refl)
