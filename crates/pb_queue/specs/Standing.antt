-- What a queue in hand represents.
use Rattle.std.specs.Prelude.{[], ◌∷◌}
use Rattle.pb_object.specs.declared.kind.Kind.TheVariants.{Queue}
use Rattle.pb_object.specs.Object.{Waits}
use Rattle.pb_object.specs.Queue.{Waiting}
use Rattle.pb_object.specs.Standing.{Standing}
use Rattle.pb_layout.specs.Recovered.{listed}
use Rattle.pb_layout.specs.Represents.{kept_list_by}
use Rattle.pb_pair.specs.View.{PairView, round_of_side, lines_of}

-- the rounds and kept requests are those of the pair's records in use, and these items wait
abbrev pub standing_of : PairView → Waiting → Standing
standing_of pair queue = record {
  kind = Queue;
  clients = pair.head.clients;
  size = pair.head.size;
  rounds = round_of_side pair 0 ∷ round_of_side pair 1 ∷ [];
  state = Waits pair.head.size queue;
  kept = listed pair.head.clients (kept_list_by Queue (lines_of pair));
}
