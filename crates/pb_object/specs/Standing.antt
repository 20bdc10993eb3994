-- What a region represents: the object, and what is kept of each client.
use Rattle.std.specs.Prelude.{ℕ, List, [], ◌∷◌, slice_index, slice_index_or, replicate, take}
use Rattle.pb_object.specs.declared.kind.Kind.{Kind}
use Rattle.pb_object.specs.declared.kind.Kind.TheVariants.{Map, Stack, Heap, Queue}
use Rattle.pb_object.specs.declared.request.Kept.{Kept}
use Rattle.pb_object.specs.declared.request.TheConstants.{KEPT_REQUESTS}
use Rattle.pb_object.specs.Object.{State, start_state}
use Rattle.pb_object.specs.Request.{none_kept}

-- the kind, the number of clients and the size; a count of rounds for each side; the object's state; for each client its last recorded
-- requests, the newest first
pub record Standing : Type 0 where
  pub kind : Kind
  pub clients : ℕ
  pub size : ℕ
  pub rounds : List ℕ
  pub state : State
  pub kept : List (List Kept)

-- how many sides an object has: a queue's puts and takes are sides of their own
abbrev pub side_count : Kind → ℕ
side_count Map = 1
side_count Stack = 1
side_count Heap = 1
side_count Queue = 2

-- how many rounds of a side there were, 0 where there is no such side
abbrev pub rounds_of : Standing → ℕ → ℕ
rounds_of s side = slice_index s.rounds side

-- the kept requests of a client, the newest first
abbrev pub kept_list_of : Standing → ℕ → List Kept
kept_list_of s client = slice_index_or s.kept client []

-- the newest of kept requests
abbrev pub newest : List Kept → Kept
newest kept = slice_index_or kept 0 none_kept

-- the last recorded request of a client
abbrev pub newest_of : Standing → ℕ → Kept
newest_of s client = newest (kept_list_of s client)

-- one more kept request: the oldest one goes where there are too many
abbrev pub keep : Kept → List Kept → List Kept
keep kept before = take KEPT_REQUESTS (kept ∷ before)

-- the standing of a region in which nothing was asked yet
abbrev pub empty_standing : Kind → ℕ → ℕ → Standing
empty_standing kind clients size = record {
  kind = kind;
  clients = clients;
  size = size;
  rounds = replicate (side_count kind) 0;
  state = start_state kind size;
  kept = replicate clients [];
}
