-- A script's requests by client.
use Rattle.std.specs.Prelude.{◌≡◌, ℕ, ◌<◌, List, filter, ◌==◌, slice_index_or}
use Rattle.pb_object.specs.declared.request.Ask.{Ask}
use Rattle.pb_run.specs.declared.lines.Lines.{Lines}

-- a client's requests, in order
abbrev pub asks_of : ℕ → List Ask → List Ask
asks_of client asks = filter (λ ask. ask.client == client) asks

-- each list has the requests of the client of its place
abbrev pub AreListsOf : List Ask → ℕ → List Lines → Type 0
AreListsOf asks clients lists =
    (client : ℕ) (d : Lines) → client < clients → (slice_index_or lists client d).asks.items ≡ asks_of client asks
