-- What a pass and a shared object are to contracts.
use Rattle.std.specs.Prelude.{◌≡◌, ℕ, ◌+◌, ◌<◌, ◌≤◌, List, [], ◌∷◌, map, All, Option, Some, None}
use Rattle.atomic_table.specs.Seated.{TableId}
use Rattle.pb_object.specs.declared.kind.Kind.{Kind}
use Rattle.pb_object.specs.declared.request.Ask.{Ask}
use Rattle.pb_object.specs.declared.request.Kept.{Kept as KeptRequest}
use Rattle.pb_object.specs.declared.request.Op.{Op}
use Rattle.pb_object.specs.Standing.{newest}
use Rattle.pb_core.specs.Client.{Idle, Looking}
use Rattle.pb_engine.specs.View.{EngineView}
use Rattle.pb_rule.specs.Plays.{Seated, IsPlain, the_view, asked, stored, announced}
use Rattle.pb_rule.specs.Rule.{word_count}
use Rattle.pb_rule.specs.Opening.{IsThere}
use Rattle.pb_rule.specs.View.{PassView, fresh_views}
use Rattle.pb_shared.specs.declared.answers.Again.{Again}
use Rattle.pb_shared.specs.declared.answers.Again.TheVariants.{Announced, Kept, Old, Gap, Changed}
use Rattle.arrayvec.specs.ArrayVec.{ArrayVec}

-- a pass: the table of its object, and what it knows
pub record PassSeen : Type 0 where
  pub table : TableId
  pub view : PassView

-- a shared object: its table, and the engine as it was when it was shared
pub record SharedSeen : Type 0 where
  pub table : TableId
  pub start : EngineView

-- the pending request is the open one of the view
abbrev pub PendsAs : Option Ask → PassView → Type 0
PendsAs None v = v.body.stage ≡ Idle
PendsAs (Some ask) v = (v.body.stage ≡ Looking) × (ask ≡ v.body.ask) × (ask.client ≡ v.client)

-- what a pass keeps is what its view has
pub record IsPass {X : Type 0} (table : TableId) (me : Seated X) (client : ℕ) (kept : List KeptRequest) (pending : Option Ask) : Type 0 where
  pub plain : IsPlain me
  pub words : table.words ≡ word_count (the_view me).clients
  pub few : (the_view me).clients ≤ 16
  pub own : client ≡ (the_view me).client
  pub inside : client < (the_view me).clients
  pub list : kept ≡ (the_view me).body.kept
  pub pends : PendsAs pending (the_view me)

-- the table of a shared object has a word for each place of its clients, and one slot; its clients and its kind are those of the engine
pub record IsShared (table : TableId) (start : EngineView) (kind : Kind) (clients : ℕ) : Type 0 where
  pub kind_is : kind ≡ start.standing.kind
  pub all : clients ≡ start.standing.clients
  pub few : clients ≤ 16
  pub some : 1 ≤ clients
  pub words : table.words ≡ word_count clients
  pub slots : table.slots ≡ 1

-- the pass is of this object
pub record IsOf (object : SharedSeen) (pass : PassSeen) : Type 0 where
  pub table : pass.table ≡ object.table
  pub clients : pass.view.clients ≡ object.start.standing.clients

-- nothing is pending
abbrev pub IsIdle : PassSeen → Type 0
IsIdle pass = pass.view.body.stage ≡ Idle

-- a request is
abbrev pub IsPending : PassSeen → Type 0
IsPending pass = pass.view.body.stage ≡ Looking

-- the pending request, as it is told
abbrev pub TellsPending : Option Ask → PassSeen → Type 0
TellsPending pending pass = PendsAs pending pass.view

-- the number of the next request
abbrev pub next_number : PassSeen → ℕ
next_number pass = (newest pass.view.body.kept).number + 1

-- the next request of the pass's client
abbrev pub next_ask : PassSeen → Op → Ask
next_ask pass op = record { client = pass.view.client; number = next_number pass; op = op }

-- it is announced
abbrev pub has_announced : Ask → PassView → PassView
has_announced ask v = announced (stored (stored (stored (asked ask v))))

abbrev pub announces : Op → PassSeen → PassSeen
announces op pass = record pass { view = has_announced (next_ask pass op) pass.view }

-- only an announced request changes anything
abbrev pub asked_again : Again → Op → PassSeen → PassSeen
asked_again Announced op pass = announces op pass
asked_again (Kept reply) op pass = pass
asked_again (Old last) op pass = pass
asked_again (Gap last) op pass = pass
asked_again (Changed kept) op pass = pass

abbrev pub view_of : PassSeen → PassView
view_of pass = pass.view

-- the passes over these views of a table
abbrev pub passes_over : TableId → List PassView → List PassSeen
passes_over table [] = []
passes_over table (v ∷ views) = record { table = table; view = v } ∷ passes_over table views

-- there is an unused pass for each client, in rising order
pub record HasOpened (start : EngineView) (object : SharedSeen) (passes : List PassSeen) : Type 0 where
  pub of : object.start ≡ start
  pub fresh : passes ≡ passes_over object.table (fresh_views start.standing.clients 0 start.standing.kept)

-- the kept requests in each list
abbrev pub list_items : ArrayVec KeptRequest → List KeptRequest
list_items list = list.items

abbrev pub lists_kept : List (ArrayVec KeptRequest) → List (List KeptRequest)
lists_kept lists = map list_items lists

abbrev pub IsAtTable : TableId → PassSeen → Type 0
IsAtTable table pass = pass.table ≡ table

-- each client has one of these passes, and all are of this object
pub record AreAll (object : SharedSeen) (passes : List PassSeen) : Type 0 where
  pub of : All (IsOf object) passes
  pub all : (client : ℕ) → client < object.start.standing.clients → IsThere client (map view_of passes)
