-- A holder that scans.
use Rattle.std.specs.Prelude.{◌≡◌, ℕ, ◌<◌, ◌++◌, List, [], Some, None}
use Rattle.pb_object.specs.declared.kind.Kind.{Kind}
use Rattle.pb_object.specs.declared.request.Ask.{Ask}
use Rattle.pb_core.specs.Memory.{Part, AtNumber, AtCode, Work, NoWork, Scanning, side_of_operation}
use Rattle.pb_engine.specs.View.{EngineView}
use Rattle.pb_rule.specs.View.{Look, PassView, numbers_of}
use Rattle.pb_rule.specs.Plays.{Seated, the_view, engine_now, scanning_now, kept_number, part_found, looked_part, ScanIsOver}
use Rattle.pb_rule.specs.Holding.{part_place}
use Rattle.pb_rule.specs.Ready.{IsReadyFor}
use Rattle.pb_shared.specs.Combined.{HasLooked}

-- a view but for what the holder is at
abbrev pub blank : PassView → PassView
blank v = record v { looked = []; work = NoWork; hand = None }

-- where a scan stands: at a part of a client's request, with what it looked at and saw so far
pub record IsAtPart {X : Type 0} (seen : X → EngineView) (kind : Kind) (start : PassView) (engine : EngineView) (client : ℕ) (part : Part) (asks : List Ask) (looked : List Look) (me : Seated X) : Type 0 where
  pub ready : IsReadyFor seen kind scanning_now me
  pub at : scanning_now (the_view me).work ≡ Scanning client part asks
  pub now : engine_now seen me ≡ engine
  pub clients : engine.standing.clients ≡ start.clients
  pub rest : blank (the_view me) ≡ blank start
  pub looked_is : (the_view me).looked ≡ looked

-- a step of the scan was made: the view names the engine, and this is the holder's work
pub record IsAfter {X : Type 0} (seen : X → EngineView) (kind : Kind) (start : PassView) (engine : EngineView) (work : Work) (looked : List Look) (me : Seated X) : Type 0 where
  pub ready : IsReadyFor seen kind scanning_now me
  pub work_is : (the_view me).work ≡ work
  pub hand : (the_view me).hand ≡ Some engine
  pub now : engine_now seen me ≡ engine
  pub clients : engine.standing.clients ≡ start.clients
  pub rest : blank (the_view me) ≡ blank start
  pub looked_is : (the_view me).looked ≡ looked
  pub over : ScanIsOver engine (the_view me)

-- what is due after one more word was found
abbrev pub next_work : EngineView → PassView → (client found : ℕ) → Part → List Ask → Work
next_work engine start client found part asks = part_found (kept_number engine.standing) (side_of_operation start.body.ask.op) found client part asks

abbrev pub next_looked : EngineView → (client found : ℕ) → Part → List Look → List Look
next_looked engine client found part looked = looked ++ looked_part (kept_number engine.standing) found client part

-- the place of the word that is loaded next
pub record HasPart {X : Type 0} (seen : X → EngineView) (kind : Kind) (client place : ℕ) (me : Seated X) : Type 0 where
  pub start : PassView
  pub engine : EngineView
  pub part : Part
  pub asks : List Ask
  pub looked : List Look
  pub place_is : place ≡ part_place part
  pub is : IsAtPart seen kind start engine client part asks looked me

-- the words of an operation are next
pub record HasOperation {X : Type 0} (seen : X → EngineView) (kind : Kind) (client : ℕ) (me : Seated X) : Type 0 where
  pub start : PassView
  pub engine : EngineView
  pub number : ℕ
  pub asks : List Ask
  pub looked : List Look
  pub is : IsAtPart seen kind start engine client (AtCode number) asks looked me

-- so many clients were scanned
pub record IsScanning {X : Type 0} (seen : X → EngineView) (kind : Kind) (start : PassView) (engine : EngineView) (client : ℕ) (asks : List Ask) (me : Seated X) : Type 0 where
  pub looked : List Look
  pub part : IsAtPart seen kind start engine client AtNumber asks looked me
  pub has_looked : HasLooked client (side_of_operation start.body.ask.op) (numbers_of engine.standing) looked asks
  pub later : 0 < client → IsAfter seen kind start engine (Scanning client AtNumber asks) looked me

-- the same from some start
pub record HasScan {X : Type 0} (seen : X → EngineView) (kind : Kind) (client : ℕ) (asks : List Ask) (me : Seated X) : Type 0 where
  pub start : PassView
  pub engine : EngineView
  pub is : IsScanning seen kind start engine client asks me
