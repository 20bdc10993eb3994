-- What a pass knows of a shared object. It stands in proofs alone.
use Rattle.std.specs.Prelude.{ℕ, suc, List, [], ◌∷◌, map, Option, None}
use Rattle.pb_object.specs.declared.request.Ask.{Ask}
use Rattle.pb_object.specs.declared.request.Op.{Op}
use Rattle.pb_object.specs.declared.request.Kept.{Kept}
use Rattle.pb_object.specs.History.{Entry}
use Rattle.pb_object.specs.Standing.{Standing, newest}
use Rattle.pb_core.specs.Client.{Client, fresh_client}
use Rattle.pb_core.specs.Memory.{Work, NoWork}
use Rattle.pb_engine.specs.View.{EngineView}

-- A client whose request's number a holder loaded, and the operation, where it loaded that too
pub record Look : Type 0 where
  pub client : ℕ
  pub number : ℕ
  pub op : Option Op

-- A word that a pass met, or published: a turn word, or the number word of its own published row
pub data Note : Type 0 where
  Turn : ℕ → Note
  Row : ℕ → Note

-- A fault that was answered: the request that was open, and the device's counts before the call that failed and after it
pub record Met : Type 0 where
  pub ask : Ask
  pub from : ℕ
  pub to : ℕ

-- A round that one call filled from its own scan: its number, counted from 1; its entries; and each client's kept number before it
pub record OwnRound : Type 0 where
  pub number : ℕ
  pub entries : List Entry
  pub kept : List ℕ

-- What one pass knows: how many clients there are, and which one is its own; where it stands; the words that it met or published in the present or last call; whom it looked at since it last
-- took the turn; the faults that it was answered; the rounds that it served itself. And while it holds the turn: what it is at, the engine
-- as of its last step, and the round that it fills from its own scan
pub record PassView : Type 0 where
  pub clients : ℕ
  pub client : ℕ
  pub body : Client
  pub notes : List Note
  pub looked : List Look
  pub met : List Met
  pub served : List OwnRound
  pub work : Work
  pub hand : Option EngineView
  pub own : Option OwnRound

-- a pass that knows nothing yet of a client with these kept requests
abbrev pub fresh_view : (clients client : ℕ) → List Kept → PassView
fresh_view clients client kept = record {
  clients = clients;
  client = client;
  body = fresh_client kept;
  notes = [];
  looked = [];
  met = [];
  served = [];
  work = NoWork;
  hand = None;
  own = None;
}

abbrev pub view_in : List PassView → PassView
view_in [] = fresh_view 0 0 []
view_in (v ∷ views) = v

-- fresh views of so many clients, from one on
abbrev pub fresh_views : (clients client : ℕ) → List (List Kept) → List PassView
fresh_views clients client [] = []
fresh_views clients client (kept ∷ others) = fresh_view clients client kept ∷ fresh_views clients (suc client) others

-- the newest number of each client
abbrev pub newest_number : List Kept → ℕ
newest_number kept = (newest kept).number

abbrev pub numbers_of : Standing → List ℕ
numbers_of s = map newest_number s.kept
