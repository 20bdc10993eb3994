-- Which requests a holder serves: all that it met that are due and of its side.
use Rattle.std.specs.Prelude.{◌≡◌, ◌≢◌, ℕ, suc, ◌+◌, ◌==◌, Bool, true, false, List, [], ◌∷◌, ◌++◌, length, map, Option, Some, None, slice_index}
use Rattle.pb_object.specs.declared.request.Ask.{Ask}
use Rattle.pb_object.specs.declared.request.Op.{Op}
use Rattle.pb_object.specs.History.{Entry}
use Rattle.pb_core.specs.Memory.{side_of_operation}
use Rattle.pb_rule.specs.View.{Look, OwnRound, PassView}

-- a look's number is one more than its client's kept one
abbrev pub is_due : List ℕ → Look → Bool
is_due kept look = look.number == slice_index kept look.client + 1

abbrev pub asked_if : Bool → Look → Op → List Ask
asked_if true look op = record { client = look.client; number = look.number; op = op } ∷ []
asked_if false look op = []

abbrev pub asked_with : ℕ → Look → Option Op → List Ask
asked_with side look None = []
asked_with side look (Some op) = asked_if (side_of_operation op == side) look op

abbrev pub due_if : Bool → ℕ → Look → List Ask
due_if true side look = asked_with side look look.op
due_if false side look = []

-- the requests that were looked at that are due and of this side
abbrev pub due_asks : ℕ → List ℕ → List Look → List Ask
due_asks side kept [] = []
due_asks side kept (look ∷ looked) = due_if (is_due kept look) side look ++ due_asks side kept looked

-- clients in rising order, none left out
abbrev pub InOrder : ℕ → List Look → Type 0
InOrder client [] = Unit {0}
InOrder client (look ∷ looked) = (look.client ≡ client) × InOrder (suc client) looked

-- of each that is due the operation was loaded too
abbrev pub AreLoaded : List ℕ → List Look → Type 0
AreLoaded kept [] = Unit {0}
AreLoaded kept (look ∷ looked) = (is_due kept look ≡ true → look.op ≢ None) × AreLoaded kept looked

-- so many clients were looked at, and these are the requests that are due
pub record HasLooked (clients side : ℕ) (kept : List ℕ) (looked : List Look) (asks : List Ask) : Type 0 where
  pub order : InOrder 0 looked
  pub all : length looked ≡ clients
  pub loaded : AreLoaded kept looked
  pub due : asks ≡ due_asks side kept looked

abbrev pub ask_of_entry : Entry → Ask
ask_of_entry entry = record { client = entry.client; number = entry.number; op = entry.op }

-- a round that was filled from a scan of all clients: its entries are exactly the requests that are due
abbrev pub IsCombined : PassView → OwnRound → Type 0
IsCombined v own = HasLooked v.clients (side_of_operation v.body.ask.op) own.kept v.looked (map ask_of_entry own.entries)
