-- Which table a seat is of.
use Rattle.std.specs.Prelude.{◌≡◌, ℕ}
use Rattle.atomic_table.specs.Seated.{TableId}
use Rattle.pb_core.specs.Client.{Stage, LoadsCode, LoadsValue, LoadsExtra}
use Rattle.pb_rule.specs.Rule.{word_count}

-- a seat of the table of an object with so many clients
pub record IsAt (table seat : TableId) (clients : ℕ) : Type 0 where
  pub same : seat ≡ table
  pub words : table.words ≡ word_count clients

-- the word of the reply that a client loads next
pub data IsRowPlace (stage : Stage) (place : ℕ) : Type 0 where
  at_code : (turn : ℕ) → stage ≡ LoadsCode turn → place ≡ 1 → IsRowPlace stage place
  at_value : (turn code : ℕ) → stage ≡ LoadsValue turn code → place ≡ 2 → IsRowPlace stage place
  at_extra : (turn code value : ℕ) → stage ≡ LoadsExtra turn code value → place ≡ 3 → IsRowPlace stage place
