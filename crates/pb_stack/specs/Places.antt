-- The places of a stack, of which the first are taken.
use Rattle.std.specs.Prelude.{ℕ, ◌≤◌, List, length}
use Rattle.pb_object.specs.declared.limits.TheConstants.{MOST_SIZE}

-- between 1 and `MOST_SIZE` places, of which so many are taken
pub record ArePlaces (places : List ℕ) (depth : ℕ) : Type 0 where
  pub least : 1 ≤ length places
  pub most : length places ≤ MOST_SIZE
  pub within : depth ≤ length places
