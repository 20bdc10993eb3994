-- What the requests that are kept of a client look like: they are its last recorded ones, the newest first.
use Rattle.std.specs.Prelude.{◌≡◌, ℕ, ◌<◌, ◌≤◌, ◌==◌, List, length, slice_index_or, All, Option, find}
use Rattle.pb_object.specs.declared.request.Kept.{Kept}
use Rattle.pb_object.specs.declared.request.TheConstants.{KEPT_REQUESTS, LAST_NUMBER}
use Rattle.pb_object.specs.Request.{none_kept}
use Rattle.pb_object.specs.Standing.{Standing, kept_list_of, newest_of}

-- the number of the request at a place
abbrev pub kept_number : List Kept → ℕ → ℕ
kept_number kept place = (slice_index_or kept place none_kept).number

-- the one of these kept requests that has this number, if there is one
abbrev pub kept_with : ℕ → List Kept → Option Kept
kept_with number kept = find (λ one. one.number == number) kept

-- a number that a request can have
pub record HasNumber (kept : Kept) : Type 0 where
  pub some : 1 ≤ kept.number
  pub few : kept.number ≤ LAST_NUMBER

-- at most eight requests, whose numbers fall
pub record IsKeptList (kept : List Kept) : Type 0 where
  pub few : length kept ≤ KEPT_REQUESTS
  pub numbers : All HasNumber kept
  pub falling : (place later : ℕ) → place < later → later < length kept → kept_number kept later < kept_number kept place

-- a standing has such a list for each client
pub record HasKeptLists (s : Standing) : Type 0 where
  pub count : length s.kept ≡ s.clients
  pub lists : (client : ℕ) → client < s.clients → IsKeptList (kept_list_of s client)

-- no kept request of a client has a greater number than the first
abbrev pub HasNewestFirst : Standing → Type 0
HasNewestFirst s =
    (client place : ℕ) → client < s.clients → place < length (kept_list_of s client)
    → kept_number (kept_list_of s client) place ≤ (newest_of s client).number
