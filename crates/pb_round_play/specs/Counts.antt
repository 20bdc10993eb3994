-- How many rounds of each side there are.
use Rattle.std.specs.Prelude.{◌≡◌, ℕ, zero, suc, ◌+◌, min}
use Rattle.pb_pmem.specs.Count.{last_count}
use Rattle.pb_object.specs.Standing.{Standing, rounds_of}
use Rattle.pb_round_play.specs.declared.rounds.Rounds.{Rounds}

-- one more, up to the last value of a word
abbrev pub counted : ℕ → ℕ
counted count = min (count + 1) last_count

-- one more round of a side
abbrev pub with_side_counted : ℕ → Rounds → Rounds
with_side_counted zero rounds = record rounds { first = counted rounds.first }
with_side_counted (suc zero) rounds = record rounds { second = counted rounds.second }
with_side_counted (suc (suc more)) rounds = rounds

-- how many rounds of each side there are
pub record ShowsRounds (s : Standing) (rounds : Rounds) : Type 0 where
  pub first : rounds_of s 0 ≡ rounds.first
  pub second : rounds_of s 1 ≡ rounds.second
