-- How numbers are written in words and scripts.
use Rattle.std.specs.Prelude.{ℕ, List, Option, Some, None, Bool, ◌&&◌, if◌then◌else◌, nat_lt, nat_le, length}
use Rattle.std.specs.Str.{all_ascii_digits}
use Rattle.std.specs.Str.Parse.{digits_value}

-- one to twenty decimal digits, leading zeros accepted, whose value is at most 2^64 - 1
abbrev pub is_number : List ℕ → Bool
is_number text = nat_lt 0 (length text) && (nat_le (length text) 20 && (all_ascii_digits text && nat_le (digits_value 10 text) 18446744073709551615))

-- the number that a text writes, if it writes one
unfoldable pub number_of : List ℕ → Option ℕ
number_of text = if is_number text then Some (digits_value 10 text) else None
