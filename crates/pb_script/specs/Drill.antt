-- The script of a drill, made from a seed.
use Rattle.std.specs.Prelude.{ℕ, zero, suc, ◌+◌, ◌*◌, ◌/◌, ◌%◌, List, map, if◌then◌else◌, ◌==◌}
use Rattle.std.specs.List.{range_with_len}
use Rattle.pb_object.specs.declared.codes.Action.TheVariants.{Get, Put}
use Rattle.pb_object.specs.declared.request.Ask.{Ask}
use Rattle.pb_object.specs.declared.request.Op.{Op}
use Rattle.pb_object.specs.Codes.{action_code}

-- the draw after another one
abbrev pub next_draw : ℕ → ℕ
next_draw draw = 48271 * draw % 2147483647

-- the draws of a seed are those after its first number, which is at least 1: draw 1 is the one after it, and so on
unfoldable pub draw : ℕ → ℕ → ℕ
draw seed zero = seed % 2147483646 + 1
draw seed (suc n) = next_draw (draw seed n)

-- the operation of three draws: one in four reads a register, and the others write to it what the third draw is
abbrev pub drawn_op : ℕ → ℕ → ℕ → Op
drawn_op choice key value =
    if choice % 4 == 0
    then record { code = action_code Get; a = key % 64; b = 0; c = 0 }
    else record { code = action_code Put; a = key % 64; b = value; c = 0 }

-- the request at a place of the script: the clients take turns, each with its next number, and each request takes three draws
abbrev pub drill_ask : ℕ → ℕ → ℕ → Ask
drill_ask seed clients place = record {
  client = place % clients;
  number = place / clients + 1;
  op = drawn_op (draw seed (3 * place + 1)) (draw seed (3 * place + 2)) (draw seed (3 * place + 3));
}

-- so many requests of each client
unfoldable pub drill_asks : ℕ → ℕ → ℕ → List Ask
drill_asks seed clients count = map (drill_ask seed clients) (range_with_len 0 (clients * count))
