-- The draws of a drill's script, three for each request.
use Rattle.std.proofs.Common.{◌≡◌, ℕ, suc, ◌+◌, ◌*◌, ◌%◌, ◌<◌, ◌≤◌, Bool, true, false, ◌==◌, if◌then◌else◌, List, [], ◌∷◌, ◌++◌, All, map, length, slice_index_or, refl, sym, ap, subst, ◌∙◌, arith, rules}
use Rattle.std.specs.List.{range_with_len}
use Rattle.std.proofs.Math.Nat.{mod-lt, div-le_self}
use Rattle.std.proofs.lemmas.List.FromFn.{map-range_with_len_more, length-map-range_with_len, get_or-map-range_with_len}
use Rattle.pb_object.specs.declared.codes.Action.TheVariants.{Get, Put}
use Rattle.pb_object.specs.declared.kind.Kind.TheVariants.{Map}
use Rattle.pb_object.specs.declared.request.Ask.{Ask}
use Rattle.pb_object.specs.declared.request.Op.{Op}
use Rattle.pb_object.specs.Codes.{action_code, action_of}
use Rattle.pb_object.specs.Request.{IsOperation}
use Rattle.pb_script.specs.Drill.{draw, next_draw, drawn_op, drill_ask, drill_asks}
use Rattle.pb_script.specs.Script.{IsAskOf}

pub first_draw : (seed : ℕ) → draw seed 0 ≡ seed % 2147483646 + 1
unfolding draw
first_draw seed = refl

draw_more : (seed n : ℕ) → draw seed (suc n) ≡ next_draw (draw seed n)
unfolding draw
draw_more seed n = refl

-- the draw after one that is known
next_is : (seed n more last : ℕ) → more ≡ suc n → last ≡ draw seed n → next_draw last ≡ draw seed more
next_is seed n more last one is = ap next_draw is ∙ (sym (draw_more seed n) ∙ ap (draw seed) (sym one))

-- a request takes three draws
pub three_draws : (seed place last : ℕ) → last ≡ draw seed (3 * place) → next_draw (next_draw (next_draw last)) ≡ draw seed (3 * (place + 1))
three_draws seed place last is =
    next_is seed (3 * place + 2) (3 * (place + 1)) (next_draw (next_draw last)) (omega arith)
    (next_is seed (3 * place + 1) (3 * place + 2) (next_draw last) (omega arith) (next_is seed (3 * place) (3 * place + 1) last (omega arith) is))

pub op_drawn : (seed place last : ℕ) (op : Op) → last ≡ draw seed (3 * place) → op ≡ drawn_op (next_draw last) (next_draw (next_draw last)) (next_draw (next_draw (next_draw last))) → op ≡ drawn_op (draw seed (3 * place + 1)) (draw seed (3 * place + 2)) (draw seed (3 * place + 3))
op_drawn seed place last op is drawn =
    let first : next_draw last ≡ draw seed (3 * place + 1) = next_is seed (3 * place) (3 * place + 1) last (omega arith) is in
    let second : next_draw (next_draw last) ≡ draw seed (3 * place + 2) = next_is seed (3 * place + 1) (3 * place + 2) (next_draw last) (omega arith) first in
    let third : next_draw (next_draw (next_draw last)) ≡ draw seed (3 * place + 3) = next_is seed (3 * place + 2) (3 * place + 3) (next_draw (next_draw last)) (omega arith) second in
    drawn ∙ λ i. drawn_op (first i) (second i) (third i)

-- the script with one more request
pub one_more : (seed clients place : ℕ) (asks : List Ask) (ask : Ask) → asks ≡ map (drill_ask seed clients) (range_with_len 0 place) → ask ≡ drill_ask seed clients place → asks ++ ask ∷ [] ≡ map (drill_ask seed clients) (range_with_len 0 (place + 1))
one_more seed clients place asks ask are is =
    (λ i. are i ++ is i ∷ []) ∙ sym (map-range_with_len_more (drill_ask seed clients) 0 place place (omega arith))

pub all_drawn : (seed clients count places : ℕ) → places ≡ clients * count → map (drill_ask seed clients) (range_with_len 0 places) ≡ drill_asks seed clients count
unfolding drill_asks
all_drawn seed clients count places is = ap (λ (n : ℕ). map (drill_ask seed clients) (range_with_len 0 n)) is

-- Each is a request of a client to a map

get_operation : (a : ℕ) → IsOperation Map (record { code = action_code Get; a = a; b = 0; c = 0 })
unfolding action_of
get_operation a = search rules

put_operation : (a b : ℕ) → IsOperation Map (record { code = action_code Put; a = a; b = b; c = 0 })
unfolding action_of
put_operation a b = search rules

either_operation : (reads : Bool) (a b : ℕ) → IsOperation Map (if reads then record { code = action_code Get; a = a; b = 0; c = 0 } else record { code = action_code Put; a = a; b = b; c = 0 })
either_operation true a b = get_operation a
either_operation false a b = put_operation a b

ask_drawn : (seed clients place : ℕ) → 1 ≤ clients → place < 32768 → IsAskOf Map clients (drill_ask seed clients place)
ask_drawn seed clients place some few = record {
  client = mod-lt place some;
  some = omega arith;
  few = (let below = div-le_self place clients in omega (arith, few, below));
  operation = either_operation (draw seed (3 * place + 1) % 4 == 0) (draw seed (3 * place + 2) % 64) (draw seed (3 * place + 3));
}

pub asks_drawn : (seed clients places : ℕ) (asks : List Ask) → asks ≡ map (drill_ask seed clients) (range_with_len 0 places) → 1 ≤ clients → places ≤ 32768 → All (IsAskOf Map clients) asks
asks_drawn seed clients places asks are some few k d inside =
    let within : k < places = omega (arith, inside, ap length are, length-map-range_with_len (drill_ask seed clients) 0 places) in
    let here : slice_index_or asks k d ≡ drill_ask seed clients k = ap (λ (l : List Ask). slice_index_or l k d) are ∙ get_or-map-range_with_len (drill_ask seed clients) 0 places k k d within (omega arith) in
    subst (IsAskOf Map clients) (sym here) (ask_drawn seed clients k some (omega (arith, within, few)))
