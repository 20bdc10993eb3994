use Rattle.std.proofs.Common.{rules, length, arith}
use Rattle.std.proofs.lemmas.List.Sorted.{IsNonDecreasingBy-from_sort}
use Rattle.pb_round_play.proofs.Rising.{sorted_from}
use Rattle.pb_round_play.proofs.items.sort_items.Goals as goal

-- src/items.rt:67:1
pub returns-clause-sorted : goal.returns-clause-sorted
returns-clause-sorted c read from =
    sorted_from c.args.into.now (length c.args.items.now) c.read_items.new.places c.sort_unstable.new.self read (grind (arith, rules)) c.read_items.ensures from
    c.sort_unstable.ensures.permutation (IsNonDecreasingBy-from_sort (λ x. x) c.sort_unstable.new.self c.sort_unstable.ensures.sorted)
