use Rattle.std.proofs.Common.{◌≡◌, ◌∙◌, length, sym, arith}
use Rattle.pb_round_play.proofs.Rising.{few_items, rises_again}
use Rattle.pb_round_play.proofs.items.write_rising.Goals as goal

-- src/items.rt:63:16
pub split_at_mut-requires : goal.split_at_mut-requires
split_at_mut-requires c =
    omega (arith, c.len-len.ensures, c.requires.places, few_items c.args.into.now c.args.heap.now.size c.args.heap.now.items c.requires.stands)

-- src/items.rt:54:1
pub returns-clause-stands : goal.returns-clause-stands
returns-clause-stands c =
    let long : length c.split_at_mut.result.0.now ≡ length c.args.heap.now.items = c.split_at_mut.ensures.front_len ∙ c.len-len.ensures in
    (rises_again c.args.into.now c.sort_items.new.into c.args.heap.now.size c.args.heap.now.items c.sort_items.new.items c.requires.stands (record {
      sorted = λ read from. c.sort_items.ensures.sorted read (record { long = from.long ∙ sym long; each = λ place inside. from.each place (omega (arith, inside, long)) });
      count_is = c.sort_items.ensures.count ∙ long;
      rest = c.sort_items.ensures.rest;
      written = c.sort_items.ensures.written;
      lines = c.sort_items.ensures.lines;
      places = c.sort_items.ensures.places ∙ long;
    })).1

-- src/items.rt:54:1
pub returns-clause-rises : goal.returns-clause-rises
returns-clause-rises c =
    let long : length c.split_at_mut.result.0.now ≡ length c.args.heap.now.items = c.split_at_mut.ensures.front_len ∙ c.len-len.ensures in
    (rises_again c.args.into.now c.sort_items.new.into c.args.heap.now.size c.args.heap.now.items c.sort_items.new.items c.requires.stands (record {
      sorted = λ read from. c.sort_items.ensures.sorted read (record { long = from.long ∙ sym long; each = λ place inside. from.each place (omega (arith, inside, long)) });
      count_is = c.sort_items.ensures.count ∙ long;
      rest = c.sort_items.ensures.rest;
      written = c.sort_items.ensures.written;
      lines = c.sort_items.ensures.lines;
      places = c.sort_items.ensures.places ∙ long;
    })).0
