use Rattle.std.proofs.Common.{rules, ◌∙◌, sym, refl, arith}
use Rattle.pb_layout.specs.declared.header.Header.{Header}
use Rattle.pb_play.proofs.Formatted.{begins}
use Rattle.pb_play.proofs.Playing.{begun_shown}
use Rattle.pb_play.proofs.world.World.fresh.Goals as goal

pub returns-clause-begun : goal.returns-clause-begun
returns-clause-begun c =
    begins (record { kind = c.args.kind; clients = c.args.clients; size = c.args.size })
    (record { head = record { kind = c.args.kind; clients = c.args.clients; size = c.args.size }; memory = c.fresh.result; calls = c.in_ok-fresh.field-0; device = c.in_ok-fresh-2.field-0; next = c.in_ok-vec.field-0; items = c.in_ok-fresh-3.field-0 })
    c.record_len-length.ensures.valid refl c.fresh.ensures c.in_ok-fresh.ensures.going
    (c.in_ok-fresh-2.ensures.base ∙ c.in_ok-formatted.ensures) c.in_ok-fresh-2.ensures.log (c.in_ok-fresh-2.ensures.lines ∙ c.in_ok-formatted.ensures)

pub returns-clause-shaped : goal.returns-clause-shaped
returns-clause-shaped c =
    let head : Header = record { kind = c.args.kind; clients = c.args.clients; size = c.args.size } in
    record {
      built = record {
        device = c.in_ok-fresh-2.ensures.shaped;
        calls = c.in_ok-fresh.ensures.shaped head (sym c.record_len-length.ensures.length);
        next = grind (arith, rules);
        items = c.in_ok-fresh-3.ensures head refl refl;
      };
      shown = begun_shown (returns-clause-begun c);
    }
