use Rattle.std.proofs.Common.{List, ap, sym, arith, subst}
use Rattle.pb_rule.specs.Opening.{IsThere}
use Rattle.pb_rule.specs.View.{PassView}
use Rattle.pb_shared.specs.Passes.{SharedSeen}
use Rattle.pb_shared.proofs.shared.Shared.close.Goals as goal

pub take_engine-requires-clause-all : goal.take_engine-requires-clause-all
take_engine-requires-clause-all g c client inside =
    subst (λ (views : List PassView). IsThere client views) (λ i. (sym c.join_all-seat.ensures.views i).0)
    (c.requires.all.all client (omega (arith, inside, ap (λ (s : SharedSeen). s.start.standing.clients) c.self.view_is)))
