use Rattle.std.proofs.Common.{◌≡◌, take, vec_len}
use Rattle.pb_shared.specs.Passes.{lists_kept}
use Rattle.pb_shared.proofs.passes.all_lists.Given as goal

abbrev pub invariant-loop-client : goal.invariant-loop-client
invariant-loop-client g l =
    (lists_kept l.lists.items ≡ take l.client (g.E.Engine.seen l.fn.engine).standing.kept) × (vec_len l.lists ≡ l.client)
