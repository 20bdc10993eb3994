use Rattle.std.proofs.Common.{◌≡◌, vec_len}
use Rattle.pb_run.specs.Lists.{AreListsOf}
use Rattle.pb_run.proofs.lists.lines_by_client.Given as goal

abbrev pub invariant-loop-client : goal.invariant-loop-client
invariant-loop-client l =
    (vec_len l.lists ≡ l.client) × AreListsOf l.fn.asks l.client l.lists.items
