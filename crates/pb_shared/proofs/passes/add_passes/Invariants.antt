use Rattle.std.proofs.Common.{◌≡◌, ◌≤◌, ◌++◌, [], drop, vec_len, vec_capacity}
use Rattle.pb_rule.specs.View.{fresh_views}
use Rattle.pb_shared.specs.Passes.{lists_kept, passes_over}
use Rattle.pb_shared.proofs.passes.add_passes.Given as goal

abbrev pub invariant-loop-client : goal.invariant-loop-client
invariant-loop-client g l =
    (l.seat.table_id ≡ l.fn.board.table_id)
    × (l.seat.me ≡ (fresh_views l.fn.clients l.client (drop l.client (lists_kept l.fn.lists)), []))
    × (l.passes.items ++ passes_over l.fn.board.table_id (fresh_views l.fn.clients l.client (drop l.client (lists_kept l.fn.lists))) ≡ passes_over l.fn.board.table_id (fresh_views l.fn.clients 0 (lists_kept l.fn.lists)))
    × (vec_len l.passes ≡ l.client)
    × (l.fn.clients ≤ vec_capacity l.passes)
