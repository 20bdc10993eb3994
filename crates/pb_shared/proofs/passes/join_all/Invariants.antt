use Rattle.std.proofs.Common.{◌≡◌, ◌++◌, [], map, All, vec_len}
use Rattle.pb_rule.specs.Opening.{AreNotHolding}
use Rattle.pb_shared.specs.Passes.{IsAtTable, view_of}
use Rattle.pb_shared.proofs.passes.join_all.Given as goal

abbrev pub decreases-loop-pass : goal.decreases-loop-pass
decreases-loop-pass g l = vec_len l.passes

abbrev pub invariant-loop-pass : goal.invariant-loop-pass
invariant-loop-pass g l =
    (l.seat.table_id ≡ l.fn.board.table_id)
    × (l.seat.me.1 ≡ [])
    × (map view_of l.passes.items ++ l.seat.me.0 ≡ map view_of l.fn.passes.items)
    × All (IsAtTable l.fn.board.table_id) l.passes.items
    × AreNotHolding l.seat.me.0
