use Rattle.std.proofs.Common.{◌≡◌, ◌≤◌, length, take}
use Rattle.pb_object.specs.Standing.{kept_list_of}
use Rattle.pb_shared.proofs.lists.list_of.Given as goal

abbrev pub invariant-loop-place : goal.invariant-loop-place
invariant-loop-place g l =
    (l.list.items ≡ take l.place (kept_list_of (g.E.Engine.seen l.fn.engine).standing l.fn.client))
    × (l.place ≤ length (kept_list_of (g.E.Engine.seen l.fn.engine).standing l.fn.client))
