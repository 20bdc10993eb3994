use Rattle.std.proofs.Common.{◌≡◌, ◌+◌, ◌≤◌, ◌++◌, length, take}
use Rattle.std.specs.Prelude.{vec_capacity}
use Rattle.pb_layout.specs.RegionOps.{changes_from}
use Rattle.pb_round_play.specs.Shape.{AreWithin}
use Rattle.pb_round_play.proofs.store.plan_changes.Given as goal

abbrev pub invariant-loop-place : goal.invariant-loop-place
invariant-loop-place l = record {
  plan : l.plan.items ≡ l.fn.plan.items ++ changes_from l.first l.before (take l.place l.lines);
  few : length l.plan.items ≤ length l.fn.plan.items + l.place;
  within : AreWithin l.plan.items;
  capacity : vec_capacity l.fn.plan ≤ vec_capacity l.plan;
}
