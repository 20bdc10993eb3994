use Rattle.std.proofs.Common.{◌≡◌}
use Rattle.pb_shared.specs.Tries.{HasWaited}
use Rattle.pb_shared.proofs.shared.Shared.perform.Given as goal

abbrev pub invariant-loop : goal.invariant-loop
invariant-loop g l =
    (l.pass.table ≡ l.fn.pass.table) × HasWaited l.fn.pass.view l.pass.view
