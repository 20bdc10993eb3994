-- Fences and syncs, counted by their tests.
use Rattle.std.proofs.Common.{◌≡◌, ℕ, cond, List, [], ◌∷◌, refl, arith}
use Rattle.std.specs.List.{count_by}
use Rattle.std.proofs.lemmas.List.Sums.{sum_by-cons}
use Rattle.pb_pmem.specs.declared.log.LogOp.{LogOp}
use Rattle.pb_pmem.specs.declared.log.LogOp.TheVariants.{Whole, Word, Back, Fence, Sync}
use Rattle.pb_pmem.specs.Crash.{is_sync}
use Rattle.pb_engine.specs.Good.{fence_count, sync_count}
use Rattle.pb_broker.specs.Running.{is_fence}

abbrev one_if_fence : LogOp → ℕ
one_if_fence op = cond (is_fence op) 1 0

abbrev one_if_sync : LogOp → ℕ
one_if_sync op = cond (is_sync op) 1 0

pub fences_counted : (ops : List LogOp) → fence_count ops ≡ count_by is_fence ops
fences_counted [] = refl
fences_counted (Whole line to ∷ ops) = omega (arith, fences_counted ops, sum_by-cons one_if_fence (Whole line to) ops)
fences_counted (Word line word to ∷ ops) = omega (arith, fences_counted ops, sum_by-cons one_if_fence (Word line word to) ops)
fences_counted (Back first count ∷ ops) = omega (arith, fences_counted ops, sum_by-cons one_if_fence (Back first count) ops)
fences_counted (Fence ∷ ops) = omega (arith, fences_counted ops, sum_by-cons one_if_fence Fence ops)
fences_counted (Sync ∷ ops) = omega (arith, fences_counted ops, sum_by-cons one_if_fence Sync ops)

pub syncs_counted : (ops : List LogOp) → sync_count ops ≡ count_by is_sync ops
syncs_counted [] = refl
syncs_counted (Whole line to ∷ ops) = omega (arith, syncs_counted ops, sum_by-cons one_if_sync (Whole line to) ops)
syncs_counted (Word line word to ∷ ops) = omega (arith, syncs_counted ops, sum_by-cons one_if_sync (Word line word to) ops)
syncs_counted (Back first count ∷ ops) = omega (arith, syncs_counted ops, sum_by-cons one_if_sync (Back first count) ops)
syncs_counted (Fence ∷ ops) = omega (arith, syncs_counted ops, sum_by-cons one_if_sync Fence ops)
syncs_counted (Sync ∷ ops) = omega (arith, syncs_counted ops, sum_by-cons one_if_sync Sync ops)
