-- What the calls of a device in memory do, as the trait of devices says it.
use Rattle.std.proofs.Common.{◌≡◌, ℕ, ◌≤◌, ◌⊎◌, Bool, true, false, ◌++◌, Option, Some, None, option_to_list, option_map, is_none, is_some, Result, Ok, Err, is_ok, OnOk, OnErr, IfSome, refl, ap, subst, inl, inr, arith, ltb}
use Rattle.std.proofs.lemmas.List.{append-nil}
use Rattle.std.proofs.lemmas.Result.{on_err_weaker}
use Rattle.std.proofs.lemmas.Bool.Decides.{nat_tests}
use Rattle.pb_pmem.specs.declared.device.PmemFault.{PmemFault}
use Rattle.pb_pmem.specs.declared.line.Line.{Line}
use Rattle.pb_pmem.specs.declared.log.LogOp.{LogOp}
use Rattle.pb_pmem.specs.declared.log.LogOp.TheVariants.{Whole, Word, Back, Fence, Sync}
use Rattle.pb_pmem.specs.Count.{Rose, last_count, raised}
use Rattle.pb_pmem.specs.Device.{Device, Adds, Fails, Reads, with_op, IsWholeOf, Is, IsMark}
use Rattle.pb_pmem.specs.Contents.{contents}
use Rattle.pb_pmem.specs.Lines.{line_at}
use Rattle.pb_pmem.proofs.Lines.{contents_push}
use Rattle.pb_image.specs.declared.fail.Call.{Call}
use Rattle.pb_image.specs.declared.fail.Call.TheVariants.{Read}
use Rattle.pb_crash.specs.declared.leaves.Leaves.{Leaves}
use Rattle.pb_crash.specs.declared.leaves.Leaves.TheVariants.{Left, Done, Torn, Fenced}
use Rattle.pb_crash.specs.Leaves.{left_by}
use Rattle.pb_image.specs.Fails.{added_by, faults_after, counted}
use Rattle.pb_image.specs.State.{ImageView, seen_of, failure_of, failure_of_read, after_device_call, after_read, IsLeftBy}

-- a count of 64 bits that is raised rose
pub Rose-raised : (n : ℕ) → n ≤ last_count → Rose n (raised n)
Rose-raised n small = go (ltb n last_count) refl
  where
    go : (b : Bool) → ltb n last_count ≡ b → Rose n (raised n)
    go true e = inl (grind (arith, nat_tests))
    go false e = inr (grind (arith, nat_tests), grind (arith, nat_tests))

-- the device after a call that fails in this way, or doesn't
abbrev step : Option Leaves → Call → LogOp → ImageView → ImageView
step how call op image = record image {
  log = image.log ++ option_to_list (added_by op how);
  calls = counted call image.calls;
  faults = faults_after how image.faults;
}

Adds-step : (call : Call) (op : LogOp) (old : ImageView) → Adds op (seen_of old) (seen_of (step None call op old))
Adds-step call op old =
    record { told = refl; now = ap Some (contents_push old.base old.log op); faults = refl }

Fails-step : (call : Call) (op : LogOp) (old : ImageView) (how : Leaves) → old.faults ≤ last_count → Fails (IsLeftBy op) (seen_of old) (seen_of (step (Some how) call op old))
Fails-step call op old how small =
    record { rose = Rose-raised old.faults small; told = go (left_by how op) refl }
  where
    go : (left : Option LogOp) → left_by how op ≡ left → (Some (record { base = old.base; log = old.log ++ option_to_list left }) ≡ (seen_of old).told) ⊎ ((other : LogOp) × IsLeftBy op other × (Some (record { base = old.base; log = old.log ++ option_to_list left }) ≡ option_map (with_op other) (seen_of old).told))
    go None e = inl (ap (λ l. Some (record { base = old.base; log = l })) (append-nil old.log))
    go (Some other) e = inr (other, (how, e), refl)

-- what a call does where it answers Ok
pub OnOk-Adds : (call : Call) (op : LogOp) (old new : ImageView) (result : Result (Unit {0}) PmemFault) → is_ok result ≡ is_none (failure_of call old) → new ≡ after_device_call call op old → OnOk result (Adds op (seen_of old) (seen_of new))
OnOk-Adds call op old new result answer after = go (failure_of call old) result answer after
  where
    go : (how : Option Leaves) (result : Result (Unit {0}) PmemFault) → is_ok result ≡ is_none how → new ≡ step how call op old → OnOk result (Adds op (seen_of old) (seen_of new))
    go how (Err x) e same = tt
    go None (Ok x) e same = rw same (Adds-step call op old)
    go (Some h) (Ok x) e same = cc

-- what it does where it answers an error
pub OnErr-Fails : (call : Call) (op : LogOp) (old new : ImageView) (result : Result (Unit {0}) PmemFault) → old.faults ≤ last_count → is_ok result ≡ is_none (failure_of call old) → new ≡ after_device_call call op old → OnErr result (Fails (IsLeftBy op) (seen_of old) (seen_of new))
OnErr-Fails call op old new result small answer after = go (failure_of call old) result answer after
  where
    go : (how : Option Leaves) (result : Result (Unit {0}) PmemFault) → is_ok result ≡ is_none how → new ≡ step how call op old → OnErr result (Fails (IsLeftBy op) (seen_of old) (seen_of new))
    go how (Ok x) e same = tt
    go None (Err x) e same = cc
    go (Some h) (Err x) e same = rw same (Fails-step call op old h small)

-- the same, where all that it may leave is allowed
pub OnErr-Fails-allowed : (old new : Device) (op : LogOp) (may_add : LogOp → Type 0) (result : Result (Unit {0}) PmemFault) → ((how : Leaves) → IfSome (left_by how op) may_add) → OnErr result (Fails (IsLeftBy op) old new) → OnErr result (Fails may_add old new)
OnErr-Fails-allowed old new op may_add result allowed = on_err_weaker result (λ fails. record { rose = fails.rose; told = go fails.told })
  where
    go : (new.told ≡ old.told) ⊎ ((other : LogOp) × IsLeftBy op other × (new.told ≡ option_map (with_op other) old.told)) → (new.told ≡ old.told) ⊎ ((other : LogOp) × may_add other × (new.told ≡ option_map (with_op other) old.told))
    go (inl same) = inl same
    go (inr (other, (how, left), longer)) = inr (other, subst (λ o. IfSome o may_add) left (allowed how), longer)

-- a read that doesn't fail
pub Reads-after_read : (line : ℕ) (into : Line) (old new : ImageView) → is_some (failure_of_read old) ≡ false → new ≡ after_read old → into ≡ line_at (contents new.base new.log) line → Reads line into (seen_of old) (seen_of new)
Reads-after_read line into old new answer after content = go (failure_of_read old) answer after
  where
    go : (how : Option Leaves) → is_some how ≡ false → new ≡ record old { calls = counted Read old.calls; faults = faults_after how old.faults } → Reads line into (seen_of old) (seen_of new)
    go None e same = record { same = ap seen_of same; content = rw same at content }
    go (Some h) e same = cc

pub allowed-Whole : (line : ℕ) (to : Line) (how : Leaves) → IfSome (left_by how (Whole line to)) (IsWholeOf line)
allowed-Whole line to Left = tt
allowed-Whole line to Done = refl
allowed-Whole line to (Torn value) = refl
allowed-Whole line to Fenced = tt

pub allowed-Word : (line word to : ℕ) (how : Leaves) → IfSome (left_by how (Word line word to)) (Is (Word line word to))
allowed-Word line word to Left = tt
allowed-Word line word to Done = refl
allowed-Word line word to (Torn value) = tt
allowed-Word line word to Fenced = tt

pub allowed-Back : (first count : ℕ) (how : Leaves) → IfSome (left_by how (Back first count)) (Is (Back first count))
allowed-Back first count Left = tt
allowed-Back first count Done = refl
allowed-Back first count (Torn value) = tt
allowed-Back first count Fenced = tt

pub allowed-Fence : (how : Leaves) → IfSome (left_by how Fence) (Is Fence)
allowed-Fence Left = tt
allowed-Fence Done = refl
allowed-Fence (Torn value) = tt
allowed-Fence Fenced = tt

pub allowed-Sync : (how : Leaves) → IfSome (left_by how Sync) IsMark
allowed-Sync Left = tt
allowed-Sync Done = tt
allowed-Sync (Torn value) = tt
allowed-Sync Fenced = tt
