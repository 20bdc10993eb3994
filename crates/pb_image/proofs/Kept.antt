-- Lemmas on the parts of a device in memory.
use Rattle.std.proofs.Common.{◌≡◌, ℕ, ◌+◌, ◌≤◌, Bool, true, false, leb, List, [], ◌++◌, length, Option, Some, None, option_to_list, cond, refl, sym, ap, ◌∙◌, arith, IsTrue, zero-le, length-append}
use Rattle.std.specs.List.{list_all}
use Rattle.std.proofs.lemmas.List.Folds.{list_all-append}
use Rattle.std.proofs.lemmas.Bool.Decides.{nat_tests}
use Rattle.std.proofs.Math.Nat.{ℕ_set}
use mathlib.Core.HLevel.{is_prop→PathP}
use Rattle.pb_pmem.specs.declared.line.Line.{Line}
use Rattle.pb_pmem.specs.declared.line.TheConstants.{LINES}
use Rattle.pb_pmem.specs.declared.log.LogOp.{LogOp}
use Rattle.pb_pmem.specs.declared.log.LogOp.TheVariants.{Whole, Word, Back, Fence, Sync}
use Rattle.pb_pmem.specs.Contents.{contents}
use Rattle.pb_pmem.proofs.Lines.{length-contents, contents-none, contents-append}
use Rattle.pb_image.specs.declared.fail.Call.{Call}
use Rattle.pb_crash.specs.declared.leaves.Leaves.{Leaves}
use Rattle.pb_crash.specs.declared.leaves.Leaves.TheVariants.{Left, Done, Torn, Fenced}
use Rattle.pb_crash.specs.Leaves.{left_by}
use Rattle.pb_image.specs.Fails.{failure, added_by}
use Rattle.pb_crash.specs.Within.{is_within}
use Rattle.pb_image.specs.State.{ImageView, AreImageParts, failure_of}

-- there are as many lines now as at the start
pub length-lines : {base lines : List Line} {log : List LogOp} {room capacity : ℕ} → AreImageParts base lines log room capacity → length base ≡ LINES → length lines ≡ LINES
length-lines {base} {lines} {log} kept whole =
    ap length kept.replayed ∙ (length-contents base log ∙ whole)

-- a device that was just made
pub IsKept-none : {base lines : List Line} {log : List LogOp} {room capacity : ℕ} → lines ≡ base → log ≡ [] → room ≤ capacity → AreImageParts base lines log room capacity
IsKept-none {base} {lines} {log} same empty fits =
    record {
      replayed = same ∙ sym (ap (contents base) empty ∙ contents-none base);
      within = rw empty refl;
      fits = rw empty (zero-le);
      has_room = fits;
    }

-- some more operations, for which there is room
pub IsKept-more : {base lines lines' : List Line} {log log' : List LogOp} {room capacity capacity' : ℕ} (more : List LogOp) → AreImageParts base lines log room capacity → lines' ≡ contents lines more → log' ≡ log ++ more → capacity ≤ capacity' → IsTrue (list_all is_within more) → length log + length more ≤ room → AreImageParts base lines' log' room capacity'
IsKept-more {base} {lines} {lines'} {log} {log'} more kept same longer large within fits =
    record {
      replayed = same ∙ (ap (λ l. contents l more) kept.replayed ∙ (sym (contents-append base log more) ∙ ap (contents base) (sym longer)));
      within = rw (longer, list_all-append is_within log more, kept.within) within;
      fits = rw (longer, length-append) fits;
      has_room = let h = kept.has_room in omega arith;
    }

-- what a failing call leaves lies within the device, where its operation does
pub within-left_by : (how : Leaves) (op : LogOp) → IsTrue (is_within op) → IsTrue (list_all is_within (option_to_list (left_by how op)))
within-left_by Left op h = refl
within-left_by Done op h = rw h refl
within-left_by (Torn value) (Whole line to) h = rw h refl
within-left_by (Torn value) (Word line word to) h = refl
within-left_by (Torn value) (Back first count) h = refl
within-left_by (Torn value) Fence h = refl
within-left_by (Torn value) Sync h = refl
within-left_by Fenced (Whole line to) h = refl
within-left_by Fenced (Word line word to) h = refl
within-left_by Fenced (Back first count) h = refl
within-left_by Fenced Fence h = refl
within-left_by Fenced Sync h = refl

-- and so does what a call adds
pub within-added_by : (how : Option Leaves) (op : LogOp) → IsTrue (is_within op) → IsTrue (list_all is_within (option_to_list (added_by op how)))
within-added_by None op h = rw h refl
within-added_by (Some how) op h = within-left_by how op h

-- a call adds at most one operation
added_one : (how : Option Leaves) (op : LogOp) → length (option_to_list (added_by op how)) ≤ 1
added_one how op = elim (added_by op how) as (λ o. length (option_to_list o) ≤ 1) [ None ↦ omega arith | Some x ↦ omega arith ]

-- a call adds only what there is room for
pub room-added_by : (call : Call) (op : LogOp) (image : ImageView) → length image.log ≤ image.room → length image.log + length (option_to_list (added_by op (failure_of call image))) ≤ image.room
room-added_by call op image fits =
    go (failure call image.calls image.fails) (leb image.room (length image.log)) refl
  where
    go : (listed : Option Leaves) (full : Bool) → leb image.room (length image.log) ≡ full → length image.log + length (option_to_list (added_by op (cond full (Some Left) listed))) ≤ image.room
    go listed true e = omega arith
    go listed false e = let one = added_one listed op in grind (arith, nat_tests)

-- two views with the same parts are the same
pub same_view : (a b : ImageView) → a.base ≡ b.base → a.log ≡ b.log → a.room ≡ b.room → a.fails ≡ b.fails → a.calls ≡ b.calls → a.faults ≡ b.faults → a ≡ b
same_view a b base log room fails calls faults =
    λ i. record {
      base = base i;
      log = log i;
      room = room i;
      fails = fails i;
      calls = calls i;
      faults = faults i;
      whole = is_prop→PathP (λ j. length (base j) ≡ LINES) (λ j. ℕ_set (length (base j)) LINES) a.whole b.whole i;
    }
