-- One round after the other: at each moment all rounds so far are sealed, but perhaps the last one.
use Rattle.std.proofs.Common.{ℕ, ◌≤◌, Bool, true, false, List, [], ◌∷◌, ◌++◌, length, take, drop, if◌then◌else◌, ap, subst, refl, arith}
use Rattle.std.proofs.lemmas.List.{length-append, length-map, take-append-le, drop-append-le, take-append-drop, length-take-le}
use Rattle.pb_pmem.specs.declared.line.Line.{Line}
use Rattle.pb_pmem.specs.declared.log.LogOp.{LogOp}
use Rattle.pb_pmem.specs.declared.log.LogOp.TheVariants.{Whole, Word, Back, Fence, Sync}
use Rattle.pb_pmem.specs.Contents.{applied, contents}
use Rattle.pb_object.specs.Standing.{Standing}
use Rattle.pb_layout.specs.Covers.{Covers}
use Rattle.pb_layout.specs.LogHistory.{LoggedRound, raises_index, backed_by, sealed_by_sync, recorded_by_op, history_after, history_of}
use Rattle.pb_layout.proofs.LogHistories.{history_after-none, history_after-first, history_after-append}
use Rattle.pb_layout.specs.Exits.{HasOneUnsealedAtMostAlways}

-- No operation takes a round away

longer_word : (b : Bool) (rounds new : List LoggedRound) → length rounds ≤ length (if b then rounds ++ new else rounds)
longer_word true rounds new = omega (arith, length-append rounds new)
longer_word false rounds new = omega arith

longer_op : (op : LogOp) (lines : List Line) (rounds : List LoggedRound) → length rounds ≤ length (recorded_by_op op lines rounds)
longer_op (Whole line to) lines rounds = omega arith
longer_op (Word line word to) lines rounds = longer_word (raises_index lines line word to) rounds _
longer_op (Back first count) lines rounds = omega (arith, length-map rounds (backed_by first count))
longer_op Fence lines rounds = omega arith
longer_op Sync lines rounds = omega (arith, length-map rounds sealed_by_sync)

-- so a log has at least the rounds that it began with
history_after-longer : (lines : List Line) (rounds : List LoggedRound) (log : List LogOp) → length rounds ≤ length (history_after lines rounds log)
history_after-longer lines rounds [] = omega (arith, ap length (history_after-none lines rounds))
history_after-longer lines rounds (op ∷ log) =
    omega (arith, longer_op op lines rounds, history_after-longer (applied op lines) (recorded_by_op op lines rounds) log, ap length (history_after-first lines rounds op log))

-- and a prefix of it tells no more than all of it
pub history_of-longer : (base : List Line) (a b : List LogOp) (from : ℕ) → from ≤ length a → length (history_of base a from) ≤ length (history_of base (a ++ b) from)
history_of-longer base a b from within =
    rw (take-append-le from a b within, drop-append-le from a b within, history_after-append (contents base (take from a)) [] (drop from a) b) (history_after-longer (contents (contents base (take from a)) (drop from a)) (history_of base a from) b)

-- Where there is one round at most

-- a log that tells one round at most is stepwise
pub stepwise_few : (base : List Line) (log : List LogOp) (from : ℕ) → length (history_of base log from) ≤ 1 → HasOneUnsealedAtMostAlways base log from
stepwise_few base log from few moment low high = record {
  prefix = [];
  last = history_of base (take moment log) from;
  whole = refl;
  sealed = tt;
  few = subst (λ (l : List LogOp). length (history_of base l from) ≤ 1 → length (history_of base (take moment log) from) ≤ 1) (take-append-drop moment log) (λ all. omega (arith, history_of-longer base (take moment log) (drop moment log) from (omega (arith, length-take-le moment log high)))) few;
}

-- so it is of a log that covers so few
pub covered_stepwise : {base : List Line} {log : List LogOp} {from : ℕ} {s : Standing} {history : List LoggedRound} → Covers base log from s history → length history ≤ 1 → HasOneUnsealedAtMostAlways base log from
covered_stepwise {base} {log} {from} covers few =
    stepwise_few base log from (omega (arith, few, ap length covers.told))
