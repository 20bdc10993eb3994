-- Lemmas on the history of a log that has more operations after it.
use Rattle.std.proofs.Common.{◌≡◌, ℕ, ◌≤◌, List, [], ◌∷◌, ◌++◌, length, take, drop, ap, sym, refl, ◌∙◌, arith}
use Rattle.std.proofs.lemmas.List.{take-append-le, drop-append-le, take-append-drop, drop_all}
use Rattle.pb_pmem.specs.declared.line.Line.{Line}
use Rattle.pb_pmem.specs.declared.log.LogOp.{LogOp}
use Rattle.pb_pmem.specs.Contents.{applied, contents}
use Rattle.pb_pmem.proofs.Lines.{contents-none, contents-first, contents-append}
use Rattle.pb_layout.specs.LogHistory.{LoggedRound, recorded_by_op, history_after, history_of}

-- nothing was done
pub history_after-none : (lines : List Line) (rounds : List LoggedRound) → history_after lines rounds [] ≡ rounds
unfolding history_after
history_after-none lines rounds = refl

-- the first operation of a log
pub history_after-first : (lines : List Line) (rounds : List LoggedRound) (op : LogOp) (log : List LogOp) → history_after lines rounds (op ∷ log) ≡ history_after (applied op lines) (recorded_by_op op lines rounds) log
unfolding history_after
history_after-first lines rounds op log = refl

-- one operation
pub history_after-one : (lines : List Line) (rounds : List LoggedRound) (op : LogOp) → history_after lines rounds (op ∷ []) ≡ recorded_by_op op lines rounds
history_after-one lines rounds op =
    history_after-first lines rounds op [] ∙ history_after-none (applied op lines) (recorded_by_op op lines rounds)

-- one log after another
pub history_after-append : (lines : List Line) (rounds : List LoggedRound) (a b : List LogOp) → history_after lines rounds (a ++ b) ≡ history_after (contents lines a) (history_after lines rounds a) b
history_after-append lines rounds [] b =
    rw (contents-none lines, history_after-none lines rounds) refl
history_after-append lines rounds (op ∷ a) b =
    rw (history_after-first lines rounds op (a ++ b), contents-first lines op a, history_after-first lines rounds op a) (history_after-append (applied op lines) (recorded_by_op op lines rounds) a b)

-- one more operation
pub history_of-push : (base : List Line) (log : List LogOp) (op : LogOp) (from : ℕ) → from ≤ length log → history_of base (log ++ op ∷ []) from ≡ recorded_by_op op (contents base log) (history_of base log from)
history_of-push base log op from within =
    rw (take-append-le from log (op ∷ []) within, drop-append-le from log (op ∷ []) within, history_after-append (contents base (take from log)) [] (drop from log) (op ∷ []), history_after-one) (ap (λ lines. recorded_by_op op lines (history_of base log from)) (sym (contents-append base (take from log) (drop from log)) ∙ ap (contents base) (take-append-drop from log)))

-- nothing was done since
pub history_of-none : (base : List Line) (log : List LogOp) → history_of base log (length log) ≡ []
history_of-none base log =
    rw (drop_all (length log) log (omega arith)) (history_after-none (contents base (take (length log) log)) [])
