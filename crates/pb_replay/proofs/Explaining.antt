-- The laws of the core hold of what a replay prints.
use Rattle.std.proofs.Common.{ℕ, List}
use Rattle.pb_pmem.specs.Contents.{contents}
use Rattle.pb_pmem.proofs.CrashLaws.{IsCrashImage-contents}
use Rattle.pb_object.specs.History.{state_after}
use Rattle.pb_object.specs.Standing.{Standing}
use Rattle.pb_layout.specs.declared.header.Header.{Header}
use Rattle.pb_layout.proofs.OneRecovery.{parts}
use Rattle.pb_layout.proofs.OneStanding.{one_standing}
use Rattle.pb_events.specs.declared.event.Stepped.{Stepped}
use Rattle.pb_core.specs.Laws.{IsOneHistory, IsKeptBy}
use Rattle.pb_core.proofs.Plays.{run_of}
use Rattle.pb_core.proofs.Runs.{one_history}
use Rattle.pb_replay.specs.Explained.{IsExplained}
use Rattle.pb_replay.specs.Replay.{events_of, IsReplayed}

pub explained : (head : Header) (bytes : List ℕ) (answers : List Stepped) (s : Standing) (replayed : IsReplayed head bytes answers s) → IsExplained head replayed.last answers s
explained head bytes answers s replayed =
    let w = replayed.last in
    let made = replayed.made in
    let one : IsOneHistory head w answers = one_history head made.first w (events_of replayed.repeats) answers made.fresh (run_of made.first (events_of replayed.repeats) answers w made.play) in
    let image = contents w.tale.base w.tale.log in
    let left : IsKeptBy w answers image = one.images image (IsCrashImage-contents w.tale.base w.tale.log) in
    record {
      one = one;
      kept = left.kept;
      lost = left.lost;
      whole = left.whole;
      state = one_standing image s (state_after w.memory.start left.kept) (parts image s replayed.stands) (parts image (state_after w.memory.start left.kept) left.stands);
      answered = left.answered;
    }
