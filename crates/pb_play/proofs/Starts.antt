-- A step on a word keeps the standing in which all began.
use Rattle.std.proofs.Common.{◌≡◌, ℕ, ap}
use Rattle.pb_events.specs.declared.event.Stepped.{Stepped}
use Rattle.pb_core.specs.Memory.{Memory}
use Rattle.pb_core.specs.WordMoves.{WordMove, storing, announcing, looking, matching, lacking_held, lacking_free, loading_code, loading_value, loading_extra, confirming, finding_new, finding_held, taking_sure, taking_unsure, missing, passing_over, meeting, scanning_code, scanning_first, scanning_second, scanning_own, scanning_other, filling, publishing_own, publishing_others, noting, giving_up}

pub start_stays : {m next : Memory} {c : ℕ} {answer : Stepped} → WordMove m c next answer → next.start ≡ m.start
start_stays (storing move) = ap (λ (n : Memory). n.start) move.is
start_stays (announcing move) = ap (λ (n : Memory). n.start) move.is
start_stays (looking move) = ap (λ (n : Memory). n.start) move.is
start_stays (matching move) = ap (λ (n : Memory). n.start) move.is
start_stays (lacking_held move) = ap (λ (n : Memory). n.start) move.is
start_stays (lacking_free move) = ap (λ (n : Memory). n.start) move.is
start_stays (loading_code move) = ap (λ (n : Memory). n.start) move.is
start_stays (loading_value move) = ap (λ (n : Memory). n.start) move.is
start_stays (loading_extra move) = ap (λ (n : Memory). n.start) move.is
start_stays (confirming move) = ap (λ (n : Memory). n.start) move.is
start_stays (finding_new move) = ap (λ (n : Memory). n.start) move.is
start_stays (finding_held move) = ap (λ (n : Memory). n.start) move.is
start_stays (taking_sure move) = ap (λ (n : Memory). n.start) move.is
start_stays (taking_unsure move) = ap (λ (n : Memory). n.start) move.is
start_stays (missing move) = ap (λ (n : Memory). n.start) move.is
start_stays (passing_over move) = ap (λ (n : Memory). n.start) move.is
start_stays (meeting move) = ap (λ (n : Memory). n.start) move.is
start_stays (scanning_code move) = ap (λ (n : Memory). n.start) move.is
start_stays (scanning_first move) = ap (λ (n : Memory). n.start) move.is
start_stays (scanning_second move) = ap (λ (n : Memory). n.start) move.is
start_stays (scanning_own move) = ap (λ (n : Memory). n.start) move.is
start_stays (scanning_other move) = ap (λ (n : Memory). n.start) move.is
start_stays (filling move) = ap (λ (n : Memory). n.start) move.is
start_stays (publishing_own move) = ap (λ (n : Memory). n.start) move.is
start_stays (publishing_others move) = ap (λ (n : Memory). n.start) move.is
start_stays (noting move) = ap (λ (n : Memory). n.start) move.is
start_stays (giving_up move) = ap (λ (n : Memory). n.start) move.is
