-- Each step on one word keeps what holds of memory.
use Rattle.std.proofs.Common.{ℕ, ◌<◌}
use Rattle.pb_events.specs.declared.event.Stepped.{Stepped}
use Rattle.pb_core.specs.Memory.{Memory}
use Rattle.pb_core.specs.MemoryParts.{IsMemory}
use Rattle.pb_core.specs.WordMoves.{IsNotReopening, WordMove, IsWordStep, storing, announcing, looking, matching, lacking_held, lacking_free, loading_code, loading_value, loading_extra, confirming, finding_new, finding_held, taking_sure, taking_unsure, missing, passing_over, meeting, scanning_code, scanning_first, scanning_second, scanning_own, scanning_other, filling, publishing_own, publishing_others, noting, giving_up}
use Rattle.pb_core.proofs.Asking.{keeps-storing, keeps-announcing}
use Rattle.pb_core.proofs.Publishing.{keeps-filling, keeps-publishing_own, keeps-publishing_others}
use Rattle.pb_core.proofs.Scans.{keeps-passing_over, keeps-meeting, keeps-scanning_code, keeps-scanning_first, keeps-scanning_second, keeps-scanning_own, keeps-scanning_other}
use Rattle.pb_core.proofs.Turns.{keeps-taking_sure, keeps-taking_unsure, keeps-noting, keeps-giving_up}
use Rattle.pb_core.proofs.Waiting.{keeps-looking, keeps-matching, keeps-lacking_held, keeps-lacking_free, keeps-loading_code, keeps-loading_value, keeps-loading_extra, keeps-confirming, keeps-finding_new, keeps-finding_held, keeps-missing}

keeps-move : {old new : Memory} {c : ℕ} {answer : Stepped} → IsMemory old → IsNotReopening old.owner → c < old.start.clients → WordMove old c new answer → IsMemory new
keeps-move is running there (storing move) = keeps-storing is there move
keeps-move is running there (announcing move) = keeps-announcing is there move
keeps-move is running there (looking move) = keeps-looking is there move
keeps-move is running there (matching move) = keeps-matching is there move
keeps-move is running there (lacking_held move) = keeps-lacking_held is there move
keeps-move is running there (lacking_free move) = keeps-lacking_free is there move
keeps-move is running there (loading_code move) = keeps-loading_code is there move
keeps-move is running there (loading_value move) = keeps-loading_value is there move
keeps-move is running there (loading_extra move) = keeps-loading_extra is there move
keeps-move is running there (confirming move) = keeps-confirming is there move
keeps-move is running there (finding_new move) = keeps-finding_new is there move
keeps-move is running there (finding_held move) = keeps-finding_held is there move
keeps-move is running there (taking_sure move) = keeps-taking_sure is running there move
keeps-move is running there (taking_unsure move) = keeps-taking_unsure is running there move
keeps-move is running there (missing move) = keeps-missing is there move
keeps-move is running there (passing_over move) = keeps-passing_over is there move
keeps-move is running there (meeting move) = keeps-meeting is move
keeps-move is running there (scanning_code move) = keeps-scanning_code is move
keeps-move is running there (scanning_first move) = keeps-scanning_first is move
keeps-move is running there (scanning_second move) = keeps-scanning_second is move
keeps-move is running there (scanning_own move) = keeps-scanning_own is move
keeps-move is running there (scanning_other move) = keeps-scanning_other is there move
keeps-move is running there (filling move) = keeps-filling is move
keeps-move is running there (publishing_own move) = keeps-publishing_own is there move
keeps-move is running there (publishing_others move) = keeps-publishing_others is there move
keeps-move is running there (noting move) = keeps-noting is move
keeps-move is running there (giving_up move) = keeps-giving_up is there move

pub keeps-word : {old new : Memory} {c : ℕ} {answer : Stepped} → IsMemory old → IsWordStep old c new answer → IsMemory new
keeps-word is step = keeps-move is step.running step.there step.move
