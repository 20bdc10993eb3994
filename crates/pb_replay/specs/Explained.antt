-- What is known of a replay whose answers and report were printed.
use Rattle.std.specs.Prelude.{◌≡◌, List, ◌++◌}
use Rattle.pb_object.specs.History.{History, state_after}
use Rattle.pb_object.specs.Standing.{Standing}
use Rattle.pb_layout.specs.declared.header.Header.{Header}
use Rattle.pb_events.specs.declared.event.Stepped.{Stepped}
use Rattle.pb_core.specs.Laws.{IsOneHistory, all_done}
use Rattle.pb_core.specs.MemoryParts.{AreAnswered}
use Rattle.pb_core.specs.World.{World}
use Rattle.pb_core.specs.WorldMoves.{all_rounds}

-- the world has one legal history of the object that was formatted, in which each answered request stands with its reply and none stands twice; and the standing that is
-- reported is that after a prefix of all rounds which has each answered request
pub record IsExplained (head : Header) (w : World) (answers : List Stepped) (s : Standing) : Type 0 where
  pub one : IsOneHistory head w answers
  pub kept : History
  pub lost : History
  pub whole : all_rounds w.memory ≡ kept ++ lost
  pub state : s ≡ state_after w.memory.start kept
  pub answered : AreAnswered kept (all_done answers)
