-- A round in doubt: its record is there, and a crash leaves the state before it or the one after it.
use Rattle.std.specs.Prelude.{◌≡◌, ◌⊎◌, ◌+◌, List, [], ◌∷◌, ◌++◌, Option, Some}
use Rattle.pb_pmem.specs.declared.line.Line.{Line}
use Rattle.pb_pmem.specs.declared.log.LogOp.{LogOp}
use Rattle.pb_pmem.specs.Contents.{contents}
use Rattle.pb_object.specs.History.{Round, IsLegalRound, after_round}
use Rattle.pb_object.specs.Standing.{Standing, rounds_of}
use Rattle.pb_layout.specs.Exits.{IsExit}
use Rattle.pb_layout.specs.LogHistory.{LoggedRound, rounds_in, round_at}
use Rattle.pb_layout.specs.Ready.{IsReady}
use Rattle.pb_layout.specs.Recovered.{Represents}

-- what a device may be found with while a round is in doubt
abbrev pub either_state : Standing → Round → List (Option Standing)
either_state s round = Some s ∷ Some (after_round s round) ∷ []

-- the contents are the state before the round, and the next index word of its side records it
pub record IsRoundInDoubt (base : List Line) (log : List LogOp) (s : Standing) (round : Round) : Type 0 where
  pub legal : IsLegalRound s round
  pub ready : IsReady base log (either_state s round)
  pub stands : Represents (contents base log) s
  pub records : round_at (contents base log) round.side (rounds_of s round.side + 1) ≡ round

-- the contents are the state after the round, and a crash may still take it back
pub record HasRoundLanded (base : List Line) (log : List LogOp) (s : Standing) (round : Round) : Type 0 where
  pub legal : IsLegalRound s round
  pub ready : IsReady base log (either_state s round)
  pub stands : Represents (contents base log) (after_round s round)

-- a call that left a round in doubt: it told no round and the round is in doubt, or it told the round and that has landed
pub record IsExitInDoubt (base : List Line) (log ops : List LogOp) (s : Standing) (round : Round) : Type 0 where
  pub history : List LoggedRound
  pub exit : IsExit base log ops s history (either_state s round)
  pub rounds : ((history ≡ []) × IsRoundInDoubt base (log ++ ops) s round) ⊎ ((rounds_in history ≡ round ∷ []) × HasRoundLanded base (log ++ ops) s round)

-- a store that was cut off from its index word on: the round is told where the log has that word, the first of these last operations
pub record IsExitOfCommit (base : List Line) (log ops last : List LogOp) (s : Standing) (round : Round) : Type 0 where
  pub left : IsExitInDoubt base log ops s round
  pub none : last ≡ [] → left.history ≡ []
  pub some : ¬ (last ≡ []) → rounds_in left.history ≡ round ∷ []
