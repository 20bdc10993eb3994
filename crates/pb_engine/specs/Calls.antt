-- The calls of an engine since it was opened or made, and the device operations that each of them added.
use Rattle.std.specs.Prelude.{◌≡◌, ℕ, suc, Bool, true, false, List, [], ◌∷◌, ◌++◌, Contains, Option, Some, None, option_map}
use Rattle.pb_pmem.specs.declared.line.Line.{Line}
use Rattle.pb_pmem.specs.declared.log.LogOp.{LogOp}
use Rattle.pb_pmem.specs.Operations.{with_ops, IsFailedPrefix}
use Rattle.pb_object.specs.declared.request.Ask.{Ask}
use Rattle.pb_object.specs.declared.request.Reply.{Reply}
use Rattle.pb_object.specs.History.{Round, History, state_after}
use Rattle.pb_object.specs.Standing.{Standing}
use Rattle.pb_layout.specs.RegionOps.{settle_to}
use Rattle.pb_layout.specs.Represents.{header_for}
use Rattle.pb_engine.specs.Operations.{round_ops, IsFailedRoundOps}
use Rattle.pb_engine.specs.Outcomes.{IsNextRecordOf}
use Rattle.pb_engine.specs.View.{FailedRound, EngineView}

-- a call: a round was made, or one failed; the region was settled, or that failed
pub data EngineCall : Type 0 where
  Made : Round → (ops : List LogOp) → EngineCall
  Failed : FailedRound → (ops : List LogOp) → EngineCall
  Settled : (ops : List LogOp) → EngineCall
  FailedSettling : (ops : List LogOp) → EngineCall

-- how far calls have come: the rounds that are recorded for sure; whether nothing is in doubt and the region is settled; and the round in
-- doubt
pub record Progress : Type 0 where
  pub rounds : History
  pub sure : Bool
  pub doubt : Option FailedRound

-- how far calls have come to this engine, after these rounds
abbrev pub progress_of : History → EngineView → Progress
progress_of rounds engine = record { rounds = rounds; sure = engine.sure; doubt = engine.doubt }

-- the rounds after settling with this round in doubt: it is one more where its index word was called
abbrev pub with_doubt : Bool → History → Round → History
with_doubt true rounds round = rounds ++ round ∷ []
with_doubt false rounds round = rounds

-- the rounds after settling with this doubt
abbrev pub settled_rounds : History → Option FailedRound → History
settled_rounds rounds None = rounds
settled_rounds rounds (Some failed) = with_doubt failed.called rounds failed.round

-- how far calls have come after one more
abbrev pub after_call : Progress → EngineCall → Progress
after_call p (Made round ops) = record { rounds = p.rounds ++ round ∷ []; sure = true; doubt = None }
after_call p (Failed failed ops) = record { rounds = p.rounds; sure = false; doubt = Some failed }
after_call p (Settled ops) = record { rounds = settled_rounds p.rounds p.doubt; sure = true; doubt = None }
after_call p (FailedSettling ops) = record { rounds = p.rounds; sure = false; doubt = p.doubt }

-- how far calls have come after several more
abbrev pub after_calls : Progress → List EngineCall → Progress
after_calls p [] = p
after_calls p (call ∷ calls) = after_calls (after_call p call) calls

-- the operations of a round on a standing: those of some record that it makes, by what an engine knows of the spare one
pub record IsRoundOps (s : Standing) (round : Round) (ops : List LogOp) : Type 0 where
  pub engine : EngineView
  pub standing : engine.standing ≡ s
  pub lines : List Line
  pub record_is : IsNextRecordOf s round lines
  pub ops_are : ops ≡ round_ops engine round lines

-- the first operations of a round on a standing, up to a call of the device that failed
pub record IsCutRoundOps (s : Standing) (failed : FailedRound) (ops : List LogOp) : Type 0 where
  pub engine : EngineView
  pub standing : engine.standing ≡ s
  pub lines : List Line
  pub record_is : IsNextRecordOf s failed.round lines
  pub cut : IsFailedRoundOps engine failed.round lines failed.called ops

-- the operations that settle the region where calls have come so far
abbrev pub settling_ops : Standing → Progress → List LogOp
settling_ops s p = settle_to (header_for (state_after s (settled_rounds p.rounds p.doubt))) (state_after s (settled_rounds p.rounds p.doubt))

-- a legal round is asked of an engine that is sure, and settling of one that isn't
abbrev pub IsCall : Standing → Progress → EngineCall → Type 0
IsCall s p (Made round ops) = (p.sure ≡ true) × IsRoundOps (state_after s p.rounds) round ops
IsCall s p (Failed failed ops) = (p.sure ≡ true) × IsCutRoundOps (state_after s p.rounds) failed ops
IsCall s p (Settled ops) = (p.sure ≡ false) × (ops ≡ settling_ops s p)
IsCall s p (FailedSettling ops) = (p.sure ≡ false) × IsFailedPrefix (settling_ops s p) ops

-- calls one after the other
abbrev pub AreCalls : Standing → Progress → List EngineCall → Type 0
AreCalls s p [] = Unit {0}
AreCalls s p (call ∷ calls) = IsCall s p call × AreCalls s (after_call p call) calls

-- the device operations of a call
abbrev pub ops_of : EngineCall → List LogOp
ops_of (Made round ops) = ops
ops_of (Failed failed ops) = ops
ops_of (Settled ops) = ops
ops_of (FailedSettling ops) = ops

-- the device operations of calls, one after the other
abbrev pub all_ops : List EngineCall → List LogOp
all_ops [] = []
all_ops (call ∷ calls) = ops_of call ++ all_ops calls

-- how many of them failed
abbrev pub failure_count : List EngineCall → ℕ
failure_count [] = 0
failure_count (Made round ops ∷ calls) = failure_count calls
failure_count (Failed failed ops ∷ calls) = suc (failure_count calls)
failure_count (Settled ops ∷ calls) = failure_count calls
failure_count (FailedSettling ops ∷ calls) = suc (failure_count calls)

-- a round has an entry of this request
pub record HasRequest (round : Round) (ask : Ask) : Type 0 where
  pub reply : Reply
  pub entry : Contains round.entries (record { client = ask.client; number = ask.number; op = ask.op; reply = reply })

-- the calls that failed are as many as these requests, in their order, and a round that failed has the request of its place
abbrev pub AreMadeFor : List EngineCall → List Ask → Type 0
AreMadeFor [] [] = Unit {0}
AreMadeFor [] (ask ∷ asks) = ⊥
AreMadeFor (Made round ops ∷ calls) asks = AreMadeFor calls asks
AreMadeFor (Failed failed ops ∷ calls) [] = ⊥
AreMadeFor (Failed failed ops ∷ calls) (ask ∷ asks) = HasRequest failed.round ask × AreMadeFor calls asks
AreMadeFor (Settled ops ∷ calls) asks = AreMadeFor calls asks
AreMadeFor (FailedSettling ops ∷ calls) [] = ⊥
AreMadeFor (FailedSettling ops ∷ calls) (ask ∷ asks) = AreMadeFor calls asks

-- From the start an engine has come to what it is by these calls alone: they recorded these rounds, and so many of them failed. Where there
-- was no call it is as it was
pub record HasCalled (start now : EngineView) (rounds : History) (failures : ℕ) (calls : List EngineCall) : Type 0 where
  pub are : AreCalls start.standing (progress_of [] start) calls
  pub come : after_calls (progress_of [] start) calls ≡ progress_of rounds now
  pub failed : failure_count calls ≡ failures
  pub told : now.device.told ≡ option_map (with_ops (all_ops calls)) start.device.told
  pub idle : calls ≡ [] → now ≡ start
