-- THE RECOVERY THEOREM, by itself: what holds of a call of `fresh` or `run` on a device at rest that tells its log, however the clients'
-- threads interleave, whichever calls of the device fail, and wherever a crash falls.
use Rattle.std.specs.Prelude.{◌≡◌, ◌⊎◌, ℕ, ◌≤◌, List, [], ◌∷◌, ◌++◌, Option, Some, None, Contains, codes, length}
use Rattle.std.specs.Io.KnownBytes.{Appends}
use Rattle.std.specs.List.{zip}
use Rattle.pb_pmem.specs.declared.line.Line.{Line}
use Rattle.pb_pmem.specs.declared.line.TheConstants.{LINES}
use Rattle.pb_pmem.specs.declared.log.LogOp.{LogOp}
use Rattle.pb_pmem.specs.Contents.{contents}
use Rattle.pb_pmem.specs.Count.{Rose}
use Rattle.pb_pmem.specs.Crash.{IsAtRest, IsCrashImageAt}
use Rattle.pb_pmem.specs.Device.{Device, Tale}
use Rattle.pb_pmem.specs.Operations.{with_ops}
use Rattle.pb_io.specs.SinkBytes.{AppendsSome}
use Rattle.pb_object.specs.declared.request.Ask.{Ask}
use Rattle.pb_object.specs.History.{History, IsLegal, state_after}
use Rattle.pb_object.specs.Standing.{Standing, empty_standing}
use Rattle.pb_layout.specs.Damage.{HasRegion}
use Rattle.pb_layout.specs.Once.{HasNumbersOnce}
use Rattle.pb_layout.specs.Represents.{RegionParts}
use Rattle.pb_report.specs.declared.outcome.Outcome.{Outcome}
use Rattle.pb_report.specs.declared.outcome.Outcome.TheVariants.{Doubt}
use Rattle.pb_report.specs.Outcomes.{Outcomes}
use Rattle.pb_report.specs.OutcomeText.{outcomes_text}
use Rattle.pb_run.specs.Run.{AreNewRecorded}
use Rattle.pb_broker.specs.declared.stop.Stop.{Stop}
use Rattle.pb_broker.specs.Stream.{Stream}
use Rattle.pb_broker.specs.Texts.{stop_says}

-- the words ask for a script to be run: they are `fresh` or `run`, and what stands behind it
abbrev pub IsRunning : List (List ℕ) → Type 0
IsRunning [] = ⊥
IsRunning (word ∷ arguments) = (word ≡ codes "fresh") ⊎ (word ≡ codes "run")

-- the lines of a device are a region, whose parts say this standing: the object's state, and what is kept of each client
abbrev pub IsRegionOf : List Line → Standing → Type 0
IsRegionOf image s = (length image ≡ LINES) × RegionParts image s

-- .. or they have no region
abbrev pub IsFirst : List Line → Option Standing → Type 0
IsFirst image None = ¬ HasRegion image
IsFirst image (Some s) = IsRegionOf image s

-- what a crash left: a region of the standing after the first rounds of a history, of which this holds. With none of them there may be no
-- region, where there was none
pub record IsAfterSome (Holds : History → Type 0) (first : Option Standing) (s : Standing) (history : History) (image : List Line) : Type 0 where
  pub kept : History
  pub lost : History
  pub whole : history ≡ kept ++ lost
  pub stands : IsRegionOf image (state_after s kept) ⊎ ((first ≡ None) × (kept ≡ []) × (¬ HasRegion image))
  pub holds : Holds kept

-- a text is written: all of it, or some of its first bytes where a write failed
abbrev pub IsWritten : Stream → List ℕ → Type 0
IsWritten out text = Appends out.before out.after text ⊎ (AppendsSome out.before out.after text × Rose out.faults_before out.faults)

-- One history explains a call, from what the device held first to its end. It is legal: each entry has its client's next number, and the reply
-- of the sequential object at its place. No request stands in it twice. The text is the outcomes of requests that were run with that history,
-- or says why none was. Whatever a crash leaves at a moment of the call is the object after the first rounds of that history. Once the call has
-- ended these hold the entry of each new request of the text. A request is in doubt only where the device's count of failing calls rose
pub record HasOneRun (first : Option Standing) (before end : Tale) (faults faults_then : ℕ) (text : List ℕ) : Type 0 where
  pub s : Standing
  pub start : (first ≡ Some s) ⊎ ((first ≡ None) × (s ≡ empty_standing s.kind s.clients s.size))
  pub history : History
  pub legal : IsLegal s history
  pub once : HasNumbersOnce history
  pub asks : List Ask
  pub list : List Outcome
  pub outcomes : Outcomes s history asks list
  pub text_is : (text ≡ outcomes_text asks list) ⊎ ((asks ≡ []) × ((stop : Stop) × (text ≡ (stop_says stop).0)))
  pub doubt : Contains list Doubt → Rose faults faults_then
  pub images : (moment : ℕ) → length before.log ≤ moment → moment ≤ length end.log → (image : List Line) → IsCrashImageAt end.base end.log moment image
      → IsAfterSome (λ kept. moment ≡ length end.log → AreNewRecorded kept (zip asks list)) first s history image

-- a call with these words, of a device that was so and is so then, which wrote so: its operations go behind those before, and one history
-- explains it
abbrev pub IsRecoverable : List (List ℕ) → Device → Device → Stream → Type 0
IsRecoverable words before after out =
    IsRunning words → (tale : Tale) (first : Option Standing) → before.told ≡ Some tale → IsAtRest tale.base tale.log → IsFirst (contents tale.base tale.log) first
    → (ops : List LogOp) × (text : List ℕ) × (after.told ≡ Some (with_ops ops tale)) × IsWritten out text × HasOneRun first tale (with_ops ops tale) before.faults after.faults text
