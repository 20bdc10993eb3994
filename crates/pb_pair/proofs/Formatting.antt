-- The operations of formatting.
use Rattle.std.proofs.Common.{◌≡◌, ◌≢◌, ℕ, List, [], Option, Some, None, IfSome, inr, sym, ap, subst, ◌∙◌}
use Rattle.pb_pmem.specs.declared.line.Line.{Line}
use Rattle.pb_pmem.specs.declared.log.LogOp.{LogOp}
use Rattle.pb_pmem.specs.Device.{Device, Reads}
use Rattle.pb_pmem.specs.Lines.{line_at}
use Rattle.pb_pmem.specs.Operations.{writes_from, Does, Stops, IsFailedPrefixOfTwo}
use Rattle.pb_pmem.proofs.OperationSteps.{does_none, stops_weaker}
use Rattle.pb_pmem.proofs.WrittenLines.{writes_from-none}
use Rattle.pb_layout.specs.declared.header.Header.{Header}
use Rattle.pb_layout.specs.declared.header.TheConstants.{MAGIC}
use Rattle.pb_layout.specs.Damage.{HasRegion}
use Rattle.pb_layout.specs.Header.{word}
use Rattle.pb_layout.specs.RegionOps.{prepare_ops, publish_ops}
use Rattle.pb_pair.specs.declared.why.Stop.TheVariants.{Fault}
use Rattle.pb_pair.specs.Format.{IsFailedFormat, IsFormatStop}

-- and writes no second record
pub no_writes : (first : ℕ) (lines : List Line) (device : Device) → lines ≡ [] → Does (writes_from first lines) device device
no_writes first lines device none =
    subst (λ (l : List LogOp). Does l device device) (sym (ap (writes_from first) none ∙ writes_from-none first)) (does_none device)

-- a device that isn't a region's
pub no_region : (now : Option (List Line)) (line : Line) → word line 0 ≢ MAGIC → IfSome now (λ lines. line ≡ line_at lines 0) → IfSome now (λ lines. ¬ HasRegion lines)
no_region None line other read = tt
no_region (Some lines) line other read = λ has. other (ap (λ (l : Line). word l 0) read ∙ has)

-- formatting that stopped after its first read
pub stopped : (head : Header) (first second : List Line) (old mid new : Device) (line : Line) → Reads 0 line old mid → word line 0 ≢ MAGIC → Stops (IsFailedPrefixOfTwo (prepare_ops head first second) publish_ops) mid new → IsFormatStop head first second old new Fault
stopped head first second old mid new line read other stops = (
  stops_weaker (IsFailedPrefixOfTwo (prepare_ops head first second) publish_ops) (IsFailedFormat head first second) old new (λ ops cut. inr cut) (subst (λ (d : Device). Stops (IsFailedPrefixOfTwo (prepare_ops head first second) publish_ops) d new) read.same stops),
  inr (no_region old.now line other read.content),
)
