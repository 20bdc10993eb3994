-- What a call leaves of a pair's records, where the device tells its log.
use Rattle.std.proofs.Common.{◌≡◌, ℕ, ◌+◌, ◌%◌, ◌<◌, ◌≤◌, Bool, true, false, List, [], ◌∷◌, ◌++◌, Some, option_map, sym, subst, ◌∙◌, inl, arith}
use Rattle.std.specs.List.{All}
use Rattle.std.specs.Prelude.{◌==◌, if◌then◌else◌}
use Rattle.std.proofs.lemmas.List.Elements.{All-nil, All-append, All-cons}
use Rattle.pb_pmem.specs.declared.line.Line.{Line}
use Rattle.pb_pmem.specs.declared.log.LogOp.{LogOp}
use Rattle.pb_pmem.specs.declared.log.LogOp.TheVariants.{Word, Back, Sync}
use Rattle.pb_pmem.specs.Contents.{contents}
use Rattle.pb_pmem.specs.Device.{Device, Tale}
use Rattle.pb_pmem.specs.Operations.{with_ops, IsFailedPrefix}
use Rattle.pb_object.specs.Standing.{side_count}
use Rattle.pb_layout.specs.declared.header.Header.{Header}
use Rattle.pb_layout.specs.declared.header.TheConstants.{MAGIC}
use Rattle.pb_layout.specs.Header.{record_length}
use Rattle.pb_layout.specs.Region.{record_place}
use Rattle.pb_layout.specs.RegionOps.{commit_ops, settle_ops}
use Rattle.pb_layout.specs.ToldExits.{contents_of}
use Rattle.pb_layout.proofs.Untouched.{Spares, record_at-spared}
use Rattle.pb_layout_laws.proofs.CutOff.{KeepsAdded, added_has, cut_off_keeps}
use Rattle.pb_layout_laws.proofs.Geometry.{record_after}
use Rattle.pb_pair.specs.View.{DoubtView, PairView, round_of_side, HoldsRecords, IsPair}
use Rattle.pb_pair.proofs.Told.{told_before}

-- Operations that write none of the records

abbrev pub SparesRecords : Header → List LogOp → Type 0
SparesRecords head ops = (side which : ℕ) → side < side_count head.kind → All (Spares (record_place head side which) (record_length head)) ops

-- what a failing call may have added writes no other line than its operation
pub added_spares : (at count : ℕ) → KeepsAdded (Spares at count)
added_spares at count = added_has (Spares at count) (λ line to other apart. apart) (λ _. tt)

-- so it is where they are cut off
pub cut_spares : (head : Header) (all ops : List LogOp) → SparesRecords head all → IsFailedPrefix all ops → SparesRecords head ops
cut_spares head all ops spares cut side which here =
    let at = record_place head side which in
    cut_off_keeps (Spares at (record_length head)) (added_spares at (record_length head)) all ops (spares side which here) cut

pub none_spares : (head : Header) (ops : List LogOp) → ops ≡ [] → SparesRecords head ops
none_spares head ops none side which here =
    let Out : LogOp → Type 0 = Spares (record_place head side which) (record_length head) in
    subst (All Out) (sym none) (All-nil Out)

-- index words
pub commit-spares : (at count side index : ℕ) → side < 2 → 3 ≤ at → All (Spares at count) (commit_ops side index)
commit-spares at count side index few after =
    let Out : LogOp → Type 0 = Spares at count in
    All-cons Out (Word (1 + side) 0 index) (Back (1 + side) 1 ∷ Sync ∷ []) (inl (omega arith))
    (All-cons Out (Back (1 + side) 1) (Sync ∷ []) tt (All-cons Out Sync [] tt (All-nil Out)))

pub commit_spares : (head : Header) (side index : ℕ) → side < 2 → SparesRecords head (commit_ops side index)
commit_spares head side index few other which here =
    commit-spares (record_place head other which) (record_length head) side index few (record_after head other which)

-- and the magic
pub settle_spares : (head : Header) (first second : ℕ) → SparesRecords head (settle_ops head first second)
settle_spares head first second side which here =
    All-cons Out (Word 0 0 MAGIC) (Word 1 0 first ∷ (more ++ rest)) (inl (omega (arith, after)))
    (All-cons Out (Word 1 0 first) (more ++ rest) (inl (omega (arith, after)))
    (All-append Out more rest (by (side_count head.kind == 2)) (All-cons Out (Back 0 3) (Sync ∷ []) tt (All-cons Out Sync [] tt (All-nil Out)))))
  where
    after : 3 ≤ record_place head side which
    after = record_after head side which

    Out : LogOp → Type 0
    Out = Spares (record_place head side which) (record_length head)

    more : List LogOp
    more = if side_count head.kind == 2 then Word 2 0 second ∷ [] else []

    rest : List LogOp
    rest = Back 0 3 ∷ Sync ∷ []

    by : (two : Bool) → All Out (if two then Word 2 0 second ∷ [] else [])
    by true = All-cons Out (Word 2 0 second) [] (inl (omega (arith, after))) (All-nil Out)
    by false = All-nil Out

-- They keep the records

-- the record in doubt is of a side that there is
abbrev pub IsDoubtHere : PairView → Type 0
IsDoubtHere pair = (doubt : DoubtView) → pair.doubt ≡ Some doubt → doubt.side < side_count pair.head.kind

pub keeps_records : (pair : PairView) (ops : List LogOp) (image : List Line) → IsDoubtHere pair → SparesRecords pair.head ops → HoldsRecords pair image → HoldsRecords pair (contents image ops)
keeps_records pair ops image there spares holds = record {
  in_use = λ side here. record_at-spared ops image pair.head side (round_of_side pair side % 2) (spares side (round_of_side pair side % 2) here) ∙ holds.in_use side here;
  in_doubt = λ doubt is called. record_at-spared ops image pair.head doubt.side ((round_of_side pair doubt.side + 1) % 2) (spares doubt.side ((round_of_side pair doubt.side + 1) % 2) (there doubt is)) ∙ holds.in_doubt doubt is called;
}

-- after a call, whole or cut off
pub kept_where_told : (pair : PairView) (ops : List LogOp) (device : Device) → IsPair pair → device.told ≡ option_map (with_ops ops) pair.device.told → SparesRecords pair.head ops → (tale : Tale) → device.told ≡ Some tale → HoldsRecords pair (contents_of tale)
kept_where_told pair ops device sound grown spares tale told =
    let before = told_before ops pair.device.told device.told tale grown told in
    subst (HoldsRecords pair) (sym before.2) (keeps_records pair ops (contents_of before.0) (λ doubt is. (sound.in_doubt doubt is).here) spares (sound.records before.0 before.1))
