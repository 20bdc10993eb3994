-- What making a region costs, settling one, and a run on it.
use Rattle.std.proofs.Common.{◌≡◌, ℕ, suc, Bool, true, false, List, [], ◌∷◌, ◌++◌, refl, ap, ◌∙◌, arith}
use Rattle.std.specs.Prelude.{◌==◌, if◌then◌else◌}
use Rattle.pb_pmem.specs.declared.line.Line.{Line}
use Rattle.pb_pmem.specs.declared.log.LogOp.{LogOp}
use Rattle.pb_pmem.specs.declared.log.LogOp.TheVariants.{Whole, Back, Fence}
use Rattle.pb_pmem.specs.Lines.{zero_line}
use Rattle.pb_pmem.specs.Operations.{writes_from}
use Rattle.pb_pmem.proofs.WrittenLines.{writes_from-none, writes_from-more}
use Rattle.pb_object.specs.Standing.{Standing, rounds_of, side_count}
use Rattle.pb_layout.specs.declared.header.Header.{Header}
use Rattle.pb_layout.specs.Header.{record_length}
use Rattle.pb_layout.specs.Region.{record_place}
use Rattle.pb_layout.specs.Exits.{empty_for}
use Rattle.pb_layout.specs.Represents.{header_for}
use Rattle.pb_layout.specs.RegionOps.{header_words, prepare_ops, publish_ops, format_ops, settle_to}
use Rattle.pb_engine.specs.Good.{fence_count, sync_count}
use Rattle.pb_engine.proofs.Costs.{fences-append, syncs-append, settling_fences, settling_syncs}
use Rattle.pb_broker.proofs.Counts.{fences_counted, syncs_counted}
use Rattle.pb_broker.specs.Laws.{Costs, CostsOneEach}
use Rattle.pb_broker.specs.Running.{empty_record, making_ops}

written_fences : (first : ℕ) (lines : List Line) → fence_count (writes_from first lines) ≡ 0
written_fences first [] = ap fence_count (writes_from-none first)
written_fences first (line ∷ lines) = ap fence_count (writes_from-more first line lines) ∙ written_fences (suc first) lines

written_syncs : (first : ℕ) (lines : List Line) → sync_count (writes_from first lines) ≡ 0
written_syncs first [] = ap sync_count (writes_from-none first)
written_syncs first (line ∷ lines) = ap sync_count (writes_from-more first line lines) ∙ written_syncs (suc first) lines

-- what stands behind the records
abbrev behind : Header → Bool → List LogOp
behind head two =
    Whole 1 zero_line ∷ Whole 2 zero_line ∷ (header_words head ++ (Back 0 3 ∷ Back (record_place head 0 0) (record_length head) ∷ ((if two then Back (record_place head 1 0) (record_length head) ∷ [] else []) ++ Fence ∷ [])))

behind_fences : (head : Header) (two : Bool) → fence_count (behind head two) ≡ 1
behind_fences head true = refl
behind_fences head false = refl

behind_syncs : (head : Header) (two : Bool) → sync_count (behind head two) ≡ 0
behind_syncs head true = refl
behind_syncs head false = refl

making_fences : (head : Header) (first second : List Line) → fence_count (format_ops head first second) ≡ 1
making_fences head first second =
    omega (
      arith,
      fences-append (prepare_ops head first second) publish_ops,
      fences-append (writes_from (record_place head 0 0) first) (writes_from (record_place head 1 0) second ++ behind head (side_count head.kind == 2)),
      fences-append (writes_from (record_place head 1 0) second) (behind head (side_count head.kind == 2)),
      written_fences (record_place head 0 0) first,
      written_fences (record_place head 1 0) second,
      behind_fences head (side_count head.kind == 2),
    )

pub making_syncs : (head : Header) (first second : List Line) → sync_count (format_ops head first second) ≡ 1
making_syncs head first second =
    omega (
      arith,
      syncs-append (prepare_ops head first second) publish_ops,
      syncs-append (writes_from (record_place head 0 0) first) (writes_from (record_place head 1 0) second ++ behind head (side_count head.kind == 2)),
      syncs-append (writes_from (record_place head 1 0) second) (behind head (side_count head.kind == 2)),
      written_syncs (record_place head 0 0) first,
      written_syncs (record_place head 1 0) second,
      behind_syncs head (side_count head.kind == 2),
    )

making_costs : (head : Header) → Costs 1 1 (making_ops head)
making_costs head =
    let second = if side_count head.kind == 2 then empty_record head else [] in
    record {
      fence = omega (arith, making_fences head (empty_record head) second, fences_counted (making_ops head));
      sync = omega (arith, making_syncs head (empty_record head) second, syncs_counted (making_ops head));
    }

-- What settling costs

settling_costs : (s : Standing) → Costs 0 1 (settle_to (header_for s) s)
settling_costs s = record {
  fence = omega (arith, settling_fences (header_for s) (rounds_of s 0) (rounds_of s 1), fences_counted (settle_to (header_for s) s));
  sync = omega (arith, settling_syncs (header_for s) (rounds_of s 0) (rounds_of s 1), syncs_counted (settle_to (header_for s) s));
}

-- What a run costs

run_costs : (s : Standing) (first : List LogOp) (fences syncs : ℕ) → Costs fences syncs first → CostsOneEach s first fences syncs
run_costs s first fences syncs costs known asks list tale after run calm =
    let each = run.calm calm in
    record {
      fence = omega (arith, ap fence_count run.parts, fences-append first run.more, costs.fence, each.fences, fences_counted first, fences_counted run.more, fences_counted run.left.ops);
      sync = omega (arith, ap sync_count run.parts, syncs-append first run.more, costs.sync, each.syncs, syncs_counted first, syncs_counted run.more, syncs_counted run.left.ops);
    }

pub made_run_costs : (head : Header) → CostsOneEach (empty_for head) (making_ops head) 1 1
made_run_costs head = run_costs (empty_for head) (making_ops head) 1 1 (making_costs head)

pub settled_run_costs : (s : Standing) → CostsOneEach s (settle_to (header_for s) s) 0 1
settled_run_costs s = run_costs s (settle_to (header_for s) s) 0 1 (settling_costs s)
