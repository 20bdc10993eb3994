use Rattle.std.proofs.Common.{◌≡◌, ℕ, ◌+◌, ◌%◌, true, List, slice_index_or, refl, sym, ap, subst, ◌∙◌, arith}
use Rattle.pb_pmem.specs.declared.line.Line.{Line}
use Rattle.pb_pmem.specs.Operations.{IsFailedPrefix, Does, Stops}
use Rattle.pb_pmem.proofs.OperationSteps.{does_then, stops_after}
use Rattle.pb_layout.specs.Header.{word}
use Rattle.pb_layout.specs.Region.{record_place}
use Rattle.pb_layout.specs.RegionOps.{stage_over, commit_ops, spare_place}
use Rattle.pb_pair.specs.Store.{staged_ops, IsFailedStore}
use Rattle.pb_pair.specs.View.{SideView, if_known, side_view}
use Rattle.pb_pair.proofs.Changes.{line_found}
use Rattle.pb_pair.proofs.Opened.{written_whole}
use Rattle.pb_pair.proofs.Tests.{if_ok, if_err}
use Rattle.pb_pair.proofs.side.Side.store.Goals as goal

pub returns-then-is_err-2-clause-err : goal.returns-then-is_err-2-clause-err
returns-then-is_err-2-clause-err g c =
    let part : SideView = side_view c.args.self.now in
    let head = c.args.head.now in
    let lines = c.args.lines.now in
    let before = g.P.Pmem.seen c.args.device.now in
    let mid = g.P.Pmem.seen c.stage.new.device in
    let end = g.P.Pmem.seen c.commit.new.device in
    let n : ℕ = slice_index_or (slice_index_or lines 0 c.index-lines-0.result).words 0 0 in
    let next : n ≡ part.round + 1 = ap (λ (l : Line). word l 0) (sym c.index-lines-0.is ∙ sym (line_found lines 0 c.index-lines-0.result (omega (arith, c.requires.long)) c.index-lines-0.is)) ∙ c.requires.next in
    let first : c.record_line-first.result ≡ spare_place head c.args.side part.round = c.record_line-first.ensures ∙ ap (λ (k : ℕ). record_place head c.args.side (k % 2)) next in
    let staged : Does (staged_ops head c.args.side part lines) before mid =
    subst (λ (old : List Line). Does (stage_over (spare_place head c.args.side part.round) (if_known c.args.self.now.spare_known old) lines) before mid) c.deref_mut.ensures.value
    (subst (λ (k : ℕ). Does (stage_over k (if_known c.args.self.now.spare_known c.deref_mut.result.now) lines) before mid) first (if_ok c.stage.result (sym c.is_err.ensures.value ∙ c.if-is_err.false) c.stage.ensures.ok)) in
    let there = if_ok c.stage.result (sym c.is_err.ensures.value ∙ c.if-is_err.false) c.stage.ensures.there in
    let kept = written_whole c.args.self.now.spare.len c.stage.new.spare c.args.self.now.spare.items (c.stage.ensures.long ∙ sym c.requires.memory) c.args.self.now.spare.ok.0 ∙ there in
    let stops : Stops (IsFailedPrefix (commit_ops c.args.side (part.round + 1))) mid end =
    subst (λ (k : ℕ). Stops (IsFailedPrefix (commit_ops c.args.side k)) mid end) next (if_err c.commit.result (sym c.is_err-2.ensures.value ∙ c.if-is_err-2.true) c.commit.ensures.err) in
    record {
      device = stops_after (IsFailedPrefix (commit_ops c.args.side (part.round + 1))) (IsFailedStore head c.args.side part lines true) (staged_ops head c.args.side part lines) before mid end (λ ops cut. record { tail = ops; cut = cut; whole = refl }) staged stops;
      round = refl;
      same = refl;
      kept_is = kept;
    }

pub returns-clause-ok : goal.returns-clause-ok
returns-clause-ok g c =
    let part : SideView = side_view c.args.self.now in
    let head = c.args.head.now in
    let lines = c.args.lines.now in
    let before = g.P.Pmem.seen c.args.device.now in
    let mid = g.P.Pmem.seen c.stage.new.device in
    let end = g.P.Pmem.seen c.commit.new.device in
    let n : ℕ = slice_index_or (slice_index_or lines 0 c.index-lines-0.result).words 0 0 in
    let next : n ≡ part.round + 1 = ap (λ (l : Line). word l 0) (sym c.index-lines-0.is ∙ sym (line_found lines 0 c.index-lines-0.result (omega (arith, c.requires.long)) c.index-lines-0.is)) ∙ c.requires.next in
    let first : c.record_line-first.result ≡ spare_place head c.args.side part.round = c.record_line-first.ensures ∙ ap (λ (k : ℕ). record_place head c.args.side (k % 2)) next in
    let staged : Does (staged_ops head c.args.side part lines) before mid =
    subst (λ (old : List Line). Does (stage_over (spare_place head c.args.side part.round) (if_known c.args.self.now.spare_known old) lines) before mid) c.deref_mut.ensures.value
    (subst (λ (k : ℕ). Does (stage_over k (if_known c.args.self.now.spare_known c.deref_mut.result.now) lines) before mid) first (if_ok c.stage.result (sym c.is_err.ensures.value ∙ c.if-is_err.false) c.stage.ensures.ok)) in
    let does : Does (commit_ops c.args.side (part.round + 1)) mid end =
    subst (λ (k : ℕ). Does (commit_ops c.args.side k) mid end) next (if_ok c.commit.result (sym c.is_err-2.ensures.value ∙ c.if-is_err-2.false) c.commit.ensures.ok) in
    let there = if_ok c.stage.result (sym c.is_err.ensures.value ∙ c.if-is_err.false) c.stage.ensures.there in
    let kept = written_whole c.args.self.now.spare.len c.stage.new.spare c.args.self.now.spare.items (c.stage.ensures.long ∙ sym c.requires.memory) c.args.self.now.spare.ok.0 ∙ there in
    let now = ap (λ v. v.items) c.swap.ensures.x_after ∙ kept in
    let spare = ap (λ v. v.items) c.swap.ensures.y_after in
    record {
      device = does_then (staged_ops head c.args.side part lines) (commit_ops c.args.side (part.round + 1)) before mid end staged does;
      part = λ i. record { round = next i; lines = now i; written = true; spare = if_known c.args.self.now.written (spare i) };
    }
