use Rattle.std.proofs.Common.{◌≡◌, ◌+◌, ◌<◌, ◌++◌, ◌∷◌, [], length, slice_index_or, ap, ◌∙◌, arith}
use Rattle.arrayvec.specs.ArrayVec.{ArrayVec}
use Rattle.pb_object.specs.declared.request.Kept.{Kept}
use Rattle.pb_rule.specs.View.{fresh_view}
use Rattle.pb_shared.specs.Passes.{PassSeen, lists_kept}
use Rattle.pb_shared.proofs.PassLemmas.{kept_count, kept_at, first_pass, other_passes, one_more}
use Rattle.pb_shared.proofs.passes.add_passes.Goals as goal

pub make_pass-pass-requires-clause-fresh : goal.make_pass-pass-requires-clause-fresh
make_pass-pass-requires-clause-fresh g c =
    let i = c.loop-client.invariant in
    let kept = lists_kept c.args.lists.now in
    let inside : c.loop-client.client < length kept = omega (arith, c.loop-client-test.true, kept_count c.args.lists.now, c.requires.lists) in
    let there : c.loop-client.client < length c.args.lists.now = omega (arith, c.loop-client-test.true, c.requires.lists) in
    let item = ap (λ (list : ArrayVec Kept). list.items) c.index-lists-client.is ∙ kept_at c.args.lists.now c.loop-client.client c.index-lists-client.result there in
    first_pass _ _ c.args.clients c.loop-client.client kept c.index-lists-client.result.items i.1 c.split_first-place.ensures.views.1 inside item

pub loop-client-preserved : goal.loop-client-preserved
loop-client-preserved g c =
    let i = c.loop-client.invariant in
    let kept = lists_kept c.args.lists.now in
    let n = c.args.clients in
    let client = c.loop-client.client in
    let inside : c.loop-client.client < length kept = omega (arith, c.loop-client-test.true, kept_count c.args.lists.now, c.requires.lists) in
    let there : c.loop-client.client < length c.args.lists.now = omega (arith, c.loop-client-test.true, c.requires.lists) in
    let item = ap (λ (list : ArrayVec Kept). list.items) c.index-lists-client.is ∙ kept_at c.args.lists.now client c.index-lists-client.result there in
    let at = c.split_first-place.ensures.table.1 ∙ i.0 in
    let made : c.make_pass-pass.result ≡ record { table = c.args.board.now.table_id; view = fresh_view n client (slice_index_or kept client []) } = c.make_pass-pass.ensures ∙ (λ j. record { table = at j; view = fresh_view n client (item j) }) in
    let added : c.add_pass.new.passes.items ≡ c.loop-client.passes.items ++ record { table = c.args.board.now.table_id; view = fresh_view n client (slice_index_or kept client []) } ∷ [] = c.add_pass.ensures.items ∙ ap (λ (p : PassSeen). c.loop-client.passes.items ++ p ∷ []) made in (
      c.split_first-place.ensures.table.0 ∙ i.0,
      other_passes _ _ n client kept i.1 c.split_first-place.ensures.views.0 inside (client + 1) (omega arith),
      one_more c.args.board.now.table_id n client kept c.loop-client.passes.items _ inside i.2 c.add_pass.new.passes.items added (client + 1) (omega arith),
      omega (arith, c.add_pass.ensures.len, i.3),
      omega (arith, c.add_pass.ensures.room, i.4),
    )
