use Rattle.std.proofs.Common.{get_or, sym, ap, ◌∙◌, arith}
use Rattle.pb_object.specs.declared.kind.Kind.{Kind}
use Rattle.pb_object.specs.declared.request.TheConstants.{KEPT_REQUESTS}
use Rattle.pb_object.specs.Request.{none_kept}
use Rattle.pb_layout.specs.Record.{kept_in_slots}
use Rattle.pb_layout.specs.Represents.{newest_of_two, kept_list_by}
use Rattle.pb_pair.specs.View.{lines_of}
use Rattle.pb_queue.proofs.QueueRecords.{client_slots}
use Rattle.pb_queue.proofs.kept.kept_at.Goals as goal

pub kept_of_both-requires-clause-puts : goal.kept_of_both-requires-clause-puts
kept_of_both-requires-clause-puts g c =
    client_slots c.args.pair.now 0 c.args.client c.lines_of.result.now c.requires.queue c.requires.sound (omega arith) c.requires.client c.lines_of.ensures

pub kept_of_both-requires-clause-takes : goal.kept_of_both-requires-clause-takes
kept_of_both-requires-clause-takes g c =
    client_slots c.args.pair.now 1 c.args.client c.lines_of-2.result.now c.requires.queue c.requires.sound (omega arith) c.requires.client c.lines_of-2.ensures

pub returns : goal.returns
returns g c =
    let puts = c.lines_of.ensures in
    let takes = c.lines_of-2.ensures in
    c.kept_of_both.ensures
    ∙ ((λ i. get_or (newest_of_two KEPT_REQUESTS (kept_in_slots (puts i) c.args.client) (kept_in_slots (takes i) c.args.client)) c.args.place none_kept)
    ∙ ap (λ (k : Kind). get_or (kept_list_by k (lines_of c.args.pair.now) c.args.client) c.args.place none_kept) (sym c.requires.queue))
