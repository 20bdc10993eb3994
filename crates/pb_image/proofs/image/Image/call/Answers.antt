use Rattle.std.proofs.Common.{◌≡◌, ◌≤◌, is_none, length, option_to_list, ap, sym, refl, ◌∙◌, arith}
use Rattle.pb_image.specs.State.{failure_of}
use Rattle.pb_image.specs.Fails.{added_by, counted}
use Rattle.pb_image.proofs.Kept.{length-lines, IsKept-more, within-added_by, room-added_by, same_view}
use Rattle.pb_image.proofs.Answer.{OnOk-Adds, OnErr-Fails}
use Rattle.pb_image.proofs.image.Image.call.Goals as goal

pub add-requires-clause-whole : goal.add-requires-clause-whole
add-requires-clause-whole c = length-lines c.self.invariant c.self.inside.whole

pub invariant_of-self : goal.invariant_of-self
invariant_of-self c =
    let image = c.args.self.now in
    let added : c.added_by.result ≡ added_by c.args.op (failure_of c.args.call image) = c.added_by.ensures ∙ ap (added_by c.args.op) c.next_failure-how.ensures in
    let log : image.log ≡ c.self.inside.log.items = sym (ap (λ v. v.log) c.self.view_is) in
    let room : image.room ≡ c.self.inside.room = sym (ap (λ v. v.room) c.self.view_is) in
    let fits : length image.log ≤ image.room = rw (log, room) c.self.invariant.fits in
    IsKept-more (option_to_list c.added_by.result) c.self.invariant c.add.ensures.lines c.add.ensures.log c.add.ensures.capacity (rw added (within-added_by (failure_of c.args.call image) c.args.op c.requires)) (rw (added, ← log, ← room) (room-added_by c.args.call c.args.op image fits))

pub returns-clause-after : goal.returns-clause-after
returns-clause-after c =
    let image = c.args.self.now in
    let how = c.next_failure-how.ensures in
    let added : c.added_by.result ≡ added_by c.args.op (failure_of c.args.call image) = c.added_by.ensures ∙ ap (added_by c.args.op) how in
    let log : c.self.inside.log.items ≡ image.log = ap (λ v. v.log) c.self.view_is in
    let calls : c.self.inside.calls ≡ image.calls = ap (λ v. v.calls) c.self.view_is in
    let faults : c.self.inside.faults ≡ image.faults = ap (λ v. v.faults) c.self.view_is in
    same_view _ _ (ap (λ v. v.base) c.self.view_is) (c.add.ensures.log ∙ rw (added, log) refl) (ap (λ v. v.room) c.self.view_is) (ap (λ v. v.fails) c.self.view_is) (c.count.ensures ∙ ap (counted c.args.call) calls) (c.faults_after-self-inside.ensures ∙ rw (how, faults) refl)

pub returns-clause-ok : goal.returns-clause-ok
returns-clause-ok c =
    OnOk-Adds c.args.call c.args.op c.args.self.now _ c.answer.result (c.answer.ensures ∙ ap is_none c.next_failure-how.ensures) (returns-clause-after c)

pub returns-clause-err : goal.returns-clause-err
returns-clause-err c =
    let faults : c.self.inside.faults ≡ c.args.self.now.faults = ap (λ v. v.faults) c.self.view_is in
    OnErr-Fails c.args.call c.args.op c.args.self.now _ c.answer.result (omega arith) (c.answer.ensures ∙ ap is_none c.next_failure-how.ensures) (returns-clause-after c)
