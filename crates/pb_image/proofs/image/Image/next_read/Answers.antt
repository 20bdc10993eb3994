use Rattle.std.proofs.Common.{◌≡◌, refl, ap, ◌∙◌}
use Rattle.pb_image.specs.Fails.{counted}
use Rattle.pb_image.specs.declared.fail.Call.TheVariants.{Read}
use Rattle.pb_image.proofs.Kept.{same_view}
use Rattle.pb_image.proofs.image.Image.next_read.Goals as goal

pub returns-clause-after : goal.returns-clause-after
returns-clause-after c =
    let same = c.self.view_is in
    let how = c.failure-how.ensures in
    let calls : c.self.inside.calls ≡ c.args.self.now.calls = ap (λ v. v.calls) same in
    let fails : c.self.inside.fails.items ≡ c.args.self.now.fails = ap (λ v. v.fails) same in
    let faults : c.self.inside.faults ≡ c.args.self.now.faults = ap (λ v. v.faults) same in
    same_view _ _ (ap (λ v. v.base) same) (ap (λ v. v.log) same) (ap (λ v. v.room) same) fails (c.count.ensures ∙ ap (counted Read) calls) (c.faults_after-self-inside.ensures ∙ rw (how, c.deref.ensures.value, calls, fails, faults) refl)
