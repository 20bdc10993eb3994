use Rattle.std.proofs.Common.{◌≡◌, length, take, ap, sym, subst, ◌∙◌}
use Rattle.std.proofs.lemmas.Result.{IfOk-weaker}
use Rattle.pb_pmem.specs.Crash.{IsCrashImageAtCut}
use Rattle.pb_crash.specs.Picked.{picked}
use Rattle.pb_crash.proofs.Crashed.{length-picked, IsCrashImageAtCut-picked}
use Rattle.pb_image.proofs.Begun.{IsAtRest-IsNew}
use Rattle.pb_image.proofs.image.Image.after_crash.Goals as goal

pub begin-requires : goal.begin-requires
begin-requires c =
    ap length c.in_ok-pick_image.ensures ∙ (length-picked _ _ c.args.cut c.args.pick ∙ (ap length c.deref-2.ensures.value ∙ c.self.inside.whole))

pub returns-clause-allowed : goal.returns-clause-allowed
returns-clause-allowed c =
    let base = c.args.self.now.base in
    let log = take c.args.moment c.args.self.now.log in
    let same_base : c.deref-2.result.now ≡ base = c.deref-2.ensures.value ∙ ap (λ v. v.base) c.self.view_is in
    let same_log : c.split_at.result.0.now ≡ log = c.split_at.ensures.front ∙ ap (take c.args.moment) (c.deref.ensures.value ∙ ap (λ v. v.log) c.self.view_is) in
    let chosen : c.in_ok-pick_image.field-0.items ≡ picked base log c.args.cut c.args.pick = c.in_ok-pick_image.ensures ∙ (ap (λ b. picked b c.split_at.result.0.now c.args.cut c.args.pick) same_base ∙ ap (λ l. picked base l c.args.cut c.args.pick) same_log) in
    IfOk-weaker c.begin.result _ _ (λ image new. subst (IsCrashImageAtCut base log c.args.cut) (sym (new.base ∙ chosen)) (IsCrashImageAtCut-picked base log c.args.cut c.args.pick)) c.begin.ensures

pub returns-clause-rest : goal.returns-clause-rest
returns-clause-rest c = IfOk-weaker c.begin.result _ _ (λ image new. IsAtRest-IsNew _ _ image new) c.begin.ensures
