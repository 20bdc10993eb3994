use Rattle.std.proofs.Common.{refl, ap}
use Rattle.pb_image.proofs.Kept.{same_view}
use Rattle.pb_image.proofs.image.Image.failing.Goals as goal

pub returns : goal.returns
returns c =
    let same = c.self.view_is in
    same_view _ _ (ap (λ v. v.base) same) (ap (λ v. v.log) same) (ap (λ v. v.room) same) refl refl (ap (λ v. v.faults) same)
