use Rattle.pb_pmem.proofs.Agree.{Leaves-IsCrashImage, IsCrashImage-Leaves}
use Rattle.pb_pmem.proofs.laws.both_forms_agree.Goals as goal

pub returns : goal.returns
returns c base log image =
    ((λ h. (h.left.lines, Leaves-IsCrashImage base log image h)), (λ h. IsCrashImage-Leaves base log image h.0 h.1))
