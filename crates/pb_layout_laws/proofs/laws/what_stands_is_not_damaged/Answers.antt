use Rattle.pb_layout.specs.Damage.{region_checks}
use Rattle.pb_layout.proofs.Checks.{all_sound, region_sharp}
use Rattle.pb_layout_laws.proofs.laws.what_stands_is_not_damaged.Goals as goal

pub returns : goal.returns
returns c image s line stands named =
    all_sound (region_checks image) (region_sharp image) line named stands.passes
