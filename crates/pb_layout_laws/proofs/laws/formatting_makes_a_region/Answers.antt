use Rattle.pb_layout_laws.proofs.Formatting.{makes_a_region}
use Rattle.pb_layout_laws.proofs.laws.formatting_makes_a_region.Goals as goal

pub returns : goal.returns
returns c = makes_a_region
