use Rattle.pb_layout.proofs.OneRecovery.{from_parts}
use Rattle.pb_broker.proofs.Recovering.{region_of}
use Rattle.pb_broker.proofs.laws.a_region_is_its_parts.Goals as goal

pub returns-clause-passes : goal.returns-clause-passes
returns-clause-passes c = λ image s region. from_parts image s region.0 region.1

pub returns-clause-parts : goal.returns-clause-parts
returns-clause-parts c = region_of
