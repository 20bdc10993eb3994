use Rattle.pb_layout_laws.proofs.Staging.{all_lines_stage}
use Rattle.pb_layout_laws.proofs.laws.store.writing_all_lines_stages.Goals as goal

pub returns : goal.returns
returns c = all_lines_stage
